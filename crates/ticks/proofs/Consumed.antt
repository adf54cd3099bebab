-- The sentences of demands 1 and 2, from their statements alone. Each law takes `Demand2`, `Results`, `Answers` or a shape of demand 1 as a
-- hypothesis, never its proof, and gives one sentence for all arguments, in terms of the calls on bytes: a version is held where contain
-- says 1. So a statement that says less than the demand, of fewer inputs or in one direction only, no longer gives its sentence here. At the
-- end the statements' own proofs are put in, with document 01's limits.
use Prim.Native.Nat.{ℕ, ◌^◌, ◌≤◌, ◌<◌}
use mathlib.Core.Path.{◌≡◌, refl, sym, ◌∙◌, ap, subst}
use mathlib.Core.Logic.{◌⊎◌, inl, inr, ◌↔◌}
use mathlib.Core.Bool.{true}
use mathlib.Core.List.{List, []}
use native.Mathlib.Nat.{le_trans}
use native.Mathlib.Omega.{arith}
use lib.IntN.{ℤ, pos, ◌-ℤ◌}
use lib.ListN.{length, take, drop}
use lib.Seq.{take-append_seam, drop-append_seam}
use Rattle.codec.specs.Number.{Bytes, be_at, put}
use Rattle.codec.specs.Parsed.{Parsed, accepted, refused}
use Rattle.codec.specs.Reply.{Reply, gives, answer, after, number_of, written_of}
use Rattle.codec.proofs.Numbers.{be_below, put-length, put_be, put_bytes}
use Rattle.layout.specs.Knowledge.{Rules, basic, Knowledge, Lawful, encode}
use Rattle.layout.specs.Parse.{parse, checked_by}
use Rattle.layout.specs.Answer.{checked_number, checked_sizes}
use Rattle.layout.proofs.Forward.{encode_bytes, no_bytes}
use Rattle.ticks.specs.Meaning.{highest, known, contains, Normal}
use Rattle.ticks.specs.Operations.{known_inside}
use Rattle.ticks.specs.Calls.{contain_number, contain_value, contain_answer, lead_number, lead_value, lead_answer, cover_number, cover_value, cover_answer}
use Rattle.ticks.specs.Calls.{id_of, normalise_reply, merge_reply, project_reply}
use Rattle.ticks.specs.Demand2.{SameVersions, NormalBytes, Normalised, Merged, Decides, Demand2}
use Rattle.ticks.specs.Results.{Projected, Results}
use Rattle.ticks.specs.Answers.{RefusedWith, ProperIds, ProperSpan, AtLeast, Difference, ContainSays, LeadSays, CoverSays, Answers}
use Rattle.ticks.specs.Demand1.{WritesOrRefuses, it_refuses, it_writes, SaysOrRefuses, says_nothing, says_values}
use Rattle.ticks.specs.Demand1.{ChecksOrRefuses, checks_nothing, checks_sizes}
use Rattle.ticks.proofs.Algebra.{contains_exact}
use Rattle.ticks.proofs.Answers.{answers_basic, sub-ahead, sub-behind}
use Rattle.ticks.proofs.Demand2.{not_refused, demand2_basic}
use Rattle.ticks.proofs.ForCalls.{id_is}
use Rattle.ticks.proofs.LawfulResults.{below_top, top_below}
use Rattle.ticks.proofs.Lists.{less, same, more, order}
use Rattle.ticks.proofs.Operations.{inside_yes, inside_low, inside_high}
use Rattle.ticks.proofs.Results.{results_basic}
use Rattle.ticks.proofs.Settled.{same_truth}

-- ---- by the calls: bytes hold the version of an item, a replica and a tick where contain puts 1 over a 0

abbrev pub Holds : Rules → List ℕ → List ℕ → List ℕ → ℕ → Type 0
Holds R s item replica t = contain_value (contain_answer R s item replica t) 0 ≡ 1

-- an answer says whether P holds, 1 or 0, over whatever was there; it is refused with n, and what was there stays
abbrev pub Says : {A : Type 0} → (A → ℕ) → (A → ℕ → ℕ) → A → Type 0 → ℕ → Type 0
Says number value x P old = (number x ≡ 0) × (((value x old ≡ 1) ↔ P) × ((value x old ≡ 0) ↔ (P → ⊥)))

abbrev pub Refuses : {A B : Type 0} → (A → ℕ) → (A → B → B) → A → ℕ → B → Type 0
Refuses number value x n old = (number x ≡ n) × (value x old ≡ old)

decided : {A : Type 0} {number : A → ℕ} {value : A → ℕ → ℕ} {x : A} {P : Type 0} → Decides number value x P → (old : ℕ)
    → Says number value x P old
decided d old = (d.fine, (d.yes old, d.no old))

refused_with : {A B : Type 0} {number : A → ℕ} {value : A → B → B} {x : A} {n : ℕ} → RefusedWith number value x n → (old : B)
    → Refuses number value x n old
refused_with r old = (r.told, r.stays old)

-- an item id and a replica id, as bytes
pub record Ids (item replica : List ℕ) : Type 0 where
  pub first : Bytes item
  pub second : Bytes replica
  pub proper : ProperIds item replica

-- two byte strings hold the same versions
pub record SameHeld (R : Rules) (s t : List ℕ) : Type 0 where
  pub both : (item replica : List ℕ) (v : ℕ) → Ids item replica → Holds R s item replica v ↔ Holds R t item replica v

-- every item id up to the top one and every replica id of 16 bytes is one of bytes
ids_put : (i p : ℕ) → i ≤ highest → p < 256 ^ 16 → Ids (put 24 i []) (put 16 p [])
ids_put i p h small = record {
  first = put_bytes 24 i [] no_bytes;
  second = put_bytes 16 p [] no_bytes;
  proper = (omega (arith, put-length 24 i []), omega (arith, put-length 16 p []));
}

item_below : (item : List ℕ) → Bytes item → be_at item 24 0 ≤ highest
item_below item b = below_top (be_at item 24 0) (be_below item 24 0 b)

normal_octets : {R : Rules} (bs : List ℕ) (k : Knowledge) → NormalBytes R bs k → Bytes bs
normal_octets bs k n = subst Bytes (sym n.bytes) (encode_bytes k)

module _ (R : Rules) (D : Demand2 R) where
  -- the five statements, each cited once
  accepted_lawful : (s : List ℕ) (k : Knowledge) → Bytes s → parse R s ≡ accepted k → (s ≡ encode k) × Lawful R k
  accepted_lawful s k b e = (D.layout s k b).0 e

  lawful_accepted : (s : List ℕ) (k : Knowledge) → Bytes s → s ≡ encode k → Lawful R k → parse R s ≡ accepted k
  lawful_accepted s k b e l = (D.layout s k b).1 (e, l)

  -- "and contain exactly the versions it says": what contain says, over whatever was there
  pub contain_exactly : (s item replica : List ℕ) (t : ℕ) (k : Knowledge) → parse R s ≡ accepted k → ProperIds item replica → (old : ℕ)
      → Says contain_number contain_value (contain_answer R s item replica t)
      ((1 ≤ t) × (t ≤ known k (be_at item 24 0) (be_at replica 16 0))) old
  contain_exactly s item replica t k e proper old = decided (D.versions s item replica t k e proper.0 proper.1) old

  ticks_held : (s item replica : List ℕ) (t : ℕ) (k : Knowledge) → parse R s ≡ accepted k → ProperIds item replica
      → Holds R s item replica t ↔ ((1 ≤ t) × (t ≤ known k (be_at item 24 0) (be_at replica 16 0)))
  ticks_held s item replica t k e proper = (contain_exactly s item replica t k e proper 0).1.0

  same_equal : (s t : List ℕ) (a b : Knowledge) → NormalBytes R s a → NormalBytes R t b → SameVersions a b → s ≡ t
  same_equal s t a b x y v =
      (D.equal s t a b (normal_octets s a x) (normal_octets t b y) x.back y.back x.form y.form).0 v

  equal_same : (s t : List ℕ) (a b : Knowledge) → NormalBytes R s a → NormalBytes R t b → s ≡ t → SameVersions a b
  equal_same s t a b x y q =
      (D.equal s t a b (normal_octets s a x) (normal_octets t b y) x.back y.back x.form y.form).1 q

  normalise_told : (s bs : List ℕ) → Bytes s → normalise_reply R s ≡ gives bs → Normalised R s bs
  normalise_told s bs b q = D.normalised s bs b q

  merge_told : (s t bs : List ℕ) → Bytes s → Bytes t → merge_reply R s t ≡ gives bs → Merged R s t bs
  merge_told s t bs b c q = D.merged s t bs b c q

  -- "Knowledge bytes are accepted exactly by the published layout and our limits"
  pub accepted_exactly : (s : List ℕ) → Bytes s
      → ((k : Knowledge) × (parse R s ≡ accepted k)) ↔ ((k : Knowledge) × ((s ≡ encode k) × Lawful R k))
  accepted_exactly s b = ((λ h. (h.0, accepted_lawful s h.0 b h.1)), λ h. (h.0, lawful_accepted s h.0 b h.1.0 h.1.1))

  -- and so refused exactly where no lawful knowledge has these bytes
  pub refused_exactly : (s : List ℕ) → Bytes s
      → ((n : ℕ) × (parse R s ≡ refused n)) ↔ ((k : Knowledge) → s ≡ encode k → Lawful R k → ⊥)
  refused_exactly s b = (
    (λ h k e l. not_refused k h.0 (parse R s) (lawful_accepted s k b e l) h.1),
    λ none-such. by_case none-such (parse R s) refl,
  )
    where
      by_case : ((k : Knowledge) → s ≡ encode k → Lawful R k → ⊥) → (p : Parsed Knowledge) → parse R s ≡ p → (n : ℕ) × (parse R s ≡ refused n)
      by_case none-such (accepted k) e = let l = accepted_lawful s k b e in absurd (none-such k l.0 l.1)
      by_case none-such (refused n) e = (n, e)

  -- "reading one back gives what was written": of any lawful knowledge
  pub reads_back : (k : Knowledge) → Lawful R k → parse R (encode k) ≡ accepted k
  reads_back k l = lawful_accepted (encode k) k (encode_bytes k) refl l

  held : (s item replica : List ℕ) (t : ℕ) (k : Knowledge) → parse R s ≡ accepted k → ProperIds item replica
      → Holds R s item replica t ↔ (contains k (be_at item 24 0) (be_at replica 16 0) t ≡ true)
  held s item replica t k e proper =
      let d = ticks_held s item replica t k e proper in
      let c = contains_exact k (be_at item 24 0) (be_at replica 16 0) t in
      (λ h. c.1 (d.0 h), λ h. d.1 (c.0 h))

  -- "and contain exactly the versions it says"
  pub holds_exactly : (k : Knowledge) (item replica : List ℕ) (t : ℕ) → Lawful R k → ProperIds item replica
      → Holds R (encode k) item replica t ↔ ((1 ≤ t) × (t ≤ known k (be_at item 24 0) (be_at replica 16 0)))
  holds_exactly k item replica t l proper =
      ticks_held (encode k) item replica t k (reads_back k l) proper

  same_held : (s t : List ℕ) (a b : Knowledge) → parse R s ≡ accepted a → parse R t ≡ accepted b → SameVersions a b → SameHeld R s t
  same_held s t a b e f v = record {
    both = λ item replica n w.
        let x = held s item replica n a e w.proper in
        let y = held t item replica n b f w.proper in
        let q = v.both (be_at item 24 0) (be_at replica 16 0) n (item_below item w.first) (be_below replica 16 0 w.second) in
        (λ h. y.1 (sym q ∙ x.0 h), λ h. x.1 (q ∙ y.0 h));
  }

  -- the same of an item and a replica given as numbers
  ticks_put : (s : List ℕ) (i p v : ℕ) (k : Knowledge) → parse R s ≡ accepted k → i ≤ highest → p < 256 ^ 16
      → Holds R s (put 24 i []) (put 16 p []) v ↔ ((1 ≤ v) × (v ≤ known k i p))
  ticks_put s i p v k e h small =
      let item = put 24 i [] in
      let replica = put 16 p [] in
      subst (λ (q : ℕ). Holds R s item replica v ↔ ((1 ≤ v) × (v ≤ known k i q))) (put_be 16 p [] small)
      (subst (λ (j : ℕ). Holds R s item replica v ↔ ((1 ≤ v) × (v ≤ known k j (be_at replica 16 0)))) (put_be 24 i [] (top_below i h))
      (ticks_held s item replica v k e (ids_put i p h small).proper))

  held_put : (s : List ℕ) (i p v : ℕ) (k : Knowledge) → parse R s ≡ accepted k → i ≤ highest → p < 256 ^ 16
      → Holds R s (put 24 i []) (put 16 p []) v ↔ (contains k i p v ≡ true)
  held_put s i p v k e h small =
      let d = ticks_put s i p v k e h small in
      let c = contains_exact k i p v in
      (λ x. c.1 (d.0 x), λ x. d.1 (c.0 x))

  held_same : (s t : List ℕ) (a b : Knowledge) → parse R s ≡ accepted a → parse R t ≡ accepted b → SameHeld R s t → SameVersions a b
  held_same s t a b e f v = record {
    both = λ i p n h small.
        let x = held_put s i p n a e h small in
        let y = held_put t i p n b f h small in
        let z = v.both (put 24 i []) (put 16 p []) n (ids_put i p h small) in
        same_truth (contains a i p n) (contains b i p n) (Holds R s (put 24 i []) (put 16 p []) n) (x.1, x.0)
        (λ c. z.1 (y.1 c), λ h. y.0 (z.0 h));
  }

  -- "Normal forms are equal exactly when they contain the same versions": of any two that normalise wrote
  pub equal_exactly : (s t x y : List ℕ) → Bytes s → Bytes t → normalise_reply R s ≡ gives x → normalise_reply R t ≡ gives y
      → (x ≡ y) ↔ SameHeld R x y
  equal_exactly s t x y b c e f =
      let m = normalise_told s x b e in
      let n = normalise_told t y c f in (
        (λ q.
            same_held x y m.result n.result m.normal.back n.normal.back
            (equal_same x y m.result n.result m.normal n.normal q)),
        λ v.
            same_equal x y m.result n.result m.normal n.normal
            (held_same x y m.result n.result m.normal.back n.normal.back v),
      )

  -- what normalise writes holds the versions that the given bytes hold
  pub normalised_exactly : (s bs : List ℕ) → Bytes s → normalise_reply R s ≡ gives bs → SameHeld R bs s
  normalised_exactly s bs b q =
      let n = normalise_told s bs b q in
      same_held bs s n.result n.given n.normal.back n.read n.versions

  -- "Merged knowledge contains a version exactly when either input did"
  pub merged_exactly : (s t bs : List ℕ) → Bytes s → Bytes t → merge_reply R s t ≡ gives bs
      → (item replica : List ℕ) (v : ℕ) → Ids item replica
      → Holds R bs item replica v ↔ (Holds R s item replica v ⊎ Holds R t item replica v)
  merged_exactly s t bs b c q item replica v w =
      let m = merge_told s t bs b c q in
      let r = held bs item replica v m.result m.normal.back w.proper in
      let x = held s item replica v m.one m.first w.proper in
      let y = held t item replica v m.other m.second w.proper in
      let law = m.versions (be_at item 24 0) (be_at replica 16 0) v (item_below item w.first) (be_below replica 16 0 w.second) in (
        (λ h. elim (law.0 (r.0 h)) [ inl a ↦ inl (x.1 a) | inr a ↦ inr (y.1 a) ]),
        λ h. r.1 (law.1 (elim h [ inl a ↦ inl (x.0 a) | inr a ↦ inr (y.0 a) ])),
      )

module _ (R : Rules) (D : Demand2 R) (Q : Results R) where
  project_told : (s first last bs : List ℕ) → Bytes s → project_reply R s first last ≡ gives bs → Projected R s first last bs
  project_told s first last bs b q = Q.projected s first last bs b q

  anew : (bs : List ℕ) (k : Knowledge) → NormalBytes R bs k → normalise_reply R bs ≡ gives bs
  anew bs k n = (Q.test bs k (normal_octets bs k n) n.back).0 n.form

  -- "reading one back gives what was written": what normalise, merge or project wrote, given to normalise, is written again
  pub normalise_again : (s bs : List ℕ) → Bytes s → normalise_reply R s ≡ gives bs → normalise_reply R bs ≡ gives bs
  normalise_again s bs b q = anew bs (normalise_told R D s bs b q).result (normalise_told R D s bs b q).normal

  pub merge_again : (s t bs : List ℕ) → Bytes s → Bytes t → merge_reply R s t ≡ gives bs → normalise_reply R bs ≡ gives bs
  merge_again s t bs b c q = anew bs (merge_told R D s t bs b c q).result (merge_told R D s t bs b c q).normal

  pub project_again : (s first last bs : List ℕ) → Bytes s → project_reply R s first last ≡ gives bs → normalise_reply R bs ≡ gives bs
  project_again s first last bs b q = anew bs (project_told s first last bs b q).result (project_told s first last bs b q).normal

  -- bytes that normalise leaves as they are, and no others, are a normal form
  pub normal_exactly : (k : Knowledge) → Lawful R k → Normal k ↔ (normalise_reply R (encode k) ≡ gives (encode k))
  normal_exactly k l = Q.test (encode k) k (encode_bytes k) (reads_back R D k l)

  -- what project writes holds, of an item inside the span, what the given bytes hold, and of one outside nothing
  pub projected_exactly : (s first last bs : List ℕ) → Bytes s → project_reply R s first last ≡ gives bs
      → (item replica : List ℕ) (v : ℕ) → Ids item replica
      → Holds R bs item replica v ↔ (((be_at first 24 0 ≤ be_at item 24 0) × (be_at item 24 0 ≤ be_at last 24 0)) × Holds R s item replica v)
  projected_exactly s first last bs b q item replica v w =
      let m = project_told s first last bs b q in
      let i = be_at item 24 0 in
      let p = be_at replica 16 0 in
      let lo = id_of 24 first in
      let hi = id_of 24 last in
      let r : Holds R bs item replica v ↔ ((1 ≤ v) × (v ≤ known m.result i p)) =
      ticks_held R D bs item replica v m.result m.normal.back w.proper in
      let x : Holds R s item replica v ↔ ((1 ≤ v) × (v ≤ known m.given i p)) =
      ticks_held R D s item replica v m.given m.read w.proper in
      let t : known m.result i p ≡ known_inside lo hi m.given i p =
      m.ticks i p (item_below item w.first) (be_below replica 16 0 w.second) in
      let a : lo ≡ be_at first 24 0 = id_is 24 first in
      let z : hi ≡ be_at last 24 0 = id_is 24 last in (
        (λ h.
            let g = r.0 h in
            elim (order i lo) [
              | less l ↦ absurd (omega (arith, g.0, g.1, t, inside_low lo hi m.given i p l))
              | same l ↦ inner i p lo hi m.given m.result t a z g x (omega arith)
              | more l ↦ inner i p lo hi m.given m.result t a z g x (omega arith)
            ]),
        λ h.
            let g = x.0 h.1 in
            r.1 (g.0, omega (arith, g.1, t, inside_yes lo hi m.given i p (omega (arith, a, h.0.0)) (omega (arith, z, h.0.1)))),
      )
    where
      inner : (i p lo hi : ℕ) (k r : Knowledge) → known r i p ≡ known_inside lo hi k i p → lo ≡ be_at first 24 0 → hi ≡ be_at last 24 0
          → (1 ≤ v) × (v ≤ known r i p) → Holds R s item replica v ↔ ((1 ≤ v) × (v ≤ known k i p)) → lo ≤ i
          → ((be_at first 24 0 ≤ i) × (i ≤ be_at last 24 0)) × Holds R s item replica v
      inner i p lo hi k r t a z g x low =
          elim (order hi i) [
            | less l ↦ absurd (omega (arith, g.0, g.1, t, inside_high lo hi k i p l))
            | same l ↦ ((omega arith, omega arith), x.1 (g.0, omega (arith, g.1, t, inside_yes lo hi k i p low (omega arith))))
            | more l ↦ ((omega arith, omega arith), x.1 (g.0, omega (arith, g.1, t, inside_yes lo hi k i p low (omega arith))))
          ]

-- ---- what contain, lead and cover answer, refused or not: a knowledge's own fault, the first's before the second's, then 17, else 0

module _ (R : Rules) (A : Answers R) where
  contain_stated : (s item replica : List ℕ) (t : ℕ) → ContainSays R s item replica t (contain_answer R s item replica t)
  contain_stated s item replica t = A.contains s item replica t

  lead_stated : (s t item replica : List ℕ) → LeadSays R s t item replica (lead_answer R s t item replica)
  lead_stated s t item replica = A.leads s t item replica

  cover_stated : (s t first last : List ℕ) → CoverSays R s t first last (cover_answer R s t first last)
  cover_stated s t first last = A.covers s t first last

  pub contain_answers : (s item replica : List ℕ) (t old : ℕ)
      → ((n : ℕ) → parse R s ≡ refused n → Refuses contain_number contain_value (contain_answer R s item replica t) n old)
      × ((k : Knowledge) → parse R s ≡ accepted k
      → ((ProperIds item replica → ⊥) → Refuses contain_number contain_value (contain_answer R s item replica t) 17 old)
      × (ProperIds item replica → Says contain_number contain_value (contain_answer R s item replica t)
      ((1 ≤ t) × (t ≤ known k (be_at item 24 0) (be_at replica 16 0))) old))
  contain_answers s item replica t old =
      let c = contain_stated s item replica t in (
        (λ n e. refused_with (c.own n e) old),
        λ k e. (λ w. refused_with (c.ids k e w) old, λ w. decided (c.found k e w) old),
      )

  pub lead_answers : (s t item replica : List ℕ) (old : ℤ)
      → ((n : ℕ) → parse R s ≡ refused n → Refuses lead_number lead_value (lead_answer R s t item replica) n old)
      × ((a : Knowledge) → parse R s ≡ accepted a
      → ((n : ℕ) → parse R t ≡ refused n → Refuses lead_number lead_value (lead_answer R s t item replica) n old)
      × ((b : Knowledge) → parse R t ≡ accepted b
      → ((ProperIds item replica → ⊥) → Refuses lead_number lead_value (lead_answer R s t item replica) 17 old)
      × (ProperIds item replica → lead_number (lead_answer R s t item replica) ≡ 0)))
  lead_answers s t item replica old =
      let c = lead_stated s t item replica in (
        (λ n e. refused_with (c.one n e) old),
        λ a e. (
          (λ n f. refused_with (c.other a n e f) old),
          λ b f. (λ w. refused_with (c.ids a b e f w) old, λ w. (c.found a b e f w).fine),
        ),
      )

  pub cover_answers : (s t first last : List ℕ) (old : ℕ) → Bytes t
      → ((n : ℕ) → parse R s ≡ refused n → Refuses cover_number cover_value (cover_answer R s t first last) n old)
      × ((a : Knowledge) → parse R s ≡ accepted a
      → ((n : ℕ) → parse R t ≡ refused n → Refuses cover_number cover_value (cover_answer R s t first last) n old)
      × ((b : Knowledge) → parse R t ≡ accepted b
      → ((ProperSpan first last → ⊥) → Refuses cover_number cover_value (cover_answer R s t first last) 17 old)
      × (ProperSpan first last → Says cover_number cover_value (cover_answer R s t first last)
      (AtLeast a b (be_at first 24 0) (be_at last 24 0)) old)))
  cover_answers s t first last old z =
      let c = cover_stated s t first last in (
        (λ n e. refused_with (c.one n e) old),
        λ a e. (
          (λ n f. refused_with (c.other a n e f) old),
          λ b f. (λ w. refused_with (c.span a b e f w) old, λ w. decided (c.found a b z e f w) old),
        ),
      )

-- "does one knowledge know at least as much as another throughout a span": it holds every version of the span that the other holds
pub record HoldsAll (R : Rules) (s t first last : List ℕ) : Type 0 where
  pub each : (item replica : List ℕ) (v : ℕ) → Ids item replica → be_at first 24 0 ≤ be_at item 24 0 → be_at item 24 0 ≤ be_at last 24 0
      → Holds R t item replica v → Holds R s item replica v

module _ (R : Rules) (D : Demand2 R) (A : Answers R) where
  covers_exactly : (s t first last : List ℕ) (a b : Knowledge) → Bytes last → parse R s ≡ accepted a → parse R t ≡ accepted b
      → AtLeast a b (be_at first 24 0) (be_at last 24 0) ↔ HoldsAll R s t first last
  covers_exactly s t first last a b ends e f = (
    (λ l. record {
      each = λ item replica v w low high h.
          let y = (ticks_held R D t item replica v b f w.proper).0 h in
          let o = l.known (be_at item 24 0) (be_at replica 16 0) low high (be_below replica 16 0 w.second) in
          (ticks_held R D s item replica v a e w.proper).1 (y.0, omega (arith, y.1, o));
    }),
    λ h. record { known = λ i p low high small. go h i p low high small },
  )
    where
      go : HoldsAll R s t first last → (i p : ℕ) → be_at first 24 0 ≤ i → i ≤ be_at last 24 0 → p < 256 ^ 16 → known b i p ≤ known a i p
      go h i p low high small =
          let top : i ≤ highest = le_trans high (item_below last ends) in
          let ei : i ≡ be_at (put 24 i []) 24 0 = sym (put_be 24 i [] (top_below i top)) in
          elim (order (known b i p) 0) [
            | less l ↦ absurd (omega arith)
            | same l ↦ omega arith
            | more l ↦
                let v = known b i p in
                let y = (ticks_put R D t i p v b f top small).1 (l, omega arith) in
                let x = h.each (put 24 i []) (put 16 p []) v (ids_put i p top small)
                (subst (λ (j : ℕ). be_at first 24 0 ≤ j) ei low) (subst (λ (j : ℕ). j ≤ be_at last 24 0) ei high) y in
                ((ticks_put R D s i p v a e top small).0 x).1
          ]

  cover_told : (s t first last : List ℕ) (a b : Knowledge) → Bytes t → parse R s ≡ accepted a → parse R t ≡ accepted b → ProperSpan first last
      → (cover_value (cover_answer R s t first last) 0 ≡ 1) ↔ AtLeast a b (be_at first 24 0) (be_at last 24 0)
  cover_told s t first last a b c e f span = ((((cover_answers R A s t first last 0 c).1 a e).1 b f).1 span).1.0

  -- the call says so
  pub cover_exactly : (s t first last : List ℕ) (a b : Knowledge) → Bytes t → Bytes last → parse R s ≡ accepted a
      → parse R t ≡ accepted b → ProperSpan first last → (cover_value (cover_answer R s t first last) 0 ≡ 1) ↔ HoldsAll R s t first last
  cover_exactly s t first last a b c ends e f span =
      let d = cover_told s t first last a b c e f span in
      let l = covers_exactly s t first last a b ends e f in
      (λ h. l.0 (d.0 h), λ h. d.1 (l.1 h))

  -- x is the latest tick that bytes hold of an item and a replica, 0 where they hold none
  pub record Latest (s item replica : List ℕ) (x : ℕ) : Type 0 where
    pub is : (v : ℕ) → Holds R s item replica v ↔ ((1 ≤ v) × (v ≤ x))

  latest_known : (s item replica : List ℕ) (k : Knowledge) (x : ℕ) → parse R s ≡ accepted k → ProperIds item replica
      → Latest s item replica x → known k (be_at item 24 0) (be_at replica 16 0) ≡ x
  latest_known s item replica k x e w l =
      let n = known k (be_at item 24 0) (be_at replica 16 0) in
      elim (order n x) [
        | less h ↦
            let z = (ticks_held R D s item replica x k e w).0 ((l.is x).1 (omega arith, omega arith)) in
            absurd (omega (arith, z.1, h))
        | same h ↦ h
        | more h ↦
            let z = (l.is n).0 ((ticks_held R D s item replica n k e w).1 (omega arith, omega arith)) in
            absurd (omega (arith, z.1, h))
      ]

  -- "for an item and a replica, the first's tick minus the second's, a signed number, 0 for absent"
  pub lead_exactly : (s t item replica : List ℕ) (a b : Knowledge) (x y : ℕ) → parse R s ≡ accepted a → parse R t ≡ accepted b
      → ProperIds item replica → Latest s item replica x → Latest t item replica y
      → (old : ℤ) → lead_value (lead_answer R s t item replica) old ≡ pos x -ℤ pos y
  lead_exactly s t item replica a b x y e f w l m old =
      let d = (lead_stated R A s t item replica).found a b e f w in
      let u = latest_known s item replica a x e w l in
      let v = latest_known t item replica b y f w m in
      let i = be_at item 24 0 in
      let p = be_at replica 16 0 in
      difference (known a i p) (known b i p) d ∙ (ap (λ (n : ℕ). pos n -ℤ pos (known b i p)) u ∙ ap (λ (n : ℕ). pos x -ℤ pos n) v)
    where
      difference : (n m : ℕ) → Difference (lead_answer R s t item replica) n m → lead_value (lead_answer R s t item replica) old ≡ pos n -ℤ pos m
      difference n m d =
          elim (order n m) [
            | less h ↦ d.behind h old ∙ sym (sub-behind n m h)
            | same h ↦ let g : m ≤ n = omega arith in d.ahead g old ∙ sym (sub-ahead n m g)
            | more h ↦ let g : m ≤ n = omega arith in d.ahead g old ∙ sym (sub-ahead n m g)
          ]

-- ---- demand 1: a caller that tests the number for 0 knows what it has

-- of a call that writes: at 0 the bytes stand in front, as many as it says, and the rest is as it was; else nothing changed
pub record WritesAtZero (reply : Reply) (out : List ℕ) (old : ℕ) : Type 0 where
  pub zero : number_of (answer reply (length out)) ≡ 0
      → (bs : List ℕ) × ((reply ≡ gives bs) × ((length bs ≤ length out) × ((written_of (answer reply (length out)) old ≡ length bs)
      × ((take (length bs) (after reply out) ≡ bs) × (drop (length bs) (after reply out) ≡ drop (length bs) out)))))
  pub other : (number_of (answer reply (length out)) ≡ 0 → ⊥)
      → (written_of (answer reply (length out)) old ≡ old) × (after reply out ≡ out)

pub writes_at-zero : (reply : Reply) (out : List ℕ) (old : ℕ) → WritesOrRefuses reply out old → WritesAtZero reply out old
writes_at-zero reply out old (it_refuses n w a) = record { zero = λ e. absurd (omega (arith, n, e)); other = λ e. (w, a) }
writes_at-zero reply out old (it_writes bs g l n w a) = record {
  zero = λ e. (
    bs,
    (
      g,
      (
        l,
        (
          w,
          (
            ap (take (length bs)) a ∙ take-append_seam bs (drop (length bs) out),
            ap (drop (length bs)) a ∙ drop-append_seam bs (drop (length bs) out),
          ),
        ),
      ),
    ),
  );
  other = λ e. absurd (e n);
}

-- of a call that says values: at 0 they do not depend on what was there; else they stay
pub record SaysAtZero {A B : Type 0} (number : A → ℕ) (values : A → B → B) (x : A) : Type 0 where
  pub zero : number x ≡ 0 → (old other : B) → values x old ≡ values x other
  pub other : (number x ≡ 0 → ⊥) → (old : B) → values x old ≡ old

pub says_at-zero : {A B : Type 0} (number : A → ℕ) (values : A → B → B) (x : A) → SaysOrRefuses number values x → SaysAtZero number values x
says_at-zero number values x (says_nothing n s) = record { zero = λ e. absurd (omega (arith, n, e)); other = λ e. s }
says_at-zero number values x (says_values n s) = record { zero = λ e. s; other = λ e. absurd (e n) }

-- of the check, likewise
pub record ChecksAtZero (R : Rules) (s : List ℕ) : Type 0 where
  pub zero : checked_number (checked_by R s) ≡ 0 → (old other : List ℕ) → length old ≡ 4 → length other ≡ 4
      → checked_sizes (checked_by R s) old ≡ checked_sizes (checked_by R s) other
  pub other : (checked_number (checked_by R s) ≡ 0 → ⊥) → (old : List ℕ) → checked_sizes (checked_by R s) old ≡ old

pub checks_at-zero : (R : Rules) (s : List ℕ) → ChecksOrRefuses R s → ChecksAtZero R s
checks_at-zero R s (checks_nothing n c) = record { zero = λ e. absurd (omega (arith, n, e)); other = λ e. c }
checks_at-zero R s (checks_sizes n c) = record { zero = λ e. c; other = λ e. absurd (e n) }

-- ---- with document 01's limits, and no hypothesis left: the statements hold

pub merged_basic : (s t bs : List ℕ) → Bytes s → Bytes t → merge_reply basic s t ≡ gives bs → (item replica : List ℕ) (v : ℕ)
    → Ids item replica → Holds basic bs item replica v ↔ (Holds basic s item replica v ⊎ Holds basic t item replica v)
merged_basic = merged_exactly basic demand2_basic

pub projected_basic : (s first last bs : List ℕ) → Bytes s → project_reply basic s first last ≡ gives bs → (item replica : List ℕ) (v : ℕ)
    → Ids item replica → Holds basic bs item replica v
    ↔ (((be_at first 24 0 ≤ be_at item 24 0) × (be_at item 24 0 ≤ be_at last 24 0)) × Holds basic s item replica v)
projected_basic = projected_exactly basic demand2_basic results_basic

pub cover_basic : (s t first last : List ℕ) (a b : Knowledge) → Bytes t → Bytes last → parse basic s ≡ accepted a
    → parse basic t ≡ accepted b → ProperSpan first last
    → (cover_value (cover_answer basic s t first last) 0 ≡ 1) ↔ HoldsAll basic s t first last
cover_basic = cover_exactly basic demand2_basic answers_basic

-- When make refuses, and what it gives otherwise. Bytes that are no store are refused with 15, then a knowledge with its
-- own fault. For a store and a knowledge the table is: 17, an id of the span not of 24 bytes or first above last; then 11
-- and 12, the counts of needed, then those of learned; then 13, the count of the records. Each number is given exactly
-- where its condition is met and none before it; where none is, the bytes are those of the batch.
use Prim.Native.Nat.{ℕ, ◌≤◌, ◌<◌}
use mathlib.Core.Path.{◌≡◌, refl, sym, ap, ap₂, ◌∙◌}
use mathlib.Core.Logic.{◌⊎◌, inl, inr, ◌↔◌}
use mathlib.Core.Bool.{true}
use mathlib.Core.List.{List, [], ◌∷◌}
use lib.ListN.{length}
use Rattle.codec.specs.Number.{be_at}
use Rattle.codec.specs.Reply.{Reply, gives, refuses, Line, first_fault}
use Rattle.layout.specs.Knowledge.{Rules, Knowledge}
use Rattle.layout.specs.Parse.{parse}
use Rattle.ticks.specs.Operations.{normalise, project}
use Rattle.ticks.specs.Calls.{id_of, read_as, wrong_span, result_lines}
use Rattle.ticks.proofs.Lists.{Among}
use Rattle.ticks.proofs.ForCalls.{id_is}
use Rattle.replication.specs.Formats.{Store}
use Rattle.replication.specs.BatchFormat.{Batch, encode_batch}
use Rattle.replication.specs.OpenStore.{open_store}
use Rattle.replication.specs.Operate.{made}
use Rattle.replication.specs.Calls.{then, store_or, too_many_records, make_lines, makes, make_reply}
use Rattle.replication.proofs.Refusals.Table.{Rule, rule, Told, told-cons, told_then, At, only, refused_at, refused_pair, refused_among, given_none, refuses_same}
use Rattle.replication.proofs.Refusals.Tests.{Span, NoSpan, means_span, rule11, rule12, rule13, told_result, told_records}
use Rattle.codec.specs.Parsed.{line, own_fault, read_or, Parsed, accepted, refused}

-- ---- the reply, by what opens and is read

make_on : Rules → Parsed Store → Parsed Knowledge → List ℕ → List ℕ → Reply
make_on R o p first last =
    let result = made (store_or o) (read_as p) (id_of 24 first) (id_of 24 last) in
    first_fault refuses
    (own_fault o ∷
    own_fault p ∷
    line 17 (wrong_span first last) ∷
    then (result_lines R.limits result.needed) (then (result_lines R.limits result.learned) (line 13 (too_many_records R.limits result.records) ∷ [])))
    (gives (encode_batch result))

-- the batch that a make comes to
abbrev pub made_batch : Store → Knowledge → List ℕ → List ℕ → Batch
made_batch st k first last = made st k (be_at first 24 0) (be_at last 24 0)

abbrev make_lines_lem : Rules → Batch → List ℕ → List ℕ → List Line
make_lines_lem R b first last =
    line 17 (wrong_span first last) ∷
    then (result_lines R.limits b.needed) (then (result_lines R.limits b.learned) (line 13 (too_many_records R.limits b.records) ∷ []))

module _ (R : Rules) (s kn first last : List ℕ) where
  make_is : (o : Parsed Store) (p : Parsed Knowledge) → open_store R.limits s ≡ o → parse R kn ≡ p → make_reply R s kn first last ≡ make_on R o p first last
  unfolding make_reply make_lines makes make_on
  make_is o p e f = ap (λ (x : Parsed Store). make_on R x (parse R kn) first last) e ∙ ap (λ (x : Parsed Knowledge). make_on R o x first last) f

  -- the store's own number, whichever it is
  pub make_store : (n : ℕ) → open_store R.limits s ≡ refused n → make_reply R s kn first last ≡ refuses n
  unfolding make_on own_fault first_fault
  make_store n e = make_is (refused n) (parse R kn) e refl

  make_unread : (st : Store) (n : ℕ) → open_store R.limits s ≡ accepted st → parse R kn ≡ refused n → make_reply R s kn first last ≡ refuses n
  unfolding make_on own_fault read_or first_fault
  make_unread st n e f =
      make_is (accepted st) (refused n) e f

  make_table : (st : Store) (k : Knowledge) → open_store R.limits s ≡ accepted st → parse R kn ≡ accepted k
      → make_reply R s kn first last ≡ first_fault refuses (make_lines_lem R (made_batch st k first last) first last)
      (gives (encode_batch (made_batch st k first last)))
  unfolding make_on own_fault read_or first_fault
  make_table st k e f =
      make_is (accepted st) (accepted k) e f ∙ ap₂ (λ (x : ℕ) (y : ℕ). of (made st k x y)) (id_is 24 first) (id_is 24 last)
    where
      of : Batch → Reply
      of b = first_fault refuses (make_lines_lem R b first last) (gives (encode_batch b))

module _ (R : Rules) (st : Store) (k : Knowledge) (first last : List ℕ) where
  abbrev pub make_rules : List Rule
  make_rules =
      rule 17 (NoSpan first last) (Span first last) ∷
      rule11 R.limits (normalise k) ∷
      rule12 R.limits (normalise k) ∷
      rule11 R.limits (project (be_at first 24 0) (be_at last 24 0) st.knowledge) ∷
      rule12 R.limits (project (be_at first 24 0) (be_at last 24 0) st.knowledge) ∷
      rule13 R.limits (made_batch st k first last).records ∷
      []

  make_told : Told (make_lines_lem R (made_batch st k first last) first last) make_rules
  unfolding made
  make_told =
      let b = made_batch st k first last in
      let thirteen = line 13 (too_many_records R.limits b.records) ∷ [] in
      told-cons (line 17 (wrong_span first last)) (then (result_lines R.limits b.needed) (then (result_lines R.limits b.learned) thirteen)) (rule 17 (NoSpan first last) (Span first last))
      (rule11 R.limits b.needed ∷ rule12 R.limits b.needed ∷ rule11 R.limits b.learned ∷ rule12 R.limits
      b.learned ∷ rule13 R.limits b.records ∷ []) (means_span first last)
      (told_then (result_lines R.limits b.needed) (then (result_lines R.limits b.learned) thirteen) (rule11 R.limits b.needed ∷ rule12 R.limits b.needed ∷ [])
      (rule11 R.limits b.learned ∷ rule12 R.limits b.learned ∷ rule13 R.limits b.records ∷ []) (told_result R.limits b.needed)
      (told_then (result_lines R.limits b.learned) thirteen (rule11 R.limits b.learned ∷ rule12 R.limits b.learned ∷ [])
      (rule13 R.limits b.records ∷ []) (told_result R.limits b.learned) (told_records R.limits b.records)))

-- ---- a store and a knowledge

-- a resulting knowledge within the limits
pub record Fits (R : Rules) (k : Knowledge) : Type 0 where
  pub replicas : length k.replicas ≤ R.limits.replicas
  pub ranges : length k.ranges ≤ R.limits.ranges

-- what is met where make gives bytes
pub record MakeGives (R : Rules) (st : Store) (k : Knowledge) (first last bs : List ℕ) : Type 0 where
  pub span : Span first last
  pub needed : Fits R (normalise k)
  pub learned : Fits R (project (be_at first 24 0) (be_at last 24 0) st.knowledge)
  pub records : length (made_batch st k first last).records ≤ R.limits.records
  pub bytes : bs ≡ encode_batch (made_batch st k first last)

module _ (R : Rules) (s kn first last : List ℕ) (st : Store) (k : Knowledge) (os : open_store R.limits s ≡ accepted st) (read : parse R kn ≡ accepted k) where
  at : (n j : ℕ) → only n j (make_rules R st k first last) ≡ true → (make_reply R s kn first last ≡ refuses n) ↔ At j (make_rules R st k first last)
  at n j o =
      refused_at (make_reply R s kn first last) (make_lines_lem R (made_batch st k first last) first last) (make_rules R st k first last) (encode_batch (made_batch st k first last))
      (make_table R s kn first last st k os read) (make_told R st k first last) n j o

  pub make_17 : (make_reply R s kn first last ≡ refuses 17) ↔ NoSpan first last
  make_17 = at 17 0 refl

  -- needed has too many replicas, or needed is within the limits and learned has too many
  pub make_11 : (make_reply R s kn first last ≡ refuses 11) ↔
      ((Span first last × (R.limits.replicas < length (normalise k).replicas))
      ⊎ (Span first last × (Fits R (normalise k) ×
      (R.limits.replicas < length (project (be_at first 24 0) (be_at last 24 0) st.knowledge).replicas))))
  make_11 =
      let law = refused_pair (make_reply R s kn first last) (make_lines_lem R (made_batch st k first last) first last)
      (make_rules R st k first last) (encode_batch (made_batch st k first last)) (make_table R s kn first last st k os read)
      (make_told R st k first last) 11 1 1 refl in (
        (λ h. elim (law.0 h) [ inl a ↦ inl a | inr a ↦ inr (a.0, (record { replicas = a.1.0; ranges = a.1.1.0 }, a.1.1.1)) ]),
        λ h. law.1 (elim h [ inl a ↦ inl a | inr a ↦ inr (a.0, (a.1.0.replicas, (a.1.0.ranges, a.1.1))) ]),
      )

  -- needed has too many ranges, or needed is within the limits and learned has too many
  pub make_12 : (make_reply R s kn first last ≡ refuses 12) ↔
      ((Span first last × ((length (normalise k).replicas ≤ R.limits.replicas) × (R.limits.ranges < length (normalise k).ranges)))
      ⊎ (Span first last × (Fits R (normalise k) ×
      ((length (project (be_at first 24 0) (be_at last 24 0) st.knowledge).replicas ≤ R.limits.replicas)
      × (R.limits.ranges < length (project (be_at first 24 0) (be_at last 24 0) st.knowledge).ranges)))))
  make_12 =
      let law = refused_pair (make_reply R s kn first last) (make_lines_lem R (made_batch st k first last) first last)
      (make_rules R st k first last) (encode_batch (made_batch st k first last)) (make_table R s kn first last st k os read)
      (make_told R st k first last) 12 2 1 refl in (
        (λ h. elim (law.0 h) [ inl a ↦ inl a | inr a ↦ inr (a.0, (record { replicas = a.1.0; ranges = a.1.1.0 }, a.1.1.1)) ]),
        λ h. law.1 (elim h [ inl a ↦ inl a | inr a ↦ inr (a.0, (a.1.0.replicas, (a.1.0.ranges, a.1.1))) ]),
      )

  pub make_13 : (make_reply R s kn first last ≡ refuses 13) ↔
      (Span first last × (Fits R (normalise k) ×
      (Fits R (project (be_at first 24 0) (be_at last 24 0) st.knowledge) × (R.limits.records < length (made_batch st k first last).records))))
  make_13 =
      let law = at 13 5 refl in (
        (λ h. let a = law.0 h in (a.0, (record { replicas = a.1.0; ranges = a.1.1.0 }, (record { replicas = a.1.1.1.0; ranges = a.1.1.1.1.0 }, a.1.1.1.1.1)))),
        λ a. law.1 (a.0, (a.1.0.replicas, (a.1.0.ranges, (a.1.1.0.replicas, (a.1.1.0.ranges, a.1.1.1))))),
      )

  pub make_gives : (bs : List ℕ) → (make_reply R s kn first last ≡ gives bs) ↔ MakeGives R st k first last bs
  make_gives bs =
      let law = given_none (make_reply R s kn first last) (make_lines_lem R (made_batch st k first last) first last)
      (make_rules R st k first last) (encode_batch (made_batch st k first last)) (make_table R s kn first last st k os read)
      (make_told R st k first last) bs in (
        (λ h.
            let w = law.0 h in
            let a = w.0 in
            record {
              span = a.0;
              needed = record { replicas = a.1.0; ranges = a.1.1.0 };
              learned = record { replicas = a.1.1.1.0; ranges = a.1.1.1.1.0 };
              records = a.1.1.1.1.1.0;
              bytes = w.1;
            }),
        λ m. law.1 ((m.span, (m.needed.replicas, (m.needed.ranges, (m.learned.replicas, (m.learned.ranges, (m.records, tt)))))), m.bytes),
      )

-- needed before learned, and ranges after replicas, one by one
module _ (R : Rules) (s kn first last : List ℕ) (st : Store) (k : Knowledge) (os : open_store R.limits s ≡ accepted st) (read : parse R kn ≡ accepted k) (span : Span first last) where
  pub make_needed_11 : R.limits.replicas < length (normalise k).replicas → make_reply R s kn first last ≡ refuses 11
  make_needed_11 h = (make_11 R s kn first last st k os read).1 (inl (span, h))

  pub make_needed_12 : length (normalise k).replicas ≤ R.limits.replicas → R.limits.ranges < length (normalise k).ranges → make_reply R s kn first last ≡ refuses 12
  make_needed_12 f h = (make_12 R s kn first last st k os read).1 (inl (span, (f, h)))

  pub make_learned_11 : Fits R (normalise k) → R.limits.replicas < length (project (be_at first 24 0) (be_at last 24 0) st.knowledge).replicas → make_reply R s kn first last ≡ refuses 11
  make_learned_11 f h = (make_11 R s kn first last st k os read).1 (inr (span, (f, h)))

  pub make_learned_12 : Fits R (normalise k) → length
      (project (be_at first 24 0) (be_at last 24 0) st.knowledge).replicas ≤ R.limits.replicas
      → R.limits.ranges < length (project (be_at first 24 0) (be_at last 24 0) st.knowledge).ranges → make_reply R s kn first last ≡ refuses 12
  make_learned_12 f g h = (make_12 R s kn first last st k os read).1 (inr (span, (f, (g, h))))

-- ---- any bytes

module _ (R : Rules) (s kn first last : List ℕ) where
  -- the knowledge's own fault
  pub make_own : (st : Store) (m n : ℕ) → open_store R.limits s ≡ accepted st → parse R kn ≡ refused m → (make_reply R s kn first last ≡ refuses n) ↔ (n ≡ m)
  make_own st m n e f = (
    (λ h. sym (refuses_same (make_reply R s kn first last) m n (make_unread R s kn first last st m e f) h)),
    λ h. make_unread R s kn first last st m e f ∙ ap refuses (sym h),
  )

  -- no other number: the store's own, the knowledge's own, or one of the table
  pub make_numbers_lem : (n : ℕ) → make_reply R s kn first last ≡ refuses n
      → (open_store R.limits s ≡ refused n) ⊎
      (((st : Store) × (open_store R.limits s ≡ accepted st)) × ((parse R kn ≡ refused n) ⊎ Among n (17 ∷ 11 ∷ 12 ∷ 13 ∷ [])))
  make_numbers_lem n = go (open_store R.limits s) refl (parse R kn) refl
    where
      once : Among n (17 ∷ 11 ∷ 12 ∷ 11 ∷ 12 ∷ 13 ∷ []) → Among n (17 ∷ 11 ∷ 12 ∷ 13 ∷ [])
      once (inl e) = inl e
      once (inr (inl e)) = inr (inl e)
      once (inr (inr (inl e))) = inr (inr (inl e))
      once (inr (inr (inr (inl e)))) = inr (inl e)
      once (inr (inr (inr (inr (inl e))))) = inr (inr (inl e))
      once (inr (inr (inr (inr (inr m))))) = inr (inr (inr m))

      go : (o : Parsed Store) → open_store R.limits s ≡ o → (p : Parsed Knowledge) → parse R kn ≡ p
          → make_reply R s kn first last ≡ refuses n → (open_store R.limits s ≡ refused n) ⊎
          (((st : Store) × (open_store R.limits s ≡ accepted st)) × ((parse R kn ≡ refused n) ⊎ Among n (17 ∷ 11 ∷ 12 ∷ 13 ∷ [])))
      go (refused m) e p f h = inl (e ∙ ap refused (refuses_same (make_reply R s kn first last) m n (make_store R s kn first last m e) h))
      go (accepted st) e (refused m) f h = inr ((st, e), inl (f ∙ ap refused (sym ((make_own st m n e f).0 h))))
      go (accepted st) e (accepted k) f h =
          inr (
            (st, e),
            inr
                (once
                (refused_among (make_reply R s kn first last) (make_lines_lem R (made_batch st k first last) first last) (make_rules R st k first last) (encode_batch (made_batch st k first last))
                (make_table R s kn first last st k e f) (make_told R st k first last) n h)),
          )

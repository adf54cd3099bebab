-- What each test of a table of refusals asks, in plain relations. Cover fails exactly where some item of the span and
-- some replica are known with a smaller tick: items up to the span's end and the replicas of a knowledge are finitely
-- many, so either all of them are covered or one that is not is found. The largest tick is one of the known ones.
-- Counts are compared with the limits, lengths with 24 and 16.
use Prim.Native.Nat.{ℕ, zero, suc, ◌≤◌, ◌<◌}
use mathlib.Core.Path.{◌≡◌, refl, ap, ◌∙◌, sym}
use mathlib.Core.Logic.{◌⊎◌, inl, inr, ⊎_elim, ◌↔◌}
use mathlib.Core.Bool.{Bool, true, false, not, ◌||◌}
use mathlib.Core.List.{List, [], ◌∷◌}
use mathlib.Core.Option.{Option, none, some}
use native.Mathlib.Omega.{arith}
use lib.Dec.{leb, eqb}
use lib.ListN.{length}
use borrow.Author.Tests.{leb-true, leb-false, ltb-true, ltb-false, eqb-true, eqb-false, not-false}
use Rattle.codec.specs.Number.{be_at, Bytes}
use Rattle.codec.specs.Reply.{Reply, gives, refuses, first_fault}
use Rattle.codec.proofs.Replies.{fault_exact, fault_gives, fault_none}
use Rattle.layout.specs.Knowledge.{Limits, any_id, largest_tick, Knowledge, Lawful, encode}
use Rattle.layout.specs.Permitted.{Permitted}
use Rattle.ticks.specs.Meaning.{highest, known}
use Rattle.ticks.specs.Operations.{covers, covers_for, largest, too_many_replicas, too_many_ranges}
use Rattle.ticks.specs.Calls.{wrong_length, wrong_span, result_lines}
use Rattle.ticks.proofs.Lists.{Among}
use Rattle.ticks.proofs.Answers.{length_exact, span_exact}
use Rattle.ticks.proofs.Replies.{ResultSays, over_replicas, over_ranges, result_given, result_says}
use Rattle.ticks.proofs.Operations.{in_map}
use Rattle.ticks.proofs.Counts.{replicas_fit, ranges_fit}
use Rattle.ticks.proofs.Search.{covers_exact}
use Rattle.ticks.proofs.ForCover.{covers_for_exact}
use Rattle.ticks.proofs.LawfulResults.{lawful_sound, lawful_ticks}
use Rattle.ticks.proofs.Largest.{largest_bounds, largest_attained}
use Rattle.replication.specs.Formats.{Store}
use Rattle.replication.specs.BatchFormat.{Batch}
use Rattle.replication.specs.OpenStore.{open_store}
use Rattle.replication.specs.Calls.{uncovered, own_ahead, gone, exhausted, too_many_records, store_lines, wrong_brought, RightBrought}
use Rattle.replication.proofs.Bytes.Store.{store_opened_lem}
use Rattle.replication.proofs.Refusals.Table.{Rule, rule, Means, FirstOf, NoneOf, Told, told-nil, told-cons, told_then}
use Rattle.codec.specs.Parsed.{accepted, line}
use Rattle.replication.specs.Record.{Rec}
use Rattle.replication.specs.Call.{Brought}

-- ---- finite searches

search_below : (n : ℕ) (P Q : ℕ → Type 0) → ((i : ℕ) → P i ⊎ Q i) → ((i : ℕ) → i < n → P i) ⊎ ((i : ℕ) × ((i < n) × Q i))
search_below zero P Q d = inl (λ i h. absurd (omega arith))
search_below (suc n) P Q d =
    elim (search_below n P Q d) [
      | inl a ↦ elim (d n) [
        | inl x ↦ inl (λ i h. last a x i h (leb n i) refl)
        | inr y ↦ inr (n, (omega arith, y))
      ]
      | inr w ↦ inr (w.0, (omega (arith, w.1.0), w.1.1))
    ]
  where
    last : ((i : ℕ) → i < n → P i) → P n → (i : ℕ) → i < suc n → (t : Bool) → leb n i ≡ t → P i
    last a x i h true e =
        let l : n ≤ i = leb-true n i e in
        let s : i ≡ n = omega arith in
        rw s x
    last a x i h false e = a i (leb-false n i e)

search_among : (ps : List ℕ) (P Q : ℕ → Type 0) → ((p : ℕ) → P p ⊎ Q p) → ((p : ℕ) → Among p ps → P p) ⊎ ((p : ℕ) × Q p)
search_among [] P Q d = inl (λ p m. absurd m)
search_among (q ∷ ps) P Q d =
    elim (search_among ps P Q d) [
      | inl a ↦ elim (d q) [
        | inl x ↦ inl (λ p m. ⊎_elim (λ (e : p ≡ q). rw e x) (a p) m)
        | inr y ↦ inr (q, y)
      ]
      | inr w ↦ inr w
    ]

at-most? : (x y : ℕ) → (x ≤ y) ⊎ (y < x)
at-most? x y = go (leb x y) refl
  where
    go : (t : Bool) → leb x y ≡ t → (x ≤ y) ⊎ (y < x)
    go true e = inl (leb-true x y e)
    go false e = inr (leb-false x y e)

-- at one item: all replicas are known as far, or one is not
replicas_at : (a b : Knowledge) (i : ℕ) → ((p : ℕ) → known b i p ≤ known a i p) ⊎ ((p : ℕ) × (known a i p < known b i p))
replicas_at a b i =
    elim (search_among b.replicas (λ p. known b i p ≤ known a i p) (λ p. known a i p < known b i p) (λ p. at-most? (known b i p) (known a i p))) [
      | inl f ↦ inl (λ p. ⊎_elim (f p) (λ (z : known b i p ≡ 0). omega arith) (in_map b i p))
      | inr w ↦ inr w
    ]

clash : (b : Bool) {A : Type 0} → b ≡ true → b ≡ false → A
clash b {A} x y =
    let z : ◌≡◌ {A = ℕ} 0 1 = cc in
    absurd (omega arith)

neither : (x y : Bool) → (x || y) ≡ false → (x ≡ false) × (y ≡ false)
neither false y e = (refl, e)
neither true y e = clash true refl e

both_false : (x y : Bool) → x ≡ false → y ≡ false → (x || y) ≡ false
both_false x y p q = rw (p, q)

-- ---- 18

-- "store doesn't cover needed in the span": an item of the span and a replica of which the store knows less
pub record Lacks (st : Store) (b : Batch) : Type 0 where
  pub item : ℕ
  pub replica : ℕ
  pub above : b.first ≤ item
  pub below : item ≤ b.last
  pub less : known st.knowledge item replica < known b.needed item replica

pub record Covered (st : Store) (b : Batch) : Type 0 where
  pub known : (i p : ℕ) → b.first ≤ i → i ≤ b.last → known b.needed i p ≤ known st.knowledge i p

-- "learned has, for some item, a tick of the store's own replica above the store's"
pub record Ahead (st : Store) (b : Batch) : Type 0 where
  pub item : ℕ
  pub inside : item ≤ highest
  pub less : known st.knowledge item st.own < known b.learned item st.own

pub record Behind (st : Store) (b : Batch) : Type 0 where
  pub known : (i : ℕ) → i ≤ highest → known b.learned i st.own ≤ known st.knowledge i st.own

module _ (st : Store) (b : Batch) where
  lacks_or : Covered st b ⊎ Lacks st b
  lacks_or =
      elim
      (search_below (suc b.last) (λ i. b.first ≤ i → (p : ℕ) → known b.needed i p ≤ known st.knowledge i p)
      (λ i. (b.first ≤ i) × ((p : ℕ) × (known st.knowledge i p < known b.needed i p))) item?) [
        | inl f ↦ inl (record { known = λ i p h l. f i (omega arith) h p })
        | inr w ↦ inr (record { item = w.0; replica = w.1.1.1.0; above = w.1.1.0; below = omega (arith, w.1.0); less = w.1.1.1.1 })
      ]
    where
      item? : (i : ℕ) → (b.first ≤ i → (p : ℕ) → known b.needed i p ≤ known st.knowledge i p) ⊎ ((b.first ≤ i) × ((p : ℕ) × (known st.knowledge i p < known b.needed i p)))
      item? i =
          elim (at-most? b.first i) [
            | inl h ↦ elim (replicas_at st.knowledge b.needed i) [ inl f ↦ inl (λ g. f) | inr w ↦ inr (h, w) ]
            | inr l ↦ inl (λ h p. absurd (omega arith))
          ]

  ahead_or : Behind st b ⊎ Ahead st b
  ahead_or =
      elim
      (search_below (suc highest) (λ i. known b.learned i st.own ≤ known st.knowledge i st.own)
      (λ i. known st.knowledge i st.own < known b.learned i st.own)
      (λ i. at-most? (known b.learned i st.own) (known st.knowledge i st.own))) [
        | inl f ↦ inl (record { known = λ i h. f i (omega arith) })
        | inr w ↦ inr (record { item = w.0; inside = omega (arith, w.1.0); less = w.1.1 })
      ]

  pub covered_apart : Lacks st b → Covered st b → ⊥
  covered_apart l c = omega (arith, l.less, c.known l.item l.replica l.above l.below)

  pub behind_apart : Ahead st b → Behind st b → ⊥
  behind_apart a h = omega (arith, a.less, h.known a.item a.inside)

  pub uncovered_exact : (uncovered st b ≡ false) ↔ Covered st b
  unfolding uncovered
  uncovered_exact = (
    (λ e. let c = (covers_exact st.knowledge b.needed b.first b.last).0 (not-false (covers st.knowledge b.needed b.first b.last) e) in record { known = c.known }),
    λ c. ap not ((covers_exact st.knowledge b.needed b.first b.last).1 (record { known = c.known })),
  )

  pub ahead_exact : (own_ahead st b ≡ false) ↔ Behind st b
  unfolding own_ahead
  ahead_exact = (
    (λ e.
        let c = (covers_for_exact (st.own ∷ []) st.knowledge b.learned 0 highest).0 (not-false (covers_for (st.own ∷ []) st.knowledge b.learned 0 highest) e) in
        record { known = λ i h. c.known i st.own (omega arith) h (inl refl) }),
    λ c.
        ap not
        ((covers_for_exact (st.own ∷ []) st.knowledge b.learned 0 highest).1
        (record { known = λ i p l h m. ⊎_elim (λ (e : p ≡ st.own). rw e (c.known i h)) (λ z. absurd z) m })),
  )

  -- the line of 18
  pub means_18 : Means (line 18 (uncovered st b || own_ahead st b)) (rule 18 (Lacks st b ⊎ Ahead st b) (Covered st b × Behind st b))
  means_18 = record {
    number = refl;
    yes = λ e. found e lacks_or ahead_or;
    no = λ e. let w = neither (uncovered st b) (own_ahead st b) e in (uncovered_exact.0 w.0, ahead_exact.0 w.1);
    apart = λ x y. ⊎_elim (λ l. covered_apart l y.0) (λ a. behind_apart a y.1) x;
  }
    where
      found : (uncovered st b || own_ahead st b) ≡ true → Covered st b ⊎ Lacks st b → Behind st b ⊎ Ahead st b → Lacks st b ⊎ Ahead st b
      found e (inr l) y = inl l
      found e (inl c) (inr a) = inr a
      found e (inl c) (inl h) = clash (uncovered st b || own_ahead st b) e (both_false (uncovered st b) (own_ahead st b) (uncovered_exact.1 c) (ahead_exact.1 h))

-- ---- 19

-- "item absent or tombstone"; and a record that is there and no tombstone
abbrev pub Gone : Option Rec → Type 0
Gone o = (o ≡ none) ⊎ ((r : Rec) × ((o ≡ some r) × (r.content.deleted ≡ true)))

abbrev pub Present : Option Rec → Type 0
Present o = (r : Rec) × ((o ≡ some r) × (r.content.deleted ≡ false))

pub gone_apart : (o : Option Rec) → Gone o → Present o → ⊥
gone_apart o (inl e) p =
    let f : o ≡ some p.0 = p.1.0 in
    let z : ◌≡◌ {A = ℕ} 0 1 = cc in
    omega arith
gone_apart o (inr g) p =
    let e : o ≡ some g.0 = g.1.0 in
    let f : o ≡ some p.0 = p.1.0 in
    let s : p.0.content.deleted ≡ g.0.content.deleted = cc in
    clash g.0.content.deleted g.1.1 (sym s ∙ p.1.1)

pub means_19 : (o : Option Rec) → Means (line 19 (gone o)) (rule 19 (Gone o) (Present o))
unfolding gone
means_19 none = record { number = refl; yes = λ e. inl refl; no = λ e. clash true refl e; apart = gone_apart none }
means_19 (some r) = record {
  number = refl;
  yes = λ e. inr (r, (refl, e));
  no = λ e. (r, (refl, e));
  apart = gone_apart (some r);
}

-- ---- 20

-- "largest tick is 2^63 − 1": some item and replica are known at the largest tick there is; and none is
pub record Exhausted (st : Store) : Type 0 where
  pub item : ℕ
  pub replica : ℕ
  pub inside : item ≤ highest
  pub tick : known st.knowledge item replica ≡ largest_tick

pub record Unexhausted (st : Store) : Type 0 where
  pub known : (i p : ℕ) → i ≤ highest → known st.knowledge i p < largest_tick

pub means_20 : (L : Limits) (st : Store) → Lawful (any_id L) st.knowledge → Means (line 20 (exhausted st)) (rule 20 (Exhausted st) (Unexhausted st))
unfolding exhausted
means_20 L st l = record {
  number = refl;
  yes = λ e. found (leb-true largest_tick (largest st.knowledge) e) (largest_attained st.knowledge (lawful_sound (any_id L) st.knowledge l));
  no = λ e. record { known = λ i p h. omega (arith, leb-false largest_tick (largest st.knowledge) e, largest_bounds st.knowledge i p) };
  apart = λ x y. omega (arith, x.tick, y.known x.item x.replica x.inside);
}
  where
    found : largest_tick ≤ largest st.knowledge → (largest st.knowledge ≡ 0) ⊎ ((i : ℕ) × ((p : ℕ) × ((i ≤ highest) × (known st.knowledge i p ≡ largest st.knowledge)))) → Exhausted st
    found h (inl z) = absurd (omega arith)
    found h (inr w) = record {
      item = w.0;
      replica = w.1.0;
      inside = w.1.1.0;
      tick = omega (arith, w.1.1.1, lawful_ticks (any_id L) st.knowledge w.0 w.1.0 l);
    }

-- ---- 17

same_or : (x y : ℕ) → (x ≡ y) ⊎ (x ≡ y → ⊥)
same_or x y = go (eqb x y) refl
  where
    go : (t : Bool) → eqb x y ≡ t → (x ≡ y) ⊎ (x ≡ y → ⊥)
    go true e = inl (eqb-true x y e)
    go false e = inr (eqb-false x y e)

pub means_length : (n : ℕ) (s : List ℕ) → Means (line 17 (wrong_length n s)) (rule 17 (length s ≡ n → ⊥) (length s ≡ n))
means_length n s = record {
  number = refl;
  yes = λ e f. clash (wrong_length n s) e ((length_exact n s).1 f);
  no = λ e. (length_exact n s).0 e;
  apart = λ f e. f e;
}

-- an item id of 24 bytes and a tag of 16
-- what an edit brings
pub brought_exact : (b : Brought) → (wrong_brought b ≡ false) ↔ RightBrought b
unfolding wrong_brought
brought_exact b = ((λ e. record { tag = (length_exact 16 b.tag).0 e }), λ r. (length_exact 16 b.tag).1 r.tag)

brought_or : (b : Brought) → RightBrought b ⊎ (RightBrought b → ⊥)
brought_or b = ⊎_elim (λ (e : length b.tag ≡ 16). inl (record { tag = e })) (λ (n : length b.tag ≡ 16 → ⊥). inr (λ (r : RightBrought b). n r.tag)) (same_or (length b.tag) 16)

pub means_lengths : (item : List ℕ) (b : Brought) → Means (line 17 (wrong_length 24 item || wrong_brought b))
    (rule 17 ((length item ≡ 24 → ⊥) ⊎ (RightBrought b → ⊥)) ((length item ≡ 24) × RightBrought b))
means_lengths item b = record {
  number = refl;
  yes = λ e. found e (same_or (length item) 24) (brought_or b);
  no = λ e. let w = neither (wrong_length 24 item) (wrong_brought b) e in ((length_exact 24 item).0 w.0, (brought_exact b).0 w.1);
  apart = λ x y. ⊎_elim (λ f. f y.0) (λ f. f y.1) x;
}
  where
    found : (wrong_length 24 item || wrong_brought b) ≡ true → (length item ≡ 24) ⊎ (length item ≡ 24 → ⊥) → RightBrought b ⊎ (RightBrought b → ⊥) → (length item ≡ 24 → ⊥) ⊎ (RightBrought b → ⊥)
    found e (inr f) y = inl f
    found e (inl x) (inr f) = inr f
    found e (inl x) (inl y) = clash (wrong_length 24 item || wrong_brought b) e (both_false (wrong_length 24 item) (wrong_brought b) ((length_exact 24 item).1 x) ((brought_exact b).1 y))

-- both ends of a span of 24 bytes, first not above last
pub record Span (first last : List ℕ) : Type 0 where
  pub first24 : length first ≡ 24
  pub last24 : length last ≡ 24
  pub order : be_at first 24 0 ≤ be_at last 24 0

pub data NoSpan (first last : List ℕ) : Type 0 where
  first_wrong : (length first ≡ 24 → ⊥) → NoSpan first last
  last_wrong : (length last ≡ 24 → ⊥) → NoSpan first last
  above : be_at last 24 0 < be_at first 24 0 → NoSpan first last

pub means_span : (first last : List ℕ) → Means (line 17 (wrong_span first last)) (rule 17 (NoSpan first last) (Span first last))
means_span first last = record {
  number = refl;
  yes = λ e. found e (same_or (length first) 24) (same_or (length last) 24) (at-most? (be_at first 24 0) (be_at last 24 0));
  no = λ e. let w = (span_exact first last).0 e in record { first24 = w.0; last24 = w.1.0; order = w.1.1 };
  apart = apart;
}
  where
    apart : NoSpan first last → Span first last → ⊥
    apart (first_wrong f) s = f s.first24
    apart (last_wrong f) s = f s.last24
    apart (above l) s = omega (arith, s.order)

    found : wrong_span first last ≡ true → (length first ≡ 24) ⊎ (length first ≡ 24 → ⊥) → (length last ≡ 24) ⊎ (length last ≡ 24 → ⊥)
        → (be_at first 24 0 ≤ be_at last 24 0) ⊎ (be_at last 24 0 < be_at first 24 0) → NoSpan first last
    found e (inr f) y z = first_wrong f
    found e (inl x) (inr f) z = last_wrong f
    found e (inl x) (inl y) (inr l) = above l
    found e (inl x) (inl y) (inl h) = clash (wrong_span first last) e ((span_exact first last).1 (x, (y, h)))

-- ---- 11, 12 and 13

abbrev pub rule11 : Limits → Knowledge → Rule
rule11 L k = rule 11 (L.replicas < length k.replicas) (length k.replicas ≤ L.replicas)

abbrev pub rule12 : Limits → Knowledge → Rule
rule12 L k = rule 12 (L.ranges < length k.ranges) (length k.ranges ≤ L.ranges)

abbrev pub rule13 : Limits → List Rec → Rule
rule13 L rs = rule 13 (L.records < length rs) (length rs ≤ L.records)

means_13 : (L : Limits) (rs : List Rec) → Means (line 13 (too_many_records L rs)) (rule13 L rs)
unfolding too_many_records
means_13 L rs = record {
  number = refl;
  yes = λ e. ltb-true L.records (length rs) e;
  no = λ e. ltb-false L.records (length rs) e;
  apart = λ x y. omega arith;
}

over_11 : (L : Limits) (k : Knowledge) → too_many_replicas L k ≡ true → L.replicas < length k.replicas
over_11 L k e =
    elim (at-most? (length k.replicas) L.replicas) [
      | inl h ↦ clash (too_many_replicas L k) e ((replicas_fit L k).1 h)
      | inr l ↦ l
    ]

over_12 : (L : Limits) (k : Knowledge) → too_many_ranges L k ≡ true → L.ranges < length k.ranges
over_12 L k e =
    elim (at-most? (length k.ranges) L.ranges) [
      | inl h ↦ clash (too_many_ranges L k) e ((ranges_fit L k).1 h)
      | inr l ↦ l
    ]

-- the lines of a resulting knowledge, by what a table of them comes to
module _ (L : Limits) (k : Knowledge) where
  result_refuses : (n : ℕ) (r : Reply) → ResultSays L k r → r ≡ refuses n → FirstOf n (rule11 L k ∷ rule12 L k ∷ [])
  result_refuses n r (over_replicas e) h = inl (over_11 L k e, cc)
  result_refuses n r (over_ranges e f) h = inr ((replicas_fit L k).0 e, inl (over_12 L k f, cc))
  result_refuses n r (result_given e f) h =
      let z : ◌≡◌ {A = ℕ} 0 1 = cc in
      absurd (omega arith)

  result_refused : (n : ℕ) (r : Reply) → ResultSays L k r → FirstOf n (rule11 L k ∷ rule12 L k ∷ []) → r ≡ refuses n
  result_refused n r (over_replicas e) (inl h) = ap refuses h.1
  result_refused n r (over_replicas e) (inr h) = absurd (omega (arith, over_11 L k e, h.0))
  result_refused n r (over_ranges e f) (inl h) = absurd (omega (arith, (replicas_fit L k).0 e, h.0))
  result_refused n r (over_ranges e f) (inr (l, inl h)) = ap refuses h.1
  result_refused n r (over_ranges e f) (inr (l, inr h)) = absurd h.1
  result_refused n r (result_given e f) (inl h) = absurd (omega (arith, (replicas_fit L k).0 e, h.0))
  result_refused n r (result_given e f) (inr (l, inl h)) = absurd (omega (arith, (ranges_fit L k).0 f, h.0))
  result_refused n r (result_given e f) (inr (l, inr h)) = absurd h.1

  result_gives : (r : Reply) → ResultSays L k r → r ≡ gives (encode k) → NoneOf (rule11 L k ∷ rule12 L k ∷ [])
  result_gives r (over_replicas e) h =
      let z : ◌≡◌ {A = ℕ} 0 1 = cc in
      absurd (omega arith)
  result_gives r (over_ranges e f) h =
      let z : ◌≡◌ {A = ℕ} 0 1 = cc in
      absurd (omega arith)
  result_gives r (result_given e f) h = ((replicas_fit L k).0 e, ((ranges_fit L k).0 f, tt))

  result_given_by : (r : Reply) → ResultSays L k r → NoneOf (rule11 L k ∷ rule12 L k ∷ []) → r ≡ gives (encode k)
  result_given_by r (over_replicas e) h = absurd (omega (arith, over_11 L k e, h.0))
  result_given_by r (over_ranges e f) h = absurd (omega (arith, over_12 L k f, h.1.0))
  result_given_by r (result_given e f) h = refl

  pub told_result : Told (result_lines L k) (rule11 L k ∷ rule12 L k ∷ [])
  told_result =
      let ls = result_lines L k in
      let r = first_fault refuses ls (gives (encode k)) in
      record {
        first = λ n. (
          (λ f. result_refuses n r (result_says L k) ((fault_exact ls (encode k) n).1 f)),
          λ f. (fault_exact ls (encode k) n).0 (result_refused n r (result_says L k) f),
        );
        none = (
          (λ f. result_gives r (result_says L k) (fault_none refuses ls (gives (encode k)) f)),
          λ f. (fault_gives ls (encode k) (encode k) (result_given_by r (result_says L k) f)).0,
        );
      }

pub told_records : (L : Limits) (rs : List Rec) → Told (line 13 (too_many_records L rs) ∷ []) (rule13 L rs ∷ [])
told_records L rs = told-cons (line 13 (too_many_records L rs)) [] (rule13 L rs) [] (means_13 L rs) told-nil

-- the lines of a resulting store
pub told_store : (L : Limits) (st : Store) → Told (store_lines L st) (rule11 L st.knowledge ∷ rule12 L st.knowledge ∷ rule13 L st.records ∷ [])
unfolding store_lines
told_store L st =
    told_then (result_lines L st.knowledge) (line 13 (too_many_records L st.records) ∷ []) (rule11 L st.knowledge ∷ rule12 L st.knowledge ∷ []) (rule13 L st.records ∷ [])
    (told_result L st.knowledge) (told_records L st.records)

-- a store that opens has a lawful knowledge
pub opened_lawful : (L : Limits) (s : List ℕ) (st : Store) → Permitted L → Bytes s → open_store L s ≡ accepted st → Lawful (any_id L) st.knowledge
opened_lawful L s st p b e = (store_opened_lem L s st p b e).1.0.knowledge

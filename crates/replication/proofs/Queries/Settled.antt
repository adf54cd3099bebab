-- What is said of the calls that write nothing settles what they answer: of winner, learned and a store's own knowledge the part, its number
-- and the values that tell its place; of coverage the number and the values; of the walker all that it has still to give. The winner's part is
-- settled because the item ids of a table rise, so a record is one of them at one place only. A statement that left out a case or
-- a value would not do that.
use Prim.Native.Nat.{ℕ, zero, suc, ◌+◌, ◌*◌, ◌≤◌, ◌<◌}
use mathlib.Core.Path.{◌≡◌, refl, sym, ap, ◌∙◌, subst}
use mathlib.Core.Bool.{Bool, true, false}
use mathlib.Core.Logic.{◌⊎◌, inl, inr, ⊎_elim}
use mathlib.Core.List.{List, [], ◌∷◌, ◌++◌}
use mathlib.Core.Option.{Option, none, some}
use native.Mathlib.Omega.{arith}
use lib.ListN.{length, take, drop, get_or}
use Rattle.codec.specs.Number.{be_at}
use Rattle.codec.proofs.Reading.{be_one}
use Rattle.layout.specs.Knowledge.{Limits, Knowledge, Rising}
use Rattle.ticks.proofs.Lists.{less, same, more, order}
use Rattle.replication.specs.Record.{Rec}
use Rattle.replication.specs.Formats.{Store, find, items}
use Rattle.replication.specs.BatchFormat.{Batch}
use Rattle.replication.specs.Reading.{rec_length, behind, whole}
use Rattle.replication.specs.Queries.{part_bytes, part_number, part_side, part_at_place, part_length, to_give}
use Rattle.replication.specs.Queries.{coverage_number, coverage_contained, coverage_all, coverage_thousandths}
use Rattle.replication.specs.Part.{Part}
use Rattle.replication.specs.Coverage.{Coverage}
use Rattle.replication.proofs.Tables.Rising.{rising_low, rising_rest}
use Rattle.replication.proofs.Bytes.Record.{KnownKind, kind-length, whole_exact}
use Rattle.replication.proofs.Broken.Records.{OneOf, behind_all}
use Rattle.replication.proofs.Queries.Walk.{walk_step, walk_end}
use Rattle.replication.proofs.Queries.Winner.{NoPart, StorePart, BatchPart, StoreRecord, BatchRecord, NoPartBut, Beats, WinnerIs, LearnedIs}
use Rattle.replication.proofs.Queries.Knowledge.{KnowledgeIs}
use Rattle.replication.proofs.Queries.Coverage.{CoverageIs, NoCoverage, counts_one}
use Rattle.replication.proofs.Queries.Nearest.{figure_settled}

-- ---- one place for a record

above_low : (lo : ℕ) (before : List Rec) (x : Rec) (after : List Rec) → Rising lo (items (before ++ (x ∷ after))) → lo ≤ x.item
above_low lo [] x after r = rising_low lo x after r
above_low lo (y ∷ before) x after r =
    omega (
      arith,
      rising_low lo y (before ++ (x ∷ after)) r,
      above_low (suc y.item) before x after (rising_rest lo y (before ++ (x ∷ after)) r),
    )

-- as many stand before it, however the table is parted
before_same : (lo : ℕ) (x : Rec) (b c d e : List Rec) → Rising lo (items (b ++ (x ∷ c))) → b ++ (x ∷ c) ≡ d ++ (x ∷ e)
    → length b ≡ length d
before_same lo x [] c [] e r q = refl
before_same lo x [] c (y ∷ d) e r q =
    let t : c ≡ d ++ (x ∷ e) = cc in
    let w = subst (λ (l : List Rec). Rising (suc x.item) (items l)) t (rising_rest lo x c r) in
    absurd (omega (arith, above_low (suc x.item) d x e w))
before_same lo x (y ∷ b) c [] e r q =
    let h : y ≡ x = cc in
    let i : y.item ≡ x.item = ap (λ (z : Rec). z.item) h in
    absurd (omega (arith, i, above_low (suc y.item) b x c (rising_rest lo y (b ++ (x ∷ c)) r)))
before_same lo x (y ∷ b) c (z ∷ d) e r q =
    let t : b ++ (x ∷ c) ≡ d ++ (x ∷ e) = cc in
    omega (arith, before_same (suc y.item) x b c d e (rising_rest lo y (b ++ (x ∷ c)) r) t)

one_place : (rs : List Rec) (x : Rec) → Rising 0 (items rs) → (o u : OneOf x rs) → length o.before ≡ length u.before
one_place rs x r o u =
    before_same 0 x o.before o.after u.before u.after (subst (λ (l : List Rec). Rising 0 (items l)) o.is r)
    (sym o.is ∙ u.is)

-- ---- parts

-- two answers hand out the same part, with the same number and values
pub record SamePart (s t : List ℕ) (p q : Part) : Type 0 where
  pub part : part_bytes p s t ≡ part_bytes q s t
  pub number : part_number p ≡ part_number q
  pub side : (old : ℕ) → part_side p old ≡ part_side q old
  pub place : (old : ℕ) → part_at_place p old ≡ part_at_place q old
  pub size : (old : ℕ) → part_length p old ≡ part_length q old

module _ (s t : List ℕ) (p q : Part) where
  none_settled : NoPart p → NoPart q → SamePart s t p q
  none_settled x y =
      record {
        part = x.part s t ∙ sym (y.part s t);
        number = x.number ∙ sym y.number;
        side = λ old. x.side old ∙ sym (y.side old);
        place = λ old. x.place old ∙ sym (y.place old);
        size = λ old. x.size old ∙ sym (y.size old);
      }

  pub refused_settled : (n : ℕ) → NoPartBut n p → NoPartBut n q → SamePart s t p q
  refused_settled n x y =
      record {
        part = x.part s t ∙ sym (y.part s t);
        number = x.number ∙ sym y.number;
        side = λ old. x.side old ∙ sym (y.side old);
        place = λ old. x.place old ∙ sym (y.place old);
        size = λ old. x.size old ∙ sym (y.size old);
      }

  store_part_settled : (at count : ℕ) → StorePart s at count p → StorePart s at count q → SamePart s t p q
  store_part_settled at count x y =
      record {
        part = x.part t ∙ sym (y.part t);
        number = x.number ∙ sym y.number;
        side = λ old. x.side old ∙ sym (y.side old);
        place = λ old. x.place old ∙ sym (y.place old);
        size = λ old. x.size old ∙ sym (y.size old);
      }

  batch_part_settled : (at count : ℕ) → BatchPart t at count p → BatchPart t at count q → SamePart s t p q
  batch_part_settled at count x y =
      record {
        part = x.part s ∙ sym (y.part s);
        number = x.number ∙ sym y.number;
        side = λ old. x.side old ∙ sym (y.side old);
        place = λ old. x.place old ∙ sym (y.place old);
        size = λ old. x.size old ∙ sym (y.size old);
      }

  store_record_settled : (rs : List Rec) (x : Rec) → Rising 0 (items rs) → StoreRecord s rs x p → StoreRecord s rs x q → SamePart s t p q
  store_record_settled rs x r a b =
      let e : a.at ≡ b.at =
      a.there ∙ (ap (behind_all s (25 + be_at s 4 17)) (one_place rs x r a.one b.one) ∙ sym b.there) in
      store_part_settled b.at (rec_length (be_at s 1 b.at))
      (subst (λ (n : ℕ). StorePart s n (rec_length (be_at s 1 n)) p) e a.part) b.part

  batch_record_settled : (rs : List Rec) (x : Rec) → Rising 0 (items rs) → BatchRecord t rs x p → BatchRecord t rs x q → SamePart s t p q
  batch_record_settled rs x r a b =
      let e : a.at ≡ b.at =
      a.there ∙ (ap (behind_all t (61 + be_at t 4 49 + be_at t 4 53)) (one_place rs x r a.one b.one) ∙ sym b.there) in
      batch_part_settled b.at (rec_length (be_at t 1 b.at))
      (subst (λ (n : ℕ). BatchPart t n (rec_length (be_at t 1 n)) p) e a.part) b.part

-- ---- winner

beats? : (x y : Rec) → Beats x y ⊎ (Beats x y → ⊥)
beats? x y =
    elim (order x.change_tick y.change_tick) [
      | less h ↦ inl (inl h)
      | same h ↦ elim (order x.change_replica y.change_replica) [
        | less l ↦ inl (inr (h, l))
        | same l ↦ inr (λ b. not_beaten h (omega arith) b)
        | more l ↦ inr (λ b. not_beaten h (omega arith) b)
      ]
      | more h ↦ inr (λ b. ⊎_elim (λ l. omega (arith, h, l)) (λ l. omega (arith, h, l.0)) b)
    ]
  where
    not_beaten : x.change_tick ≡ y.change_tick → y.change_replica ≤ x.change_replica → Beats x y → ⊥
    not_beaten h l (inl m) = omega (arith, h, m)
    not_beaten h l (inr m) = omega (arith, l, m.1)

pub winner_settled : (s t : List ℕ) (i : ℕ) (st : Store) (b : Batch) (p q : Part) → Rising 0 (items st.records) → Rising 0 (items b.records)
    → WinnerIs s t i st b p → WinnerIs s t i st b q → SamePart s t p q
winner_settled s t i st b p q rs rb v w = go (find i st.records) refl (find i b.records) refl
  where
    go : (o : Option Rec) → find i st.records ≡ o → (u : Option Rec) → find i b.records ≡ u → SamePart s t p q
    go none e none f = none_settled s t p q (v.neither e f) (w.neither e f)
    go (some x) e none f = store_record_settled s t p q st.records x rs (v.store_only x e f) (w.store_only x e f)
    go none e (some y) f = batch_record_settled s t p q b.records y rb (v.batch_only y e f) (w.batch_only y e f)
    go (some x) e (some y) f =
        ⊎_elim
        (λ (h : Beats x y). batch_record_settled s t p q b.records y rb (v.batch_wins x y e f h) (w.batch_wins x y e f h))
        (λ (h : Beats x y → ⊥). store_record_settled s t p q st.records x rs (v.store_stays x y e f h) (w.store_stays x y e f h))
        (beats? x y)

-- ---- learned

pub learned_settled : (L : Limits) (s t : List ℕ) (b : Batch) (p q : Part) → LearnedIs L t b p → LearnedIs L t b q → SamePart s t p q
learned_settled L s t b p q x y = batch_part_settled s t p q (61 + be_at t 4 49) (be_at t 4 53) x.part y.part

-- ---- a store's own knowledge

pub knowledge_settled : (L : Limits) (s t : List ℕ) (st : Store) (p q : Part) → KnowledgeIs L s st p → KnowledgeIs L s st q → SamePart s t p q
knowledge_settled L s t st p q x y = store_part_settled s t p q 25 (be_at s 4 17) x.part y.part

-- ---- coverage

pub record SameCoverage (a c : Coverage) : Type 0 where
  pub number : coverage_number a ≡ coverage_number c
  pub contained : (old : ℕ) → coverage_contained a old ≡ coverage_contained c old
  pub all : (old : ℕ) → coverage_all a old ≡ coverage_all c old
  pub thousandths : (old : ℕ) → coverage_thousandths a old ≡ coverage_thousandths c old

module _ (k : Knowledge) (rs : List Rec) (a c : Coverage) (x : CoverageIs k rs a) (y : CoverageIs k rs c) where
  inside_same : x.inside ≡ y.inside
  inside_same = counts_one x.counts ∙ sym (counts_one y.counts)

  rate_same : x.rate ≡ y.rate
  rate_same =
      elim (order 0 (length rs)) [
        | less h ↦
            let n = length rs in
            let m : 2000 * x.inside + n ≡ 2000 * y.inside + n = ap (λ (c : ℕ). 2000 * c + n) inside_same in
            figure_settled y.inside n x.rate y.rate (omega (arith, x.low h, m)) (omega (arith, x.high h, m)) (y.low h) (y.high h)
        | same h ↦ x.no_records (sym h) ∙ sym (y.no_records (sym h))
        | more h ↦ absurd (omega arith)
      ]

  pub coverage_settled : SameCoverage a c
  coverage_settled =
      record {
        number = x.number ∙ sym y.number;
        contained = λ old. x.contained old ∙ (inside_same ∙ sym (y.contained old));
        all = λ old. x.all old ∙ sym (y.all old);
        thousandths = λ old. x.thousandths old ∙ (rate_same ∙ sym (y.thousandths old));
      }

pub coverage_refused_settled : (n : ℕ) (a c : Coverage) → NoCoverage n a → NoCoverage n c → SameCoverage a c
coverage_refused_settled n a c x y =
    record {
      number = x.number ∙ sym y.number;
      contained = λ old. x.contained old ∙ sym (y.contained old);
      all = λ old. x.all old ∙ sym (y.all old);
      thousandths = λ old. x.thousandths old ∙ sym (y.thousandths old);
    }

-- ---- the walker

-- what is given from each place on, in plain numbers
pub record Walks (s : List ℕ) (give : ℕ → List (List ℕ)) : Type 0 where
  pub step : (at : ℕ) → (get_or s at 0 ≡ 1) ⊎ (get_or s at 0 ≡ 2) → at + 89 ≤ length s → give at ≡ take 89 (drop at s) ∷ give (at + 89)
  pub ends : (at : ℕ) → ((get_or s at 0 ≡ 1) ⊎ (get_or s at 0 ≡ 2) → length s < at + 89) → give at ≡ []

pub walks : (s : List ℕ) → Walks s (to_give s)
unfolding behind
walks s =
    record {
      step = λ at k l.
          let e : rec_length (be_at s 1 at) ≡ 89 = ap rec_length (be_one s at) ∙ kind-length (get_or s at 0) k in
          walk_step s at k l ∙ ap (λ (n : ℕ). take n (drop at s) ∷ to_give s (at + n)) e;
      ends = λ at h. walk_end s at h;
    }

module _ (s : List ℕ) (f g : ℕ → List (List ℕ)) (x : Walks s f) (y : Walks s g) where
  walks_from : (n at : ℕ) → length s ≤ at + n → f at ≡ g at
  walks_from zero at l = x.ends at (λ k. omega arith) ∙ sym (y.ends at (λ k. omega arith))
  walks_from (suc n) at l = go (λ h. walks_from n (at + 89) h) (whole s at) refl
    where
      go : (length s ≤ at + 89 + n → f (at + 89) ≡ g (at + 89)) → (t : Bool) → whole s at ≡ t → f at ≡ g at
      go rest true e =
          let w = (whole_exact s at).0 e in
          let k : (get_or s at 0 ≡ 1) ⊎ (get_or s at 0 ≡ 2) = subst KnownKind (be_one s at) w.0 in
          x.step at k w.1 ∙ (ap (λ (u : List (List ℕ)). take 89 (drop at s) ∷ u) (rest (omega arith)) ∙ sym (y.step at k w.1))
      go rest false e = x.ends at missing ∙ sym (y.ends at missing)
        where
          missing : (get_or s at 0 ≡ 1) ⊎ (get_or s at 0 ≡ 2) → length s < at + 89
          missing k =
              elim (order (length s) (at + 89)) [
                | less h ↦ h
                | same h ↦ found k (omega arith)
                | more h ↦ found k (omega arith)
              ]
            where
              found : KnownKind (get_or s at 0) → at + 89 ≤ length s → length s < at + 89
              found k h =
                  let t : whole s at ≡ true = (whole_exact s at).1 (subst KnownKind (sym (be_one s at)) k, h) in
                  let z : ◌≡◌ {A = ℕ} 0 1 = cc in
                  absurd (omega arith)

  pub walks_settled : (at : ℕ) → f at ≡ g at
  walks_settled at = walks_from (length s) at (omega arith)

-- Coverage of a store by a knowledge. For a valid store and a knowledge that is read, it gives how many of the store's
-- records have a change version that the knowledge contains, each record counted once and by its own numbers; how many
-- records there are; and the first of these as thousandths of the second, to the nearest, an exact half going up, and
-- 1000 where there is no record. Of c among n that is said over whole numbers: the figure t has n * 2t at most n above
-- 2000 * c, and less than n below it. Both bounds are those of one division. Else the call is refused, by 15 for the
-- store before the knowledge's own fault.
use Prim.Native.Nat.{ℕ, suc, ◌+◌, ◌*◌, ◌/◌, ◌≤◌, ◌<◌}
use mathlib.Core.Path.{◌≡◌, refl, sym, ap, ap₂, ◌∙◌}
use mathlib.Core.Bool.{Bool, true, false}
use mathlib.Core.Logic.{◌⊎◌, inl, inr, ◌↔◌}
use mathlib.Core.List.{List, [], ◌∷◌}
use native.Mathlib.Omega.{arith}
use native.Mathlib.Nat.{div-mul-le_self, lt-div-mul-add, mul-add, mul_comm, mul_assoc}
use lib.ListN.{length}
use borrow.Author.Tests.{eq-eqb, ne_eqb}
use Rattle.codec.specs.Reply.{first_fault}
use Rattle.codec.proofs.Replies.{fault_none}
use Rattle.layout.specs.Knowledge.{Rules, Knowledge}
use Rattle.layout.specs.Parse.{parse}
use Rattle.ticks.specs.Meaning.{known, contains}
use Rattle.ticks.specs.Calls.{read_as}
use Rattle.ticks.proofs.Algebra.{contains_yes, contains_exact}
use Rattle.codec.proofs.Replies.{read_fault, read_fine}
use Rattle.replication.specs.Formats.{Store}
use Rattle.replication.specs.OpenStore.{open_store}
use Rattle.replication.specs.Calls.{store_or}
use Rattle.replication.specs.Queries.{coverage_number, coverage_contained, coverage_all, coverage_thousandths, count_in, thousandths, coverage_answer}
use Rattle.replication.specs.Coverage.{Coverage}
use Rattle.replication.specs.Coverage as G
use Rattle.replication.specs.Record.{Rec}
use Rattle.codec.specs.Parsed.{own_fault, read_or, Parsed, accepted, refused}

-- ---- counting

-- the knowledge contains the record's change version
abbrev pub ContainsChange : Knowledge → Rec → Type 0
ContainsChange k r = (1 ≤ r.change_tick) × (r.change_tick ≤ known k r.item r.change_replica)

contains_not : (k : Knowledge) (r : Rec) → (ContainsChange k r → ⊥) → contains k r.item r.change_replica r.change_tick ≡ false
contains_not k r h = go (contains k r.item r.change_replica r.change_tick) refl
  where
    go : (t : Bool) → contains k r.item r.change_replica r.change_tick ≡ t → t ≡ false
    go true e = absurd (h ((contains_exact k r.item r.change_replica r.change_tick).0 e))
    go false e = refl

pub count-nil : (k : Knowledge) → count_in k [] ≡ 0
unfolding count_in
count-nil k = refl

pub count_unknown : (k : Knowledge) (r : Rec) (rs : List Rec) → (ContainsChange k r → ⊥) → count_in k (r ∷ rs) ≡ count_in k rs
unfolding count_in
count_unknown k r rs h = ap (λ b. elim b [ true ↦ suc (count_in k rs) | false ↦ count_in k rs ]) (contains_not k r h)

pub count_known : (k : Knowledge) (r : Rec) (rs : List Rec) → ContainsChange k r → count_in k (r ∷ rs) ≡ suc (count_in k rs)
unfolding count_in
count_known k r rs h = rw (contains_yes k r.item r.change_replica r.change_tick h.0 h.1, count_in)

-- by the test itself, for code
pub count_in_lem : (k : Knowledge) (r : Rec) (rs : List Rec) → contains k r.item r.change_replica r.change_tick ≡ true
    → count_in k (r ∷ rs) ≡ suc (count_in k rs)
unfolding count_in
count_in_lem k r rs e = rw (e, count_in)

pub count_out : (k : Knowledge) (r : Rec) (rs : List Rec) → contains k r.item r.change_replica r.change_tick ≡ false
    → count_in k (r ∷ rs) ≡ count_in k rs
unfolding count_in
count_out k r rs e = rw (e, count_in)

-- n of the records have a change version that the knowledge contains
pub data Counts (k : Knowledge) : List Rec → ℕ → Type 0 where
  counts-nil : Counts k [] 0
  counts_in : (r : Rec) (rs : List Rec) (n : ℕ) → ContainsChange k r → Counts k rs n → Counts k (r ∷ rs) (suc n)
  counts_out : (r : Rec) (rs : List Rec) (n : ℕ) → (ContainsChange k r → ⊥) → Counts k rs n → Counts k (r ∷ rs) n

pub counted : (k : Knowledge) (rs : List Rec) → Counts k rs (count_in k rs)
counted k [] = rw (count-nil k) counts-nil
counted k (r ∷ rs) = go (contains k r.item r.change_replica r.change_tick) refl (counted k rs)
  where
    go : (t : Bool) → contains k r.item r.change_replica r.change_tick ≡ t → Counts k rs (count_in k rs) → Counts k (r ∷ rs) (count_in k (r ∷ rs))
    go true e i =
        let h : ContainsChange k r = (contains_exact k r.item r.change_replica r.change_tick).0 e in
        rw (count_known k r rs h) (counts_in r rs (count_in k rs) h i)
    go false e i =
        let h : ContainsChange k r → ⊥ = λ (w : ContainsChange k r). let z : ◌≡◌ {A = ℕ} 0 1 = cc (contains_yes k r.item r.change_replica r.change_tick w.0 w.1) in omega arith in
        rw (count_unknown k r rs h) (counts_out r rs (count_in k rs) h i)

-- there is one such number
pub counts_one : {k : Knowledge} {rs : List Rec} {n : ℕ} → Counts k rs n → n ≡ count_in k rs
counts_one {k} counts-nil = sym (count-nil k)
counts_one {k} (counts_in r rs n h c) = ap suc (counts_one c) ∙ sym (count_known k r rs h)
counts_one {k} (counts_out r rs n h c) = counts_one c ∙ sym (count_unknown k r rs h)

-- ---- thousandths

pub twice_times : (n t : ℕ) → 2 * n * t ≡ n * (2 * t)
twice_times n t = ap (λ (m : ℕ). m * t) (mul_comm 2 n) ∙ mul_assoc n 2 t

pub thousandths_none : (inside all : ℕ) → all ≡ 0 → thousandths inside all ≡ 1000
unfolding thousandths
thousandths_none inside all e = rw (eq-eqb all 0 e, thousandths)

pub thousandths_some : (inside all : ℕ) → 0 < all → thousandths inside all ≡ (2000 * inside + all) / (2 * all)
unfolding thousandths
thousandths_some inside all h = rw (ne_eqb all 0 (omega arith), thousandths)

-- the bounds of one division by twice a number, as products of that number
halves : (k n : ℕ) → 0 < n → (n * (2 * (k / (2 * n))) ≤ k) × (k < n * (2 * (k / (2 * n)) + 2))
halves k n h =
    let q = k / (2 * n) in
    let e = mul_comm q (2 * n) ∙ twice_times n q in (
      omega (arith, div-mul-le_self k (2 * n), e),
      omega (arith, lt-div-mul-add {a = k} {b = 2 * n} (omega arith), e, mul-add n (2 * q) 2),
    )

-- at most a half is added
pub thousandths_low : (inside all : ℕ) → 0 < all → all * (2 * thousandths inside all) ≤ 2000 * inside + all
thousandths_low inside all h = rw (thousandths_some inside all h) (halves (2000 * inside + all) all h).0

-- and less than a half is left out, so that an exact half goes up
pub thousandths_high : (inside all : ℕ) → 0 < all → 2000 * inside + all < all * (2 * thousandths inside all + 2)
thousandths_high inside all h = rw (thousandths_some inside all h) (halves (2000 * inside + all) all h).1

-- ---- the call

-- what the call says, with document 01's number and values, for the knowledge k and the store's records
pub record CoverageIs (k : Knowledge) (rs : List Rec) (a : Coverage) : Type 0 where
  pub inside : ℕ
  pub rate : ℕ
  pub is : a ≡ G.Covered inside (length rs) rate
  pub counts : Counts k rs inside
  pub no_records : length rs ≡ 0 → rate ≡ 1000
  pub low : 0 < length rs → length rs * (2 * rate) ≤ 2000 * inside + length rs
  pub high : 0 < length rs → 2000 * inside + length rs < length rs * (2 * rate + 2)
  pub number : coverage_number a ≡ 0
  pub contained : (old : ℕ) → coverage_contained a old ≡ inside
  pub all : (old : ℕ) → coverage_all a old ≡ length rs
  pub thousandths : (old : ℕ) → coverage_thousandths a old ≡ rate

-- a refusal: its number, and no value changes
pub record NoCoverage (n : ℕ) (a : Coverage) : Type 0 where
  pub is : a ≡ G.Refused n
  pub number : coverage_number a ≡ n
  pub contained : (old : ℕ) → coverage_contained a old ≡ old
  pub all : (old : ℕ) → coverage_all a old ≡ old
  pub thousandths : (old : ℕ) → coverage_thousandths a old ≡ old

coverage_is : (k : Knowledge) (rs : List Rec) (a : Coverage) → a ≡ G.Covered (count_in k rs) (length rs) (thousandths (count_in k rs) (length rs)) → CoverageIs k rs a
unfolding coverage_number coverage_contained coverage_all coverage_thousandths
coverage_is k rs a e = record {
  inside = count_in k rs;
  rate = thousandths (count_in k rs) (length rs);
  is = e;
  counts = counted k rs;
  no_records = thousandths_none (count_in k rs) (length rs);
  low = thousandths_low (count_in k rs) (length rs);
  high = thousandths_high (count_in k rs) (length rs);
  number = ap coverage_number e;
  contained = λ old. ap (λ (c : Coverage). coverage_contained c old) e;
  all = λ old. ap (λ (c : Coverage). coverage_all c old) e;
  thousandths = λ old. ap (λ (c : Coverage). coverage_thousandths c old) e;
}

no_coverage : (n : ℕ) (a : Coverage) → a ≡ G.Refused n → NoCoverage n a
unfolding coverage_number coverage_contained coverage_all coverage_thousandths
no_coverage n a e = record {
  is = e;
  number = ap coverage_number e;
  contained = λ old. ap (λ (c : Coverage). coverage_contained c old) e;
  all = λ old. ap (λ (c : Coverage). coverage_all c old) e;
  thousandths = λ old. ap (λ (c : Coverage). coverage_thousandths c old) e;
}

measured : Knowledge → List Rec → Coverage
measured k rs = G.Covered (count_in k rs) (length rs) (thousandths (count_in k rs) (length rs))

told : Parsed Store → Parsed Knowledge → Coverage
told o p = first_fault G.Refused (own_fault o ∷ own_fault p ∷ []) (measured (read_as p) (store_or o).records)

told_is : (R : Rules) (s t : List ℕ) (o : Parsed Store) (p : Parsed Knowledge) → open_store R.limits s ≡ o → parse R t ≡ p → coverage_answer R s t ≡ told o p
unfolding coverage_answer told measured
told_is R s t o p e f = ap₂ told e f

told_store : (n : ℕ) (p : Parsed Knowledge) → told (refused n) p ≡ G.Refused n
unfolding told
told_store n p = read_fault Store G.Refused n (own_fault p ∷ []) (measured (read_as p) (store_or (refused n)).records)

told_own : (st : Store) (n : ℕ) → told (accepted st) (refused n) ≡ G.Refused n
unfolding told
told_own st n =
    let found = measured (read_as (refused n)) (store_or (accepted st)).records in
    read_fine G.Refused st (own_fault (refused n) ∷ []) found ∙ read_fault Knowledge G.Refused n [] found

told_measured : (st : Store) (k : Knowledge) → told (accepted st) (accepted k) ≡ measured k st.records
unfolding told read_or
told_measured st k =
    let found = measured k st.records in
    read_fine G.Refused st (own_fault (accepted k) ∷ []) found ∙ read_fine G.Refused k [] found ∙ fault_none G.Refused [] found tt

-- the same as numbers, for code
pub coverage_found : (R : Rules) (s t : List ℕ) (st : Store) (k : Knowledge) → open_store R.limits s ≡ accepted st → parse R t ≡ accepted k
    → (inside all : ℕ) → inside ≡ count_in k st.records → all ≡ length st.records
    → coverage_answer R s t ≡ G.Covered inside all (thousandths inside all)
unfolding measured
coverage_found R s t st k o p inside all e f =
    told_is R s t (accepted st) (accepted k) o p
    ∙ told_measured st k
    ∙ ap₂ (λ (i a : ℕ). G.Covered i a (thousandths i a)) (sym e) (sym f)

-- the coverage, where nothing is refused
pub coverage_exact : (R : Rules) (s t : List ℕ) (st : Store) (k : Knowledge) → open_store R.limits s ≡ accepted st → parse R t ≡ accepted k → CoverageIs k st.records (coverage_answer R s t)
unfolding measured
coverage_exact R s t st k o p =
    coverage_is k st.records (coverage_answer R s t) (told_is R s t (accepted st) (accepted k) o p ∙ told_measured st k)

-- the store's own number, then the knowledge's
pub coverage_store : (R : Rules) (s t : List ℕ) (n : ℕ) → open_store R.limits s ≡ refused n → NoCoverage n (coverage_answer R s t)
coverage_store R s t n o = no_coverage n (coverage_answer R s t) (told_is R s t (refused n) (parse R t) o refl ∙ told_store n (parse R t))

pub coverage_own : (R : Rules) (s t : List ℕ) (st : Store) (n : ℕ) → open_store R.limits s ≡ accepted st → parse R t ≡ refused n → NoCoverage n (coverage_answer R s t)
coverage_own R s t st n o p = no_coverage n (coverage_answer R s t) (told_is R s t (accepted st) (refused n) o p ∙ told_own st n)

-- and on no other condition
pub coverage_refused : (R : Rules) (s t : List ℕ) (n : ℕ) → (coverage_answer R s t ≡ G.Refused n) ↔
    ((open_store R.limits s ≡ refused n) ⊎ (((st : Store) × (open_store R.limits s ≡ accepted st)) × (parse R t ≡ refused n)))
coverage_refused R s t n = (go (open_store R.limits s) (parse R t) refl refl, back)
  where
    go : (o : Parsed Store) (p : Parsed Knowledge) → open_store R.limits s ≡ o → parse R t ≡ p → coverage_answer R s t ≡ G.Refused n
        → (open_store R.limits s ≡ refused n) ⊎ (((st : Store) × (open_store R.limits s ≡ accepted st)) × (parse R t ≡ refused n))
    go (refused m) p e f h =
        let w = (coverage_store R s t m e).is in
        let q : m ≡ n = cc in
        inl (e ∙ ap refused q)
    go (accepted st) (refused m) e f h =
        let w = (coverage_own R s t st m e f).is in
        let q : m ≡ n = cc in
        inr ((st, e), f ∙ ap refused q)
    go (accepted st) (accepted k) e f h =
        let w = (coverage_exact R s t st k e f).is in
        absurd (let z : ◌≡◌ {A = ℕ} 0 1 = cc in omega arith)

    back : (open_store R.limits s ≡ refused n) ⊎ (((st : Store) × (open_store R.limits s ≡ accepted st)) × (parse R t ≡ refused n)) → coverage_answer R s t ≡ G.Refused n
    back (inl h) = (coverage_store R s t n h).is
    back (inr h) = (coverage_own R s t h.0.0 n h.0.1 h.1).is

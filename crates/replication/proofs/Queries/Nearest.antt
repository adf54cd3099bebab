-- The figure of a coverage is the whole number nearest to 1000 × c / n, for c contained of n records, and of two that are equally
-- near the larger. No fraction is spoken of: a whole number u stands at 2 * n * u, and 1000 × c / n at 2000 * c. The bounds of the
-- figure put it at most n above 2000 * c and less than n below. Any other number stands 2 * n or more from it, so one below is n or
-- more away, and one above is more than n away. At most one number is nearest in this sense, and at most one has both bounds.
use Prim.Native.Nat.{ℕ, ◌+◌, ◌-◌, ◌*◌, ◌≤◌, ◌<◌}
use mathlib.Core.Path.{◌≡◌, refl, sym, ap, subst, ◌∙◌}
use mathlib.Core.Logic.{◌↔◌}
use mathlib.Core.List.{List}
use native.Mathlib.Omega.{arith}
use native.Mathlib.Nat.{mul-le-mul_left, mul-add, le_antisymm}
use lib.ListN.{length}
use Rattle.codec.specs.Number.{Bytes}
use Rattle.codec.specs.Parsed.{accepted}
use Rattle.layout.specs.Knowledge.{Rules, Knowledge, All, base, basic}
use Rattle.layout.specs.Permitted.{Permitted}
use Rattle.layout.specs.Parse.{parse}
use Rattle.layout.proofs.Exact.{base_permitted}
use Rattle.ticks.proofs.Lists.{less, same, more, order}
use Rattle.replication.specs.Record.{Rec}
use Rattle.replication.specs.Formats.{Store}
use Rattle.replication.specs.OpenStore.{open_store}
use Rattle.replication.specs.Queries.{thousandths, coverage_thousandths, coverage_answer}
use Rattle.replication.specs.Coverage.{Coverage}
use Rattle.replication.proofs.Contents.Valid.{store_exact}
use Rattle.replication.proofs.Queries.Coverage.{ContainsChange, Counts, counts-nil, counts_in, counts_out, CoverageIs, coverage_exact}
use Rattle.replication.proofs.Queries.Coverage.{twice_times, thousandths_none, thousandths_low, thousandths_high}

-- ---- the bounds settle the figure

-- with these bounds, the figure of a smaller number s is not above that of a larger one m
pub figure_rises : (n s m t u : ℕ) → n * (2 * t) ≤ s → s ≤ m → m < n * (2 * u + 2) → t ≤ u
figure_rises n s m t u l e h =
    elim (order t u) [
      | less d ↦ omega arith
      | same d ↦ omega arith
      | more d ↦ let f : 2 * u + 2 ≤ 2 * t = omega arith in absurd (omega (arith, mul-le-mul_left n f, l, e, h))
    ]

-- two numbers that have both bounds are equal
pub figure_settled : (c n t u : ℕ) → n * (2 * t) ≤ 2000 * c + n → 2000 * c + n < n * (2 * t + 2)
    → n * (2 * u) ≤ 2000 * c + n → 2000 * c + n < n * (2 * u + 2) → t ≡ u
figure_settled c n t u l h m k =
    let s = 2000 * c + n in
    le_antisymm (figure_rises n s s t u l (omega arith) k) (figure_rises n s s u t m (omega arith) h)

-- ---- the nearest

-- how far apart two numbers are, whichever is the larger
unfoldable pub distance : ℕ → ℕ → ℕ
distance a b = (a - b) + (b - a)

-- t is the whole number nearest to 1000 × c / n, "an exact half going up"
pub record Nearest (c n t : ℕ) : Type 0 where
  pub near : (u : ℕ) → distance (2 * n * t) (2000 * c) ≤ distance (2 * n * u) (2000 * c)
  pub larger : (u : ℕ) → distance (2 * n * u) (2000 * c) ≡ distance (2 * n * t) (2000 * c) → u ≤ t

-- there is at most one
pub nearest_settled : (c n t u : ℕ) → Nearest c n t → Nearest c n u → t ≡ u
nearest_settled c n t u x y =
    let e : distance (2 * n * t) (2000 * c) ≡ distance (2 * n * u) (2000 * c) = le_antisymm (x.near u) (y.near t) in
    le_antisymm (y.larger t e) (x.larger u (sym e))

-- a larger whole number stands 2 * n or more above
apart : (n t u : ℕ) → t < u → n * (2 * t) + 2 * n ≤ n * (2 * u)
apart n t u h =
    let e : 2 * t + 2 ≤ 2 * u = omega arith in
    omega (arith, mul-le-mul_left n e, mul-add n (2 * t) 2)

module _ (c n t : ℕ) (low : n * (2 * t) ≤ 2000 * c + n) (high : 2000 * c + n < n * (2 * t + 2)) where
  below : (u : ℕ) → u < t → distance (2 * n * t) (2000 * c) ≤ distance (2 * n * u) (2000 * c)
  unfolding distance
  below u d = omega (arith, low, high, twice_times n t, twice_times n u, apart n u t d, mul-add n (2 * t) 2)

  above : (u : ℕ) → t < u → distance (2 * n * t) (2000 * c) < distance (2 * n * u) (2000 * c)
  unfolding distance
  above u d = omega (arith, low, high, twice_times n t, twice_times n u, apart n t u d, mul-add n (2 * t) 2)

  none_nearer : (u : ℕ) → distance (2 * n * t) (2000 * c) ≤ distance (2 * n * u) (2000 * c)
  none_nearer u =
      elim (order u t) [
        | less d ↦ below u d
        | same d ↦ omega (arith, ap (λ (v : ℕ). distance (2 * n * v) (2000 * c)) d)
        | more d ↦ omega (arith, above u d)
      ]

  not_above : (u : ℕ) → distance (2 * n * u) (2000 * c) ≡ distance (2 * n * t) (2000 * c) → u ≤ t
  not_above u e =
      elim (order u t) [
        | less d ↦ omega arith
        | same d ↦ omega arith
        | more d ↦ absurd (omega (arith, above u d, e))
      ]

  pub bounds_nearest : Nearest c n t
  bounds_nearest =
      record {
        near = none_nearer;
        larger = not_above;
      }

-- such is the figure
pub nearest : (c n : ℕ) → 0 < n → Nearest c n (thousandths c n)
nearest c n h = bounds_nearest c n (thousandths c n) (thousandths_low c n h) (thousandths_high c n h)

-- and no other number
pub nearest_exact : (c n t : ℕ) → 0 < n → Nearest c n t ↔ (t ≡ thousandths c n)
nearest_exact c n t h = (
  (λ x. nearest_settled c n t (thousandths c n) x (nearest c n h)),
  (λ e. rw e (nearest c n h)),
)

-- ---- the ends

-- where nothing is contained, of one record or more, it is 0
pub thousandths_nothing : (n : ℕ) → 0 < n → thousandths 0 n ≡ 0
thousandths_nothing n h =
    figure_settled 0 n (thousandths 0 n) 0 (thousandths_low 0 n h) (thousandths_high 0 n h) (omega arith) (omega arith)

-- it never falls as more is contained
pub thousandths_rises : (c d n : ℕ) → c ≤ d → thousandths c n ≤ thousandths d n
thousandths_rises c d n e =
    elim (order 0 n) [
      | less h ↦ figure_rises n (2000 * c + n) (2000 * d + n) _ _ (thousandths_low c n h) (omega arith) (thousandths_high d n h)
      | same h ↦ omega (arith, thousandths_none c n (sym h), thousandths_none d n (sym h))
      | more h ↦ absurd (omega arith)
    ]

-- where everything is contained it is 1000, without a record too, and it is never above
pub thousandths_everything : (n : ℕ) → thousandths n n ≡ 1000
thousandths_everything n =
    elim (order 0 n) [
      | less h ↦ figure_settled n n (thousandths n n) 1000 (thousandths_low n n h) (thousandths_high n n h) (omega arith) (omega arith)
      | same h ↦ thousandths_none n n (sym h)
      | more h ↦ absurd (omega arith)
    ]

pub thousandths_most : (c n : ℕ) → c ≤ n → thousandths c n ≤ 1000
thousandths_most c n h = omega (arith, thousandths_rises c n n h, thousandths_everything n)

-- ---- of a call

-- as many are counted as there are exactly where each is
pub counts_most : {k : Knowledge} {rs : List Rec} {n : ℕ} → Counts k rs n → n ≤ length rs
counts_most counts-nil = omega arith
counts_most (counts_in r rs n h c) = omega (arith, counts_most c)
counts_most (counts_out r rs n h c) = omega (arith, counts_most c)

counts_each : {k : Knowledge} {rs : List Rec} {n : ℕ} → Counts k rs n → n ≡ length rs → All (ContainsChange k) rs
counts_each counts-nil e = tt
counts_each (counts_in r rs n h c) e = (h, counts_each c (omega arith))
counts_each (counts_out r rs n h c) e = absurd (omega (arith, counts_most c))

each_counts : {k : Knowledge} {rs : List Rec} {n : ℕ} → Counts k rs n → All (ContainsChange k) rs → n ≡ length rs
each_counts counts-nil h = refl
each_counts (counts_in r rs n h c) a = omega (arith, each_counts c a.1)
each_counts (counts_out r rs n h c) a = absurd (h a.0)

module _ (k : Knowledge) (rs : List Rec) (a : Coverage) (x : CoverageIs k rs a) where
  pub coverage_nearest : 0 < length rs → Nearest x.inside (length rs) x.rate
  coverage_nearest h = bounds_nearest x.inside (length rs) x.rate (x.low h) (x.high h)

  pub coverage_most : x.rate ≤ 1000
  coverage_most =
      elim (order 0 (length rs)) [
        | less h ↦
            let n = length rs in
            let c = counts_most x.counts in
            figure_rises n (2000 * x.inside + n) (2000 * n + n) x.rate 1000 (x.low h) (omega (arith, c)) (omega (arith, h))
        | same h ↦ omega (arith, x.no_records (sym h))
        | more h ↦ absurd (omega arith)
      ]

  -- one record of 2000 is half a thousandth; of fewer records only all are 1000
  complete : length rs < 2000 → (x.rate ≡ 1000) ↔ (x.inside ≡ length rs)
  complete few =
      elim (order 0 (length rs)) [
        | less h ↦
            let n = length rs in (
              (λ e. omega (arith, few, counts_most x.counts, subst (λ (t : ℕ). n * (2 * t) ≤ 2000 * x.inside + n) e (x.low h))),
              (λ e.
                  let low = subst (λ (c : ℕ). n * (2 * x.rate) ≤ 2000 * c + n) e (x.low h) in
                  let high = subst (λ (c : ℕ). 2000 * c + n < n * (2 * x.rate + 2)) e (x.high h) in
                  figure_settled n n x.rate 1000 low high (omega arith) (omega arith)),
            )
        | same h ↦ ((λ _. omega (arith, counts_most x.counts)), λ _. x.no_records (sym h))
        | more h ↦ absurd (omega arith)
      ]

-- 1000 is said exactly where each record is contained, since no store that opens has 2000 records
pub coverage_full : (R : Rules) → Permitted R.limits → R.limits.records < 2000 → (s t : List ℕ) → Bytes s
    → (st : Store) (k : Knowledge) → open_store R.limits s ≡ accepted st → parse R t ≡ accepted k
    → (old : ℕ) → (coverage_thousandths (coverage_answer R s t) old ≡ 1000) ↔ All (ContainsChange k) st.records
coverage_full R permitted few s t bytes st k o p old =
    let x = coverage_exact R s t st k o p in
    let most = ((store_exact R.limits s st permitted bytes).0 o).1.count in
    let c = complete k st.records (coverage_answer R s t) x (omega (arith, most)) in (
      (λ e. counts_each x.counts (c.0 (sym (x.thousandths old) ∙ e))),
      (λ e. x.thousandths old ∙ c.1 (each_counts x.counts e)),
    )

-- document 01's limits are such
pub coverage_full_basic : (s t : List ℕ) → Bytes s → (st : Store) (k : Knowledge) → open_store base s ≡ accepted st
    → parse basic t ≡ accepted k
    → (old : ℕ) → (coverage_thousandths (coverage_answer basic s t) old ≡ 1000) ↔ All (ContainsChange k) st.records
coverage_full_basic = coverage_full basic base_permitted (omega arith)

-- ---- computed: the paper's figures, the ends, thirds, and beyond a store's records exact halves and just less than one
pub figures : (thousandths 1 16 ≡ 63)
    × ((thousandths 3 16 ≡ 188)
    × ((thousandths 0 16 ≡ 0)
    × ((thousandths 16 16 ≡ 1000)
    × ((thousandths 0 0 ≡ 1000)
    × ((thousandths 1 3 ≡ 333)
    × ((thousandths 2 3 ≡ 667) × ((thousandths 1 2000 ≡ 1) × ((thousandths 1 2001 ≡ 0) × (thousandths 3 2000 ≡ 2)))))))))
unfolding thousandths
figures = (refl, (refl, (refl, (refl, (refl, (refl, (refl, (refl, (refl, refl)))))))))

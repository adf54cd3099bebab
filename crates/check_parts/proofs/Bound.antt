-- Ranges: a range is a bound and an index, looked at in that order.
use mathlib.Core.Path.{◌≡◌, refl, sym, ap, ◌∙◌}
use mathlib.Core.Bool.{Bool, true, false}
use mathlib.Core.List.{List}
use Prim.Native.Nat.{ℕ, suc, ◌+◌, ◌<◌, ◌≤◌}
use native.Mathlib.Omega.{arith}
use borrow.Author.Tests.{lt-ltb, le-ltb, le-leb, lt-leb, ltb-true, ltb-false, leb-true, leb-false}
use lib.Dec.{leb, ltb}
use lib.ListN.{length}
use Rattle.codec.specs.Number.{be_at}
use Rattle.layout.specs.Got.{Num, Fault}
use Rattle.layout.specs.Read.{◌▷◌, index, range}
use Rattle.check_fields.proofs.Steps.{number_there, number_short}

-- ---- a range

module _ (s : List ℕ) (v low at : ℕ) where
  pub bound_cut : length s < at + 24 → Fault 1 ≡ range s v low at
  unfolding range
  bound_cut h = sym (rw (number_short s 24 low at h))

  pub bound_low : at + 24 ≤ length s → be_at s 24 at < low → Fault 8 ≡ range s v low at
  unfolding range
  bound_low h l = sym (rw (number_there s 24 low at h, lt-leb low (be_at s 24 at) l, ◌▷◌))

  module _ (h : at + 24 ≤ length s) (l : low ≤ be_at s 24 at) where
    bound_good : range s v low at ≡ index s v (suc (be_at s 24 at)) (at + 24)
    unfolding range
    bound_good = rw (number_there s 24 low at h, le-leb low (be_at s 24 at) l, ◌▷◌)

    pub index_cut : length s < at + 28 → Fault 1 ≡ range s v low at
    unfolding index
    index_cut t = sym (bound_good ∙ rw (number_short s 4 (suc (be_at s 24 at)) (at + 24) (omega arith)))

    pub index_high : at + 28 ≤ length s → v ≤ be_at s 4 (at + 24) → Fault 9 ≡ range s v low at
    unfolding index
    index_high t u =
        sym (bound_good ∙ rw (number_there s 4 (suc (be_at s 24 at)) (at + 24) (omega arith), le-ltb (be_at s 4 (at + 24)) v u, ◌▷◌))

    pub range_good : at + 28 ≤ length s → be_at s 4 (at + 24) < v → Num (suc (be_at s 24 at)) (at + 28) ≡ range s v low at
    unfolding index
    range_good t u =
        let p : at + 28 ≡ at + 24 + 4 = omega arith in
        ap (λ (b : ℕ). Num (suc (be_at s 24 at)) b) p
        ∙ sym (bound_good ∙ rw (number_there s 4 (suc (be_at s 24 at)) (at + 24) (omega arith), lt-ltb (be_at s 4 (at + 24)) v u, ◌▷◌))

    pub range_read : (x : ℕ) → at + 28 ≤ length s → be_at s 4 (at + 24) < v → x ≡ be_at s 24 at → Num (suc x) (at + 28) ≡ range s v low at
    range_read x t u e = ap (λ (y : ℕ). Num (suc y) (at + 28)) e ∙ range_good t u

-- a range that was read is one range further, inside the bytes
pub record Passed (s : List ℕ) (at b : ℕ) : Type 0 where
  pub place : b ≡ at + 28
  pub inside : b ≤ length s

pub range_went : (s : List ℕ) (v low at x b : ℕ) → Num x b ≡ range s v low at → Passed s at b
range_went s v low at x b e =
    by_case
    (leb (at + 24) (length s))
    refl
    (leb low (be_at s 24 at))
    refl
    (leb (at + 28) (length s))
    refl
    (ltb (be_at s 4 (at + 24)) v)
    refl
  where
    never : (n : ℕ) → Fault n ≡ range s v low at → ⊥
    never n f = cc

    by_case :
        (h : Bool)
        → leb (at + 24) (length s) ≡ h
        → (l : Bool)
        → leb low (be_at s 24 at) ≡ l
        → (m : Bool)
        → leb (at + 28) (length s) ≡ m
        → (n : Bool)
        → ltb (be_at s 4 (at + 24)) v ≡ n
        → Passed s at b
    by_case false h l l' m m' n n' = absurd (never 1 (bound_cut s v low at (leb-false _ _ h)))
    by_case true h false l m m' n n' = absurd (never 8 (bound_low s v low at (leb-true _ _ h) (leb-false _ _ l)))
    by_case true h true l false m n n' =
        absurd (never 1 (index_cut s v low at (leb-true _ _ h) (leb-true _ _ l) (leb-false _ _ m)))
    by_case true h true l true m false n =
        absurd (never 9 (index_high s v low at (leb-true _ _ h) (leb-true _ _ l) (leb-true _ _ m) (ltb-false _ _ n)))
    by_case true h true l true m true n =
        let q = range_good s v low at (leb-true _ _ h) (leb-true _ _ l) (leb-true _ _ m) (ltb-true _ _ n) in
        let o : b ≡ at + 28 = cc q in
        let k : at + 28 ≤ length s = leb-true _ _ m in
        record { place = o; inside = omega arith }

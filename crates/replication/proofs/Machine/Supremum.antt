-- The largest of the machine's known ticks: it is at least every known tick, and it is one of them or 0. Both are shown
-- for a supremum over any number of places, by induction on that number, so that nothing is computed at the number of
-- all ids. Also: the machine's number of bytes is the number that the layout reads.
use Prim.Native.Nat.{ℕ, zero, suc, ◌+◌, ◌*◌, ◌^◌, ◌≤◌, ◌<◌, max, zero-le}
use mathlib.Core.Path.{◌≡◌, refl, sym, ◌∙◌, ap}
use mathlib.Core.Logic.{◌⊎◌, inl, inr}
use mathlib.Core.Bool.{Bool, true, false}
use mathlib.Core.List.{List, [], ◌∷◌}
use native.Mathlib.Nat.{le_trans, le_antisymm}
use native.Mathlib.Numerals.{add-one}
use native.Mathlib.Omega.{arith}
use lib.Dec.{ltb}
use lib.ListN.{length, get_or}
use borrow.Author.Tests.{ltb-true, ltb-false}
use Rattle.codec.specs.Number.{be_from, be_at}
use Rattle.replication.specs.Machine.{Ticks, value, supremum, largest_known}

-- ---- numbers of bytes

value-nil : (acc : ℕ) → value acc [] ≡ acc
unfolding value
value-nil acc = refl

value-cons : (acc b : ℕ) (bs : List ℕ) → value acc (b ∷ bs) ≡ value (acc * 256 + b) bs
unfolding value
value-cons acc b bs = refl

-- reading from the second byte on is reading the rest
from_second : (b : ℕ) (bs : List ℕ) (n at acc : ℕ) → be_from (b ∷ bs) n (at + 1) acc ≡ be_from bs n at acc
unfolding be_from
from_second b bs zero at acc = refl
from_second b bs (suc n) at acc =
    from_second b bs n (at + 1) (acc * 256 + get_or (b ∷ bs) (at + 1) 0)
    ∙ ap (λ (x : ℕ). be_from bs n (at + 1) (acc * 256 + x)) (ap (λ (x : ℕ). get_or (b ∷ bs) x 0) (add-one at))

value_from : (acc : ℕ) (bs : List ℕ) → value acc bs ≡ be_from bs (length bs) 0 acc
unfolding be_from
value_from acc [] = value-nil acc
value_from acc (b ∷ bs) = value-cons acc b bs ∙ value_from (acc * 256 + b) bs ∙ sym (from_second b bs (length bs) 0 (acc * 256 + b))

pub value_be : (bs : List ℕ) → value 0 bs ≡ be_at bs (length bs) 0
unfolding be_at
value_be bs = value_from 0 bs

-- ---- suprema

supremum-zero : (f : ℕ → ℕ) → supremum 0 f ≡ 0
unfolding supremum
supremum-zero f = refl

supremum-suc : (n : ℕ) (f : ℕ → ℕ) → supremum (suc n) f ≡ max (supremum n f) (f n)
unfolding supremum
supremum-suc n f = refl

pub supremum_bounds : (n : ℕ) (f : ℕ → ℕ) (x : ℕ) → x < n → f x ≤ supremum n f
supremum_bounds zero f x h = absurd (omega arith)
supremum_bounds (suc n) f x h = go (ltb x n) refl (λ l. supremum_bounds n f x l)
  where
    go : (t : Bool) → ltb x n ≡ t → (x < n → f x ≤ supremum n f) → f x ≤ supremum (suc n) f
    go true e ih = omega (arith, supremum-suc n f, ih (ltb-true x n e))
    go false e ih =
        let same : x ≡ n = omega (arith, ltb-false x n e) in
        omega (arith, supremum-suc n f, ap f same)

pub supremum_attained : (n : ℕ) (f : ℕ → ℕ) → (supremum n f ≡ 0) ⊎ ((x : ℕ) × (x < n) × (f x ≡ supremum n f))
supremum_attained zero f = inl (supremum-zero f)
supremum_attained (suc n) f = go (supremum_attained n f) (ltb (f n) (supremum n f)) refl
  where
    go : (supremum n f ≡ 0) ⊎ ((x : ℕ) × (x < n) × (f x ≡ supremum n f)) → (t : Bool) → ltb (f n) (supremum n f) ≡ t → (supremum (suc n) f ≡ 0) ⊎ ((x : ℕ) × (x < suc n) × (f x ≡ supremum (suc n) f))
    go (inl z) true e = absurd (omega (arith, ltb-true (f n) (supremum n f) e))
    go (inr (x, h, q)) true e = inr (x, omega arith, omega (arith, supremum-suc n f, ltb-true (f n) (supremum n f) e))
    go (inl z) false e = inr (n, omega arith, omega (arith, supremum-suc n f, ltb-false (f n) (supremum n f) e))
    go (inr p) false e = inr (n, omega arith, omega (arith, supremum-suc n f, ltb-false (f n) (supremum n f) e))

-- over two numbers of places
module _ (n m : ℕ) (k : Ticks) where
  both_bounds : (i p : ℕ) → i < n → p < m → k i p ≤ supremum n (λ j. supremum m (λ q. k j q))
  both_bounds i p h l =
      le_trans (supremum_bounds m (λ q. k i q) p l) (supremum_bounds n (λ j. supremum m (λ q. k j q)) i h)

  both_attained : (supremum n (λ j. supremum m (λ q. k j q)) ≡ 0) ⊎ ((i : ℕ) × (p : ℕ) × (i < n) × (p < m) × (k i p ≡ supremum n (λ j. supremum m (λ q. k j q))))
  both_attained = outer (supremum_attained n (λ j. supremum m (λ q. k j q)))
    where
      inner : (i : ℕ) → i < n → supremum m (λ q. k i q) ≡ supremum n (λ j. supremum m (λ q. k j q))
          → (supremum m (λ q. k i q) ≡ 0) ⊎ ((p : ℕ) × (p < m) × (k i p ≡ supremum m (λ q. k i q)))
          → (supremum n (λ j. supremum m (λ q. k j q)) ≡ 0) ⊎
          ((i : ℕ) × (p : ℕ) × (i < n) × (p < m) × (k i p ≡ supremum n (λ j. supremum m (λ q. k j q))))
      inner i h e (inl z) = inl (sym e ∙ z)
      inner i h e (inr (p, l, d)) = inr (i, p, h, l, d ∙ e)

      outer : (supremum n (λ j. supremum m (λ q. k j q)) ≡ 0) ⊎
          ((i : ℕ) × (i < n) × (supremum m (λ q. k i q) ≡ supremum n (λ j. supremum m (λ q. k j q))))
          → (supremum n (λ j. supremum m (λ q. k j q)) ≡ 0) ⊎
          ((i : ℕ) × (p : ℕ) × (i < n) × (p < m) × (k i p ≡ supremum n (λ j. supremum m (λ q. k j q))))
      outer (inl z) = inl z
      outer (inr (i, h, e)) = inner i h e (supremum_attained m (λ q. k i q))

-- ---- the largest known tick

pub largest_known_bounds : (k : Ticks) (i p : ℕ) → i < 256 ^ 24 → p < 256 ^ 16 → k i p ≤ largest_known k
unfolding largest_known
largest_known_bounds k i p h l = both_bounds (256 ^ 24) (256 ^ 16) k i p h l

pub largest_known_attained : (k : Ticks) → (largest_known k ≡ 0) ⊎ ((i : ℕ) × (p : ℕ) × (i < 256 ^ 24) × (p < 256 ^ 16) × (k i p ≡ largest_known k))
unfolding largest_known
largest_known_attained k = both_attained (256 ^ 24) (256 ^ 16) k

-- the largest is known by the two laws: what bounds every tick, and is one of them or 0
pub largest_known_is : (k : Ticks) (x : ℕ) → ((i p : ℕ) → i < 256 ^ 24 → p < 256 ^ 16 → k i p ≤ x) → (x ≡ 0) ⊎ ((i : ℕ) × (p : ℕ) × (i < 256 ^ 24) × (p < 256 ^ 16) × (k i p ≡ x)) → largest_known k ≡ x
largest_known_is k x bounds attained = le_antisymm (most (largest_known_attained k)) (least attained)
  where
    most : (largest_known k ≡ 0) ⊎ ((i : ℕ) × (p : ℕ) × (i < 256 ^ 24) × (p < 256 ^ 16) × (k i p ≡ largest_known k)) → largest_known k ≤ x
    most (inl z) = rw z zero-le
    most (inr (i, p, h, l, e)) = rw (← e) (bounds i p h l)

    least : (x ≡ 0) ⊎ ((i : ℕ) × (p : ℕ) × (i < 256 ^ 24) × (p < 256 ^ 16) × (k i p ≡ x)) → x ≤ largest_known k
    least (inl z) = rw z zero-le
    least (inr (i, p, h, l, e)) = rw (← e) (largest_known_bounds k i p h l)

-- "In order of first use", as document 01's list has it and in a form for induction: with n vectors met so far, each
-- next index is at most n, and at the end all v are met. The two say the same.
use Prim.Native.Nat.{ℕ, suc, ◌+◌, ◌≤◌, ◌<◌, max}
use mathlib.Core.Path.{◌≡◌, refl}
use mathlib.Core.Logic.{inl, inr, ⊎_elim}
use mathlib.Core.List.{List, [], ◌∷◌}
use native.Mathlib.Omega.{arith}
use lib.Dec.{eqb}
use lib.ListN.{length}
use Rattle.layout.specs.Knowledge.{All}
use Rattle.ticks.specs.Meaning.{place}
use Rattle.ticks.proofs.Lists.{Among, less, same, more, order}
use Rattle.ticks.proofs.Equality.{eqb_exact, exact?, place_same, place_other}

abbrev pub FirstUse : ℕ → List ℕ → ℕ → Type 0
FirstUse n [] v = n ≡ v
FirstUse n (x ∷ xs) v = (x ≤ n) × FirstUse (max n (suc x)) xs v

pub met_most : (n : ℕ) (xs : List ℕ) (v : ℕ) → FirstUse n xs v → n ≤ v
met_most n [] v f = omega (arith, f)
met_most n (x ∷ xs) v f = omega (arith, met_most (max n (suc x)) xs v f.1)

-- at most one new vector for each range
pub met_count : (n : ℕ) (xs : List ℕ) (v : ℕ) → FirstUse n xs v → v ≤ n + length xs
met_count n [] v f = omega (arith, f)
met_count n (x ∷ xs) v f = omega (arith, f.0, met_count (max n (suc x)) xs v f.1)

pub first_below : (n : ℕ) (xs : List ℕ) (v : ℕ) → FirstUse n xs v → All (λ x. x < v) xs
first_below n [] v f = tt
first_below n (x ∷ xs) v f =
    (omega (arith, met_most (max n (suc x)) xs v f.1), first_below (max n (suc x)) xs v f.1)

pub first_used : (n : ℕ) (xs : List ℕ) (v y : ℕ) → FirstUse n xs v → n ≤ y → y < v → Among y xs
first_used n [] v y f h k = absurd (omega (arith, f))
first_used n (x ∷ xs) v y f h k =
    elim (exact? eqb eqb_exact y x) [
      | inl e ↦ inl e
      | inr e ↦ inr (first_used (max n (suc x)) xs v y f.1 (omega (arith, f.0, e)) k)
    ]

pub first_order : (n : ℕ) (xs : List ℕ) (v y z : ℕ) → FirstUse n xs v → n ≤ y → y < z → z < v → place y xs < place z xs
first_order n [] v y z f h k l = absurd (omega (arith, f))
first_order n (x ∷ xs) v y z f h k l =
    elim (exact? eqb eqb_exact x y) [
      | inl e ↦ omega (arith, place_same eqb eqb_exact y x xs e, place_other eqb eqb_exact z x xs (λ q. omega arith))
      | inr e ↦
          omega (
            arith,
            place_other eqb eqb_exact y x xs e,
            place_other eqb eqb_exact z x xs (λ q. omega (arith, f.0)),
            first_order (max n (suc x)) xs v y z f.1 (omega (arith, f.0, e)) k l,
          )
    ]

-- the literal condition gives the inductive one
pub first_use_lem : (n : ℕ) (xs : List ℕ) (v : ℕ) → n ≤ v → All (λ x. x < v) xs
    → ((y : ℕ) → n ≤ y → y < v → Among y xs)
    → ((y z : ℕ) → n ≤ y → y < z → z < v → place y xs < place z xs)
    → FirstUse n xs v
first_use_lem n [] v h b u o =
    elim (order n v) [ less k ↦ absurd (u n (omega arith) k) | same k ↦ k | more k ↦ absurd (omega arith) ]
first_use_lem n (x ∷ xs) v h b u o =
    let small : x ≤ n =
    elim (order n x) [
      | less k ↦ absurd (omega (arith, o n x (omega arith) k b.0, place_same eqb eqb_exact x x xs refl))
      | same k ↦ omega arith
      | more k ↦ omega arith
    ] in (
      small,
      first_use_lem (max n (suc x)) xs v (omega (arith, b.0)) b.1
          (λ y k l. ⊎_elim (λ e. absurd (omega arith)) (λ m. m) (u y (omega arith) l))
          (λ y z k l j.
          omega (
            arith,
            o y z (omega arith) l j,
            place_other eqb eqb_exact y x xs (λ e. omega arith),
            place_other eqb eqb_exact z x xs (λ e. omega arith),
          )),
    )

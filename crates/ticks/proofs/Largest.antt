-- The largest tick bounds every known tick and is known somewhere, or is 0. The tick of a replica alike in all ranges is
-- alike for all items.
use Prim.Native.Nat.{ℕ, ◌≤◌, max}
use mathlib.Core.Path.{◌≡◌, refl, sym, ◌∙◌, ap}
use mathlib.Core.Logic.{◌⊎◌, inl, inr, ⊎_elim, ◌↔◌}
use mathlib.Core.Bool.{true, false}
use mathlib.Core.Option.{Option, none}
use mathlib.Core.List.{List, [], ◌∷◌}
use native.Mathlib.Omega.{arith, none}
use lib.Dec.{eqb}
use borrow.Author.Tests.{eq-eqb, ne_eqb}
use Rattle.layout.specs.declared.VectorIndex.{VectorIndex}
use Rattle.layout.specs.Knowledge.{Range, Knowledge, bounds}
use Rattle.ticks.specs.Meaning.{highest, place_by, tick_at, vector_at, known, Sound, vector_found, index_from}
use Rattle.ticks.specs.Operations.{largest_at, largest_from, largest, alike_from, own_alike}
use Rattle.ticks.proofs.Lists.{Among, less, same, more, order, among?, all_among}
use Rattle.ticks.proofs.Equality.{clash, eqb_exact, exact?}
use Rattle.ticks.proofs.Steps.{steady_from}
use Rattle.ticks.proofs.Vectors.{tick-nil}
use Rattle.ticks.proofs.Numbering.{index-nil, index-lt, found_none}
use Rattle.ticks.proofs.Written.{known_in, known_out}
use Rattle.ticks.proofs.Operations.{known_steady, in_map}

-- Every known tick is 0 or known at a bound

index-zero : (found : Option VectorIndex) (xs : List Range) → (Among 0 (bounds xs) → ⊥) → index_from found xs 0 ≡ found
unfolding bounds
index-zero found [] n = index-nil found 0
index-zero found (x ∷ xs) n =
    elim (order 0 x.bound) [ less k ↦ index-lt found x xs 0 k | same k ↦ absurd (n (inl k)) | more k ↦ absurd (omega arith) ]

known-zero : (k : Knowledge) (p : ℕ) → (Among 0 (bounds k.ranges) → ⊥) → known k 0 p ≡ 0
unfolding vector_at
known-zero k p n =
    elim (among? p k.replicas) [
      | inl m ↦
          known_in k 0 p m
          ∙ ap (λ v. tick_at v (place_by eqb p k.replicas))
          (ap (vector_found k.vectors) (index-zero none k.ranges n) ∙ found_none k.vectors)
          ∙ tick-nil (place_by eqb p k.replicas)
      | inr m ↦ known_out k 0 p m
    ]

-- a known tick is that at 0, or at a bound at or below
pub known_from : (k : Knowledge) (i p : ℕ) → (known k i p ≡ known k 0 p) ⊎ ((b : ℕ) × (Among b (bounds k.ranges) × (known k i p ≡ known k b p)))
known_from k i p =
    ⊎_elim (λ e. inl e) (λ w. inr (w.0, (w.1.0, w.1.1.1.1)))
    (steady_from i 0 (bounds k.ranges) (λ j. known k j p) (λ j h l n. known_steady k j p n) i (omega arith) (omega arith))

pub known_at_bound : (k : Knowledge) (i p : ℕ) → (known k i p ≡ 0) ⊎ ((b : ℕ) × (Among b (bounds k.ranges) × (known k i p ≡ known k b p)))
known_at_bound k i p =
    ⊎_elim (λ e. elim (among? 0 (bounds k.ranges)) [ inl m ↦ inr (0, (m, e)) | inr n ↦ inl (e ∙ known-zero k p n) ]) (λ w. inr w) (known_from k i p)

-- The largest tick

module _ (k : Knowledge) where
  pub largest_at_lem : (i p : ℕ) (ps : List ℕ) → Among p ps → known k i p ≤ largest_at k i ps
  unfolding largest_at
  largest_at_lem i p [] m = absurd m
  largest_at_lem i p (q ∷ ps) (inl e) = omega (arith, ap (known k i) e)
  largest_at_lem i p (q ∷ ps) (inr m) = omega (arith, largest_at_lem i p ps m)

  largest_from_lem : (b p : ℕ) (xs : List Range) → Among b (bounds xs) → Among p k.replicas → known k b p ≤ largest_from k xs
  unfolding largest_from bounds
  largest_from_lem b p [] m n = absurd m
  largest_from_lem b p (x ∷ xs) (inl e) n = omega (arith, ap (λ i. known k i p) e, largest_at_lem x.bound p k.replicas n)
  largest_from_lem b p (x ∷ xs) (inr m) n = omega (arith, largest_from_lem b p xs m n)

  -- the largest tick bounds every known tick
  pub largest_bounds : (i p : ℕ) → known k i p ≤ largest k
  unfolding largest
  largest_bounds i p =
      ⊎_elim (λ z. omega arith)
      (λ w. ⊎_elim (λ m. omega (arith, w.1.1, largest_from_lem w.0 p k.ranges w.1.0 m)) (λ z. omega (arith, z)) (in_map k i p))
      (known_at_bound k i p)

  abbrev Attained : ℕ → Type 0
  Attained t = (t ≡ 0) ⊎ ((b : ℕ) × ((p : ℕ) × (Among b (bounds k.ranges) × (known k b p ≡ t))))

  larger_attained : (s t : ℕ) → Attained s → Attained t → Attained (max s t)
  larger_attained s t x y =
      elim (order s t) [
        | less h ↦ let e : max s t ≡ t = omega arith in rw e y
        | same h ↦ let e : max s t ≡ t = omega arith in rw e y
        | more h ↦ let e : max s t ≡ s = omega arith in rw e x
      ]

  attained_at : (b : ℕ) (ps : List ℕ) → Among b (bounds k.ranges) → Attained (largest_at k b ps)
  unfolding largest_at
  attained_at b [] m = inl refl
  attained_at b (q ∷ ps) m = larger_attained (known k b q) (largest_at k b ps) (inr (b, (q, (m, refl)))) (attained_at b ps m)

  attained_from : (xs : List Range) → ((b : ℕ) → Among b (bounds xs) → Among b (bounds k.ranges)) → Attained (largest_from k xs)
  unfolding largest_from bounds
  attained_from [] f = inl refl
  attained_from (x ∷ xs) f =
      larger_attained (largest_at k x.bound k.replicas) (largest_from k xs) (attained_at x.bound k.replicas (f x.bound (inl refl)))
      (attained_from xs (λ b m. f b (inr m)))

  -- and it is known somewhere, or 0
  pub largest_attained : Sound k → (largest k ≡ 0) ⊎ ((i : ℕ) × ((p : ℕ) × ((i ≤ highest) × (known k i p ≡ largest k))))
  unfolding largest
  largest_attained s =
      ⊎_elim (λ z. inl z)
      (λ w. inr (w.0, (w.1.0, (all_among (λ b. b ≤ highest) (bounds k.ranges) s.items w.0 w.1.1.0, w.1.1.1))))
      (attained_from k.ranges (λ b m. m))

  -- Alike in all ranges

  alike_yes : (p t : ℕ) (xs : List Range) → ((b : ℕ) → Among b (bounds xs) → known k b p ≡ t) → alike_from p k t xs ≡ true
  unfolding alike_from bounds
  alike_yes p t [] f = refl
  alike_yes p t (x ∷ xs) f =
      rw (eq-eqb (known k x.bound p) t (f x.bound (inl refl)), alike_from) (alike_yes p t xs (λ b m. f b (inr m)))

  alike-cons : (p t : ℕ) (x : Range) (xs : List Range) → known k x.bound p ≡ t → alike_from p k t (x ∷ xs) ≡ alike_from p k t xs
  unfolding alike_from
  alike-cons p t x xs e = rw (eq-eqb (known k x.bound p) t e, alike_from)

  alike_not : (p t : ℕ) (x : Range) (xs : List Range) → (known k x.bound p ≡ t → ⊥) → alike_from p k t (x ∷ xs) ≡ false
  unfolding alike_from
  alike_not p t x xs n = rw (ne_eqb (known k x.bound p) t n, alike_from)

  alike_true : (p t : ℕ) (xs : List Range) → alike_from p k t xs ≡ true → (b : ℕ) → Among b (bounds xs) → known k b p ≡ t
  unfolding bounds
  alike_true p t [] e b m = absurd m
  alike_true p t (x ∷ xs) e b m =
      elim (exact? eqb eqb_exact (known k x.bound p) t) [
        | inl q ↦ ⊎_elim (λ f. ap (λ i. known k i p) f ∙ q) (alike_true p t xs (sym (alike-cons p t x xs q) ∙ e) b) m
        | inr n ↦ clash (alike_from p k t (x ∷ xs)) e (alike_not p t x xs n)
      ]

  -- the tick of p is alike for all items
  pub record Alike (p : ℕ) : Type 0 where
    pub known : (i j : ℕ) → i ≤ highest → j ≤ highest → known k i p ≡ known k j p

  pub alike_all : (p i : ℕ) → own_alike p k ≡ true → known k i p ≡ known k 0 p
  unfolding own_alike
  alike_all p i e =
      ⊎_elim (λ q. q) (λ w. w.1.1 ∙ alike_true p (known k 0 p) k.ranges e w.0 w.1.0) (known_from k i p)

  pub alike_exact : (p : ℕ) → Sound k → (own_alike p k ≡ true) ↔ Alike p
  unfolding own_alike
  alike_exact p s = (
    (λ e. record { known = λ i j h l. alike_all p i e ∙ sym (alike_all p j e) }),
    (λ a. alike_yes p (known k 0 p) k.ranges
        (λ b m. a.known b 0 (all_among (λ b. b ≤ highest) (bounds k.ranges) s.items b m) (omega arith))),
  )

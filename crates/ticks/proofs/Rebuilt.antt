-- A knowledge that meets the conditions is what numbering gives for its own ranges and their vectors.
use Prim.Native.Nat.{ℕ, zero, suc, ◌≤◌, ◌<◌, max}
use mathlib.Core.Path.{◌≡◌, sym, ◌∙◌, ap, ap₂}
use mathlib.Core.Option.{Option, none, some}
use mathlib.Core.List.{List, [], ◌∷◌, ◌++◌}
use native.Mathlib.Omega.{arith, none}
use lib.ListN.{length, get_or, take}
use lib.Seq.{length-take-le, get_or-take, take-suc, take_all}
use Rattle.layout.specs.declared.VectorIndex.{VectorIndex}
use Rattle.layout.specs.Knowledge.{Element, Range, Knowledge, All, Rising, bounds}
use Rattle.ticks.specs.Meaning.{highest, vector_at, indices, Formed, vector_found, index_from}
use Rattle.ticks.specs.Table.{at}
use Rattle.ticks.specs.Written.{range_with, eq_vector, vector_number, grown, vectors_of, ranges_of, indexed}
use Rattle.ticks.proofs.Lists.{Among, less, same, more, order}
use Rattle.ticks.proofs.Equality.{eq_vector_exact, place_found, place_first}
use Rattle.ticks.proofs.Steps.{Changing, at-nil, at_lt, at-ge}
use Rattle.ticks.proofs.Numbering.{Apart, number-le, grown_old, grown_new, vectors-nil, vectors-cons, ranges-nil, ranges-cons}
use Rattle.ticks.proofs.Numbering.{index-nil, index-lt, index-ge, indices-length, Differ, found_none, found_some}
use Rattle.ticks.proofs.FirstUse.{FirstUse, met_most, first_use_lem}
use Rattle.ticks.proofs.Written.{place_among}

-- the ranges, each with its bound and its vector
unfoldable pub own_steps : List (List Element) → List Range → List (ℕ × List Element)
own_steps vs [] = []
own_steps vs (x ∷ xs) = (x.bound, get_or vs x.index.0 []) ∷ own_steps vs xs

module _ (vs : List (List Element)) (a : Apart vs) (n : ℕ) (most : n ≤ length vs) (x : ℕ) (small : x ≤ n) (low : x < length vs) where
  taken : length (take n vs) ≡ n
  taken = length-take-le n vs most

  -- among the first n vectors, the number of the vector at x is x
  number_own : vector_number (get_or vs x []) (take n vs) ≡ x
  number_own =
      let v = get_or vs x [] in
      let m = vector_number v (take n vs) in
      elim (order m n) [
        | less k ↦
            let e : get_or vs m [] ≡ v =
            sym (get_or-take n vs m [] k) ∙ place_found eq_vector eq_vector_exact v [] (take n vs) (omega (arith, taken)) in
            elim (order m x) [
              | less l ↦ absurd (a.apart m x l low e)
              | same l ↦ l
              | more l ↦ absurd (a.apart x m l (omega arith) (sym e))
            ]
        | same k ↦
            elim (order x n) [
              | less l ↦ absurd (omega (arith, place_first eq_vector eq_vector_exact v [] (take n vs) x (omega (arith, taken)) (get_or-take n vs x [] l)))
              | same l ↦ k ∙ sym l
              | more l ↦ absurd (omega arith)
            ]
        | more k ↦ absurd (omega (arith, number-le v (take n vs), taken))
      ]

  grown_own : grown (take n vs) (get_or vs x []) ≡ take (max n (suc x)) vs
  grown_own =
      elim (order x n) [
        | less l ↦
            let e : n ≡ max n (suc x) = omega arith in
            grown_old (take n vs) (get_or vs x []) (omega (arith, number_own, taken)) ∙ ap (λ m. take m vs) e
        | same l ↦
            let e : suc n ≡ max n (suc x) = omega arith in
            grown_new (take n vs) (get_or vs x []) (number_own ∙ l ∙ sym taken)
            ∙ ap (λ y. take n vs ++ (get_or vs y [] ∷ [])) l ∙ sym (take-suc vs n [] (omega arith)) ∙ ap (λ m. take m vs) e
        | more l ↦ absurd (omega arith)
      ]

module _ (vs : List (List Element)) (a : Apart vs) where
  rebuilt_vectors : (n : ℕ) (xs : List Range) → FirstUse n (indices xs) (length vs) → vectors_of (take n vs) (own_steps vs xs) ≡ vs
  unfolding own_steps indices
  rebuilt_vectors n [] f = vectors-nil (take n vs) ∙ take_all n vs (omega (arith, f))
  rebuilt_vectors n (x ∷ xs) f =
      let h : suc x.index.0 ≤ length vs = omega (arith, met_most (max n (suc x.index.0)) (indices xs) (length vs) f.1) in
      let k : n ≤ length vs = omega (arith, met_most (max n (suc x.index.0)) (indices xs) (length vs) f.1) in
      vectors-cons (take n vs) (x.bound, get_or vs x.index.0 []) (own_steps vs xs)
      ∙ ap (λ s. vectors_of s (own_steps vs xs)) (grown_own vs a n k x.index.0 f.0 h)
      ∙ rebuilt_vectors (max n (suc x.index.0)) xs f.1

  rebuilt_ranges : (n : ℕ) (xs : List Range) → FirstUse n (indices xs) (length vs) → ranges_of (take n vs) (own_steps vs xs) ≡ xs
  unfolding own_steps indices
  rebuilt_ranges n [] f = ranges-nil (take n vs)
  rebuilt_ranges n (x ∷ xs) f =
      let h : suc x.index.0 ≤ length vs = omega (arith, met_most (max n (suc x.index.0)) (indices xs) (length vs) f.1) in
      let k : n ≤ length vs = omega (arith, met_most (max n (suc x.index.0)) (indices xs) (length vs) f.1) in
      ranges-cons (take n vs) (x.bound, get_or vs x.index.0 []) (own_steps vs xs)
      ∙ ap₂ (λ y ys. y ∷ ys) (ap (range_with x.bound) (number_own vs a n k x.index.0 f.0 h))
      (ap (λ s. ranges_of s (own_steps vs xs)) (grown_own vs a n k x.index.0 f.0 h) ∙ rebuilt_ranges (max n (suc x.index.0)) xs f.1)

-- the conditions in the forms for induction
all_indices_of : (v : ℕ) (xs : List Range) → All (λ x. x.index.0 < v) xs → All (λ x. x < v) (indices xs)
unfolding indices
all_indices_of v [] a = tt
all_indices_of v (x ∷ xs) a = (a.0, all_indices_of v xs a.1)

pub order_apart : (k : Knowledge) → Formed k → Apart k.vectors
order_apart k o = record { apart = apart }
  where
    apart : (y z : ℕ) → y < z → z < length k.vectors → get_or k.vectors y [] ≡ get_or k.vectors z [] → ⊥
    apart zero z h l e = o.not_empty z h l (sym e ∙ o.empty_first)
    apart (suc y) z h l e = o.distinct (suc y) z (omega arith) h l e

pub used_index : (k : Knowledge) (y : ℕ) → Formed k → 1 ≤ y → y < length k.vectors → Among y (indices k.ranges)
used_index k y o h l = place_among y (indices k.ranges) (omega (arith, indices-length k.ranges, o.used y h l))

pub order_first : (k : Knowledge) → Formed k → FirstUse 1 (indices k.ranges) (length k.vectors)
order_first k o =
    first_use_lem 1 (indices k.ranges) (length k.vectors) o.some_vector (all_indices_of (length k.vectors) k.ranges o.sound.indices_below)
    (λ y h l. used_index k y o h l) o.in_order

take-one : (vs : List (List Element)) → 1 ≤ length vs → get_or vs 0 [] ≡ [] → take 1 vs ≡ [] ∷ []
take-one [] h e = absurd (omega arith)
take-one (v ∷ vs) h e = ap (λ w. w ∷ []) e

-- a knowledge that meets the conditions is rebuilt from its own ranges
pub rebuilt : (k : Knowledge) → Formed k → indexed k.replicas (own_steps k.vectors k.ranges) ≡ k
unfolding indexed
rebuilt k o =
    let vs = k.vectors in
    let xs = k.ranges in
    let a : Apart vs = order_apart k o in
    let f : FirstUse 1 (indices xs) (length vs) = order_first k o in
    let e : [] ∷ [] ≡ take 1 vs = sym (take-one vs o.some_vector o.empty_first) in
    let p : vectors_of ([] ∷ []) (own_steps vs xs) ≡ vs = ap (λ s. vectors_of s (own_steps vs xs)) e ∙ rebuilt_vectors vs a 1 xs f in
    let q : ranges_of ([] ∷ []) (own_steps vs xs) ≡ xs = ap (λ s. ranges_of s (own_steps vs xs)) e ∙ rebuilt_ranges vs a 1 xs f in
    λ i. record { replicas = k.replicas; vectors = p i; ranges = q i }

-- Its ranges as steps

pub own_at : (vs : List (List Element)) (xs : List Range) (found : Option VectorIndex) (i : ℕ)
    → at (vector_found vs found) (own_steps vs xs) i ≡ vector_found vs (index_from found xs i)
unfolding own_steps
own_at vs [] found i = at-nil (vector_found vs found) i ∙ ap (vector_found vs) (sym (index-nil found i))
own_at vs (x ∷ xs) found i =
    elim (order i x.bound) [
      | less k ↦
          at_lt (vector_found vs found) (x.bound, get_or vs x.index.0 []) (own_steps vs xs) i k
          ∙ ap (vector_found vs) (sym (index-lt found x xs i k))
      | same k ↦ onward (omega arith) (own_at vs xs (some x.index) i)
      | more k ↦ onward (omega arith) (own_at vs xs (some x.index) i)
    ]
  where
    onward : x.bound ≤ i → at (vector_found vs (some x.index)) (own_steps vs xs) i ≡ vector_found vs (index_from (some x.index) xs i)
        → at (vector_found vs found) ((x.bound, get_or vs x.index.0 []) ∷ own_steps vs xs) i ≡ vector_found vs (index_from found (x ∷ xs) i)
    onward k ih =
        at-ge (vector_found vs found) (x.bound, get_or vs x.index.0 []) (own_steps vs xs) i k
        ∙ ap (λ v. at v (own_steps vs xs) i) (sym (found_some vs x.index)) ∙ ih
        ∙ ap (vector_found vs) (sym (index-ge found x xs i k))

pub own-vector_at : (k : Knowledge) (i : ℕ) → at [] (own_steps k.vectors k.ranges) i ≡ vector_at k i
unfolding vector_at
own-vector_at k i =
    ap (λ v. at v (own_steps k.vectors k.ranges) i) (sym (found_none k.vectors)) ∙ own_at k.vectors k.ranges none i

own_changing : (lo : ℕ) (vs : List (List Element)) (y : ℕ) (xs : List Range) → Rising lo (bounds xs) → All (λ b. b ≤ highest) (bounds xs)
    → Differ vs y xs → Changing highest lo (get_or vs y []) (own_steps vs xs)
unfolding own_steps bounds indices
own_changing lo vs y [] r a d = tt
own_changing lo vs y (x ∷ xs) r a d = (
  r.0,
  (
    a.0,
    (
      (λ e. d 0 (omega arith) (sym e)),
      own_changing (suc x.bound) vs x.index.0 xs r.1 a.1 (λ n h. d (suc n) (omega arith)),
    ),
  ),
)

-- steps with one at 0, and changes after it
pub record FromZero (ss : List (ℕ × List Element)) : Type 0 where
  pub value : List Element
  pub rest : List (ℕ × List Element)
  pub is : ss ≡ (0, value) ∷ rest
  pub changing : Changing highest 1 value rest

from_zero : (vs : List (List Element)) (xs : List Range) → get_or (bounds xs) 0 1 ≡ 0 → Rising 0 (bounds xs) → All (λ b. b ≤ highest) (bounds xs)
    → ((n : ℕ) → suc n < length xs → get_or vs (get_or (indices xs) n 0) [] ≡ get_or vs (get_or (indices xs) (suc n) 0) [] → ⊥)
    → FromZero (own_steps vs xs)
unfolding own_steps bounds indices
from_zero vs [] z r a d = absurd (omega arith)
from_zero vs (x ∷ xs) z r a d = record {
  value = get_or vs x.index.0 [];
  rest = own_steps vs xs;
  is = ap (λ b. (b, get_or vs x.index.0 []) ∷ own_steps vs xs) z;
  changing = own_changing 1 vs x.index.0 xs (rw z at r.1) a.1 (λ n h. d n (omega arith));
}

pub formed_from-zero : (k : Knowledge) → Formed k → FromZero (own_steps k.vectors k.ranges)
formed_from-zero k o = from_zero k.vectors k.ranges o.first_range o.sound.rising o.sound.items o.neighbours

-- Numbering the vectors of ranges by first use: each range's index leads to its own vector, the vectors are distinct and
-- in order of first use, and the knowledge's vector at an item is that of the ranges there.
use Prim.Native.Nat.{ℕ, zero, suc, ◌≤◌, ◌<◌, max}
use mathlib.Core.Path.{◌≡◌, refl, sym, ◌∙◌, ap, ap₂}
use mathlib.Core.List.{List, [], ◌∷◌, ◌++◌}
use mathlib.Core.Option.{Option, none, some}
use Rattle.layout.specs.declared.VectorIndex.{VectorIndex}
use native.Mathlib.Omega.{arith}
use lib.ListN.{length, get_or, length-append, get_or-append}
use lib.Seq.{get_or-append_seam}
use borrow.Author.Tests.{lt-ltb, le-ltb}
use Rattle.layout.specs.Knowledge.{Element, Range, All, bounds}
use Rattle.ticks.specs.Meaning.{index_from, vector_found, indices}
use Rattle.ticks.specs.Table.{at}
use Rattle.ticks.specs.Written.{range_with, eq_vector, vector_number, grown, vectors_of, ranges_of}
use Rattle.ticks.proofs.Lists.{less, same, more, order}
use Rattle.ticks.proofs.Equality.{eq_vector_exact, place-le, place_found, place_first}
use Rattle.ticks.proofs.Steps.{step_bounds, Changing, at-nil, at_lt, at-ge}
use Rattle.ticks.proofs.FirstUse.{FirstUse}

-- no two vectors are equal
pub record Apart (vs : List (List Element)) : Type 0 where
  pub apart : (y z : ℕ) → y < z → z < length vs → get_or vs y [] ≡ get_or vs z [] → ⊥

pub number-le : (v : List Element) (seen : List (List Element)) → vector_number v seen ≤ length seen
number-le v seen = place-le eq_vector eq_vector_exact v seen

pub grown_old : (seen : List (List Element)) (v : List Element) → vector_number v seen < length seen → grown seen v ≡ seen
unfolding grown
grown_old seen v h = rw (lt-ltb (vector_number v seen) (length seen) h, grown)

pub grown_new : (seen : List (List Element)) (v : List Element) → vector_number v seen ≡ length seen → grown seen v ≡ seen ++ (v ∷ [])
unfolding grown
grown_new seen v h = rw (le-ltb (vector_number v seen) (length seen) (omega arith), grown)

-- a vector is met already, or it is new
pub data Met (seen : List (List Element)) (v : List Element) : Type 0 where
  old : vector_number v seen < length seen → Met seen v
  new : vector_number v seen ≡ length seen → Met seen v

pub met? : (seen : List (List Element)) (v : List Element) → Met seen v
met? seen v =
    elim (order (vector_number v seen) (length seen)) [ less k ↦ old k | same k ↦ new k | more k ↦ absurd (omega (arith, number-le v seen)) ]

length_snoc : (seen : List (List Element)) (v : List Element) → length (seen ++ (v ∷ [])) ≡ suc (length seen)
length_snoc seen v = length-append seen (v ∷ []) ∙ omega arith

pub grown-length : (seen : List (List Element)) (v : List Element) → length (grown seen v) ≡ max (length seen) (suc (vector_number v seen))
grown-length seen v =
    elim (met? seen v) [
      | old k ↦ ap length (grown_old seen v k) ∙ omega arith
      | new k ↦ ap length (grown_new seen v k) ∙ length_snoc seen v ∙ omega arith
    ]

pub grown_keeps : (seen : List (List Element)) (v : List Element) (n : ℕ) → n < length seen → get_or (grown seen v) n [] ≡ get_or seen n []
grown_keeps seen v n h =
    elim (met? seen v) [
      | old k ↦ ap (λ s. get_or s n []) (grown_old seen v k)
      | new k ↦ ap (λ s. get_or s n []) (grown_new seen v k) ∙ get_or-append seen (v ∷ []) [] n h
    ]

-- the vector stands under its number
pub grown_number : (seen : List (List Element)) (v : List Element) → get_or (grown seen v) (vector_number v seen) [] ≡ v
grown_number seen v =
    elim (met? seen v) [
      | old k ↦ ap (λ s. get_or s (vector_number v seen) []) (grown_old seen v k) ∙ place_found eq_vector eq_vector_exact v [] seen k
      | new k ↦ ap₂ (λ s n. get_or s n []) (grown_new seen v k) k ∙ get_or-append_seam seen v [] []
    ]

pub grown_apart : (seen : List (List Element)) (v : List Element) → Apart seen → Apart (grown seen v)
grown_apart seen v a =
    elim (met? seen v) [
      | old k ↦ rw (grown_old seen v k) a
      | new k ↦
          rw (grown_new seen v k)
          (record {
            apart = λ y z h l e.
                elim (order z (length seen)) [
                  | less j ↦
                      a.apart y z h j (sym (get_or-append seen (v ∷ []) [] y (omega arith)) ∙ e ∙ get_or-append seen (v ∷ []) [] z j)
                  | same j ↦
                      omega (
                        arith,
                        place_first eq_vector eq_vector_exact v [] seen y (omega arith)
                            (sym (get_or-append seen (v ∷ []) [] y (omega arith)) ∙ e ∙ ap (λ n. get_or (seen ++ (v ∷ [])) n []) j ∙ get_or-append_seam seen v [] []),
                      )
                  | more j ↦ omega (arith, length_snoc seen v)
                ];
          })
    ]

pub all_append : {A : Type 0} (P : A → Type 0) (xs ys : List A) → All P xs → All P ys → All P (xs ++ ys)
all_append P [] ys a b = b
all_append P (x ∷ xs) ys a b = (a.0, all_append P xs ys a.1 b)

pub grown_all : (P : List Element → Type 0) (seen : List (List Element)) (v : List Element) → All P seen → P v → All P (grown seen v)
grown_all P seen v a p =
    elim (met? seen v) [
      | old k ↦ rw (grown_old seen v k) a
      | new k ↦ rw (grown_new seen v k) (all_append P seen (v ∷ []) a (p, tt))
    ]

-- The vectors of ranges

pub vectors-nil : (seen : List (List Element)) → vectors_of seen [] ≡ seen
unfolding vectors_of
vectors-nil seen = refl

pub vectors-cons : (seen : List (List Element)) (e : ℕ × List Element) (s : List (ℕ × List Element)) → vectors_of seen (e ∷ s) ≡ vectors_of (grown seen e.1) s
unfolding vectors_of
vectors-cons seen e s = refl

pub ranges-nil : (seen : List (List Element)) → ranges_of seen [] ≡ []
unfolding ranges_of
ranges-nil seen = refl

pub ranges-cons : (seen : List (List Element)) (e : ℕ × List Element) (s : List (ℕ × List Element))
    → ranges_of seen (e ∷ s) ≡ range_with e.0 (vector_number e.1 seen) ∷ ranges_of (grown seen e.1) s
unfolding ranges_of
ranges-cons seen e s = refl

pub vectors-length : (seen : List (List Element)) (s : List (ℕ × List Element)) → length seen ≤ length (vectors_of seen s)
vectors-length seen [] = omega (arith, ap length (vectors-nil seen))
vectors-length seen (e ∷ s) =
    omega (arith, ap length (vectors-cons seen e s), grown-length seen e.1, vectors-length (grown seen e.1) s)

pub vectors_keep : (seen : List (List Element)) (s : List (ℕ × List Element)) (n : ℕ) → n < length seen → get_or (vectors_of seen s) n [] ≡ get_or seen n []
vectors_keep seen [] n h = ap (λ vs. get_or vs n []) (vectors-nil seen)
vectors_keep seen (e ∷ s) n h =
    ap (λ vs. get_or vs n []) (vectors-cons seen e s)
    ∙ vectors_keep (grown seen e.1) s n (omega (arith, grown-length seen e.1))
    ∙ grown_keeps seen e.1 n h

-- the first range's vector stands under its number among all vectors
pub vectors_number : (seen : List (List Element)) (e : ℕ × List Element) (s : List (ℕ × List Element))
    → get_or (vectors_of seen (e ∷ s)) (vector_number e.1 seen) [] ≡ e.1
vectors_number seen e s =
    ap (λ vs. get_or vs (vector_number e.1 seen) []) (vectors-cons seen e s)
    ∙ vectors_keep (grown seen e.1) s (vector_number e.1 seen) (omega (arith, grown-length seen e.1))
    ∙ grown_number seen e.1

pub vectors_apart : (seen : List (List Element)) (s : List (ℕ × List Element)) → Apart seen → Apart (vectors_of seen s)
vectors_apart seen [] a = rw vectors-nil a
vectors_apart seen (e ∷ s) a = rw vectors-cons (vectors_apart (grown seen e.1) s (grown_apart seen e.1 a))

pub vectors_all : (P : List Element → Type 0) (seen : List (List Element)) (s : List (ℕ × List Element))
    → All P seen → All (λ e. P e.1) s → All P (vectors_of seen s)
vectors_all P seen [] a b = rw vectors-nil a
vectors_all P seen (e ∷ s) a b = rw vectors-cons (vectors_all P (grown seen e.1) s (grown_all P seen e.1 a b.0) b.1)

pub ranges_bounds : (seen : List (List Element)) (s : List (ℕ × List Element)) → bounds (ranges_of seen s) ≡ step_bounds s
unfolding bounds step_bounds
ranges_bounds seen [] = ap bounds (ranges-nil seen)
ranges_bounds seen (e ∷ s) = ap bounds (ranges-cons seen e s) ∙ ap (λ bs. e.0 ∷ bs) (ranges_bounds (grown seen e.1) s)

pub ranges_first : (seen : List (List Element)) (s : List (ℕ × List Element)) → FirstUse (length seen) (indices (ranges_of seen s)) (length (vectors_of seen s))
unfolding indices
ranges_first seen [] = rw (ranges-nil, vectors-nil)
ranges_first seen (e ∷ s) =
    rw (ranges-cons, vectors-cons)
    (number-le e.1 seen, rw (grown-length seen e.1) at (ranges_first (grown seen e.1) s))

pub index-nil : (found : Option VectorIndex) (i : ℕ) → index_from found [] i ≡ found
unfolding index_from
index-nil found i = refl

pub index-lt : (found : Option VectorIndex) (x : Range) (xs : List Range) (i : ℕ) → i < x.bound → index_from found (x ∷ xs) i ≡ found
unfolding index_from
index-lt found x xs i h = rw (lt-ltb i x.bound h, index_from)

pub index-ge : (found : Option VectorIndex) (x : Range) (xs : List Range) (i : ℕ) → x.bound ≤ i
    → index_from found (x ∷ xs) i ≡ index_from (some x.index) xs i
unfolding index_from
index-ge found x xs i h = rw (le-ltb i x.bound h, index_from)

pub found_none : (vs : List (List Element)) → vector_found vs none ≡ []
unfolding vector_found
found_none vs = refl

pub found_some : (vs : List (List Element)) (y : VectorIndex) → vector_found vs (some y) ≡ get_or vs y.0 []
unfolding vector_found
found_some vs y = refl

-- the vector that a range's index leads to, at an item
pub ranges_at_lem : (vs seen : List (List Element)) (s : List (ℕ × List Element)) (found : Option VectorIndex) (i : ℕ) → vectors_of seen s ≡ vs
    → vector_found vs (index_from found (ranges_of seen s) i) ≡ at (vector_found vs found) s i
ranges_at_lem vs seen [] found i e =
    ap (λ xs. vector_found vs (index_from found xs i)) (ranges-nil seen)
    ∙ ap (vector_found vs) (index-nil found i) ∙ sym (at-nil (vector_found vs found) i)
ranges_at_lem vs seen (x ∷ s) found i e =
    ap (λ xs. vector_found vs (index_from found xs i)) (ranges-cons seen x s)
    ∙ (elim (order i x.0) [
      | less k ↦
          ap (vector_found vs) (index-lt found (range_with x.0 (vector_number x.1 seen)) (ranges_of (grown seen x.1) s) i k)
          ∙ sym (at_lt (vector_found vs found) x s i k)
      | same k ↦ onward (omega arith) (ranges_at_lem vs (grown seen x.1) s (some own) i (sym (vectors-cons seen x s) ∙ e))
      | more k ↦ onward (omega arith) (ranges_at_lem vs (grown seen x.1) s (some own) i (sym (vectors-cons seen x s) ∙ e))
    ])
  where
    own : VectorIndex
    own = record { 0 = vector_number x.1 seen }

    own_is : vector_found vs (some own) ≡ x.1
    own_is = found_some vs own ∙ ap (λ us. get_or us (vector_number x.1 seen) []) (sym e) ∙ vectors_number seen x s

    onward : x.0 ≤ i
        → vector_found vs (index_from (some own) (ranges_of (grown seen x.1) s) i) ≡ at (vector_found vs (some own)) s i
        → vector_found vs (index_from found (range_with x.0 (vector_number x.1 seen) ∷ ranges_of (grown seen x.1) s) i) ≡ at (vector_found vs found) (x ∷ s) i
    onward k ih =
        ap (vector_found vs) (index-ge found (range_with x.0 (vector_number x.1 seen)) (ranges_of (grown seen x.1) s) i k)
        ∙ ih ∙ ap (λ v. at v s i) own_is
        ∙ sym (at-ge (vector_found vs found) x s i k)

pub indices-length : (xs : List Range) → length (indices xs) ≡ length xs
unfolding indices
indices-length [] = refl
indices-length (x ∷ xs) = ap suc (indices-length xs)

-- after a range with vector y, neighbouring ranges differ in vector
abbrev pub Differ : List (List Element) → ℕ → List Range → Type 0
Differ vs y xs = (n : ℕ) → n < length xs → get_or vs (get_or (y ∷ indices xs) n 0) [] ≡ get_or vs (get_or (indices xs) n 0) [] → ⊥

differ_cons : (vs : List (List Element)) (y : ℕ) (x : Range) (xs : List Range) → (get_or vs y [] ≡ get_or vs x.index.0 [] → ⊥)
    → Differ vs x.index.0 xs → Differ vs y (x ∷ xs)
unfolding indices
differ_cons vs y x xs f d zero h = f
differ_cons vs y x xs f d (suc n) h = d n (omega arith)

-- neighbours differ in vector where the steps change
pub ranges_differ : (hi lo : ℕ) (vs seen : List (List Element)) (v : List Element) (y : ℕ) (s : List (ℕ × List Element)) → vectors_of seen s ≡ vs
    → get_or vs y [] ≡ v → Changing hi lo v s → Differ vs y (ranges_of seen s)
ranges_differ hi lo vs seen v y [] e p c = rw ranges-nil (λ n h f. omega arith)
ranges_differ hi lo vs seen v y (x ∷ s) e p c =
    let q : get_or vs (vector_number x.1 seen) [] ≡ x.1 = ap (λ us. get_or us (vector_number x.1 seen) []) (sym e) ∙ vectors_number seen x s in
    rw ranges-cons
    (differ_cons vs y (range_with x.0 (vector_number x.1 seen)) (ranges_of (grown seen x.1) s) (λ f. c.1.1.0 (sym q ∙ sym f ∙ p))
    (ranges_differ hi (suc x.0) vs (grown seen x.1) x.1 (vector_number x.1 seen) s (sym (vectors-cons seen x s) ∙ e) q c.1.1.1))

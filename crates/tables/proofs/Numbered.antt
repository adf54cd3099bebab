-- The numbers of rows and the numbers of their vectors: where a test of rows says just whether their vectors are equal, the distinct rows
-- of a plan have the vectors, and its ranges the bounds and the numbers, that numbering gives for the steps that are kept.
use Prim.Native.Nat.{ℕ, zero, suc, ◌+◌, ◌≤◌, ◌<◌}
use mathlib.Core.Path.{◌≡◌, refl, sym, ◌∙◌, ap, ap₂}
use mathlib.Core.Logic.{inl, inr, ⊎_elim}
use mathlib.Core.Bool.{Bool, true, false}
use mathlib.Core.List.{List, [], ◌∷◌, ◌++◌}
use native.Mathlib.Omega.{arith}
use lib.ListN.{length, get_or}
use Rattle.layout.specs.Knowledge.{Element}
use Rattle.ticks.specs.Meaning.{place_by}
use Rattle.ticks.specs.Written.{range_with, eq_vector, vector_number, grown, vectors_of, ranges_of}
use Rattle.ticks.proofs.Lists.{Among, less, same as equal, more, order}
use Rattle.ticks.proofs.Equality.{eq_vector_exact, exact?, place_found, place_first}
use Rattle.ticks.proofs.Numbering.{Apart, number-le, grown_old, grown_new, grown-length, grown_number, grown_apart, vectors-nil}
use Rattle.ticks.proofs.Numbering.{vectors-cons, ranges-nil, ranges-cons}
use Rattle.tables.specs.MethodPlan.{rows_from, grown_by, firsts_from, numbers_from, elements_from, vectors_in, ranges_from}
use Rattle.tables.proofs.Clauses.{rows-zero, rows-suc, place_by_nil, place_by_here, place_by_later, grown_by_old, grown_by_new}
use Rattle.tables.proofs.Clauses.{firsts-nil, firsts-cons, numbers-nil, numbers-cons, vectors_in_nil, vectors_in_cons}
use Rattle.tables.proofs.Clauses.{ranges_from-nil, ranges_from_joined, ranges_from_kept}
use Rattle.tables.proofs.PageSizes.{vectors_in_length}
use Rattle.tables.proofs.Distinct.{grown_by_only}
use Rattle.tables.proofs.Kept.{kept_from, kept-zero, kept-suc-joined, kept-suc}

-- the vector of the row before: it is one of those met, which are all unlike, and stands under its number
pub record Before (x : ℕ) (v : List Element) (seen : List (List Element)) : Type 0 where
  pub apart : Apart seen
  pub low : x < length seen
  pub is : get_or seen x [] ≡ v

before_number : (x : ℕ) (v : List Element) (seen : List (List Element)) (w : List Element) → Before x v seen → vector_number w seen ≡ x → w ≡ v
before_number x v seen w b e =
    sym (place_found eq_vector eq_vector_exact w [] seen (omega (arith, b.low))) ∙ ap (λ n. get_or seen n []) e ∙ b.is

number_before : (x : ℕ) (v : List Element) (seen : List (List Element)) (w : List Element) → Before x v seen → w ≡ v → vector_number w seen ≡ x
number_before x v seen w b e =
    let h : vector_number w seen ≤ x = place_first eq_vector eq_vector_exact w [] seen x b.low (b.is ∙ sym e) in
    elim (order (vector_number w seen) x) [
      | less l ↦
          absurd (b.apart.apart (vector_number w seen) x l b.low
          (place_found eq_vector eq_vector_exact w [] seen (omega (arith, b.low)) ∙ e ∙ sym b.is))
      | equal l ↦ l
      | more l ↦ absurd (omega arith)
    ]

before_grown : (seen : List (List Element)) (w : List Element) → Apart seen → Before (vector_number w seen) w (grown seen w)
before_grown seen w a = record { apart = grown_apart seen w a; low = omega (arith, grown-length seen w); is = grown_number seen w }

module _ (T : ℕ → ℕ → ℕ) (cols : List ℕ) where
  vectors_in_append : (js ks : List ℕ) → vectors_in T cols (js ++ ks) ≡ vectors_in T cols js ++ vectors_in T cols ks
  vectors_in_append [] ks = ap (λ vs. vs ++ vectors_in T cols ks) (sym (vectors_in_nil T cols))
  vectors_in_append (j ∷ js) ks =
      vectors_in_cons T cols j (js ++ ks) ∙ ap (λ vs. elements_from (T j) 0 cols ∷ vs) (vectors_in_append js ks)
      ∙ ap (λ vs. vs ++ vectors_in T cols ks) (sym (vectors_in_cons T cols j js))

  -- the vector of a row
  abbrev pub vector_on : ℕ → List Element
  vector_on k = elements_from (T k) 0 cols

  module _ (B : ℕ → ℕ) (eq : ℕ → ℕ → Bool) (most : ℕ) (exact : (j k : ℕ) → j ≤ most → k ≤ most → eq j k ≡ eq_vector (vector_on j) (vector_on k)) where
    -- the rows met are none past the last
    abbrev Below : List ℕ → Type 0
    Below seen = (j : ℕ) → Among j seen → j ≤ most

    number_same : (k : ℕ) (seen : List ℕ) → k ≤ most → Below seen → place_by eq k seen ≡ vector_number (vector_on k) (vectors_in T cols seen)
    number_same k [] h f =
        place_by_nil eq k ∙ sym (ap (vector_number (vector_on k)) (vectors_in_nil T cols) ∙ place_by_nil eq_vector (vector_on k))
    number_same k (j ∷ seen) h f = go (eq j k) refl (number_same k seen h (λ i m. f i (inr m)))
      where
        go : (t : Bool) → eq j k ≡ t → place_by eq k seen ≡ vector_number (vector_on k) (vectors_in T cols seen)
            → place_by eq k (j ∷ seen) ≡ vector_number (vector_on k) (vectors_in T cols (j ∷ seen))
        go true e ih =
            place_by_here eq k j seen e
            ∙ sym (ap (vector_number (vector_on k)) (vectors_in_cons T cols j seen)
            ∙ place_by_here eq_vector (vector_on k) (vector_on j) (vectors_in T cols seen) (sym (exact j k (f j (inl refl)) h) ∙ e))
        go false e ih =
            place_by_later eq k j seen e ∙ ap suc ih
            ∙ sym (ap (vector_number (vector_on k)) (vectors_in_cons T cols j seen)
            ∙ place_by_later eq_vector (vector_on k) (vector_on j) (vectors_in T cols seen) (sym (exact j k (f j (inl refl)) h) ∙ e))

    grown_same : (k : ℕ) (seen : List ℕ) → k ≤ most → Below seen
        → vectors_in T cols (grown_by eq seen k) ≡ grown (vectors_in T cols seen) (vector_on k)
    grown_same k seen h f =
        elim (order (place_by eq k seen) (length seen)) [
          | less l ↦
              ap (vectors_in T cols) (grown_by_old eq seen k l)
              ∙ sym (grown_old (vectors_in T cols seen) (vector_on k) (omega (arith, number_same k seen h f, vectors_in_length T cols seen)))
          | equal l ↦ new (omega arith)
          | more l ↦ new (omega arith)
        ]
      where
        new : length seen ≤ place_by eq k seen → vectors_in T cols (grown_by eq seen k) ≡ grown (vectors_in T cols seen) (vector_on k)
        new l =
            ap (vectors_in T cols) (grown_by_new eq seen k l) ∙ vectors_in_append seen (k ∷ [])
            ∙ ap (λ vs. vectors_in T cols seen ++ vs) (vectors_in_cons T cols k [] ∙ ap (λ vs. vector_on k ∷ vs) (vectors_in_nil T cols))
            ∙ sym (grown_new (vectors_in T cols seen) (vector_on k)
            (omega (arith, number_same k seen h f, vectors_in_length T cols seen, number-le (vector_on k) (vectors_in T cols seen))))

    below_grown : (k : ℕ) (seen : List ℕ) → k ≤ most → Below seen → Below (grown_by eq seen k)
    below_grown k seen h f j m = ⊎_elim (λ e. omega arith) (λ o. f j o) (grown_by_only eq seen k j m)

    before_row : (k : ℕ) (seen : List ℕ) → k ≤ most → Below seen → Apart (vectors_in T cols seen)
        → Before (place_by eq k seen) (vector_on k) (vectors_in T cols (grown_by eq seen k))
    before_row k seen h f a = rw (number_same k seen h f, grown_same k seen h f) (before_grown (vectors_in T cols seen) (vector_on k) a)

    -- One row that is kept, and the rows after it

    vectors_step : (k n : ℕ) (seen : List ℕ) (s : List (ℕ × List Element)) → k ≤ most → Below seen
        → vectors_in T cols (firsts_from eq (grown_by eq seen k) (rows_from (k + 1) n)) ≡ vectors_of (vectors_in T cols (grown_by eq seen k)) s
        → vectors_in T cols (firsts_from eq seen (rows_from k (suc n))) ≡ vectors_of (vectors_in T cols seen) ((B k, vector_on k) ∷ s)
    vectors_step k n seen s h f ih =
        ap (λ ks. vectors_in T cols (firsts_from eq seen ks)) (rows-suc k n)
        ∙ ap (vectors_in T cols) (firsts-cons eq seen k (rows_from (k + 1) n)) ∙ ih
        ∙ ap (λ vs. vectors_of vs s) (grown_same k seen h f)
        ∙ sym (vectors-cons (vectors_in T cols seen) (B k, vector_on k) s)

    ranges_step : (k n x : ℕ) (seen : List ℕ) (s : List (ℕ × List Element)) → k ≤ most → Below seen → (place_by eq k seen ≡ x → ⊥)
        → ranges_from B (k + 1) (place_by eq k seen) (numbers_from eq (grown_by eq seen k) (rows_from (k + 1) n))
        ≡ ranges_of (vectors_in T cols (grown_by eq seen k)) s
        → ranges_from B k x (numbers_from eq seen (rows_from k (suc n))) ≡ ranges_of (vectors_in T cols seen) ((B k, vector_on k) ∷ s)
    ranges_step k n x seen s h f d ih =
        ap (λ ks. ranges_from B k x (numbers_from eq seen ks)) (rows-suc k n)
        ∙ ap (ranges_from B k x) (numbers-cons eq seen k (rows_from (k + 1) n))
        ∙ ranges_from_kept B k x (place_by eq k seen) (numbers_from eq (grown_by eq seen k) (rows_from (k + 1) n)) d
        ∙ ap₂ (λ y ys. range_with (B k) y ∷ ys) (number_same k seen h f) (ih ∙ ap (λ vs. ranges_of vs s) (grown_same k seen h f))
        ∙ sym (ranges-cons (vectors_in T cols seen) (B k, vector_on k) s)

    -- Rows after one whose vector was met

    old_row : (k x : ℕ) (v : List Element) (seen : List ℕ) → k ≤ most → Below seen → Before x v (vectors_in T cols seen) → vector_on k ≡ v
        → place_by eq k seen ≡ x
    old_row k x v seen h f b e = number_same k seen h f ∙ number_before x v (vectors_in T cols seen) (vector_on k) b e

    old_grown : (k x : ℕ) (v : List Element) (seen : List ℕ) → k ≤ most → Below seen → Before x v (vectors_in T cols seen) → vector_on k ≡ v
        → grown_by eq seen k ≡ seen
    old_grown k x v seen h f b e =
        grown_by_old eq seen k (omega (arith, old_row k x v seen h f b e, b.low, vectors_in_length T cols seen))

    new_row : (k x : ℕ) (v : List Element) (seen : List ℕ) → k ≤ most → Below seen → Before x v (vectors_in T cols seen) → (vector_on k ≡ v → ⊥)
        → place_by eq k seen ≡ x → ⊥
    new_row k x v seen h f b d e = d (before_number x v (vectors_in T cols seen) (vector_on k) b (sym (number_same k seen h f) ∙ e))

    pub vectors_linked : (n k x : ℕ) (v : List Element) (seen : List ℕ) → k + n ≤ suc most → Below seen → Before x v (vectors_in T cols seen)
        → vectors_in T cols (firsts_from eq seen (rows_from k n)) ≡ vectors_of (vectors_in T cols seen) (kept_from B vector_on v (rows_from k n))
    vectors_linked zero k x v seen h f b =
        ap (λ ks. vectors_in T cols (firsts_from eq seen ks)) (rows-zero k) ∙ ap (vectors_in T cols) (firsts-nil eq seen)
        ∙ sym (ap (vectors_of (vectors_in T cols seen)) (kept-zero B vector_on v k) ∙ vectors-nil (vectors_in T cols seen))
    vectors_linked (suc n) k x v seen h f b =
        elim (exact? eq_vector eq_vector_exact (vector_on k) v) [
          | inl e ↦
              ap (λ ks. vectors_in T cols (firsts_from eq seen ks)) (rows-suc k n)
              ∙ ap (vectors_in T cols) (firsts-cons eq seen k (rows_from (k + 1) n))
              ∙ ap (λ js. vectors_in T cols (firsts_from eq js (rows_from (k + 1) n))) (old_grown k x v seen (omega arith) f b e)
              ∙ vectors_linked n (k + 1) x v seen (omega arith) f b
              ∙ ap (vectors_of (vectors_in T cols seen)) (sym (kept-suc-joined B vector_on v k n e))
          | inr d ↦
              vectors_step k n seen (kept_from B vector_on (vector_on k) (rows_from (k + 1) n)) (omega arith) f
              (vectors_linked n (k + 1) (place_by eq k seen) (vector_on k) (grown_by eq seen k) (omega arith) (below_grown k seen (omega arith) f)
              (before_row k seen (omega arith) f b.apart))
              ∙ ap (vectors_of (vectors_in T cols seen)) (sym (kept-suc B vector_on v k n d))
        ]

    pub ranges_linked : (n k x : ℕ) (v : List Element) (seen : List ℕ) → k + n ≤ suc most → Below seen → Before x v (vectors_in T cols seen)
        → ranges_from B k x (numbers_from eq seen (rows_from k n)) ≡ ranges_of (vectors_in T cols seen) (kept_from B vector_on v (rows_from k n))
    ranges_linked zero k x v seen h f b =
        ap (λ ks. ranges_from B k x (numbers_from eq seen ks)) (rows-zero k) ∙ ap (ranges_from B k x) (numbers-nil eq seen) ∙ ranges_from-nil B k x
        ∙ sym (ap (ranges_of (vectors_in T cols seen)) (kept-zero B vector_on v k) ∙ ranges-nil (vectors_in T cols seen))
    ranges_linked (suc n) k x v seen h f b =
        elim (exact? eq_vector eq_vector_exact (vector_on k) v) [
          | inl e ↦
              ap (λ ks. ranges_from B k x (numbers_from eq seen ks)) (rows-suc k n)
              ∙ ap (ranges_from B k x) (numbers-cons eq seen k (rows_from (k + 1) n))
              ∙ ranges_from_joined B k x (place_by eq k seen) (numbers_from eq (grown_by eq seen k) (rows_from (k + 1) n)) (old_row k x v seen (omega arith) f b e)
              ∙ ap₂ (λ y js. ranges_from B (k + 1) y (numbers_from eq js (rows_from (k + 1) n))) (old_row k x v seen (omega arith) f b e)
              (old_grown k x v seen (omega arith) f b e)
              ∙ ranges_linked n (k + 1) x v seen (omega arith) f b
              ∙ ap (ranges_of (vectors_in T cols seen)) (sym (kept-suc-joined B vector_on v k n e))
          | inr d ↦
              ranges_step k n x seen (kept_from B vector_on (vector_on k) (rows_from (k + 1) n)) (omega arith) f (new_row k x v seen (omega arith) f b d)
              (ranges_linked n (k + 1) (place_by eq k seen) (vector_on k) (grown_by eq seen k) (omega arith) (below_grown k seen (omega arith) f)
              (before_row k seen (omega arith) f b.apart))
              ∙ ap (ranges_of (vectors_in T cols seen)) (sym (kept-suc B vector_on v k n d))
        ]

    -- The first row is kept, whatever stands before it

    module _ (k n : ℕ) (seen : List ℕ) (h : k + suc n ≤ suc most) (f : (j : ℕ) → Among j seen → j ≤ most) (a : Apart (vectors_in T cols seen)) where
      pub vectors_all_linked : vectors_in T cols (firsts_from eq seen (rows_from k (suc n)))
          ≡ vectors_of (vectors_in T cols seen) ((B k, vector_on k) ∷ kept_from B vector_on (vector_on k) (rows_from (k + 1) n))
      vectors_all_linked =
          vectors_step k n seen (kept_from B vector_on (vector_on k) (rows_from (k + 1) n)) (omega arith) f
          (vectors_linked n (k + 1) (place_by eq k seen) (vector_on k) (grown_by eq seen k) (omega arith) (below_grown k seen (omega arith) f)
          (before_row k seen (omega arith) f a))

      pub ranges_all_linked : (x : ℕ) → (place_by eq k seen ≡ x → ⊥)
          → ranges_from B k x (numbers_from eq seen (rows_from k (suc n)))
          ≡ ranges_of (vectors_in T cols seen) ((B k, vector_on k) ∷ kept_from B vector_on (vector_on k) (rows_from (k + 1) n))
      ranges_all_linked x d =
          ranges_step k n x seen (kept_from B vector_on (vector_on k) (rows_from (k + 1) n)) (omega arith) f d
          (ranges_linked n (k + 1) (place_by eq k seen) (vector_on k) (grown_by eq seen k) (omega arith) (below_grown k seen (omega arith) f)
          (before_row k seen (omega arith) f a))

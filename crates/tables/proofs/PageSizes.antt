-- The sizes of a plan are those of the knowledge that is planned, so they give the length of its bytes. Nothing is asked of the table.
use Prim.Native.Nat.{ℕ, zero, suc, ◌+◌, ◌≤◌}
use mathlib.Core.Path.{◌≡◌, refl, sym, ◌∙◌, ap}
use mathlib.Core.Logic.{inl, inr}
use mathlib.Core.Bool.{Bool, true, false}
use mathlib.Core.List.{List, [], ◌∷◌}
use native.Mathlib.Omega.{arith}
use lib.Dec.{eqb}
use lib.ListN.{length}
use Rattle.layout.specs.Knowledge.{encode}
use Rattle.layout.specs.Answer.{elements}
use Rattle.layout.proofs.Forward.{encode-length}
use Rattle.ticks.specs.Meaning.{place_by}
use Rattle.ticks.proofs.Equality.{eqb_exact, exact?}
use Rattle.tables.specs.MethodPlan.{same, rows_from, grown_by, numbers_from, numbers_of}
use Rattle.tables.specs.MethodPlan.{ids_of, elements_from, vectors_in, ranges_from, page_of, element_count, range_count, sizes_of, length_of}
use Rattle.tables.proofs.Clauses.{rows-zero, rows-suc, place_by_nil, place_by_here, place_by_later}
use Rattle.tables.proofs.Clauses.{numbers-nil, numbers-cons, numbers_of_lem}
use Rattle.tables.proofs.Clauses.{ids-nil, ids-cons, vectors_in_nil, vectors_in_cons}
use Rattle.tables.proofs.Clauses.{ranges_from-nil, ranges_from_joined, ranges_from_kept, ranges_in_lem, element_count-nil}
use Rattle.tables.proofs.Clauses.{element_count-cons, range_count-nil, range_count_joined, range_count_kept}

-- Rows

pub rows-length : (k n : ℕ) → length (rows_from k n) ≡ n
rows-length k zero = ap length (rows-zero k)
rows-length k (suc n) = ap length (rows-suc k n) ∙ ap suc (rows-length (k + 1) n)

module _ (eq : ℕ → ℕ → Bool) where
  pub place_by_le : (k : ℕ) (seen : List ℕ) → place_by eq k seen ≤ length seen
  place_by_le k [] = omega (arith, place_by_nil eq k)
  place_by_le k (j ∷ seen) = go (eq j k) refl (place_by_le k seen)
    where
      go : (t : Bool) → eq j k ≡ t → place_by eq k seen ≤ length seen → place_by eq k (j ∷ seen) ≤ suc (length seen)
      go true e ih = omega (arith, place_by_here eq k j seen e)
      go false e ih = omega (arith, place_by_later eq k j seen e)

  pub numbers-length : (seen ks : List ℕ) → length (numbers_from eq seen ks) ≡ length ks
  numbers-length seen [] = ap length (numbers-nil eq seen)
  numbers-length seen (k ∷ ks) = ap length (numbers-cons eq seen k ks) ∙ ap suc (numbers-length (grown_by eq seen k) ks)

module _ (T : ℕ → ℕ → ℕ) (r n : ℕ) where
  pub numbers_of_length : length (numbers_of T r n) ≡ n
  numbers_of_length = ap length (numbers_of_lem T r n) ∙ numbers-length (same T r) (0 ∷ []) (rows_from 1 n) ∙ rows-length 1 n

-- The planned knowledge

pub ids-length : (P : ℕ → ℕ) (cols : List ℕ) → length (ids_of P cols) ≡ length cols
ids-length P [] = ap length (ids-nil P)
ids-length P (c ∷ cs) = ap length (ids-cons P c cs) ∙ ap suc (ids-length P cs)

module _ (T : ℕ → ℕ → ℕ) (cols : List ℕ) where
  pub vectors_in_length : (ks : List ℕ) → length (vectors_in T cols ks) ≡ length ks
  vectors_in_length [] = ap length (vectors_in_nil T cols)
  vectors_in_length (k ∷ ks) = ap length (vectors_in_cons T cols k ks) ∙ ap suc (vectors_in_length ks)

  pub element_count_is : (ks : List ℕ) → elements (vectors_in T cols ks) ≡ element_count T cols ks
  unfolding elements
  element_count_is [] = ap elements (vectors_in_nil T cols) ∙ sym (element_count-nil T cols)
  element_count_is (k ∷ ks) =
      ap elements (vectors_in_cons T cols k ks) ∙ ap (λ n. length (elements_from (T k) 0 cols) + n) (element_count_is ks)
      ∙ sym (element_count-cons T cols k ks)

pub ranges_from-length : (B : ℕ → ℕ) (k before : ℕ) (xs : List ℕ) → length (ranges_from B k before xs) ≡ range_count before xs
ranges_from-length B k before [] = ap length (ranges_from-nil B k before) ∙ sym (range_count-nil before)
ranges_from-length B k before (x ∷ xs) =
    elim (exact? eqb eqb_exact x before) [
      | inl e ↦
          ap length (ranges_from_joined B k before x xs e) ∙ ranges_from-length B (k + 1) x xs ∙ sym (range_count_joined before x xs e)
      | inr e ↦
          ap length (ranges_from_kept B k before x xs e) ∙ ap suc (ranges_from-length B (k + 1) x xs) ∙ sym (range_count_kept before x xs e)
    ]

module _ (P B : ℕ → ℕ) (T : ℕ → ℕ → ℕ) (cols firsts numbers : List ℕ) where
  pub page_replicas : length (page_of P B T cols firsts numbers).replicas ≡ length cols
  unfolding page_of
  page_replicas = ids-length P cols

  pub page_vectors : length (page_of P B T cols firsts numbers).vectors ≡ length firsts
  unfolding page_of
  page_vectors = vectors_in_length T cols firsts

  pub page_elements : elements (page_of P B T cols firsts numbers).vectors ≡ element_count T cols firsts
  unfolding page_of
  page_elements = element_count_is T cols firsts

  pub page_ranges : length (page_of P B T cols firsts numbers).ranges ≡ range_count (length numbers + 1) numbers
  unfolding page_of
  page_ranges = ap length (ranges_in_lem B numbers) ∙ ranges_from-length B 1 (length numbers + 1) numbers

  -- the length of the bytes
  pub page-length : length (encode (page_of P B T cols firsts numbers)) ≡ length_of (sizes_of T cols firsts numbers)
  unfolding length_of sizes_of
  page-length = omega (arith, encode-length (page_of P B T cols firsts numbers), page_replicas, page_vectors, page_elements, page_ranges)

-- The plan of a table is what numbering gives for the rows that are kept. Two rows are alike exactly where their vectors over the
-- columns in use are equal, since every other column is 0 in all rows; so the distinct rows have the distinct vectors, and a row has
-- the number of its vector.
use Prim.Native.Nat.{ℕ, suc, ◌+◌, ◌≤◌, ◌<◌}
use mathlib.Core.Path.{◌≡◌, refl, sym, ◌∙◌, ap, ap₂}
use mathlib.Core.Logic.{inl, inr, ⊎_elim}
use mathlib.Core.Bool.{Bool, true, false}
use mathlib.Core.List.{List, [], ◌∷◌}
use native.Mathlib.Omega.{arith}
use lib.ListN.{length}
use Rattle.layout.specs.Knowledge.{Element}
use Rattle.ticks.specs.Written.{eq_vector, vectors_of, ranges_of, indexed}
use Rattle.ticks.proofs.Lists.{Among, among?}
use Rattle.ticks.proofs.Equality.{exact?, exact_no, exact_yes, eq_vector_exact}
use Rattle.ticks.proofs.Numbering.{Apart}
use Rattle.tables.specs.MethodPlan.{same, rows_from, firsts_of, numbers_of, used_in, columns_of, ids_of, elements_from, vectors_in}
use Rattle.tables.specs.MethodPlan.{ranges_from, ranges_in}
use Rattle.tables.specs.MethodPlan.{page_of, page, Sampled}
use Rattle.tables.proofs.Clauses.{firsts_of_lem, numbers_of_lem, vectors_in_nil, vectors_in_cons, ranges_in_lem}
use Rattle.tables.proofs.Alike.{same_agree, agree_same}
use Rattle.tables.proofs.PageSizes.{place_by_le, numbers_of_length}
use Rattle.tables.proofs.Columns.{columns_of_only}
use Rattle.tables.proofs.Distinct.{out-zero}
use Rattle.tables.proofs.RowVectors.{elements_cong, elements_agree, elements_empty}
use Rattle.tables.proofs.Kept.{kept_from}
use Rattle.tables.proofs.Numbered.{vectors_all_linked, ranges_all_linked}

-- the columns of a plan
unfoldable pub planned : (ℕ → ℕ) → (ℕ → ℕ → ℕ) → ℕ → ℕ → List ℕ
planned P T r n = columns_of P T r (firsts_of T r n)

module _ (P : ℕ → ℕ) (T : ℕ → ℕ → ℕ) (r n : ℕ) where
  pub planned_below : (c : ℕ) → Among c (planned P T r n) → c < r
  unfolding planned
  planned_below c m = (columns_of_only P T (firsts_of T r n) r c m).below

  pub planned_used : (c : ℕ) → Among c (planned P T r n) → used_in T (firsts_of T r n) c ≡ true
  unfolding planned
  planned_used c m = (columns_of_only P T (firsts_of T r n) r c m).used

  pub planned_out : (k c : ℕ) → k ≤ n → c < r → (Among c (planned P T r n) → ⊥) → T k c ≡ 0
  unfolding planned
  planned_out k c h l out = out-zero T r n P k c h l out

  -- the vector of a row over the plan's columns
  abbrev pub row_vector : ℕ → List Element
  row_vector k = elements_from (T k) 0 (planned P T r n)

  -- rows are alike exactly where their vectors are equal
  agree_vectors : (j k : ℕ) → j ≤ n → k ≤ n → row_vector j ≡ row_vector k → (c : ℕ) → c < r → T j c ≡ T k c
  agree_vectors j k h l e c m =
      elim (among? c (planned P T r n)) [
        | inl a ↦ elements_agree (T j) (T k) (planned P T r n) c e a
        | inr a ↦ planned_out j c h m a ∙ sym (planned_out k c l m a)
      ]

  pub same_vectors : (j k : ℕ) → j ≤ n → k ≤ n → same T r j k ≡ eq_vector (row_vector j) (row_vector k)
  same_vectors j k h l =
      elim (exact? eq_vector eq_vector_exact (row_vector j) (row_vector k)) [
        | inl e ↦ agree_same T j k r (agree_vectors j k h l e) ∙ sym (exact_yes eq_vector eq_vector_exact (row_vector j) (row_vector k) e)
        | inr d ↦ unlike d (same T r j k) refl ∙ sym (exact_no eq_vector eq_vector_exact (row_vector j) (row_vector k) d)
      ]
    where
      unlike : (row_vector j ≡ row_vector k → ⊥) → (t : Bool) → same T r j k ≡ t → same T r j k ≡ false
      unlike d true e =
          absurd (d (elements_cong (T j) (T k) (planned P T r n) (λ c m. same_agree T j k r c e (planned_below c m))))
      unlike d false e = e

one_apart : (v : List Element) → Apart (v ∷ [])
one_apart v = record { apart = λ y z h k e. omega arith }

-- the rows after the first that are kept
abbrev pub later_steps : (ℕ → ℕ) → (ℕ → ℕ) → (ℕ → ℕ → ℕ) → ℕ → ℕ → List (ℕ × List Element)
later_steps P B T r m = kept_from B (row_vector P T r (suc m)) (row_vector P T r (suc m) 1) (rows_from 2 m)

module _ (P B : ℕ → ℕ) (T : ℕ → ℕ → ℕ) (r m : ℕ) (f : ℕ → ℕ → ℕ) (s : Sampled P B T r (suc m) f) where
  first_met : vectors_in T (planned P T r (suc m)) (0 ∷ []) ≡ [] ∷ []
  first_met =
      vectors_in_cons T (planned P T r (suc m)) 0 []
      ∙ ap₂ (λ v vs. v ∷ vs)
      (elements_empty (T 0) 0 (planned P T r (suc m)) (λ c a. s.empty c (planned_below P T r (suc m) c a)))
      (vectors_in_nil T (planned P T r (suc m)))

  start_below : (j : ℕ) → Among j (0 ∷ []) → j ≤ suc m
  start_below j a = ⊎_elim (λ e. omega arith) (λ o. absurd o) a

  vectors_are : vectors_in T (planned P T r (suc m)) (firsts_of T r (suc m))
      ≡ vectors_of ([] ∷ []) ((0, row_vector P T r (suc m) 1) ∷ later_steps P B T r m)
  vectors_are =
      ap (vectors_in T (planned P T r (suc m))) (firsts_of_lem T r (suc m))
      ∙ vectors_all_linked T (planned P T r (suc m)) B (same T r) (suc m) (same_vectors P T r (suc m)) 1 m (0 ∷ []) (omega arith) start_below
      (rw first_met (one_apart []))
      ∙ ap₂ (λ vs b. vectors_of vs ((b, row_vector P T r (suc m) 1) ∷ later_steps P B T r m)) first_met s.first_bound

  -- the first row has a number of at most 1, so it is not joined
  ranges_are : ranges_in B (numbers_of T r (suc m)) ≡ ranges_of ([] ∷ []) ((0, row_vector P T r (suc m) 1) ∷ later_steps P B T r m)
  ranges_are =
      ranges_in_lem B (numbers_of T r (suc m))
      ∙ ap (ranges_from B 1 (length (numbers_of T r (suc m)) + 1)) (numbers_of_lem T r (suc m))
      ∙ ranges_all_linked T (planned P T r (suc m)) B (same T r) (suc m) (same_vectors P T r (suc m)) 1 m (0 ∷ []) (omega arith) start_below
      (rw first_met (one_apart [])) (length (numbers_of T r (suc m)) + 1)
      (λ e. omega (arith, place_by_le (same T r) 1 (0 ∷ []), numbers_of_length T r (suc m)))
      ∙ ap₂ (λ vs b. ranges_of vs ((b, row_vector P T r (suc m) 1) ∷ later_steps P B T r m)) first_met s.first_bound

  pub page_steps : page P B T r (suc m) ≡ indexed (ids_of P (planned P T r (suc m))) ((0, row_vector P T r (suc m) 1) ∷ later_steps P B T r m)
  unfolding page page_of indexed planned
  page_steps = λ i. record { replicas = ids_of P (planned P T r (suc m)); vectors = vectors_are i; ranges = ranges_are i }

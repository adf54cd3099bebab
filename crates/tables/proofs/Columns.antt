-- The replica map of a plan: the columns below r that a row uses, each once, by rising id. A column is put before the first one with a
-- larger id, which is carried on, so the ids stay rising; the ids of different columns differ.
use Prim.Native.Nat.{ℕ, zero, suc, ◌+◌, ◌≤◌, ◌<◌}
use mathlib.Core.Path.{◌≡◌, refl, sym, ◌∙◌, ap, subst}
use mathlib.Core.Logic.{◌⊎◌, inl, inr, ⊎_elim}
use mathlib.Core.Bool.{Bool, true, false}
use mathlib.Core.List.{List, [], ◌∷◌}
use native.Mathlib.Omega.{arith}
use lib.Dec.{eqb}
use Rattle.layout.specs.Knowledge.{Rising}
use Rattle.ticks.proofs.Lists.{Among, less, same as equal, more, order, rising_weaken, rising_above}
use Rattle.ticks.proofs.Equality.{eqb_exact, exact?, clash}
use Rattle.tables.specs.MethodPlan.{used_in, insert_column, with_column, columns_from, columns_of, ids_of}
use Rattle.tables.proofs.Clauses.{used_here, used_later, insert_column-nil, insert_column_before, insert_column_after}
use Rattle.tables.proofs.Clauses.{with_column_used, with_column_unused, columns-zero, columns-suc, columns_of_lem, ids-nil}

-- Columns that rows use

-- in a column that is not used, each of the rows has tick 0
pub unused-zero : (T : ℕ → ℕ → ℕ) (ks : List ℕ) (k c : ℕ) → used_in T ks c ≡ false → Among k ks → T k c ≡ 0
unused-zero T [] k c u m = absurd m
unused-zero T (j ∷ ks) k c u m =
    elim (exact? eqb eqb_exact (T j c) 0) [
      | inl e ↦ ⊎_elim (λ q. ap (λ i. T i c) q ∙ e) (λ o. unused-zero T ks k c (sym (used_later T j ks c e) ∙ u) o) m
      | inr n ↦ clash (used_in T (j ∷ ks) c) (used_here T j ks c n) u
    ]

-- Insertion

module _ (P : ℕ → ℕ) where
  pub insert_column_here : (c : ℕ) (ds : List ℕ) → Among c (insert_column P c ds)
  insert_column_here c [] = rw insert_column-nil (inl refl)
  insert_column_here c (d ∷ ds) =
      elim (order (P c) (P d)) [
        | less h ↦ rw (insert_column_before P c d ds h) (inl refl)
        | equal h ↦ let l : P d ≤ P c = omega arith in rw (insert_column_after P c d ds l) (inr (insert_column_here c ds))
        | more h ↦ let l : P d ≤ P c = omega arith in rw (insert_column_after P c d ds l) (inr (insert_column_here c ds))
      ]

  pub insert_column_keeps : (c e : ℕ) (ds : List ℕ) → Among e ds → Among e (insert_column P c ds)
  insert_column_keeps c e [] m = absurd m
  insert_column_keeps c e (d ∷ ds) m =
      elim (order (P c) (P d)) [
        | less h ↦
            rw (insert_column_before P c d ds h)
            (⊎_elim (λ q. inr (subst (λ (y : ℕ). Among y (insert_column P d ds)) (sym q) (insert_column_here d ds))) (λ o. inr (insert_column_keeps d e ds o)) m)
        | equal h ↦
            let l : P d ≤ P c = omega arith in
            rw (insert_column_after P c d ds l) (⊎_elim (λ q. inl q) (λ o. inr (insert_column_keeps c e ds o)) m)
        | more h ↦
            let l : P d ≤ P c = omega arith in
            rw (insert_column_after P c d ds l) (⊎_elim (λ q. inl q) (λ o. inr (insert_column_keeps c e ds o)) m)
      ]

  pub insert_column_only : (c e : ℕ) (ds : List ℕ) → Among e (insert_column P c ds) → (e ≡ c) ⊎ Among e ds
  insert_column_only c e [] m = rw insert_column-nil at m
  insert_column_only c e (d ∷ ds) m =
      elim (order (P c) (P d)) [
        | less h ↦
            let n : Among e (c ∷ insert_column P d ds) = rw (insert_column_before P c d ds h) at m in
            ⊎_elim (λ q. inl q) (λ o. inr (insert_column_only d e ds o)) n
        | equal h ↦
            let l : P d ≤ P c = omega arith in
            let n : Among e (d ∷ insert_column P c ds) = rw (insert_column_after P c d ds l) at m in
            after n (insert_column_only c e ds)
        | more h ↦
            let l : P d ≤ P c = omega arith in
            let n : Among e (d ∷ insert_column P c ds) = rw (insert_column_after P c d ds l) at m in
            after n (insert_column_only c e ds)
      ]
    where
      after : Among e (d ∷ insert_column P c ds) → (Among e (insert_column P c ds) → (e ≡ c) ⊎ Among e ds) → (e ≡ c) ⊎ Among e (d ∷ ds)
      after n f = ⊎_elim (λ q. inr (inl q)) (λ o. ⊎_elim (λ q. inl q) (λ a. inr (inr a)) (f o)) n

  pub ids_among : (c : ℕ) (ds : List ℕ) → Among c ds → Among (P c) (ids_of P ds)
  unfolding ids_of
  ids_among c [] m = absurd m
  ids_among c (d ∷ ds) m = ⊎_elim (λ e. inl (ap P e)) (λ o. inr (ids_among c ds o)) m

  -- where the id of the column is new, the ids stay rising
  pub insert_column_rising : (lo c : ℕ) (ds : List ℕ) → lo ≤ P c → ((d : ℕ) → Among d ds → P d ≡ P c → ⊥) → Rising lo (ids_of P ds)
      → Rising lo (ids_of P (insert_column P c ds))
  unfolding ids_of
  insert_column_rising lo c [] h f r = rw insert_column-nil (h, tt)
  insert_column_rising lo c (d ∷ ds) h f r =
      elim (order (P c) (P d)) [
        | less l ↦
            rw (insert_column_before P c d ds l) (
              h,
              insert_column_rising (suc (P c)) d ds l
                  (λ e m q. absurd (omega (arith, rising_above (suc (P d)) (P e) (ids_of P ds) r.1 (ids_among e ds m))))
                  (rising_weaken (suc (P d)) (suc (P c)) (ids_of P ds) (omega arith) r.1),
            )
        | equal l ↦ absurd (f d (inl refl) (sym l))
        | more l ↦
            let g : P d ≤ P c = omega arith in
            rw (insert_column_after P c d ds g) (r.0, insert_column_rising (suc (P d)) c ds l (λ e m. f e (inr m)) r.1)
      ]

-- The columns that are used

module _ (P : ℕ → ℕ) (T : ℕ → ℕ → ℕ) (ks : List ℕ) where
  with_column_keeps : (t : Bool) (c e : ℕ) (cols : List ℕ) → Among e cols → Among e (with_column P t c cols)
  with_column_keeps true c e cols m = rw with_column_used (insert_column_keeps P c e cols m)
  with_column_keeps false c e cols m = rw with_column_unused m

  with_column_only : (t : Bool) (c e : ℕ) (cols : List ℕ) → Among e (with_column P t c cols) → ((e ≡ c) × (t ≡ true)) ⊎ Among e cols
  with_column_only true c e cols m =
      ⊎_elim (λ q. inl (q, refl)) (λ o. inr o) (insert_column_only P c e cols (rw with_column_used at m))
  with_column_only false c e cols m = inr (rw with_column_unused at m)

  pub columns_keep : (n c e : ℕ) (cols : List ℕ) → Among e cols → Among e (columns_from P T ks n c cols)
  columns_keep zero c e cols m = rw columns-zero m
  columns_keep (suc n) c e cols m =
      rw columns-suc
      (columns_keep n (c + 1) e (with_column P (used_in T ks c) c cols) (with_column_keeps (used_in T ks c) c e cols m))

  -- a column of the plan
  pub record Used (lo hi c : ℕ) : Type 0 where
    pub above : lo ≤ c
    pub below : c < hi
    pub used : used_in T ks c ≡ true

  pub columns_only : (n c e : ℕ) (cols : List ℕ) → Among e (columns_from P T ks n c cols) → Used c (c + n) e ⊎ Among e cols
  columns_only zero c e cols m = inr (rw columns-zero at m)
  columns_only (suc n) c e cols m =
      ⊎_elim (λ u. inl (record { above = omega (arith, u.above); below = omega (arith, u.below); used = u.used }))
      (λ o.
      ⊎_elim (λ q. inl (record { above = omega (arith, q.0); below = omega (arith, q.0); used = ap (used_in T ks) q.0 ∙ q.1 }))
      (λ a. inr a) (with_column_only (used_in T ks c) c e cols o))
      (columns_only n (c + 1) e (with_column P (used_in T ks c) c cols) (rw columns-suc at m))

  pub columns_in : (n c e : ℕ) (cols : List ℕ) → c ≤ e → e < c + n → used_in T ks e ≡ true → Among e (columns_from P T ks n c cols)
  columns_in zero c e cols h k u = absurd (omega arith)
  columns_in (suc n) c e cols h k u =
      elim (exact? eqb eqb_exact e c) [
        | inl q ↦
            rw columns-suc
            (columns_keep n (c + 1) e (with_column P (used_in T ks c) c cols) (here q))
        | inr d ↦ rw columns-suc (columns_in n (c + 1) e (with_column P (used_in T ks c) c cols) (omega (arith, d)) (omega arith) u)
      ]
    where
      here : e ≡ c → Among e (with_column P (used_in T ks c) c cols)
      here q =
          let v : used_in T ks c ≡ true = ap (used_in T ks) (sym q) ∙ u in
          rw (v, with_column_used P c cols, q) (insert_column_here P c cols)

  pub columns_rising : (n c : ℕ) (cols : List ℕ) → ((d e : ℕ) → d < c + n → e < c + n → P d ≡ P e → d ≡ e)
      → ((d : ℕ) → Among d cols → d < c) → Rising 0 (ids_of P cols) → Rising 0 (ids_of P (columns_from P T ks n c cols))
  columns_rising zero c cols f b r = rw columns-zero r
  columns_rising (suc n) c cols f b r =
      rw columns-suc
      (columns_rising n (c + 1) (with_column P (used_in T ks c) c cols) (λ d e h k. f d e (omega arith) (omega arith))
      (λ d m. ⊎_elim (λ q. omega (arith, q.0)) (λ o. omega (arith, b d o)) (with_column_only (used_in T ks c) c d cols m))
      (grows (used_in T ks c)))
    where
      grows : (t : Bool) → Rising 0 (ids_of P (with_column P t c cols))
      grows true =
          rw with_column_used
          (insert_column_rising P 0 c cols (omega arith)
          (λ d m q. absurd (omega (arith, b d m, f d c (omega (arith, b d m)) (omega arith) q))) r)
      grows false = rw with_column_unused r

  module _ (r : ℕ) where
    pub columns_of_only : (e : ℕ) → Among e (columns_of P T r ks) → Used 0 r e
    columns_of_only e m =
        ⊎_elim (λ u. record { above = u.above; below = omega (arith, u.below); used = u.used }) (λ a. absurd a)
        (columns_only r 0 e [] (rw columns_of_lem at m))

    pub columns_of_in : (e : ℕ) → e < r → used_in T ks e ≡ true → Among e (columns_of P T r ks)
    columns_of_in e h u = rw columns_of_lem (columns_in r 0 e [] (omega arith) (omega arith) u)

    pub columns_of_rising : ((d e : ℕ) → d < r → e < r → P d ≡ P e → d ≡ e) → Rising 0 (ids_of P (columns_of P T r ks))
    columns_of_rising f =
        rw columns_of_lem (columns_rising r 0 [] (λ d e h k. f d e (omega arith) (omega arith)) (λ d m. absurd m) (rw ids-nil tt))

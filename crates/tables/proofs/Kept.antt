-- The rows of a plan that are kept, as steps: a row whose vector is that of the row before is left out, so the steps change. The value
-- of the steps at an item is the vector of the last row whose bound is not above it.
use Prim.Native.Nat.{ℕ, zero, suc, ◌+◌, ◌≤◌, ◌<◌}
use mathlib.Core.Path.{◌≡◌, refl, sym, ◌∙◌, ap}
use mathlib.Core.Logic.{inl, inr}
use mathlib.Core.Bool.{true, false}
use mathlib.Core.List.{List, [], ◌∷◌}
use native.Mathlib.Omega.{arith}
use Rattle.layout.specs.Knowledge.{Element, All}
use Rattle.ticks.specs.Meaning.{highest}
use Rattle.ticks.specs.Table.{at}
use Rattle.ticks.specs.Written.{eq_vector}
use Rattle.ticks.proofs.Lists.{less, same as equal, more, order}
use Rattle.ticks.proofs.Equality.{eq_vector_exact, exact?, exact_yes, exact_no}
use Rattle.ticks.proofs.Steps.{Changing, at-nil, at-ge, before_steps}
use Rattle.tables.specs.MethodPlan.{rows_from}
use Rattle.tables.proofs.Clauses.{rows-zero, rows-suc}

-- the steps of the rows, after one with vector v
unfoldable pub kept_from : (ℕ → ℕ) → (ℕ → List Element) → List Element → List ℕ → List (ℕ × List Element)
kept_from B W v [] = []
kept_from B W v (k ∷ ks) = elim (eq_vector (W k) v) [ true ↦ kept_from B W v ks | false ↦ (B k, W k) ∷ kept_from B W (W k) ks ]

module _ (B : ℕ → ℕ) (W : ℕ → List Element) where
  kept-nil : (v : List Element) → kept_from B W v [] ≡ []
  unfolding kept_from
  kept-nil v = refl

  kept_joined : (v : List Element) (k : ℕ) (ks : List ℕ) → W k ≡ v → kept_from B W v (k ∷ ks) ≡ kept_from B W v ks
  unfolding kept_from
  kept_joined v k ks e = rw (exact_yes eq_vector eq_vector_exact (W k) v e, kept_from)

  kept_cons : (v : List Element) (k : ℕ) (ks : List ℕ) → (W k ≡ v → ⊥) → kept_from B W v (k ∷ ks) ≡ (B k, W k) ∷ kept_from B W (W k) ks
  unfolding kept_from
  kept_cons v k ks n = rw (exact_no eq_vector eq_vector_exact (W k) v n, kept_from)

  -- n rows from k on
  pub kept-zero : (v : List Element) (k : ℕ) → kept_from B W v (rows_from k 0) ≡ []
  kept-zero v k = ap (kept_from B W v) (rows-zero k) ∙ kept-nil v

  pub kept-suc-joined : (v : List Element) (k n : ℕ) → W k ≡ v → kept_from B W v (rows_from k (suc n)) ≡ kept_from B W v (rows_from (k + 1) n)
  kept-suc-joined v k n e = ap (kept_from B W v) (rows-suc k n) ∙ kept_joined v k (rows_from (k + 1) n) e

  pub kept-suc : (v : List Element) (k n : ℕ) → (W k ≡ v → ⊥)
      → kept_from B W v (rows_from k (suc n)) ≡ (B k, W k) ∷ kept_from B W (W k) (rows_from (k + 1) n)
  kept-suc v k n e = ap (kept_from B W v) (rows-suc k n) ∙ kept_cons v k (rows_from (k + 1) n) e

  -- what holds for the vector of every row holds for those of the steps
  pub kept_all : (Q : List Element → Type 0) (v : List Element) (ks : List ℕ) → ((k : ℕ) → Q (W k)) → All (λ e. Q e.1) (kept_from B W v ks)
  kept_all Q v [] f = rw kept-nil tt
  kept_all Q v (k ∷ ks) f =
      elim (exact? eq_vector eq_vector_exact (W k) v) [
        | inl e ↦ rw (kept_joined v k ks e) (kept_all Q v ks f)
        | inr e ↦ rw (kept_cons v k ks e) (f k, kept_all Q (W k) ks f)
      ]

  -- bounds of n rows from k on, rising, and items
  pub record Climbs (k n : ℕ) : Type 0 where
    pub rising : (j : ℕ) → k ≤ j → j + 1 < k + n → B j < B (j + 1)
    pub items : (j : ℕ) → k ≤ j → j < k + n → B j ≤ highest

  climbs_on : (k n : ℕ) → Climbs k (suc n) → Climbs (k + 1) n
  climbs_on k n c = record {
    rising = λ j h l. c.rising j (omega arith) (omega arith);
    items = λ j h l. c.items j (omega arith) (omega arith);
  }

  -- the steps change
  pub kept_changing : (n k lo : ℕ) (v : List Element) → Climbs k n → (1 ≤ n → lo ≤ B k) → Changing highest lo v (kept_from B W v (rows_from k n))
  kept_changing zero k lo v c h = rw kept-zero tt
  kept_changing (suc n) k lo v c h =
      elim (exact? eq_vector eq_vector_exact (W k) v) [
        | inl e ↦
            rw (kept-suc-joined v k n e)
            (kept_changing n (k + 1) lo v (climbs_on k n c) (λ l. omega (arith, h (omega arith), c.rising k (omega arith) (omega arith))))
        | inr e ↦
            rw (kept-suc v k n e) (
              h (omega arith),
              (
                c.items k (omega arith) (omega arith),
                (
                  e,
                  kept_changing n (k + 1) (suc (B k)) (W k) (climbs_on k n c) (λ l. omega (arith, c.rising k (omega arith) (omega arith))),
                ),
              ),
            )
      ]

  -- the row that an item is in: the last of the rows from j to j + n whose bound is not above it
  pub record RowAt (j n i : ℕ) (v : List Element) : Type 0 where
    pub row : ℕ
    pub from : j ≤ row
    pub upto : row ≤ j + n
    pub above : B row ≤ i
    pub below : row < j + n → i < B (row + 1)
    pub is : v ≡ W row

  row_later : (j n i : ℕ) (v w : List Element) → v ≡ w → RowAt (j + 1) n i w → RowAt j (suc n) i v
  row_later j n i v w e a = record {
    row = a.row;
    from = omega (arith, a.from);
    upto = omega (arith, a.upto);
    above = a.above;
    below = λ h. a.below (omega arith);
    is = e ∙ a.is;
  }

  pub kept_at : (n j i : ℕ) (v : List Element) → Climbs (j + 1) n → W j ≡ v → B j ≤ i → RowAt j n i (at v (kept_from B W v (rows_from (j + 1) n)) i)
  kept_at zero j i v c e h = record {
    row = j;
    from = omega arith;
    upto = omega arith;
    above = h;
    below = λ l. absurd (omega arith);
    is = ap (λ s. at v s i) (kept-zero v (j + 1)) ∙ at-nil v i ∙ sym e;
  }
  kept_at (suc n) j i v c e h =
      elim (order i (B (j + 1))) [
        | less l ↦ record {
          row = j;
          from = omega arith;
          upto = omega arith;
          above = h;
          below = λ m. l;
          is =
              before_steps highest (B (j + 1)) v v (kept_from B W v (rows_from (j + 1) (suc n))) i
              (kept_changing (suc n) (j + 1) (B (j + 1)) v c (λ m. omega arith)) l
              ∙ sym e;
        }
        | equal l ↦ onward (omega arith) (kept_at n (j + 1) i)
        | more l ↦ onward (omega arith) (kept_at n (j + 1) i)
      ]
    where
      onward : B (j + 1) ≤ i
          → ((w : List Element) → Climbs (j + 1 + 1) n → W (j + 1) ≡ w → B (j + 1) ≤ i
          → RowAt (j + 1) n i (at w (kept_from B W w (rows_from (j + 1 + 1) n)) i))
          → RowAt j (suc n) i (at v (kept_from B W v (rows_from (j + 1) (suc n))) i)
      onward l ih =
          elim (exact? eq_vector eq_vector_exact (W (j + 1)) v) [
            | inl q ↦
                row_later j n i (at v (kept_from B W v (rows_from (j + 1) (suc n))) i) (at v (kept_from B W v (rows_from (j + 1 + 1) n)) i)
                (ap (λ s. at v s i) (kept-suc-joined v (j + 1) n q)) (ih v (climbs_on (j + 1) n c) q l)
            | inr q ↦
                row_later j n i (at v (kept_from B W v (rows_from (j + 1) (suc n))) i)
                (at (W (j + 1)) (kept_from B W (W (j + 1)) (rows_from (j + 1 + 1) n)) i)
                (ap (λ s. at v s i) (kept-suc v (j + 1) n q)
                ∙ at-ge v (B (j + 1), W (j + 1)) (kept_from B W (W (j + 1)) (rows_from (j + 1 + 1) n)) i l)
                (ih (W (j + 1)) (climbs_on (j + 1) n c) refl l)
          ]

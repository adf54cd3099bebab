-- Two rows are alike where they agree in every column, and alike rows have the same mixed word: rows with unlike words need not be
-- compared.
use Prim.Native.Nat.{ℕ, zero, suc, ◌<◌}
use mathlib.Core.Path.{◌≡◌, refl, sym, ◌∙◌, ap₂}
use mathlib.Core.Logic.{inl, inr}
use mathlib.Core.Bool.{Bool, true, false}
use native.Mathlib.Omega.{arith}
use lib.Dec.{eqb}
use Rattle.ticks.proofs.Equality.{eqb_exact, exact?, clash}
use Rattle.tables.specs.MethodPlan.{same_below, same, stir, mix_below}
use Rattle.tables.proofs.Clauses.{same_below-zero, same_below_equal, same_below_unlike, same_is, mix_below-zero, mix_below-suc}

module _ (T : ℕ → ℕ → ℕ) (j k : ℕ) where
  pub below_agree : (c d : ℕ) → same_below T j k c ≡ true → d < c → T j d ≡ T k d
  below_agree zero d e h = absurd (omega arith)
  below_agree (suc c) d e h =
      elim (exact? eqb eqb_exact (T j c) (T k c)) [
        | inl q ↦
            elim (exact? eqb eqb_exact d c) [
              | inl l ↦ rw l q
              | inr n ↦ below_agree c d (sym (same_below_equal T j k c q) ∙ e) (omega (arith, n))
            ]
        | inr n ↦ clash (same_below T j k (suc c)) e (same_below_unlike T j k c n)
      ]

  pub agree_below : (c : ℕ) → ((d : ℕ) → d < c → T j d ≡ T k d) → same_below T j k c ≡ true
  agree_below zero f = same_below-zero T j k
  agree_below (suc c) f = same_below_equal T j k c (f c (omega arith)) ∙ agree_below c (λ d h. f d (omega arith))

  pub same_agree : (r d : ℕ) → same T r j k ≡ true → d < r → T j d ≡ T k d
  same_agree r d e h = below_agree r d (sym (same_is T r j k) ∙ e) h

  pub agree_same : (r : ℕ) → ((d : ℕ) → d < r → T j d ≡ T k d) → same T r j k ≡ true
  agree_same r f = same_is T r j k ∙ agree_below r f

  agree_mix : (c : ℕ) → ((d : ℕ) → d < c → T j d ≡ T k d) → mix_below T j c ≡ mix_below T k c
  agree_mix zero f = mix_below-zero T j ∙ sym (mix_below-zero T k)
  agree_mix (suc c) f =
      mix_below-suc T j c ∙ ap₂ stir (agree_mix c (λ d h. f d (omega arith))) (f c (omega arith)) ∙ sym (mix_below-suc T k c)

  pub same_mix : (r : ℕ) → same_below T j k r ≡ true → mix_below T j r ≡ mix_below T k r
  same_mix r e = agree_mix r (λ d h. below_agree r d e h)

  -- rows with unlike words are not alike
  pub unlike_mix : (r : ℕ) → (mix_below T j r ≡ mix_below T k r → ⊥) → same_below T j k r ≡ false
  unlike_mix r n = go (same_below T j k r) refl
    where
      go : (t : Bool) → same_below T j k r ≡ t → t ≡ false
      go true e = absurd (n (same_mix r e))
      go false e = refl

pub same_self : (T : ℕ → ℕ → ℕ) (r k : ℕ) → same T r k k ≡ true
same_self T r k = agree_same T k k r (λ d h. refl)

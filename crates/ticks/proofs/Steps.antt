-- Step functions for any values: what begins with a value and changes at rising bounds. Where each step differs from
-- the one before, the steps are known by the function.
use Prim.Native.Nat.{ℕ, zero, suc, ◌≤◌, ◌<◌}
use mathlib.Core.Path.{◌≡◌, refl, sym, ◌∙◌, ap, ap₂}
use mathlib.Core.Logic.{◌⊎◌, inl, inr, ⊎_elim}
use mathlib.Core.List.{List, [], ◌∷◌}
use native.Mathlib.Omega.{arith}
use borrow.Author.Tests.{lt-ltb, le-ltb}
use Rattle.ticks.specs.Table.{at}
use Rattle.ticks.proofs.Lists.{Among, less, same, more, order, among?}

-- the bounds of steps
unfoldable pub step_bounds : {A : Type 0} → List (ℕ × A) → List ℕ
step_bounds [] = []
step_bounds (e ∷ s) = e.0 ∷ step_bounds s

-- bounds from lo to hi, rising, and each value unlike the one before, the first unlike v
abbrev pub Changing : {A : Type 0} → ℕ → ℕ → A → List (ℕ × A) → Type 0
Changing hi lo v [] = Unit {0}
Changing hi lo v (e ∷ s) = (lo ≤ e.0) × ((e.0 ≤ hi) × ((e.1 ≡ v → ⊥) × Changing hi (suc e.0) e.1 s))

module _ {A : Type 0} where
  pub at-nil : (v : A) (i : ℕ) → at v [] i ≡ v
  unfolding at
  at-nil v i = refl

  pub at_lt : (v : A) (e : ℕ × A) (s : List (ℕ × A)) (i : ℕ) → i < e.0 → at v (e ∷ s) i ≡ v
  unfolding at
  at_lt v e s i h = rw (lt-ltb i e.0 h, at)

  pub at-ge : (v : A) (e : ℕ × A) (s : List (ℕ × A)) (i : ℕ) → e.0 ≤ i → at v (e ∷ s) i ≡ at e.1 s i
  unfolding at
  at-ge v e s i h = rw (le-ltb i e.0 h, at)

  pub changing_weaken : (hi lo lo' : ℕ) (v : A) (s : List (ℕ × A)) → lo' ≤ lo → Changing hi lo v s → Changing hi lo' v s
  changing_weaken hi lo lo' v [] h c = tt
  changing_weaken hi lo lo' v (e ∷ s) h c = (omega (arith, c.0), c.1)

  -- below the bounds stands the value that the steps begin with
  pub before_steps : (hi lo : ℕ) (v w : A) (s : List (ℕ × A)) (i : ℕ) → Changing hi lo v s → i < lo → at w s i ≡ w
  before_steps hi lo v w [] i c h = at-nil w i
  before_steps hi lo v w (e ∷ s) i c h = at_lt w e s i (omega (arith, c.0))

  pub at_here : (hi lo : ℕ) (v : A) (e : ℕ × A) (s : List (ℕ × A)) → Changing hi lo v (e ∷ s) → at v (e ∷ s) e.0 ≡ e.1
  at_here hi lo v e s c =
      at-ge v e s e.0 (omega arith) ∙ before_steps hi (suc e.0) e.1 e.1 s e.0 c.1.1.1 (omega arith)

  -- steps that change are known by their function
  pub steps_unique : (hi lo : ℕ) (v : A) (s t : List (ℕ × A)) → Changing hi lo v s → Changing hi lo v t
      → ((i : ℕ) → lo ≤ i → i ≤ hi → at v s i ≡ at v t i) → s ≡ t
  steps_unique hi lo v [] [] c d f = refl
  steps_unique hi lo v [] (e ∷ t) c d f =
      absurd (d.1.1.0 (sym (at_here hi lo v e t d) ∙ sym (f e.0 d.0 d.1.0) ∙ at-nil v e.0))
  steps_unique hi lo v (e ∷ s) [] c d f =
      absurd (c.1.1.0 (sym (at_here hi lo v e s c) ∙ f e.0 c.0 c.1.0 ∙ at-nil v e.0))
  steps_unique hi lo v (e ∷ s) (g ∷ t) c d f =
      elim (order e.0 g.0) [
        | less k ↦ absurd (c.1.1.0 (sym (at_here hi lo v e s c) ∙ f e.0 c.0 c.1.0 ∙ at_lt v g t e.0 k))
        | more k ↦ absurd (d.1.1.0 (sym (at_here hi lo v g t d) ∙ sym (f g.0 d.0 d.1.0) ∙ at_lt v e s g.0 k))
        | same k ↦
            let q : e.1 ≡ g.1 =
            sym (at_here hi lo v e s c) ∙ f e.0 c.0 c.1.0 ∙ ap (λ n. at v (g ∷ t) n) k ∙ at_here hi lo v g t d in
            let d' : Changing hi (suc e.0) e.1 t = rw (k, q) d.1.1.1 in
            ap₂ (λ z zs. z ∷ zs) (λ j. (k j, q j))
            (steps_unique hi (suc e.0) e.1 s t c.1.1.1 d'
            (λ i h l.
            sym (at-ge v e s i (omega arith)) ∙ f i (omega (arith, c.0)) l ∙ at-ge v g t i (omega arith)
            ∙ ap (λ w. at w t i) (sym q)))
      ]

-- Functions that change at given items only

-- F changes at members of bs only, between lo and hi
abbrev pub Steady : {A : Type 0} → ℕ → ℕ → List ℕ → (ℕ → A) → Type 0
Steady hi lo bs F = (i : ℕ) → lo ≤ i → suc i ≤ hi → (Among (suc i) bs → ⊥) → F (suc i) ≡ F i

module _ {A : Type 0} (hi lo : ℕ) (bs : List ℕ) (F : ℕ → A) (steady : Steady hi lo bs F) where
  -- with no member passed, it does not change
  pub steady_flat : (i : ℕ) → lo ≤ i → i ≤ hi → ((j : ℕ) → lo < j → j ≤ i → Among j bs → ⊥) → F i ≡ F lo
  steady_flat zero h k n = ap F (omega arith)
  steady_flat (suc i) h k n =
      elim (order lo (suc i)) [
        | less l ↦
            steady i (omega arith) k (n (suc i) l (omega arith))
            ∙ steady_flat i (omega arith) (omega arith) (λ j a b. n j a (omega arith))
        | same l ↦ ap F (sym l)
        | more l ↦ absurd (omega arith)
      ]

  -- each value is that at lo, or at a member passed
  pub steady_from : (i : ℕ) → lo ≤ i → i ≤ hi → (F i ≡ F lo) ⊎ ((b : ℕ) × ((Among b bs) × ((lo < b) × ((b ≤ i) × (F i ≡ F b)))))
  steady_from zero h k = inl (ap F (omega arith))
  steady_from (suc i) h k =
      elim (order lo (suc i)) [
        | less l ↦
            ⊎_elim (λ m. inr (suc i, (m, (l, (omega arith, refl)))))
            (λ n.
            ⊎_elim (λ e. inl (steady i (omega arith) k n ∙ e))
            (λ w. inr (w.0, (w.1.0, (w.1.1.0, (omega (arith, w.1.1.1.0), steady i (omega arith) k n ∙ w.1.1.1.1)))))
            (steady_from i (omega arith) (omega arith)))
            (among? (suc i) bs)
        | same l ↦ inl (ap F (sym l))
        | more l ↦ absurd (omega arith)
      ]

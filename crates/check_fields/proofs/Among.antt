-- "Is x one of the numbers before": compared one after the other, the answer is that of the first that is left and
-- of those after it. With one number more, the answer is the one before, or that of the last.
use mathlib.Core.Path.{◌≡◌, refl, sym, ap, ◌∙◌}
use mathlib.Core.Bool.{Bool, true, false}
use mathlib.Core.List.{List}
use Prim.Native.Nat.{ℕ, zero, suc, ◌+◌, ◌-◌, ◌*◌, ◌<◌, ◌≤◌}
use native.Mathlib.Nat.{mul-zero, mul-suc}
use native.Mathlib.Omega.{arith}
use borrow.Author.Tests.{eq-eqb, ne_eqb}
use lib.Dec.{eqb}
use Rattle.codec.specs.Number.{be_at}
use Rattle.layout.specs.Read.{among}

among_clause :
    (s : List ℕ) (n step at j x : ℕ) (r : Bool)
    → eqb (be_at s n at) x ≡ r
    → among s n step at (suc j) x ≡ elim r [ true ↦ true | false ↦ among s n step (at + step) j x ]
unfolding among
among_clause s n step at j x r e = rw (e, among)

among_next :
    (s : List ℕ) (n step at k j x : ℕ) (r : Bool)
    → k ≡ suc j
    → eqb (be_at s n at) x ≡ r
    → among s n step at k x ≡ elim r [ true ↦ true | false ↦ among s n step (at + step) j x ]
among_next s n step at k j x r e h = ap (λ (m : ℕ). among s n step at m x) e ∙ among_clause s n step at j x r h

module _ (whole : Bool) (s : List ℕ) (n step at k i x : ℕ) (inv : whole ≡ among s n step at (k - i) x) where
  pub among_found : i < k → eqb (be_at s n at) x ≡ true → true ≡ whole
  among_found h e = sym (inv ∙ among_next s n step at (k - i) (k - (i + 1)) x true (omega arith) e)

  pub among_on : i < k → eqb (be_at s n at) x ≡ false → (next : ℕ) → next ≡ at + step → whole ≡ among s n step next (k - (i + 1)) x
  among_on h e next p =
      inv ∙ among_next s n step at (k - i) (k - (i + 1)) x false (omega arith) e
      ∙ ap (λ (b : ℕ). among s n step b (k - (i + 1)) x) (sym p)

  pub among_meets : i < k → (y : ℕ) → y ≡ be_at s n at → y ≡ x → true ≡ whole
  among_meets h y e f = among_found h (eq-eqb (be_at s n at) x (sym e ∙ f))

  pub among_misses : i < k → (y : ℕ) → y ≡ be_at s n at → (y ≡ x → ⊥) → (next : ℕ) → next ≡ at + step → whole ≡ among s n step next (k - (i + 1)) x
  among_misses h y e f next p = among_on h (ne_eqb (be_at s n at) x λ m. f (e ∙ m)) next p

  pub among_end : k ≤ i → false ≡ whole
  unfolding among
  among_end h = let z : k - i ≡ 0 = omega arith in sym (inv ∙ ap (λ (m : ℕ). among s n step at m x) z)

-- ---- one number more

-- the first answer, or else the second
abbrev pub either : Bool → Bool → Bool
either b c = elim b [ true ↦ true | false ↦ c ]

pub either_none : (b : Bool) → either b false ≡ b
either_none true = refl
either_none false = refl

pub either_sure : (b : Bool) → either b true ≡ true
either_sure true = refl
either_sure false = refl

either_more :
    (b m c w : Bool)
    → w ≡ either m c
    → either b w ≡ either (either b m) c
either_more true m c w e = refl
either_more false m c w e = e

-- x is one of k + 1 numbers where it is one of the k first, or the last
pub among_last :
    (s : List ℕ) (n step at k x : ℕ)
    → among s n step at (suc k) x ≡ either (among s n step at k x) (eqb (be_at s n (at + step * k)) x)
unfolding among
among_last s n step at zero x =
    let p : at ≡ at + step * zero = omega (arith, mul-zero step) in
    either_none (eqb (be_at s n at) x) ∙ ap (λ (y : ℕ). eqb (be_at s n y) x) p
among_last s n step at (suc k) x =
    let p : at + step + step * k ≡ at + step * suc k = omega (arith, mul-suc step k) in
    either_more
    (eqb (be_at s n at) x)
    (among s n step (at + step) k x)
    (eqb (be_at s n (at + step * suc k)) x)
    (among s n step (at + step) (suc k) x)
    (among_last s n step (at + step) k x
    ∙ ap (λ (y : ℕ). either (among s n step (at + step) k x) (eqb (be_at s n y) x)) p)

-- A part that is read again and again: the whole answer is the answer from here, as long as no part has a fault.
use mathlib.Core.Path.{◌≡◌, refl, sym, ap, ◌∙◌}
use mathlib.Core.List.{List}
use Prim.Native.Nat.{ℕ, zero, suc, ◌+◌, ◌-◌, ◌*◌, ◌<◌, ◌≤◌}
use native.Mathlib.Nat.{mul-zero, mul-suc}
use lib.ListN.{length}
use Rattle.std.specs.Prelude.{Result, Ok, Err, IsErrAnd}
use native.Mathlib.Omega.{arith}
use Rattle.layout.specs.Got.{Got}
use Rattle.codec.specs.declared.Refusal.{Refusal}
use Rattle.layout.specs.declared.Read.{Read}
use Rattle.layout.specs.Got.{Num, Fault, got_of}
use Rattle.layout.specs.Read.{◌▷◌, repeat}
use Rattle.check_fields.proofs.Steps.{Went, passed, then_on}

pub repeat_all : (f : ℕ → ℕ → Got) (n x at : ℕ) → repeat f n x at ≡ repeat f (n - 0) x at
repeat_all f n x at = let e : n ≡ n - 0 = omega arith in ap (λ (m : ℕ). repeat f m x at) e

repeat_next : (f : ℕ → ℕ → Got) (n m x at : ℕ) (g : Got) → n ≡ suc m → g ≡ f x at → repeat f n x at ≡ (g ▷ repeat f m)
unfolding repeat
repeat_next f n m x at g e h = rw (e, h)

module _ (whole : Got) (f : ℕ → ℕ → Got) (n k x at : ℕ) (inv : whole ≡ repeat f (n - k) x at) where
  -- the part here, and what is left after it
  pub repeat_step : k < n → whole ≡ (f x at ▷ repeat f (n - (k + 1)))
  repeat_step h = inv ∙ repeat_next f (n - k) (n - (k + 1)) x at (f x at) (omega arith) refl

  pub repeat_refused : k < n → (e : Refusal) → got_of (Err e) ≡ f x at → got_of (Err e) ≡ whole
  unfolding got_of
  repeat_refused h e i = ap (λ (g : Got). g ▷ repeat f (n - (k + 1))) i ∙ sym (repeat_step h)

  pub repeat_fault : k < n → (r : Result Read Refusal) (e : Refusal) → IsErrAnd r (λ y. y ≡ e) → got_of (Err e) ≡ f x at → got_of r ≡ whole
  repeat_fault h r e i j = passed r e i whole (repeat_refused h e j)

  pub repeat_on : k < n → (y : Read) → got_of (Ok y) ≡ f x at → whole ≡ repeat f (n - (k + 1)) y.number y.next
  repeat_on h y e = repeat_step h ∙ sym (then_on y (f x at) _ (repeat f (n - (k + 1))) e refl)

  pub repeat_end : n ≤ k → Num x at ≡ whole
  unfolding repeat
  repeat_end h = let z : n - k ≡ 0 = omega arith in sym (inv ∙ ap (λ (m : ℕ). repeat f m x at) z)

-- n parts of one size each, where each is one more and inside the bytes
pub repeat_went :
    (s : List ℕ) (size : ℕ) (f : ℕ → ℕ → Got)
    → ((k at : ℕ) (g : Got) → g ≡ f k at → (y b : ℕ) → g ≡ Num y b → Went s size k at y b)
    → (n k at y b : ℕ)
    → at ≤ length s
    → repeat f n k at ≡ Num y b
    → (y ≡ k + n) × (b ≡ at + size * n) × (b ≤ length s)
unfolding repeat
repeat_went s size f each zero k at y b h e =
    let p : y ≡ k = cc in
    let q : b ≡ at = cc in
    (omega arith, omega (arith, mul-zero size), omega arith)
repeat_went s size f each (suc n) k at y b h e = by_case (f k at) refl (λ y' b'. repeat_went s size f each n y' b' y b)
  where
    by_case :
        (g : Got)
        → f k at ≡ g
        → ((y' b' : ℕ) → b' ≤ length s → repeat f n y' b' ≡ Num y b → (y ≡ y' + n) × (b ≡ b' + size * n) × (b ≤ length s))
        → (y ≡ k + suc n) × (b ≡ at + size * suc n) × (b ≤ length s)
    by_case (Fault j) t rest =
        let o : (f k at ▷ repeat f n) ≡ Num y b = e in
        let z : ◌≡◌ {A = ℕ} 0 1 = cc (ap (λ (g : Got). g ▷ repeat f n) t) in
        absurd (omega arith)
    by_case (Num y' b') t rest =
        let o : (f k at ▷ repeat f n) ≡ Num y b = e in
        let w = each k at (Num y' b') (sym t) y' b' refl in
        let i : repeat f n y' b' ≡ Num y b = cc (ap (λ (g : Got). g ▷ repeat f n) t) in
        let l = rest y' b' w.inside i in
        (omega arith, omega (arith, mul-suc size n), omega arith)

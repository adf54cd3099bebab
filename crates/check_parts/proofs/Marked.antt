-- Elements of a clock vector with marks for the keys that were met. A key without a mark is none of the keys before:
-- a new element adds its own key to those before it, and marks it.
use mathlib.Core.Path.{◌≡◌, refl, sym, ap, ◌∙◌}
use mathlib.Core.Bool.{Bool, true, false, not, ◌||◌, true≢false}
use mathlib.Core.List.{List}
use Prim.Native.Nat.{ℕ, suc, ◌+◌, ◌-◌, ◌*◌, ◌<◌, ◌≤◌}
use native.Mathlib.Numerals.{add-one}
use native.Mathlib.Omega.{arith}
use borrow.Author.Tests.{ne_eqb}
use lib.Dec.{eqb}
use lib.ListN.{length, get_or, set}
use lib.Seq.{get_or-set_same, get_or-set_other}
use Rattle.codec.specs.Number.{Bytes, be_at}
use Rattle.codec.proofs.Numbers.{be_suc, be_below}
use Rattle.std.specs.Prelude.{Ok}
use Rattle.layout.specs.Got.{Num, got_of}
use Rattle.layout.specs.Knowledge.{largest_tick}
use Rattle.layout.specs.Read.{repeat, among, element}
use Rattle.check_fields.proofs.Among.{either, among_last}
use Rattle.check_fields.proofs.Repeat.{repeat_all, repeat_on, repeat_end}
use Rattle.check_fields.proofs.Element.{element_good}

-- ---- one number more

none_more :
    (s : List ℕ) (n step at k x : ℕ)
    → among s n step at k x ≡ false
    → (be_at s n (at + step * k) ≡ x → ⊥)
    → among s n step at (suc k) x ≡ false
none_more s n step at k x e ne =
    among_last s n step at k x
    ∙ ap (λ (b : Bool). either b (eqb (be_at s n (at + step * k)) x)) e
    ∙ ne_eqb (be_at s n (at + step * k)) x ne

-- two tests that are or'ed fail only where both do
pub neither : (a b : Bool) → (a || b) ≡ false → (a ≡ false) × (b ≡ false)
neither false b e = (refl, e)
neither true b e = absurd (true≢false e)

pub not_true : (b : Bool) → not b ≡ true → b ≡ false
not_true false e = refl
not_true true e = absurd (true≢false (sym e))

-- a tick whose first byte is below 128
tick_low : (s : List ℕ) (at : ℕ) → Bytes s → get_or s at 0 < 128 → be_at s 8 at ≤ largest_tick
tick_low s at b h = omega (arith, be_suc s 7 at, be_below s 7 (at + 1) b)

-- ---- k elements without a fault, and their marks

pub record Marked (s : List ℕ) (r start n k : ℕ) (seen : List Bool) : Type 0 where
  pub rest : repeat (element s r start) n 0 start ≡ repeat (element s r start) (n - k) k (start + 12 * k)
  pub marks : (y : ℕ) → get_or seen y false ≡ false → among s 4 12 start k y ≡ false

pub marked_none : (s : List ℕ) (r start n : ℕ) (seen : List Bool) → Marked s r start n 0 seen
unfolding among
marked_none s r start n seen =
    let p : start ≡ start + 12 * 0 = omega arith in
    record {
      rest = repeat_all (element s r start) n 0 start ∙ ap (λ (b : ℕ). repeat (element s r start) (n - 0) 0 b) p;
      marks = λ y h. refl;
    }

pub marked_more :
    (s : List ℕ) (r start n k at key : ℕ) (seen : List Bool)
    → Marked s r start n k seen
    → k < n
    → at ≡ start + 12 * k
    → key ≡ be_at s 4 at
    → key < r
    → r ≤ length seen
    → get_or seen key false ≡ false
    → get_or s (at + 4) 0 < 128
    → at + 12 ≤ length s
    → Bytes s
    → Marked s r start n (k + 1) (set seen key true)
unfolding got_of
marked_more s r start n k at key seen m h p e l o u t i b = record { rest = on; marks = λ y g. rw (add-one k) (none_more s 4 12 start k y (before y g) (other y g)) }
  where
    here : be_at s 4 (start + 12 * k) ≡ key
    here = ap (λ (x : ℕ). be_at s 4 x) (sym p) ∙ sym e

    met : among s 4 12 start k (be_at s 4 at) ≡ false
    met = ap (λ (x : ℕ). among s 4 12 start k x) (sym e) ∙ m.marks key u

    step : Num (k + 1) (at + 12) ≡ element s r start k at
    step = element_good s r start k at (omega arith) (omega arith) met i (tick_low s (at + 4) b t)

    step_got : got_of (Ok (record { number = k + 1; next = at + 12 })) ≡ element s r start k at
    step_got = step

    on : repeat (element s r start) n 0 start ≡ repeat (element s r start) (n - (k + 1)) (k + 1) (start + 12 * (k + 1))
    on =
        let q : at + 12 ≡ start + 12 * (k + 1) = omega arith in
        repeat_on
        (repeat (element s r start) n 0 start)
        (element s r start)
        n
        k
        k
        at
        (m.rest ∙ ap (λ (x : ℕ). repeat (element s r start) (n - k) k x) (sym p))
        h
        (record { number = k + 1; next = at + 12 })
        step_got
        ∙ ap (λ (x : ℕ). repeat (element s r start) (n - (k + 1)) (k + 1) x) q

    unlike : (y : ℕ) → get_or (set seen key true) y false ≡ false → y ≡ key → ⊥
    unlike y g q =
        let a : get_or (set seen key true) key false ≡ false = rw (q) at g in
        let c : get_or (set seen key true) key false ≡ true = get_or-set_same seen key true false (omega arith) in
        cc

    before : (y : ℕ) → get_or (set seen key true) y false ≡ false → among s 4 12 start k y ≡ false
    before y g = m.marks y (rw (get_or-set_other seen key y true false (unlike y g)) at g)

    other : (y : ℕ) → get_or (set seen key true) y false ≡ false → be_at s 4 (start + 12 * k) ≡ y → ⊥
    other y g q = unlike y g (sym q ∙ here)

pub marked_all : (s : List ℕ) (r start n k : ℕ) (seen : List Bool) → Marked s r start n k seen → k ≤ n → n ≤ k → repeat (element s r start) n 0 start ≡ Num n (start + 12 * n)
marked_all s r start n k seen m h l =
    let e : k ≡ n = omega arith in
    sym (repeat_end (repeat (element s r start) n 0 start) (element s r start) n k k (start + 12 * k) m.rest l)
    ∙ ap (λ (x : ℕ). Num x (start + 12 * x)) e

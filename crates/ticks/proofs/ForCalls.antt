-- What the lines of a call's table say where they do not hold: ids have their lengths, the span is no empty one, a
-- knowledge was read, and a result is within the limits. Each is read off its definition by the outcome of its tests.
use Prim.Native.Nat.{ℕ, ◌≤◌, ◌<◌}
use mathlib.Core.Path.{◌≡◌, refl}
use mathlib.Core.Bool.{Bool, true, false, ◌||◌}
use mathlib.Core.List.{List}
use mathlib.Core.Logic.{inl, inr}
use native.Mathlib.Omega.{arith}
use lib.Dec.{eqb, ltb}
use lib.ListN.{length}
use borrow.Author.Tests.{eqb-true, ltb-false, not-false}
use Rattle.codec.specs.Number.{be_at}
use Rattle.codec.proofs.Replies.{None, First}
use Rattle.layout.specs.Knowledge.{Limits, Knowledge}
use Rattle.ticks.specs.Operations.{too_many_replicas, too_many_ranges}
use Rattle.ticks.specs.Calls.{id_of, wrong_length, wrong_span, result_lines}

pub or_false : (a b : Bool) → (a || b) ≡ false → (a ≡ false) × (b ≡ false)
or_false false b h = (refl, h)
or_false true b h =
    let z : ◌≡◌ {A = ℕ} 0 1 = cc in
    absurd (omega arith)

pub id_is : (n : ℕ) (s : List ℕ) → id_of n s ≡ be_at s n 0
unfolding id_of
id_is n s = refl

pub length_right : (n : ℕ) (s : List ℕ) → wrong_length n s ≡ false → length s ≡ n
unfolding wrong_length
length_right n s h = eqb-true (length s) n (not-false (eqb (length s) n) h)

pub span_right : (first last : List ℕ) → wrong_span first last ≡ false → (length first ≡ 24) × ((length last ≡ 24) × (id_of 24 first ≤ id_of 24 last))
unfolding wrong_span
span_right first last h =
    let a = or_false (wrong_length 24 first) (wrong_length 24 last || ltb (id_of 24 last) (id_of 24 first)) h in
    let b = or_false (wrong_length 24 last) (ltb (id_of 24 last) (id_of 24 first)) a.1 in
    (length_right 24 first a.0, (length_right 24 last b.0, ltb-false (id_of 24 last) (id_of 24 first) b.1))

-- a resulting knowledge within the limits
pub record Within (L : Limits) (k : Knowledge) : Type 0 where
  pub replicas : too_many_replicas L k ≡ false
  pub ranges : too_many_ranges L k ≡ false

pub within_lines : (L : Limits) (k : Knowledge) → None (result_lines L k) → Within L k
unfolding result_lines
within_lines L k h = record { replicas = h.0; ranges = h.1.0 }

-- a knowledge's own lines are 11 and 12
pub result_number : (L : Limits) (k : Knowledge) (n : ℕ) → First n (result_lines L k) → n < 14
unfolding result_lines
result_number L k n (inl h) = omega (arith, h.1)
result_number L k n (inr h) = elim h.1 [ inl i ↦ omega (arith, i.1) | inr i ↦ absurd i.1 ]

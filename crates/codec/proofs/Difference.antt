-- The larger of two numbers from their difference, with no test of the two. Let d be the difference of a and b modulo 2^64, and b
-- below 2^64. Where b is at most a, d is a − b, which is at most a. Elsewhere d is 2^64 − b + a, which is above a. So "d is at most
-- a", taken as the number 0 or 1, keeps just the difference that b lacks, and b with it is the larger.
use Rattle.std.proofs.Common.{◌≡◌, ℕ, ◌+◌, ◌-◌, ◌*◌, ◌%◌, ◌^◌, ◌<◌, ◌≤◌, max, Bool, leb, ◌⊎◌, sym, refl, ap, ◌∙◌, inl, inr, mul-zero, mul-one, arith, lit≤, le-leb}
use native.Mathlib.Decide.{dec_lt}
use borrow.Author.Tests.{lt-leb}
use mir.Val.{bool_byte}

-- d is the difference modulo 2^64: with b added it is a again
module _ (a b d : ℕ) (k : b < 2 ^ 64) (f : d < 2 ^ 64) (e : (d + b) % 2 ^ 64 ≡ a) where
  by_order : Dec (a < b) → d * bool_byte (leb d a) ≡ a - b
  by_order (yes l) =
      let above : a < d = omega arith in
      let nothing : a - b ≡ 0 = omega arith in
      ap (λ (x : Bool). d * bool_byte x) (lt-leb d a above) ∙ mul-zero d ∙ sym nothing
  by_order (no g) =
      let within : d ≤ a = omega arith in
      let exact : d ≡ a - b = omega arith in
      ap (λ (x : Bool). d * bool_byte x) (le-leb d a within) ∙ mul-one d ∙ exact

  -- what the factor keeps of the difference is what b lacks
  pub gap_kept : d * bool_byte (leb d a) ≡ a - b
  gap_kept = by_order (dec_lt a b)

-- x is the larger of a and b: not below either, and one of them
pub record Larger (a b x : ℕ) : Type 0 where
  pub first : a ≤ x
  pub second : b ≤ x
  pub one : (x ≡ a) ⊎ (x ≡ b)

-- Document 02, paper 2: "from the difference of the two numbers by arithmetic … the larger for all ticks from 0 to 2^63 − 1".
pub larger_tick : (a b d : ℕ) → a ≤ 9223372036854775807 → b ≤ 9223372036854775807 → d < 2 ^ 64 → (d + b) % 2 ^ 64 ≡ a →
    Larger a b (b + d * bool_byte (leb d a))
larger_tick a b d h k f e =
    let kept : d * bool_byte (leb d a) ≡ a - b = gap_kept a b d (omega arith) f e in
    record { first = omega arith; second = omega arith; one = which kept (dec_lt a b) }
  where
    which : d * bool_byte (leb d a) ≡ a - b → Dec (a < b) → (b + d * bool_byte (leb d a) ≡ a) ⊎ (b + d * bool_byte (leb d a) ≡ b)
    which kept (yes l) = inr (omega arith)
    which kept (no g) = inl (omega arith)

-- ---- what follows

-- there is one larger number
pub larger-max : (a b x : ℕ) → Larger a b x → x ≡ max a b
larger-max a b x l = by_which l.one
  where
    by_which : (x ≡ a) ⊎ (x ≡ b) → x ≡ max a b
    by_which (inl e) = omega (arith, l.second)
    by_which (inr e) = omega (arith, l.first)

-- "equal ones"
pub equal_ticks : (a d : ℕ) → a ≤ 9223372036854775807 → d < 2 ^ 64 → (d + a) % 2 ^ 64 ≡ a → a + d * bool_byte (leb d a) ≡ a
equal_ticks a d h f e = omega (arith, larger-max a a (a + d * bool_byte (leb d a)) (larger_tick a a d h h f e))

-- "and both ends": 0 and 2^63 − 1, on either side
both_lowest : 0 + 0 * bool_byte (leb 0 0) ≡ 0
both_lowest = equal_ticks 0 0 (lit≤ tt) (lit≤ tt) refl

both_highest : 9223372036854775807 + 0 * bool_byte (leb 0 9223372036854775807) ≡ 9223372036854775807
both_highest = equal_ticks 9223372036854775807 0 (lit≤ tt) (lit≤ tt) refl

first_highest : 0 + 9223372036854775807 * bool_byte (leb 9223372036854775807 9223372036854775807) ≡ 9223372036854775807
first_highest = larger-max _ _ _ (larger_tick 9223372036854775807 0 9223372036854775807 (lit≤ tt) (lit≤ tt) (lit≤ tt) refl)

second_highest : 9223372036854775807 + 9223372036854775809 * bool_byte (leb 9223372036854775809 0) ≡ 9223372036854775807
second_highest = larger-max _ _ _ (larger_tick 0 9223372036854775807 9223372036854775809 (lit≤ tt) (lit≤ tt) (lit≤ tt) refl)

-- Reading a number byte by byte: one byte more makes 256 times the number of those before it, and that byte. A number of at most eight
-- bytes stays below 2 ^ 64 on the way. What is read of a part is what is read at its place.
use Rattle.std.proofs.Common.{◌≡◌, ℕ, zero, suc, ◌+◌, ◌-◌, ◌*◌, ◌^◌, ◌<◌, ◌≤◌, List, length, take, drop, get_or, refl, ap, ◌∙◌, sym, add-one, add-zero, add_assoc, zero-add, mul_comm, arith, pow-add, length-take, length-drop}
use native.Mathlib.Nat.{pow-succ'}
use Rattle.std.proofs.Math.Pow.{pow_mono}
use lib.Arith.{digits_lt}
use Rattle.codec.specs.Number.{be_from, be_at}
use Rattle.codec.specs.Total.{read_at}
use Rattle.codec.proofs.Numbers.{be_add, be_drop, be_take}
use Rattle.codec.proofs.Total.{read_there}

module _ (s : List ℕ) (at : ℕ) where
  pub be_one : be_at s 1 at ≡ get_or s at 0
  unfolding be_at be_from
  be_one = omega arith

  pub be_four : be_at s 4 at ≡ get_or s at 0 * 16777216 + get_or s (at + 1) 0 * 65536 + get_or s (at + 2) 0 * 256 + get_or s (at + 3) 0
  unfolding be_at be_from
  be_four = simp add_assoc (omega arith)

  pub be_eight : be_at s 8 at ≡ be_at s 4 at * 4294967296 + be_at s 4 (at + 4)
  be_eight = be_add s 4 4 at

pub be_more : (s : List ℕ) (n : ℕ) → be_at s (n + 1) 0 ≡ be_at s n 0 * 256 + get_or s n 0
be_more s n =
    be_add s n 1 0 ∙ ap (λ (x : ℕ). be_at s n 0 * 256 + x) (be_one s (0 + n) ∙ ap (λ (i : ℕ). get_or s i 0) (zero-add n))

-- a power of 256 is one of 2
pub powers : (k : ℕ) → 2 ^ (8 * k) ≡ 256 ^ k
powers zero = refl
powers (suc k) =
    let e : 8 * suc k ≡ 8 * k + 8 = omega arith in
    ap (λ (m : ℕ). 2 ^ m) e
    ∙ pow-add 2 (8 * k) 8
    ∙ ap (λ (m : ℕ). m * 256) (powers k)
    ∙ mul_comm (256 ^ k) 256
    ∙ sym (pow-succ' 256 k)

module _ (n x b : ℕ) (h : x < 256 ^ n) (k : b < 256) where
  pub more_below : x * 256 + b < 256 ^ (n + 1)
  more_below = rw (add-one, pow-succ', mul_comm 256) (digits_lt h k)

  pub more_fits : n < 8 → x * 256 + b < 2 ^ 64
  more_fits l =
      let m : 8 * (n + 1) ≤ 64 = omega arith in
      omega (arith, more_below, powers (n + 1), pow_mono m)

pub be_of_part :
    (s : List ℕ) (n at : ℕ)
    → at + n ≤ length s
    → be_at (take (at + n - at) (drop at s)) (length (take (at + n - at) (drop at s))) 0 ≡ read_at s n at
be_of_part s n at h =
    ap (λ (k : ℕ). be_at (take (at + n - at) (drop at s)) k 0) whole
    ∙ ap (λ (m : ℕ). be_at (take m (drop at s)) n 0) width
    ∙ be_take (drop at s) n 0 n (omega arith)
    ∙ be_drop s n at 0
    ∙ ap (λ (p : ℕ). be_at s n p) (add-zero at)
    ∙ sym (read_there s n at h)
  where
    width : at + n - at ≡ n
    width = omega arith

    whole : length (take (at + n - at) (drop at s)) ≡ n
    whole = rw (length-take, length-drop) (omega arith)

-- a number of four bytes, and one of eight in halves
pub four_read : (s : List ℕ) (at n x : ℕ) → n ≡ 4 → at + n ≤ length s → x ≡ be_at s 4 at → x ≡ read_at s n at
four_read s at n x e h f = rw e (f ∙ sym (read_there s 4 at (omega arith)))

pub eight_read :
    (s : List ℕ) (at n x y : ℕ)
    → n ≡ 8
    → at + n ≤ length s
    → x ≡ be_at s 4 at
    → y ≡ be_at s 4 (at + 4)
    → x * 4294967296 + y ≡ read_at s n at
eight_read s at n x y e h f g = rw e (whole ∙ sym (read_there s 8 at (omega arith)))
  where
    whole : x * 4294967296 + y ≡ be_at s 8 at
    whole = rw (f, g) (sym (be_eight s at))

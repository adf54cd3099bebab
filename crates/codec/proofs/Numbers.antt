-- Numbers as bytes: the laws of reading (`be_at`) and of writing (`put`). A number that is read byte by byte
-- is the sum of its bytes, each times its power of 256, so reading splits at any byte, and n bytes make a
-- number below 256 ^ n. Writing takes the same digits by division, so what is written is read back, and
-- bytes that are read and written again are the bytes that stood there.
use Rattle.std.proofs.Common.{◌≡◌, ℕ, zero, suc, ◌+◌, ◌*◌, ◌/◌, ◌%◌, ◌^◌, ◌<◌, ◌≤◌, List, [], ◌∷◌, ◌++◌, length, get_or, take, drop, sym, refl, ap, ◌∙◌, ap₂, add-zero, add_assoc, mod-lt, mod-eq_of_lt, zero-lt-suc, mul_assoc, mul_comm, add-mul, suc-add, zero-add, zero-mul, add-one, one-add, arith, get_or-drop, drop-cons, get_or-take, pow-add}
use native.Mathlib.Nat.{pow-succ', one-le-pow}
use native.Mathlib.Nat.{mod-one, mul-add-div_right, mul-add-mod_self_right, div-div-eq-div-mul}
use lib.Arith.{digits_lt, digits_div, mod-mul}
use Rattle.codec.specs.Number.{Bytes, be_from, be_at, put}

-- bytes with one more in front
pub cons-bytes : {x : ℕ} {s : List ℕ} → x < 256 → Bytes s → Bytes (x ∷ s)
cons-bytes {x} {s} h b = record { below = each }
  where
    each : (i : ℕ) → get_or (x ∷ s) i 0 < 256
    each zero = h
    each (suc i) = b.below i

-- a power of 256 is positive
pub power_positive : (n : ℕ) → 0 < 256 ^ n
power_positive n = one-le-pow n 256 (zero-lt-suc 255)

-- ---- reading

-- what was read before counts as many times as the bytes that follow have values
pub be_from_lem : (s : List ℕ) (n at acc : ℕ) → be_from s n at acc ≡ acc * 256 ^ n + be_at s n at
unfolding be_from be_at
be_from_lem s zero at acc = omega arith
be_from_lem s (suc n) at acc =
    let g = get_or s at 0 in
    rw (pow-succ' 256 n)
    (omega (
      arith,
      be_from_lem s n (at + 1) (acc * 256 + g),
      be_from_lem s n (at + 1) (0 * 256 + g),
      add-mul (acc * 256) g (256 ^ n),
      add-mul (0 * 256) g (256 ^ n),
      mul_assoc acc 256 (256 ^ n),
    ))

pub be_zero : (s : List ℕ) (at : ℕ) → be_at s 0 at ≡ 0
unfolding be_from be_at
be_zero s at = refl

pub be_suc : (s : List ℕ) (n at : ℕ) → be_at s (suc n) at ≡ get_or s at 0 * 256 ^ n + be_at s n (at + 1)
be_suc s n at = step ∙ ap (λ (x : ℕ). x * 256 ^ n + be_at s n (at + 1)) (omega arith)
  where
    step : be_at s (suc n) at ≡ (0 * 256 + get_or s at 0) * 256 ^ n + be_at s n (at + 1)
    step = unfold be_from be_at in be_from_lem s n (at + 1) (0 * 256 + get_or s at 0)

pub be_add : (s : List ℕ) (n m at : ℕ) → be_at s (n + m) at ≡ be_at s n at * 256 ^ m + be_at s m (at + n)
be_add s zero m at = rw (zero-add, be_zero, add-zero, zero-mul, zero-add)
be_add s (suc n) m at =
    rw (suc-add, be_suc s (n + m) at, be_suc s n at, be_add s n m (at + 1), pow-add 256 n m)
    (omega (
      arith,
      add-mul (get_or s at 0 * 256 ^ n) (be_at s n (at + 1)) (256 ^ m),
      mul_assoc (get_or s at 0) (256 ^ n) (256 ^ m),
      ap (λ (x : ℕ). be_at s m x) place,
    ))
  where
    place : at + 1 + n ≡ at + suc n
    place = omega arith

pub be_below : (s : List ℕ) (n at : ℕ) → Bytes s → be_at s n at < 256 ^ n
be_below s zero at b = omega (arith, be_zero s at)
be_below s (suc n) at b = rw (be_suc, pow-succ') (digits_lt (b.below at) (be_below s n (at + 1) b))

pub be_drop : (s : List ℕ) (n a b : ℕ) → be_at (drop a s) n b ≡ be_at s n (a + b)
be_drop s zero a b = be_zero (drop a s) b ∙ sym (be_zero s (a + b))
be_drop s (suc n) a b =
    rw (be_suc (drop a s) n b, be_suc s n (a + b), be_drop s n a (b + 1), get_or-drop a s b 0, add_assoc a b 1)

pub be_take : (s : List ℕ) (n at m : ℕ) → at + n ≤ m → be_at (take m s) n at ≡ be_at s n at
be_take s zero at m h = be_zero (take m s) at ∙ sym (be_zero s at)
be_take s (suc n) at m h =
    let l : at + 1 + n ≤ m = omega arith in
    let k : at < m = omega arith in
    rw (be_suc (take m s) n at, be_suc s n at, be_take s n (at + 1) m l, get_or-take m s at 0 k)

-- ---- writing

pub put-length : (n x : ℕ) (t : List ℕ) → length (put n x t) ≡ n + length t
unfolding put
put-length zero x t = sym (zero-add (length t))
put-length (suc n) x t = omega (arith, put-length n x t)

-- what is read of the bytes of a number are its lowest digits
pub put_read : (n x : ℕ) (t : List ℕ) → be_at (put n x t) n 0 ≡ x % 256 ^ n
unfolding put
put_read zero x t = be_zero t 0 ∙ sym (mod-one x)
put_read (suc n) x t =
    be_suc (x / 256 ^ n % 256 ∷ put n x t) n 0
    ∙ ap (λ (y : ℕ). x / 256 ^ n % 256 * 256 ^ n + y) (sym (be_drop (x / 256 ^ n % 256 ∷ put n x t) n 1 0) ∙ put_read n x t)
    ∙ sym (rw (pow-succ' 256 n) (mod-mul x (zero-lt-suc 255) (power_positive n)))

pub put_be : (n x : ℕ) (t : List ℕ) → x < 256 ^ n → be_at (put n x t) n 0 ≡ x
put_be n x t h = put_read n x t ∙ mod-eq_of_lt h

pub put-drop : (n x k : ℕ) (t : List ℕ) → drop (n + k) (put n x t) ≡ drop k t
unfolding put
put-drop zero x k t = rw (zero-add k)
put-drop (suc n) x k t = rw (suc-add n k) (put-drop n x k t)

-- the n bytes do not show what is above 256 ^ n
pub put_low : (n x y : ℕ) (t : List ℕ) → put n (x * 256 ^ n + y) t ≡ put n y t
unfolding put
put_low zero x y t = refl
put_low (suc n) x y t = rw (high) (ap₂ {C = List ℕ} (λ b r. b ∷ r) digit (put_low n (x * 256) y t))
  where
    high : x * 256 ^ suc n + y ≡ x * 256 * 256 ^ n + y
    high = rw (pow-succ' 256 n, mul_assoc x 256 (256 ^ n))

    digit : (x * 256 * 256 ^ n + y) / 256 ^ n % 256 ≡ y / 256 ^ n % 256
    digit = rw (mul-add-div_right (power_positive n) (x * 256) y) (mul-add-mod_self_right x 256 (y / 256 ^ n))

pub put_join : (n m x y : ℕ) (t : List ℕ) → y < 256 ^ m → put (n + m) (x * 256 ^ m + y) t ≡ put n x (put m y t)
unfolding put
put_join zero m x y t h = rw (zero-add m) (put_low m x y t)
put_join (suc n) m x y t h = rw (suc-add n m) (ap₂ {C = List ℕ} (λ b r. b ∷ r) (ap (λ (v : ℕ). v % 256) digit) (put_join n m x y t h))
  where
    digit : (x * 256 ^ m + y) / 256 ^ (n + m) ≡ x / 256 ^ n
    digit =
        rw (pow-add 256 n m, mul_comm (256 ^ n) (256 ^ m), ← div-div-eq-div-mul (x * 256 ^ m + y) (256 ^ m) (256 ^ n), digits_div x h)

pub put_back : (s : List ℕ) (n at : ℕ) → Bytes s → at + n ≤ length s → drop at s ≡ put n (be_at s n at) (drop (at + n) s)
unfolding put
put_back s zero at b h = rw (add-zero at)
put_back s (suc n) at b h =
    drop-cons s at 0 (omega arith)
    ∙ ap₂ {C = List ℕ} (λ d r. d ∷ r) (sym digit) (rw (← add-one at) (put_back s n (at + 1) b (omega arith)) ∙ rest)
  where
    digit : be_at s (suc n) at / 256 ^ n % 256 ≡ get_or s at 0
    digit = rw (be_suc s n at, digits_div (get_or s at 0) (be_below s n (at + 1) b)) (mod-eq_of_lt (b.below at))

    rest : put n (be_at s n (at + 1)) (drop (at + 1 + n) s) ≡ put n (be_at s (suc n) at) (drop (at + suc n) s)
    rest = rw (be_suc s n at, add_assoc at 1 n, one-add n) (sym (put_low n (get_or s at 0) (be_at s n (at + 1)) (drop (at + suc n) s)))

pub put_bytes : (n x : ℕ) (t : List ℕ) → Bytes t → Bytes (put n x t)
unfolding put
put_bytes zero x t b = b
put_bytes (suc n) x t b = cons-bytes (mod-lt (x / 256 ^ n) (zero-lt-suc 255)) (put_bytes n x t b)

pub put-append : (n x : ℕ) (t : List ℕ) → put n x t ≡ put n x [] ++ t
unfolding put
put-append zero x t = refl
put-append (suc n) x t = ap {B = List ℕ} (λ r. x / 256 ^ n % 256 ∷ r) (put-append n x t)

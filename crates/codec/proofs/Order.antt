-- Ids in order. Bytes compared from the front are compared as the numbers that they make: where two first
-- bytes are the same, they add the same to both numbers, and where they differ, the bytes after them make
-- less than one of the first. An id of 16 or 24 bytes is two or three words of 64 bits, which are digits
-- in the same way, so comparing words, comparing numbers and comparing bytes are one.
use Rattle.std.proofs.Common.{◌≡◌, ℕ, zero, suc, ◌+◌, ◌*◌, ◌^◌, ◌<◌, ◌≤◌, Bool, true, false, eqb, ltb, List, get_or, sym, refl, ap, ◌∙◌, le_of_lt, mul-le-mul_right, suc-mul, arith, ltb-false, ltb-true, le-ltb, lt-ltb, eqb-true}
use borrow.Author.Tests.{eqb-false}
use Rattle.codec.specs.Number.{Bytes, be_at}
use Rattle.codec.specs.Words.{before, words2, words3}
use Rattle.codec.proofs.Numbers.{be_zero, be_suc, be_add, be_below}

-- two tests of order are the same where each outcome of one gives that of the other
pub same_test : (x y x' y' : ℕ) → (x < y → x' < y') → (y ≤ x → y' ≤ x') → ltb x y ≡ ltb x' y'
same_test x y x' y' less more = by_case (ltb x y) refl
  where
    by_case : (r : Bool) → ltb x y ≡ r → ltb x y ≡ ltb x' y'
    by_case true e = e ∙ sym (lt-ltb x' y' (less (ltb-true x y e)))
    by_case false e = e ∙ sym (le-ltb x' y' (more (ltb-false x y e)))

-- numbers of two digits to the base w: the first digits decide where they differ
pub lex : (w x y x' y' : ℕ) → y < w → x < x' → x * w + y < x' * w + y'
lex w x y x' y' h k = omega (arith, suc-mul x w, mul-le-mul_right w k)

-- the test of order, where the first digits differ and where they are the same
unlike_digit : (w x y x' y' : ℕ) → y < w → y' < w → (x ≡ x' → ⊥) → ltb x x' ≡ ltb (x * w + y) (x' * w + y')
unlike_digit w x y x' y' h h' ne = same_test x x' (x * w + y) (x' * w + y') (lex w x y x' y' h) more
  where
    more : x' ≤ x → x' * w + y' ≤ x * w + y
    more l = let k : x' < x = omega arith in le_of_lt (lex w x' y' x y h' k)

like_digit : (w x y x' y' : ℕ) → x ≡ x' → ltb y y' ≡ ltb (x * w + y) (x' * w + y')
like_digit w x y x' y' e =
    let c : x * w ≡ x' * w = ap (λ (v : ℕ). v * w) e in
    same_test y y' (x * w + y) (x' * w + y') (omega arith) (omega arith)

-- ---- bytes from the front

pub before_less : (n : ℕ) (s : List ℕ) (a : ℕ) (t : List ℕ) (b : ℕ) → Bytes s → Bytes t → before n s a t b ≡ ltb (be_at s n a) (be_at t n b)
unfolding before
before_less zero s a t b p q = rw (be_zero s a, be_zero t b)
before_less (suc n) s a t b p q = rw (be_suc s n a, be_suc t n b) (by_case (eqb (get_or s a 0) (get_or t b 0)) refl (before_less n s (a + 1) t (b + 1) p q))
  where
    by_case :
        (r : Bool)
        → eqb (get_or s a 0) (get_or t b 0) ≡ r
        → before n s (a + 1) t (b + 1) ≡ ltb (be_at s n (a + 1)) (be_at t n (b + 1))
        → before (suc n) s a t b ≡ ltb (get_or s a 0 * 256 ^ n + be_at s n (a + 1)) (get_or t b 0 * 256 ^ n + be_at t n (b + 1))
    by_case true e rest =
        rw (e, before) (rest ∙ like_digit (256 ^ n) (get_or s a 0) (be_at s n (a + 1)) (get_or t b 0) (be_at t n (b + 1)) (eqb-true _ _ e))
    by_case false e rest =
        rw (e, before)
        (unlike_digit
        (256 ^ n)
        (get_or s a 0)
        (be_at s n (a + 1))
        (get_or t b 0)
        (be_at t n (b + 1))
        (be_below s n (a + 1) p)
        (be_below t n (b + 1) q)
        (eqb-false _ _ e))

-- ---- ids as words

pub words2_be : (s : List ℕ) (at : ℕ) → be_at s 16 at ≡ words2 (be_at s 8 at) (be_at s 8 (at + 8))
unfolding words2
words2_be s at = be_add s 8 8 at

pub words3_be : (s : List ℕ) (at : ℕ) → be_at s 24 at ≡ words3 (be_at s 8 at) (be_at s 8 (at + 8)) (be_at s 8 (at + 16))
unfolding words2 words3
words3_be s at = be_add s 16 8 at ∙ ap (λ (x : ℕ). x * 2 ^ 64 + be_at s 8 (at + 16)) (words2_be s at)

-- ---- comparing words is comparing ids as numbers, which is comparing their bytes from the front

pub words2_front :
    (s : List ℕ) (a : ℕ) (t : List ℕ) (b : ℕ)
    → Bytes s
    → Bytes t
    → before 16 s a t b ≡ ltb (words2 (be_at s 8 a) (be_at s 8 (a + 8))) (words2 (be_at t 8 b) (be_at t 8 (b + 8)))
words2_front s a t b p q = before_less 16 s a t b p q ∙ rw (words2_be s a, words2_be t b)

pub words3_front :
    (s : List ℕ) (a : ℕ) (t : List ℕ) (b : ℕ)
    → Bytes s
    → Bytes t
    → before 24 s a t b
    ≡ ltb
    (words3 (be_at s 8 a) (be_at s 8 (a + 8)) (be_at s 8 (a + 16)))
    (words3 (be_at t 8 b) (be_at t 8 (b + 8)) (be_at t 8 (b + 16)))
words3_front s a t b p q = before_less 24 s a t b p q ∙ rw (words3_be s a, words3_be t b)

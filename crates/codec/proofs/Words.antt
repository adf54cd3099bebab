-- Ids as words are compared from the front: where the first words are the same the rest decides, and where they
-- differ they decide. It holds for a word of any size, since a rest is always below one more of the first word;
-- so the two-word and the three-word ids are two instances of one law, the latter with a rest of two words.
use Rattle.std.proofs.Common.{◌≡◌, ℕ, ◌+◌, ◌*◌, ◌/◌, ◌^◌, ◌<◌, Bool, true, false, eqb, ltb, List, sym, refl, ap, ◌∙◌, ap₂, add_assoc, mul_assoc, add-mul, arith, eq-eqb, ne_eqb, eqb-true}
use borrow.Author.Tests.{eqb-false}
use lib.Arith.{digits_lt, digits_div}
use Rattle.codec.specs.Number.{put}
use Rattle.codec.specs.Words.{words2, words3}
use Rattle.codec.proofs.Numbers.{put_join}
use Rattle.codec.proofs.Order.{same_test, lex}

-- two tests of sameness that pass and fail together are the same
eqb-alike : (a b c d : ℕ) → (a ≡ b → c ≡ d) → (c ≡ d → a ≡ b) → eqb a b ≡ eqb c d
eqb-alike a b c d f g = go (eqb a b) refl
  where
    go : (t : Bool) → eqb a b ≡ t → eqb a b ≡ eqb c d
    go true e = e ∙ sym (eq-eqb c d (f (eqb-true a b e)))
    go false e = e ∙ sym (ne_eqb c d (λ h. eqb-false a b e (g h)))

-- ---- a first word and a rest below w

less_rest : (w x x' y y' : ℕ) → x ≡ x' → ltb y y' ≡ ltb (x * w + y) (x' * w + y')
less_rest w x x' y y' e =
    let m : x * w ≡ x' * w = ap (λ (z : ℕ). z * w) e in
    same_test y y' (x * w + y) (x' * w + y') (λ h. omega arith) (λ h. omega arith)

same_rest : (w x x' y y' : ℕ) → x ≡ x' → eqb y y' ≡ eqb (x * w + y) (x' * w + y')
same_rest w x x' y y' e =
    let m : x * w ≡ x' * w = ap (λ (z : ℕ). z * w) e in
    eqb-alike y y' (x * w + y) (x' * w + y') (λ h. omega arith) (λ h. omega arith)

module _ (w x x' y y' : ℕ) (h : y < w) (h' : y' < w) (ne : x ≡ x' → ⊥) where
  less_first : ltb x x' ≡ ltb (x * w + y) (x' * w + y')
  less_first =
      same_test x x' (x * w + y) (x' * w + y') (λ k. lex w x y x' y' h k)
      (λ k. let l : x' < x = omega arith in omega (arith, lex w x' y' x y h' l))

  same_first : false ≡ eqb (x * w + y) (x' * w + y')
  same_first =
      sym
      (ne_eqb (x * w + y) (x' * w + y')
      (λ e. ne (sym (digits_div x h) ∙ ap (λ (v : ℕ). v / w) e ∙ digits_div x' h')))

-- ---- two words

module _ (a0 a1 b0 b1 : ℕ) where
  pub less2_rest : a0 ≡ b0 → ltb a1 b1 ≡ ltb (words2 a0 a1) (words2 b0 b1)
  unfolding words2
  less2_rest e = less_rest (2 ^ 64) a0 b0 a1 b1 e

  pub same2_rest : a0 ≡ b0 → eqb a1 b1 ≡ eqb (words2 a0 a1) (words2 b0 b1)
  unfolding words2
  same2_rest e = same_rest (2 ^ 64) a0 b0 a1 b1 e

  pub less2_first : a1 < 2 ^ 64 → b1 < 2 ^ 64 → (a0 ≡ b0 → ⊥) → ltb a0 b0 ≡ ltb (words2 a0 a1) (words2 b0 b1)
  unfolding words2
  less2_first h k ne = less_first (2 ^ 64) a0 b0 a1 b1 h k ne

  pub same2_first : a1 < 2 ^ 64 → b1 < 2 ^ 64 → (a0 ≡ b0 → ⊥) → false ≡ eqb (words2 a0 a1) (words2 b0 b1)
  unfolding words2
  same2_first h k ne = same_first (2 ^ 64) a0 b0 a1 b1 h k ne

-- ---- three words: a first word and a rest of two

split : (w x y z : ℕ) → (x * w + y) * w + z ≡ x * (w * w) + (y * w + z)
split w x y z = rw (add-mul, mul_assoc, add_assoc)

words3_split : (x y z : ℕ) → words3 x y z ≡ x * (2 ^ 64 * 2 ^ 64) + words2 y z
unfolding words2 words3
words3_split x y z = split (2 ^ 64) x y z

rest_below : (y z : ℕ) → y < 2 ^ 64 → z < 2 ^ 64 → words2 y z < 2 ^ 64 * 2 ^ 64
unfolding words2
rest_below y z h k = digits_lt h k

module _ (a0 a1 a2 b0 b1 b2 : ℕ) where
  pub less3_rest : (r : Bool) → a0 ≡ b0 → r ≡ ltb (words2 a1 a2) (words2 b1 b2) → r ≡ ltb (words3 a0 a1 a2) (words3 b0 b1 b2)
  less3_rest r e i =
      i ∙ less_rest (2 ^ 64 * 2 ^ 64) a0 b0 (words2 a1 a2) (words2 b1 b2) e
      ∙ sym (ap₂ ltb (words3_split a0 a1 a2) (words3_split b0 b1 b2))

  pub same3_rest : (r : Bool) → a0 ≡ b0 → r ≡ eqb (words2 a1 a2) (words2 b1 b2) → r ≡ eqb (words3 a0 a1 a2) (words3 b0 b1 b2)
  same3_rest r e i =
      i ∙ same_rest (2 ^ 64 * 2 ^ 64) a0 b0 (words2 a1 a2) (words2 b1 b2) e
      ∙ sym (ap₂ eqb (words3_split a0 a1 a2) (words3_split b0 b1 b2))

  module _ (h1 : a1 < 2 ^ 64) (h2 : a2 < 2 ^ 64) (k1 : b1 < 2 ^ 64) (k2 : b2 < 2 ^ 64) (ne : a0 ≡ b0 → ⊥) where
    pub less3_first : ltb a0 b0 ≡ ltb (words3 a0 a1 a2) (words3 b0 b1 b2)
    less3_first =
        less_first (2 ^ 64 * 2 ^ 64) a0 b0 (words2 a1 a2) (words2 b1 b2) (rest_below a1 a2 h1 h2)
        (rest_below b1 b2 k1 k2) ne
        ∙ sym (ap₂ ltb (words3_split a0 a1 a2) (words3_split b0 b1 b2))

    pub same3_first : false ≡ eqb (words3 a0 a1 a2) (words3 b0 b1 b2)
    same3_first =
        same_first (2 ^ 64 * 2 ^ 64) a0 b0 (words2 a1 a2) (words2 b1 b2) (rest_below a1 a2 h1 h2)
        (rest_below b1 b2 k1 k2) ne
        ∙ sym (ap₂ eqb (words3_split a0 a1 a2) (words3_split b0 b1 b2))

-- ---- the bytes of an id are the bytes of its words, one after the other

pub put_words2 : (x y : ℕ) (t : List ℕ) → y < 2 ^ 64 → put 16 (words2 x y) t ≡ put 8 x (put 8 y t)
unfolding words2
put_words2 x y t h = put_join 8 8 x y t h

pub put_words3 : (x y z : ℕ) (t : List ℕ) → y < 2 ^ 64 → z < 2 ^ 64 → put 24 (words3 x y z) t ≡ put 8 x (put 8 y (put 8 z t))
unfolding words2 words3
put_words3 x y z t h k = put_join 16 8 (words2 x y) z t k ∙ put_words2 x y (put 8 z t) h

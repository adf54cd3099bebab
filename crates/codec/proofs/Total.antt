-- The total leaves: a number that is there is the number of its bytes, one that is not is 0, and an id is its words. A limit that is
-- clamped to 1 to a largest is there, and one that was there already is the same. Each definition makes the test that
-- decides, so its cases are its laws.
use Rattle.std.proofs.Common.{◌≡◌, ℕ, ◌+◌, ◌<◌, ◌≤◌, Bool, true, false, ltb, List, length, sym, refl, ◌∙◌, ap₂, arith, ltb-false, ltb-true, le-ltb, lt-ltb, le-leb}
use borrow.Author.Tests.{lt-leb}
use Rattle.codec.specs.Number.{be_at}
use Rattle.codec.specs.Total.{read_at, clamp}
use Rattle.codec.specs.Words.{words2, words3}
use Rattle.codec.proofs.Order.{words2_be, words3_be}

-- ---- numbers

module _ (s : List ℕ) (n at : ℕ) where
  pub read_there : at + n ≤ length s → read_at s n at ≡ be_at s n at
  unfolding read_at
  read_there h = rw (le-leb (at + n) (length s) h, read_at)

  pub read_missing : length s < at + n → read_at s n at ≡ 0
  unfolding read_at
  read_missing h = rw (lt-leb (at + n) (length s) h, read_at)

-- a replica id and an item id, by their words
module _ (s : List ℕ) (at : ℕ) where
  pub read_id2 : at + 16 ≤ length s → words2 (read_at s 8 at) (read_at s 8 (at + 8)) ≡ be_at s 16 at
  read_id2 h = ap₂ words2 (read_there s 8 at (omega arith)) (read_there s 8 (at + 8) (omega arith)) ∙ sym (words2_be s at)

  pub read_id3 : at + 24 ≤ length s → words3 (read_at s 8 at) (read_at s 8 (at + 8)) (read_at s 8 (at + 16)) ≡ be_at s 24 at
  read_id3 h =
      rw (read_there s 8 at (omega arith), read_there s 8 (at + 8) (omega arith), read_there s 8 (at + 16) (omega arith))
      (sym (words3_be s at))

-- ---- limits

module _ (n largest : ℕ) where
  pub clamp_low : n < 1 → 1 ≡ clamp n largest
  unfolding clamp
  clamp_low h = rw (lt-ltb n 1 h, clamp)

  pub clamp_high : 1 ≤ n → largest < n → largest ≡ clamp n largest
  unfolding clamp
  clamp_high h l = rw (le-ltb n 1 h, lt-ltb largest n l, clamp)

  pub clamp_inside : 1 ≤ n → n ≤ largest → n ≡ clamp n largest
  unfolding clamp
  clamp_inside h l = rw (le-ltb n 1 h, le-ltb largest n l, clamp)

  pub clamp_within : 1 ≤ largest → (1 ≤ clamp n largest) × (clamp n largest ≤ largest)
  clamp_within h = by_case (ltb n 1) refl (ltb largest n) refl
    where
      by_case : (a : Bool) → ltb n 1 ≡ a → (b : Bool) → ltb largest n ≡ b → (1 ≤ clamp n largest) × (clamp n largest ≤ largest)
      by_case true a b b' =
          let e = clamp_low (ltb-true n 1 a) in
          (omega arith, omega arith)
      by_case false a true b =
          let e = clamp_high (ltb-false n 1 a) (ltb-true largest n b) in
          (omega arith, omega arith)
      by_case false a false b =
          let k : 1 ≤ n = ltb-false n 1 a in
          let l : n ≤ largest = ltb-false largest n b in
          let e = clamp_inside k l in
          (omega arith, omega arith)

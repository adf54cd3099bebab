-- Comparing bytes, and ids as words of 64 bits.
use Rattle.std.specs.Prelude.{ℕ, zero, suc, ◌+◌, ◌*◌, ◌^◌, Bool, true, false, List, eqb, ltb, get_or}

-- n bytes of s from a on, compared with those of t from b on, byte by byte from the front: are they below
unfoldable pub before : ℕ → List ℕ → ℕ → List ℕ → ℕ → Bool
before zero s a t b = false
before (suc n) s a t b =
    elim (eqb (get_or s a 0) (get_or t b 0)) [ true ↦ before n s (a + 1) t (b + 1) | false ↦ ltb (get_or s a 0) (get_or t b 0) ]

-- a replica id as two words of 64 bits, and an item id as three, the highest first
unfoldable pub words2 : ℕ → ℕ → ℕ
words2 x y = x * 2 ^ 64 + y

unfoldable pub words3 : ℕ → ℕ → ℕ → ℕ
words3 x y z = (x * 2 ^ 64 + y) * 2 ^ 64 + z

-- Numbers and ids as bytes. Document 01: "Multi-byte numbers are big-endian; ids are compared byte by byte from the front,
-- unsigned." An id is the number that its bytes make: 24 bytes for an item, 16 for a replica.
use Rattle.std.specs.Prelude.{ℕ, zero, suc, ◌+◌, ◌*◌, ◌/◌, ◌%◌, ◌^◌, ◌<◌, List, ◌∷◌, get_or}

pub record Bytes (s : List ℕ) : Type 0 where  -- a list of bytes
  pub below : (i : ℕ) → get_or s i 0 < 256

-- acc, followed by the n bytes of s from a place on, as one number; a byte past the end counts as 0
unfoldable pub be_from : List ℕ → ℕ → ℕ → ℕ → ℕ
be_from s zero at acc = acc
be_from s (suc n) at acc = be_from s n (at + 1) (acc * 256 + get_or s at 0)

unfoldable pub be_at : List ℕ → ℕ → ℕ → ℕ  -- the big-endian number in the n bytes of s from a place on
be_at s n at = be_from s n at 0

-- the n lowest bytes of a number, the highest of them first, in front of t
unfoldable pub put : ℕ → ℕ → List ℕ → List ℕ
put zero x t = t
put (suc n) x t = x / 256 ^ n % 256 ∷ put n x t

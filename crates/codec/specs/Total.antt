-- What the total leaves give where a byte is missing or a limit is out of its range. There is nothing to believe here: the laws
-- of `proofs/Total.antt` say that a number that is there is `be_at`, and that a limit inside its range stays as it is.
use Rattle.std.specs.Prelude.{ℕ, ◌+◌, true, false, List, ltb, leb, length}
use Rattle.codec.specs.Number.{be_at}

-- the big-endian number in the n bytes of s from a place on, 0 where one of them is missing
unfoldable pub read_at : List ℕ → ℕ → ℕ → ℕ
read_at s n at = elim (leb (at + n) (length s)) [ true ↦ be_at s n at | false ↦ 0 ]

-- a limit clamped to 1 to a largest
unfoldable pub clamp : ℕ → ℕ → ℕ
clamp n largest = elim (ltb n 1) [ true ↦ 1 | false ↦ elim (ltb largest n) [ true ↦ largest | false ↦ n ] ]

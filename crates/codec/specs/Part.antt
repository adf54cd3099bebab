-- Writing into a lent buffer: a number at a place, and a part of another slice. What has no room is not
-- written at all.
use Rattle.std.specs.Prelude.{ℕ, ◌+◌, true, false, List, [], ◌++◌, leb, length, take, drop}
use Rattle.codec.specs.Number.{put}

-- the buffer d with the bytes vs from a place on, or d itself where they do not all fit
unfoldable pub placed : List ℕ → ℕ → List ℕ → List ℕ
placed d at vs = elim (leb (at + length vs) (length d)) [ true ↦ take at d ++ (vs ++ drop (at + length vs) d) | false ↦ d ]

-- the n bytes of s from a place on, or none where s has fewer there
unfoldable pub part : List ℕ → ℕ → ℕ → List ℕ
part s at n = elim (leb (at + n) (length s)) [ true ↦ take n (drop at s) | false ↦ [] ]

-- the n-byte number x, as bytes alone
unfoldable pub bytes : ℕ → ℕ → List ℕ
bytes n x = put n x []

-- Tables of words, as code keeps them: ids of two words, bounds of three, and a matrix of ticks with a row for each
-- bound and a column for each id. There is nothing to believe here: the laws of the calls speak of bytes.
use Rattle.std.specs.Prelude.{ℕ, zero, suc, ◌+◌, ◌*◌, ◌^◌, ◌<◌, List, [], ◌∷◌, get_or}
use Rattle.codec.specs.Words.{words2, words3}
use Rattle.layout.specs.Permitted.{largest_replicas, largest_ranges}

-- a row has a cell for each replica of two knowledges
abbrev pub stride : ℕ
stride = 2 * largest_replicas

-- row 0, which is empty, and one for each range of two knowledges, and two more
abbrev pub most_rows : ℕ
most_rows = 2 * largest_ranges + 2

-- the tick in a row and a column
unfoldable pub cell : List ℕ → ℕ → ℕ → ℕ
cell t k c = get_or t (stride * k + c) 0

-- the id of a column, and the bound of a row
unfoldable pub id_at : List ℕ → ℕ → ℕ
id_at ids c = words2 (get_or ids (2 * c) 0) (get_or ids (2 * c + 1) 0)

unfoldable pub bound_at : List ℕ → ℕ → ℕ
bound_at bounds k = words3 (get_or bounds (3 * k) 0) (get_or bounds (3 * k + 1) 0) (get_or bounds (3 * k + 2) 0)

-- n numbers of a list from a place on, 0 past its end
unfoldable pub numbers_at : List ℕ → ℕ → ℕ → List ℕ
numbers_at l i zero = []
numbers_at l i (suc n) = get_or l i 0 ∷ numbers_at l (i + 1) n

-- a list of words of 64 bits
pub record Words (l : List ℕ) : Type 0 where
  pub below : (i : ℕ) → get_or l i 0 < 2 ^ 64

-- Columns for the ids of replica maps, as code finds and puts them one by one, in lists of any length. There is nothing to believe
-- here: the laws say that with room for them no two columns have the same id, and each key has the column of its replica.
use Rattle.std.specs.Prelude.{ℕ, zero, suc, ◌+◌, ◌*◌, true, false, List, eqb, ltb, set}
use Rattle.codec.specs.Number.{be_at}
use Rattle.codec.specs.Words.{words2}
use Rattle.layout.specs.MethodPlaces.{ids_place}
use Rattle.tables.specs.MethodWords.{id_at}

-- the first of n columns from c on that has the id p, or the column after them
unfoldable pub find_from : List ℕ → ℕ → ℕ → ℕ → ℕ
find_from ids p zero c = c
find_from ids p (suc n) c = elim (eqb (id_at ids c) p) [ true ↦ c | false ↦ find_from ids p n (c + 1) ]

-- of the first n columns, or n
unfoldable pub column_of : List ℕ → ℕ → ℕ → ℕ
column_of ids n p = find_from ids p n 0

-- column c has the id of two words
unfoldable pub put_id : List ℕ → ℕ → ℕ → ℕ → List ℕ
put_id ids c x y = set (set ids (2 * c) x) (2 * c + 1) y

-- ids with the column of one of them, and how many columns there are
pub record Join : Type 0 where
  pub ids : List ℕ
  pub column : ℕ
  pub count : ℕ

abbrev pub join_of : List ℕ → ℕ → ℕ → Join
join_of ids c m = record { ids = ids; column = c; count = m }

-- the column of an id among the first n of m, or a new one after the m
unfoldable pub joined : List ℕ → ℕ → ℕ → ℕ → ℕ → Join
joined ids n m x y =
    elim (ltb (column_of ids n (words2 x y)) n) [ true ↦ join_of ids (column_of ids n (words2 x y)) m | false ↦ join_of (put_id ids m x y) m (m + 1) ]

-- the ids of columns, how many there are, and the column of each key of a map
pub record ColumnList : Type 0 where
  pub ids : List ℕ
  pub count : ℕ
  pub keys : List ℕ

abbrev pub columns_of : List ℕ → ℕ → List ℕ → ColumnList
columns_of ids m keys = record { ids = ids; count = m; keys = keys }

-- the column of a key, whose id was joined
abbrev pub keyed : List ℕ → ℕ → Join → ColumnList
keyed keys key j = columns_of j.ids j.count (set keys key j.column)

-- the columns of some keys of a map in bytes, from a key on, after n columns that were there before the map's
unfoldable pub mapped_from : List ℕ → ℕ → ℕ → ℕ → ColumnList → ColumnList
mapped_from s n zero key x = x
mapped_from s n (suc left) key x =
    mapped_from s n left (key + 1)
    (keyed x.keys key (joined x.ids n x.count (be_at s 8 (ids_place + 16 * key)) (be_at s 8 (ids_place + 16 * key + 8))))

-- of its r keys
unfoldable pub mapped : List ℕ → ℕ → List ℕ → ℕ → List ℕ → ColumnList
mapped s r ids n keys = mapped_from s n r 0 (columns_of ids n keys)

-- The tables that are filled, for any bytes, any counts and any lists. There is nothing to believe here: the laws say that a table from
-- accepted bytes, with room for it, samples the ticks of its operation.
use Rattle.std.specs.Prelude.{ℕ, suc, ◌+◌, ◌*◌, ◌≤◌, ◌<◌, ◌≡◌, Bool, true, false, List, [], ◌∷◌, length, replicate}
use Rattle.layout.specs.Permitted.{largest_replicas}
use Rattle.layout.specs.MethodPlaces.{ids_place}
use Rattle.tables.specs.MethodWords.{stride, most_rows, cell, id_at, bound_at}
use Rattle.tables.specs.MethodPlan.{Sampled}
use Rattle.lookup.specs.declared.Cursor.{Cursor}
use Rattle.codec.specs.declared.Item.{Item}
use Rattle.sampling.specs.declared.Filled.{Filled}
use Rattle.sampling.specs.MethodColumns.{joined, mapped}
use Rattle.sampling.specs.MethodRows.{first_item, top_item, stopped}
use Rattle.sampling.specs.MethodStops.{at_most, spanned}
use Rattle.sampling.specs.MethodCells.{filled, column_set}

-- What is filled

-- are the ids and the ranges of r replicas and a cursor all in the bytes, and is there room for m columns and the rows up to n, in lists
-- of the given lengths
unfoldable pub fits : List ℕ → ℕ → Cursor → ℕ → ℕ → ℕ → ℕ → ℕ → Bool
fits s r c m n ids bounds t =
    at_most ((r, largest_replicas) ∷ (ids_place + 16 * r, length s) ∷ (c.next + 28 * c.left, length s)
    ∷ (m, stride) ∷ (suc n, most_rows) ∷ (2 * m, ids) ∷ (3 * suc n, bounds) ∷ (stride * suc n, t) ∷ [])

-- the rows `from` to `top`, raised where there is a bound for each
unfoldable pub filled_in : List ℕ → ℕ → Cursor → List ℕ → List ℕ → ℕ → ℕ → List ℕ → List ℕ
filled_in s r c keys bounds from top t =
    elim (at_most ((suc top, most_rows) ∷ (3 * suc top, length bounds) ∷ [])) [
      | true ↦ filled s r c keys bounds from top t
      | false ↦ t
    ]

-- all of the test at the start, with names
pub record Fits (s : List ℕ) (r : ℕ) (c : Cursor) (m n ids bounds t : ℕ) : Type 0 where
  pub small : r ≤ largest_replicas
  pub map : ids_place + 16 * r ≤ length s
  pub ranges : c.next + 28 * c.left ≤ length s
  pub columns : m ≤ stride
  pub rows : n < most_rows
  pub id_words : 2 * m ≤ ids
  pub bound_words : 3 * suc n ≤ bounds
  pub cells : stride * suc n ≤ t

-- Tables

pub record Table : Type 0 where
  pub ids : List ℕ
  pub bounds : List ℕ
  pub t : List ℕ
  pub filled : Filled

abbrev pub table_of : List ℕ → List ℕ → List ℕ → Filled → Table
table_of ids bounds t q = record { ids = ids; bounds = bounds; t = t; filled = q }

abbrev pub filled_of : ℕ → ℕ → Filled
filled_of columns rows = record { columns = columns; rows = rows }

-- nothing is filled
unfoldable pub no_table : List ℕ → List ℕ → List ℕ → Table
no_table ids bounds t = table_of ids bounds t (filled_of 0 0)

-- the keys of a map before they have columns
abbrev pub no_keys : List ℕ
no_keys = replicate largest_replicas 0

-- one knowledge
unfoldable pub one_filled : List ℕ → ℕ → Cursor → List ℕ → List ℕ → List ℕ → Table
one_filled s r start ids bounds t =
    let x = mapped s r ids 0 no_keys in
    let y = stopped s start.left start.next s 0 start.next first_item top_item bounds 1 in
    table_of x.ids y.bounds (filled s r start x.keys y.bounds 1 y.top t) (filled_of x.count y.top)

unfoldable pub one_table : List ℕ → ℕ → Cursor → List ℕ → List ℕ → List ℕ → Table
one_table s r start ids bounds t =
    elim (fits s r start r (start.left + 1) (length ids) (length bounds) (length t)) [
      | true ↦ one_filled s r start ids bounds t
      | false ↦ no_table ids bounds t
    ]

-- two knowledges
unfoldable pub two_filled : List ℕ → ℕ → Cursor → List ℕ → ℕ → Cursor → List ℕ → List ℕ → List ℕ → Table
two_filled s r start other m begin ids bounds t =
    let x = mapped s r ids 0 no_keys in
    let z = mapped other m x.ids x.count no_keys in
    let y = stopped s start.left start.next other begin.left begin.next first_item top_item bounds 1 in
    table_of z.ids y.bounds
    (filled other m begin z.keys y.bounds 1 y.top (filled s r start x.keys y.bounds 1 y.top t))
    (filled_of z.count y.top)

unfoldable pub two_table : List ℕ → ℕ → Cursor → List ℕ → ℕ → Cursor → List ℕ → List ℕ → List ℕ → Table
two_table s r start other m begin ids bounds t =
    elim (fits s r start (r + m) (start.left + begin.left + 1) (length ids) (length bounds) (length t)) [
      | true ↦ elim (fits other m begin (r + m) (start.left + begin.left + 1) (length ids) (length bounds) (length t)) [
        | true ↦ two_filled s r start other m begin ids bounds t
        | false ↦ no_table ids bounds t
      ]
      | false ↦ no_table ids bounds t
    ]

-- one knowledge inside a span
unfoldable pub span_filled : List ℕ → ℕ → Cursor → Item → Item → List ℕ → List ℕ → List ℕ → Table
span_filled s r start first last ids bounds t =
    let x = mapped s r ids 0 no_keys in
    let y = spanned s start first last bounds in
    table_of x.ids y.bounds (filled s r start x.keys y.bounds y.from y.top t) (filled_of x.count y.rows)

unfoldable pub span_table : List ℕ → ℕ → Cursor → Item → Item → List ℕ → List ℕ → List ℕ → Table
span_table s r start first last ids bounds t =
    elim (fits s r start r (start.left + 3) (length ids) (length bounds) (length t)) [
      | true ↦ span_filled s r start first last ids bounds t
      | false ↦ no_table ids bounds t
    ]

-- one knowledge, and the column of the replica of two words set to a tick
unfoldable pub raised_filled : List ℕ → ℕ → Cursor → ℕ → ℕ → ℕ → List ℕ → List ℕ → List ℕ → Table
raised_filled s r start p0 p1 tick ids bounds t =
    let x = mapped s r ids 0 no_keys in
    let j = joined x.ids x.count x.count p0 p1 in
    let y = stopped s start.left start.next s 0 start.next first_item top_item bounds 1 in
    table_of j.ids y.bounds
    (column_set j.column tick 1 y.top (filled s r start x.keys y.bounds 1 y.top t))
    (filled_of j.count y.top)

unfoldable pub raised_table : List ℕ → ℕ → Cursor → ℕ → ℕ → ℕ → List ℕ → List ℕ → List ℕ → Table
raised_table s r start p0 p1 tick ids bounds t =
    elim (fits s r start (r + 1) (start.left + 1) (length ids) (length bounds) (length t)) [
      | true ↦ raised_filled s r start p0 p1 tick ids bounds t
      | false ↦ no_table ids bounds t
    ]

-- What the laws say of them

-- room for m columns and for the rows up to n, the cells all 0
pub record TableRoom (m n : ℕ) (ids bounds t : List ℕ) : Type 0 where
  pub columns : m ≤ stride
  pub rows : n < most_rows
  pub id_words : 2 * m ≤ length ids
  pub bound_words : 3 * suc n ≤ length bounds
  pub cells : stride * suc n ≤ length t
  pub clear : (k c : ℕ) → cell t k c ≡ 0

-- a table of words samples the ticks f, with at most m columns and n rows
pub record Samples (ids bounds t : List ℕ) (m n : ℕ) (f : ℕ → ℕ → ℕ) (q : Filled) : Type 0 where
  pub is : Sampled (id_at ids) (bound_at bounds) (cell t) q.columns q.rows f
  pub columns : q.columns ≤ m
  pub rows : q.rows ≤ n

-- The rows of a table for any bytes, any counts and any lists: where the ranges are not all in the bytes, or where there is no room, no
-- row is put. There is nothing to believe here: the laws say that a table that is filled has room for its rows.
use Rattle.std.specs.Prelude.{ℕ, suc, ◌+◌, ◌*◌, Bool, true, false, List, [], ◌∷◌, leb, length}
use Rattle.tables.specs.MethodWords.{most_rows}
use Rattle.lookup.specs.declared.Cursor.{Cursor}
use Rattle.codec.specs.declared.Item.{Item}
use Rattle.sampling.specs.MethodRows.{first_item, top_item, RowList, rows_of, stopped, first_row, last_row}

-- are all first numbers at most the second ones
unfoldable pub at_most : List (ℕ × ℕ) → Bool
at_most [] = true
at_most (x ∷ xs) = elim (leb x.0 x.1) [ true ↦ at_most xs | false ↦ false ]

-- are the ranges of a cursor, and b ranges from a place on, all in their bytes, and is there room for the rows up to n in a list of the
-- given length
unfoldable pub rows_fit : List ℕ → Cursor → List ℕ → ℕ → ℕ → ℕ → ℕ → Bool
rows_fit s c t b bt n bounds =
    at_most ((c.next + 28 * c.left, length s) ∷ (bt + 28 * b, length t) ∷ (suc n, most_rows) ∷ (3 * suc n, bounds) ∷ [])

-- the rows of all items, from row 1 on, at the bounds of the ranges of a cursor and of b ranges from a place on
unfoldable pub all_stopped : List ℕ → Cursor → List ℕ → ℕ → ℕ → List ℕ → RowList
all_stopped s c t b bt bounds =
    elim (rows_fit s c t b bt (c.left + b + 1) (length bounds)) [
      | true ↦ stopped s c.left c.next t b bt first_item top_item bounds 1
      | false ↦ rows_of bounds 0
    ]

-- the bounds of rows, the first and the last row of a span, and the last row
pub record SpanList : Type 0 where
  pub bounds : List ℕ
  pub from : ℕ
  pub top : ℕ
  pub rows : ℕ

abbrev pub span_of : List ℕ → ℕ → ℕ → ℕ → SpanList
span_of bounds from top rows = record { bounds = bounds; from = from; top = top; rows = rows }

-- the rows of a span, with one at the first item of all and one behind the span
unfoldable pub spanned : List ℕ → Cursor → Item → Item → List ℕ → SpanList
spanned s c first last bounds =
    let f = first_row bounds first in
    let y = stopped s c.left c.next s 0 c.next first last f.bounds f.top in
    let z = last_row y last in
    span_of z.bounds f.top y.top z.top

unfoldable pub span_stopped : List ℕ → Cursor → Item → Item → List ℕ → SpanList
span_stopped s c first last bounds =
    elim (rows_fit s c s 0 c.next (c.left + 3) (length bounds)) [
      | true ↦ spanned s c first last bounds
      | false ↦ span_of bounds 1 0 0
    ]

-- Rows at the bounds of ranges, as code puts them one after the other, in lists of any length. There is nothing to believe here: the
-- laws say that for ranges whose bounds rise there is a row at the first item and at every later bound up to the last item.
use Rattle.std.specs.Prelude.{ℕ, zero, suc, ◌+◌, ◌*◌, true, false, List, eqb, ltb, leb, set}
use Rattle.codec.specs.Number.{be_at}
use Rattle.codec.specs.Ids.{item_of}
use Rattle.tables.specs.MethodWords.{bound_at}
use Rattle.codec.specs.declared.Item.{Item}
use Rattle.sampling.specs.declared.Turn.{Turn}

abbrev pub bound_of : ℕ → ℕ → ℕ → Item
bound_of x y z = record { high = x; middle = y; low = z }

-- each word of the top item id
abbrev pub top_word : ℕ
top_word = 18446744073709551615

-- the first item of all, and the top one
abbrev pub first_item : Item
first_item = bound_of 0 0 0

abbrev pub top_item : Item
top_item = bound_of top_word top_word top_word

-- Bounds in bytes

-- bound n of the ranges from a place on
unfoldable pub bound_in : List ℕ → ℕ → ℕ → Item
bound_in s at n = bound_of (be_at s 8 (at + 28 * n)) (be_at s 8 (at + 28 * n + 8)) (be_at s 8 (at + 28 * n + 16))

-- a bound, and how many of two lists are passed with it
abbrev pub turn_of : Item → ℕ → ℕ → Turn
turn_of b i j = record { bound = b; first = i; second = j }

-- the next of a bounds and b bounds, of which i and j are passed: the smaller one, the first list's where both are the same
unfoldable pub turn : List ℕ → ℕ → ℕ → ℕ → List ℕ → ℕ → ℕ → ℕ → Turn
turn s a at i t b bt j =
    elim (leb b j) [
      | true ↦ turn_of (bound_in s at i) (i + 1) j
      | false ↦ elim (leb a i) [
        | true ↦ turn_of (bound_in t bt j) i (j + 1)
        | false ↦ elim (ltb (item_of (bound_in t bt j)) (item_of (bound_in s at i))) [
          | true ↦ turn_of (bound_in t bt j) i (j + 1)
          | false ↦ turn_of (bound_in s at i) (i + 1) j
        ]
      ]
    ]

-- Rows

-- row k has a bound
unfoldable pub put_bound : List ℕ → ℕ → Item → List ℕ
put_bound bounds k b = set (set (set bounds (3 * k) b.high) (3 * k + 1) b.middle) (3 * k + 2) b.low

-- the bounds of rows, and the last row
pub record RowList : Type 0 where
  pub bounds : List ℕ
  pub top : ℕ

abbrev pub rows_of : List ℕ → ℕ → RowList
rows_of bounds top = record { bounds = bounds; top = top }

-- a row more
abbrev pub row_more : RowList → Item → RowList
row_more x b = rows_of (put_bound x.bounds (x.top + 1) b) (x.top + 1)

-- where the bound is above the last row's
unfoldable pub grown : RowList → Item → RowList
grown x b = elim (ltb (bound_at x.bounds x.top) (item_of b)) [ true ↦ row_more x b | false ↦ x ]

-- rows at the bounds that are left, up to the last item; n is their count
unfoldable pub stopped_from : List ℕ → ℕ → ℕ → List ℕ → ℕ → ℕ → ℕ → ℕ → ℕ → ℕ → RowList → RowList
stopped_from s a at t b bt last zero i j x = x
stopped_from s a at t b bt last (suc n) i j x =
    let y = turn s a at i t b bt j in
    elim (ltb last (item_of y.bound)) [
      | true ↦ x
      | false ↦ stopped_from s a at t b bt last n y.first y.second (grown x y.bound)
    ]

-- row `from` at the first item, and one for each later bound of the a ranges of s and the b ranges of t, up to the last item
unfoldable pub stopped : List ℕ → ℕ → ℕ → List ℕ → ℕ → ℕ → Item → Item → List ℕ → ℕ → RowList
stopped s a at t b bt first last bounds from =
    stopped_from s a at t b bt (item_of last) (a + b) 0 0 (rows_of (put_bound bounds from first) from)

-- The ends of a span

-- row 1 at the first item of all; and the row in which a span begins
unfoldable pub first_row : List ℕ → Item → RowList
first_row bounds first =
    rows_of (put_bound bounds 1 first_item) (elim (eqb (item_of first) (item_of first_item)) [ true ↦ 1 | false ↦ 2 ])

-- the item after one: a word that is full becomes 0, and the word above it takes one more
unfoldable pub after : Item → Item
after b =
    elim (ltb b.low top_word) [
      | true ↦ bound_of b.high b.middle (b.low + 1)
      | false ↦ elim (ltb b.middle top_word) [ true ↦ bound_of b.high (b.middle + 1) 0 | false ↦ bound_of (b.high + 1) 0 0 ]
    ]

-- a row more behind the last item of a span; nothing follows the top one
unfoldable pub last_row : RowList → Item → RowList
last_row x last = elim (eqb (item_of last) (item_of top_item)) [ true ↦ x | false ↦ row_more x (after last) ]

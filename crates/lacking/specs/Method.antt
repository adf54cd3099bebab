-- The method of the rows, by places, for any bytes: nothing here is to be believed. The laws show that for bytes that the
-- check accepts the first lacking place is the defined one, and that cover answers as defined. The cursor and the keys are lookup's.
use Rattle.std.specs.Prelude.{ℕ, zero, suc, ◌+◌, ◌*◌, ◌≤◌, ◌<◌, ◌≡◌, Bool, true, false, List, ltb, leb, length, get_or}
use Rattle.std.specs.Prelude as Std
use Rattle.std.specs.Prelude.{Some, None}
use Rattle.codec.specs.Prelude.{Option, none, some}
use Rattle.codec.specs.declared.Item.{Item}
use Rattle.codec.specs.declared.Replica.{Replica}
use Rattle.codec.specs.Number.{be_at}
use Rattle.codec.specs.Total.{read_at}
use Rattle.codec.specs.Words.{words2}
use Rattle.codec.specs.Ids.{item_of, replica_of}
use Rattle.layout.specs.Knowledge.{Element}
use Rattle.layout.specs.Permitted.{largest_replicas}
use Rattle.layout.specs.MethodPlaces.{ids_place}
use Rattle.ticks.specs.Meaning.{tick_at}
use Rattle.ticks.specs.MethodRows.{least_of}
use Rattle.ticks.specs.Operations.{Lack, nowhere, here}
use Rattle.lookup.specs.declared.Cursor.{Cursor}
use Rattle.lookup.specs.Method.{key_at, advanced, elements_here, tick_here}
use Rattle.lacking.specs.declared.Lack as D

-- The key of an id

-- the keys in s of the m ids of t
pub record Keyed (s : List ℕ) (r : ℕ) (t : List ℕ) (m : ℕ) (keys : List ℕ) : Type 0 where
  pub is : (k : ℕ) → k < m → get_or keys k 0 ≡ (key_at s r (be_at t 16 (ids_place + 16 * k))).0
  pub size : m ≤ length keys

-- The next stop

-- an item by its number
unfoldable pub stop_at : Std.Option Item → Option ℕ
stop_at None = none
stop_at (Some i) = some (item_of i)

-- the next bound, where it is not above the last item
unfoldable pub bound_of : List ℕ → Cursor → ℕ → Option ℕ
bound_of s c hi =
    elim (ltb 0 c.left) [
      | true ↦ elim (ltb hi (be_at s 24 c.next)) [ true ↦ none | false ↦ some (be_at s 24 c.next) ]
      | false ↦ none
    ]

unfoldable pub nearer_of : Option ℕ → Option ℕ → Option ℕ
nearer_of none y = y
nearer_of (some a) none = some a
nearer_of (some a) (some b) = elim (ltb b a) [ true ↦ some b | false ↦ some a ]

-- The row of a vector

-- the cells of a row are 0
pub record Zeros (row : List ℕ) : Type 0 where
  pub is : (c : ℕ) → get_or row c 0 ≡ 0

-- a row has the ticks of elements, each in the cell of its key
pub record RowOf (es : List Element) (row : List ℕ) : Type 0 where
  pub is : (c : ℕ) → c < length row → get_or row c 0 ≡ tick_at es c

-- a row has the ticks of the vector at a place
pub record RowWritten (s : List ℕ) (vector : ℕ) (row after : List ℕ) : Type 0 where
  pub is : RowOf (elements_here s vector) after
  pub size : length after ≡ length row

-- where a row had the ticks of the vector at one place, it has those of the vector at another
pub record Filled (s : List ℕ) (before vector : ℕ) (row after : List ℕ) : Type 0 where
  pub is : RowOf (elements_here s before) row → RowOf (elements_here s vector) after
  pub size : length after ≡ length row

-- What lacks at an item

-- the id of a key, by its two words
unfoldable pub id_from : List ℕ → ℕ → ℕ
id_from t key = words2 (read_at t 8 (ids_place + 16 * key)) (read_at t 8 (ids_place + 16 * key + 8))

-- the tick in a row for a key of another knowledge
unfoldable pub level_of : List ℕ → List ℕ → ℕ → ℕ
level_of keys row key = elim (ltb key (length keys)) [ true ↦ get_or row (get_or keys key 0) 0 | false ↦ 0 ]

-- a replica by its number
unfoldable pub least_id : Std.Option Replica → Option ℕ
least_id None = none
least_id (Some p) = some (replica_of p)

-- the tick in s, in the vector at a place, for a key of t: the ids of both are compared
unfoldable pub level_at : List ℕ → ℕ → List ℕ → ℕ → ℕ → ℕ → ℕ
level_at s r t m vector key =
    elim (ltb key m) [ true ↦ tick_here s vector (key_at s r (be_at t 16 (ids_place + 16 * key))) | false ↦ 0 ]

-- the least id of an element of t's vector at a place whose tick is above the one in s's vector at another
unfoldable pub least_at : List ℕ → ℕ → List ℕ → ℕ → ℕ → ℕ → Option ℕ
least_at s r t m vector other = least_of (level_at s r t m vector) (id_from t) none (elements_here t other)

-- The first lacking place

-- from an item on, to which both cursors have come, in at most n steps more: from stop to stop up to the last item
unfoldable pub walk_by : List ℕ → ℕ → List ℕ → ℕ → ℕ → ℕ → Cursor → Cursor → ℕ → Lack
walk_by s r t m last zero x y i = elim (least_at s r t m x.vector y.vector) [ some p ↦ here i p | none ↦ nowhere ]
walk_by s r t m last (suc n) x y i =
    elim (least_at s r t m x.vector y.vector) [
      | some p ↦ here i p
      | none ↦
          elim (nearer_of (bound_of s x last) (bound_of t y last)) [
            | some stop ↦ walk_by s r t m last n (advanced s r x stop) (advanced t m y stop) stop
            | none ↦ nowhere
          ]
    ]

-- from the first item of a span on, to which both cursors are moved; each step passes a range
unfoldable pub walk_from : List ℕ → ℕ → Cursor → List ℕ → ℕ → Cursor → ℕ → ℕ → Lack
walk_from s r from t m begin first last =
    let x = advanced s r from first in
    let y = advanced t m begin first in
    walk_by s r t m last (x.left + y.left) x y first

-- no more replicas than the largest scratch has room for, and all ids and ranges there
unfoldable pub laid_out : List ℕ → ℕ → Cursor → Bool
laid_out s r c =
    elim (leb r largest_replicas) [
      | true ↦ elim (leb (ids_place + 16 * r) (length s)) [ true ↦ leb (c.next + 28 * c.left) (length s) | false ↦ false ]
      | false ↦ false
    ]

-- the same, part by part
pub record LaidOut (s : List ℕ) (r : ℕ) (c : Cursor) : Type 0 where
  pub small : r ≤ largest_replicas
  pub ids : ids_place + 16 * r ≤ length s
  pub ranges : c.next + 28 * c.left ≤ length s

-- the first place of a span where the knowledge of s knows less than that of t; nowhere where one of them is not laid out
unfoldable pub lacking_by : List ℕ → ℕ → Cursor → List ℕ → ℕ → Cursor → ℕ → ℕ → Lack
lacking_by s r from t m begin first last =
    elim (laid_out s r from) [
      | true ↦ elim (laid_out t m begin) [ true ↦ walk_from s r from t m begin first last | false ↦ nowhere ]
      | false ↦ nowhere
    ]

unfoldable pub lack_of : Std.Option D.Lack → Lack
lack_of None = nowhere
lack_of (Some l) = here (item_of l.item) (replica_of l.replica)

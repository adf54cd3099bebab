-- The method of lookup, by places, for any bytes: nothing here is to be believed. The laws show that for bytes that the check
-- accepts it gives the known tick. What is not all there is not read: the id has no key, stepping over vectors ends, a vector has
-- no elements, and no range is passed.
use Rattle.std.specs.Prelude.{ℕ, zero, suc, ◌+◌, ◌-◌, ◌*◌, ◌%◌, ◌^◌, ◌≤◌, ◌<◌, ◌≡◌, true, false, List, eqb, ltb, leb, length, Result, Ok, Err}
use Rattle.codec.specs.Number.{Bytes, be_at}
use Rattle.layout.specs.declared.Counts.{Counts}
use Rattle.layout.specs.declared.ReplicaKey.{ReplicaKey}
use Rattle.layout.specs.declared.VectorIndex.{VectorIndex}
use Rattle.layout.specs.Checked.{Checked}
use Rattle.layout.specs.Checked as A
use Rattle.layout.specs.Knowledge.{Rules, Element}
use Rattle.layout.specs.Permitted.{Permitted, largest_replicas}
use Rattle.layout.specs.Decode.{ids_at, elements_at, decode}
use Rattle.layout.specs.Parse.{checked_by}
use Rattle.layout.specs.MethodPlaces.{ids_place, vectors_place, ranges_place, count_at}
use Rattle.ticks.specs.Meaning.{tick_at, known}
use Rattle.ticks.specs.Answers.{ProperIds}
use Rattle.codec.specs.declared.Refusal.{Refusal}
use Rattle.codec.specs.declared.Refusal.TheVariants.{WrongIds}
use Rattle.ticks.specs.MethodLookup.{key_of, first_index}
use Rattle.lookup.specs.declared.Cursor.{Cursor}
use Rattle.lookup.specs.declared.View.{View}
use Rattle.lookup.specs.Opened.{Opened}
use Rattle.lookup.specs.Opened as O

-- The key of an id

-- among the r ids of the map; r where they are not all there
unfoldable pub key_at : List ℕ → ℕ → ℕ → ReplicaKey
key_at s r p = elim (leb (ids_place + 16 * r) (length s)) [ true ↦ key_of (ids_at s r ids_place) p | false ↦ record { 0 = r } ]

-- The place of a vector

-- the place after n vectors from a place on
unfoldable pub stepped : List ℕ → ℕ → ℕ → ℕ
stepped s zero at = at
stepped s (suc n) at = elim (leb (at + 8) (length s)) [ true ↦ stepped s n (at + 8 + 12 * count_at s at) | false ↦ at ]

-- the place of the vector of an index, from another one, whose place is known: onwards from there, or else from the first one on
unfoldable pub vector_from : List ℕ → ℕ → VectorIndex → ℕ → VectorIndex → ℕ
vector_from s r from at to =
    elim (leb from.0 to.0) [ true ↦ stepped s (to.0 - from.0) at | false ↦ stepped s to.0 (vectors_place r) ]

-- The range of an item

-- before any range
unfoldable pub start_at : ℕ → ℕ → ℕ → ℕ → Cursor
start_at r v e g = record { left = g; next = ranges_place r v e; index = first_index; vector = vectors_place r }

-- past the next range; the vector's place is not looked for
unfoldable pub past : List ℕ → Cursor → ℕ → Cursor
past s c n = record { left = n; next = c.next + 28; index = record { 0 = be_at s 4 (c.next + 24) }; vector = c.vector }

-- past those of the next n ranges whose bounds are at or below the item
unfoldable pub passed : List ℕ → ℕ → ℕ → Cursor → Cursor
passed s i zero c = c
passed s i (suc n) c = elim (ltb i (be_at s 24 c.next)) [ true ↦ c | false ↦ passed s i n (past s c n) ]

-- d with the place of its vector, from the cursor that it came from
unfoldable pub settled : List ℕ → ℕ → Cursor → Cursor → Cursor
settled s r c d = record {
  left = d.left;
  next = d.next;
  index = d.index;
  vector = vector_from s r c.index c.vector d.index;
}

unfoldable pub advanced : List ℕ → ℕ → Cursor → ℕ → Cursor
advanced s r c i = elim (leb (c.next + 28 * c.left) (length s)) [ true ↦ settled s r c (passed s i c.left c) | false ↦ c ]

-- The tick of a key

-- how many elements the vector at a place has, all there
unfoldable pub elements_there : List ℕ → ℕ → ℕ
elements_there s at =
    elim (leb (at + 8) (length s)) [
      | true ↦ elim (leb (at + 8 + 12 * count_at s at) (length s)) [ true ↦ count_at s at | false ↦ 0 ]
      | false ↦ 0
    ]

-- n is that number
pub record There (s : List ℕ) (at n : ℕ) : Type 0 where
  pub is : n ≡ elements_there s at
  pub room : 1 ≤ n → at + 8 + 12 * n ≤ length s

-- the element at a place
abbrev pub element_at : List ℕ → ℕ → Element
element_at s at = record { key = record { 0 = be_at s 4 at }; tick = be_at s 8 (at + 4) }

-- those of the vector at a place
unfoldable pub elements_here : List ℕ → ℕ → List Element
elements_here s at = elements_at s (elements_there s at) (at + 8)

-- the tick of the first of them that has the key
unfoldable pub tick_here : List ℕ → ℕ → ReplicaKey → ℕ
tick_here s at key = tick_at (elements_here s at) key.0

-- the tick of the one whose index is the key, where that one has the key, and else of the first that has it: where no key is there
-- twice, these are the same
unfoldable pub tick_of : List ℕ → ℕ → ReplicaKey → ℕ
tick_of s at key =
    elim (ltb key.0 (elements_there s at)) [
      | true ↦ elim (eqb (be_at s 4 (at + 8 + 12 * key.0)) key.0) [
        | true ↦ be_at s 8 (at + 8 + 12 * key.0 + 4)
        | false ↦ tick_here s at key
      ]
      | false ↦ tick_here s at key
    ]

-- the tick of item i and replica p, from a cursor on
unfoldable pub tick_from : List ℕ → ℕ → Cursor → ℕ → ℕ → ℕ
tick_from s r c i p = tick_of s (advanced s r c i).vector (key_at s r p)

-- What the check answered

-- counts are numbers of four bytes: what is left of a number in them
abbrev pub in_four : ℕ → ℕ
in_four n = n % 4294967296

-- an opened knowledge: how many replicas it has, and the cursor before any of its ranges
abbrev pub view : ℕ → Cursor → View
view r c = record { r = r; start = c }

unfoldable pub open_of : Checked → Opened
open_of (A.Accepted r v e g) = O.At (view (in_four r) (start_at (in_four r) (in_four v) (in_four e) (in_four g)))
open_of (A.Refused n) = O.Refused n

-- what the check has answered, and what it comes to, where the errors have numbers; where they are refusals, `checked_of` and `opened_of`
unfoldable pub checked_under : {E : Type 0} → (E → ℕ) → Result Counts E → Checked
checked_under number_of (Ok n) = A.Accepted n.r n.v n.e n.g
checked_under number_of (Err e) = A.Refused (number_of e)

unfoldable pub opened_under : {E : Type 0} → (E → ℕ) → Result View E → Opened
opened_under number_of (Ok v) = O.At v
opened_under number_of (Err e) = O.Refused (number_of e)

-- accepted bytes of r replicas, and the cursor before any of their ranges
pub record Opens (R : Rules) (s : List ℕ) (r : ℕ) (c : Cursor) : Type 0 where
  pub permitted : Permitted R.limits
  pub v : ℕ
  pub e : ℕ
  pub g : ℕ
  pub bytes : Bytes s
  pub accepts : checked_by R s ≡ A.Accepted r v e g
  pub start : c ≡ start_at r v e g

-- bytes that some rules accept, with no more replicas than scratch of the largest size has room for
pub record Open (s : List ℕ) (r : ℕ) (c : Cursor) : Type 0 where
  pub rules : Rules
  pub opens : Opens rules s r c
  pub small : r ≤ largest_replicas

-- the tick that such bytes know of an item and a replica, each given as bytes
pub record Known (s item replica : List ℕ) (t : ℕ) : Type 0 where
  pub is : t ≡ known (decode s) (be_at item 24 0) (be_at replica 16 0)
  pub small : t < 2 ^ 63

-- the same as an answer: that tick, or the ids' fault where one has another length
abbrev pub Ticked : List ℕ → List ℕ → List ℕ → Result ℕ Refusal → Type 0
Ticked s item replica (Ok t) = ProperIds item replica × Known s item replica t
Ticked s item replica (Err e) = (e ≡ WrongIds) × (ProperIds item replica → ⊥)

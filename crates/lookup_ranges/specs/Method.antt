-- The method of going range by range, by places, for any bytes: nothing here is to be believed. The laws show that for bytes
-- that the check accepts the largest tick, whether a tick is alike in all ranges, and whether nothing is known outside a span, are
-- the defined ones.
use Rattle.std.specs.Prelude.{ℕ, zero, suc, ◌+◌, ◌-◌, ◌*◌, max, Bool, true, false, List, eqb, leb, length}
use Rattle.codec.specs.Number.{be_at}
use Rattle.layout.specs.declared.ReplicaKey.{ReplicaKey}
use Rattle.layout.specs.declared.VectorIndex.{VectorIndex}
use Rattle.ticks.specs.Meaning.{highest}
use Rattle.ticks.specs.MethodRows.{top_tick}
use Rattle.lookup.specs.declared.Cursor.{Cursor}
use Rattle.lookup.specs.Method.{key_at, vector_from, advanced, elements_here, tick_of}

-- the index of the range at a place
unfoldable pub index_there : List ℕ → ℕ → VectorIndex
index_there s next = record { 0 = be_at s 4 (next + 24) }

-- the cursor past the next range, at that range's vector
abbrev pub past : List ℕ → ℕ → Cursor → Cursor
past s r c = record {
  left = c.left - 1;
  next = c.next + 28;
  index = index_there s c.next;
  vector = vector_from s r c.index c.vector (index_there s c.next);
}

-- the largest tick of n ranges from a place on, and of what was met before; the vector of an index stands at a place
unfoldable pub top_by : List ℕ → ℕ → ℕ → ℕ → VectorIndex → ℕ → ℕ → ℕ
top_by s r zero next index vector top = top
top_by s r (suc n) next index vector top =
    let at = vector_from s r index vector (index_there s next) in
    top_by s r n (next + 28) (index_there s next) at (top_tick top (elements_here s at))

-- from a cursor on, 0 where the ranges are not all there
unfoldable pub top_of : List ℕ → ℕ → Cursor → ℕ
top_of s r c =
    elim (leb (c.next + 28 * c.left) (length s)) [ true ↦ top_by s r c.left c.next c.index c.vector 0 | false ↦ 0 ]

-- the same of one key
unfoldable pub top_key_by : List ℕ → ℕ → ReplicaKey → ℕ → ℕ → VectorIndex → ℕ → ℕ → ℕ
top_key_by s r key zero next index vector top = top
top_key_by s r key (suc n) next index vector top =
    let at = vector_from s r index vector (index_there s next) in
    top_key_by s r key n (next + 28) (index_there s next) at (max top (tick_of s at key))

unfoldable pub top_key_of : List ℕ → ℕ → ReplicaKey → Cursor → ℕ
top_key_of s r key c =
    elim (leb (c.next + 28 * c.left) (length s)) [
      | true ↦ top_key_by s r key c.left c.next c.index c.vector 0
      | false ↦ 0
    ]

-- is the tick of a key the given one in n ranges from a place on
unfoldable pub alike_by : List ℕ → ℕ → ReplicaKey → ℕ → ℕ → ℕ → VectorIndex → ℕ → Bool
alike_by s r key own zero next index vector = true
alike_by s r key own (suc n) next index vector =
    let at = vector_from s r index vector (index_there s next) in
    elim (eqb (tick_of s at key) own) [ true ↦ alike_by s r key own n (next + 28) (index_there s next) at | false ↦ false ]

-- from a cursor on, and where the ranges are not all there
unfoldable pub alike_of : List ℕ → ℕ → ReplicaKey → ℕ → Cursor → Bool
alike_of s r key own c =
    elim (leb (c.next + 28 * c.left) (length s)) [
      | true ↦ alike_by s r key own c.left c.next c.index c.vector
      | false ↦ true
    ]

-- is the tick of a replica alike in all ranges, from a cursor on: the tick at item 0
unfoldable pub alike_in : List ℕ → ℕ → Cursor → ℕ → Bool
alike_in s r c p =
    let key = key_at s r p in
    let own = tick_of s (advanced s r c 0).vector key in
    alike_of s r key own c

-- the last item of a range, from the n ranges after it, the first of them at a place: the item before that one's bound; the top item
-- where none is after it
unfoldable pub end_before : List ℕ → ℕ → ℕ → ℕ
end_before s zero next = highest
end_before s (suc n) next = be_at s 24 next - 1

-- is the range at a place, with n more after it, one of vector 0, or inside first..last
unfoldable pub lies_in : List ℕ → ℕ → ℕ → ℕ → ℕ → Bool
lies_in s first last n next =
    elim (eqb (be_at s 4 (next + 24)) 0) [
      | true ↦ true
      | false ↦ elim (leb first (be_at s 24 next)) [ true ↦ leb (end_before s n (next + 28)) last | false ↦ false ]
    ]

-- is each of n ranges from a place on
unfoldable pub inside_by : List ℕ → ℕ → ℕ → ℕ → ℕ → Bool
inside_by s first last zero next = true
inside_by s first last (suc n) next =
    elim (lies_in s first last n next) [ true ↦ inside_by s first last n (next + 28) | false ↦ false ]

-- from a cursor on, and where the ranges are not all there
unfoldable pub inside_of : List ℕ → Cursor → ℕ → ℕ → Bool
inside_of s c first last =
    elim (leb (c.next + 28 * c.left) (length s)) [ true ↦ inside_by s first last c.left c.next | false ↦ true ]

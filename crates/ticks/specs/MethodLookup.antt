-- The search for a known tick as code makes it, by key and index. There is nothing to believe here: the law `vector_indexed`
-- says that the index is that of the item's vector, and `known_place` that the tick of the key there is the known one.
use Rattle.std.specs.Prelude.{ℕ, true, false, List, [], ◌∷◌, ltb}
use Rattle.layout.specs.declared.ReplicaKey.{ReplicaKey}
use Rattle.layout.specs.declared.VectorIndex.{VectorIndex}
use Rattle.layout.specs.Knowledge.{Range}
use Rattle.ticks.specs.Meaning.{place}

-- the key of a replica id: its place in the map, or the map's length where it is not there
unfoldable pub key_of : List ℕ → ℕ → ReplicaKey
key_of ids p = record { 0 = place p ids }

-- the vector index of the last range whose bound is at or below i, the bounds rising; `found` where every bound is above i
unfoldable pub index_at : VectorIndex → List Range → ℕ → VectorIndex
index_at found [] i = found
index_at found (x ∷ xs) i = elim (ltb i x.bound) [ true ↦ found | false ↦ index_at x.index xs i ]

-- where the search begins: vector 0 is empty
abbrev pub first_index : VectorIndex
first_index = record { 0 = 0 }

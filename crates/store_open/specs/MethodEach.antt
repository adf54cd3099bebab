-- The pass over the records of a store or batch, which asks a knowledge for their versions. Keys of replicas are guessed first, and the places
-- of clock vectors are taken from a table. It is a method only: there is nothing to believe here.
use Rattle.std.specs.Prelude.{ℕ, suc, ◌+◌, ◌*◌, ◌≤◌, ◌<◌, ◌≡◌, Bool, not, List, length, get_or}
use Rattle.layout.specs.Knowledge.{Distinct, Knowledge}
use Rattle.layout.specs.Permitted.{largest_ranges}
use Rattle.layout.specs.Decode.{ids_at}
use Rattle.layout.specs.MethodPlaces.{ids_place, vectors_place}
use Rattle.replication.specs.Record.{Rec}
use Rattle.replication.specs.Reading.{both}
use Rattle.replication.specs.OpenStore.{versions_in}
use Rattle.replication.specs.OpenBatch.{lacks_change}
use Rattle.lookup.specs.declared.Cursor.{Cursor}
use Rattle.lookup.specs.Method.{stepped}
use Rattle.records_versions.specs.Method.{change_in, both_in}
use Rattle.store_open.specs.declared.Wanted.{Wanted}
use Rattle.store_open.specs.declared.Wanted.TheVariants.{Contained, Lacking}

-- how many slots there are for guesses of keys, and for how many places of vectors there is room
abbrev pub slot_count : ℕ
slot_count = 64

abbrev pub place_count : ℕ
place_count = suc largest_ranges

-- the r ids of the map are all there, and none is there twice
pub record IdsOnce (k : List ℕ) (r : ℕ) : Type 0 where
  pub room : ids_place + 16 * r ≤ length k
  pub once : Distinct (ids_at k r ids_place)

-- a table that begins with the places of the first n vectors
pub record VectorPlaces (k : List ℕ) (r n : ℕ) (places : List ℕ) : Type 0 where
  pub room : n ≤ length places
  pub is : (j : ℕ) → j < n → get_or places j 0 ≡ stepped k j (vectors_place r)

-- a cursor whose ranges are all there, with the place of its vector
pub record CursorAt (k : List ℕ) (r : ℕ) (c : Cursor) : Type 0 where
  pub room : c.next + 28 * c.left ≤ length k
  pub vector : c.vector ≡ stepped k c.index.0 (vectors_place r)

-- what is asked of the record at a place of s and of the clock vector at a place of k: that the change version is lacking, or that both
-- versions are there
unfoldable pub asked_in : Wanted → List ℕ → ℕ → List ℕ → ℕ → ℕ → Bool
asked_in Lacking s at k r vector = not (change_in s at k r vector)
asked_in Contained s at k r vector = both_in s at k r vector

-- the same of a record and of a knowledge
unfoldable pub asked : Wanted → Knowledge → Rec → Bool
asked Lacking k = lacks_change k
asked Contained k = versions_in k

-- both versions of a record contained in learned, and its change version not in needed
unfoldable pub carried_by : Knowledge → Knowledge → Rec → Bool
carried_by needed learned r = both (versions_in learned r) (lacks_change needed r)

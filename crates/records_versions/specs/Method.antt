-- A record, at a place of some bytes, asked of the knowledge in other bytes, by places and for any bytes: nothing here is to be
-- believed. The laws show that for a valid record and accepted bytes this says whether the knowledge contains the record's versions.
use Rattle.std.specs.Prelude.{ℕ, ◌+◌, Bool, List, leb}
use Rattle.codec.specs.Total.{read_at}
use Rattle.replication.specs.Reading.{item_place, change_replica_place, change_tick_place, create_replica_place, create_tick_place, both}
use Rattle.lookup.specs.declared.Cursor.{Cursor}
use Rattle.lookup.specs.Method.{key_at, advanced, tick_of}

-- a cursor among the ranges of k, moved on to the item of the record at a place of s
unfoldable pub moved_to : List ℕ → ℕ → List ℕ → ℕ → Cursor → Cursor
moved_to s at k r c = advanced k r c (read_at s 24 (at + item_place))

-- is a tick at most the tick that the clock vector at a place of k has for a replica
unfoldable pub tick_in : List ℕ → ℕ → ℕ → ℕ → ℕ → Bool
tick_in k r vector replica tick = leb tick (tick_of k vector (key_at k r replica))

-- the version with its replica and its tick at two places of s
unfoldable pub version_in : List ℕ → ℕ → ℕ → List ℕ → ℕ → ℕ → Bool
version_in s replica tick k r vector = tick_in k r vector (read_at s 16 replica) (read_at s 8 tick)

-- the change version of the record at a place of s, its create version, and both
abbrev pub change_in : List ℕ → ℕ → List ℕ → ℕ → ℕ → Bool
change_in s at k r vector = version_in s (at + change_replica_place) (at + change_tick_place) k r vector

abbrev pub create_in : List ℕ → ℕ → List ℕ → ℕ → ℕ → Bool
create_in s at k r vector = version_in s (at + create_replica_place) (at + create_tick_place) k r vector

unfoldable pub both_in : List ℕ → ℕ → List ℕ → ℕ → ℕ → Bool
both_in s at k r vector = both (change_in s at k r vector) (create_in s at k r vector)

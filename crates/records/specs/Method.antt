-- The whole record at a place by its length and its bytes, the fields at a place by total reads, the answer of a search for an item's
-- record as an option, and the lower bound that a pass over rising items keeps. There is nothing to believe here: where a whole
-- record stands, the law `part_record` says that the part is the bytes of `rec_at`, and `read_whole` that the fields are those of `rec_at`.
use Rattle.std.specs.Prelude.{ℕ, suc, ◌+◌, List, eqb}
use Rattle.std.specs.Prelude as R
use Rattle.codec.specs.Prelude.{Option, none, some}
use Rattle.codec.specs.Part.{part}
use Rattle.codec.specs.Total.{read_at}
use Rattle.codec.specs.Ids.{item_of}
use Rattle.codec.specs.declared.Item.{Item}
use Rattle.replication.specs.Record.{Rec}
use Rattle.replication.specs.Queries.{length_at}
use Rattle.replication.specs.Reading.{item_place, change_replica_place, change_tick_place, create_replica_place, create_tick_place, tag_place}

-- the length of a record of either kind, by the law `common-length`
abbrev pub common_length : ℕ
common_length = 89

-- its bytes, none where none stands there
unfoldable pub record_part : List ℕ → ℕ → List ℕ
record_part s at = part s at (length_at s at)

-- the fields at a place; one of which a byte is missing is 0
unfoldable pub read_rec : List ℕ → ℕ → Rec
read_rec s at =
    record {
      item = read_at s 24 (at + item_place);
      change_replica = read_at s 16 (at + change_replica_place);
      change_tick = read_at s 8 (at + change_tick_place);
      create_replica = read_at s 16 (at + create_replica_place);
      create_tick = read_at s 8 (at + create_tick_place);
      content = record { deleted = eqb (read_at s 1 at) 2; tag = read_at s 16 (at + tag_place) };
    }

-- the place that was found
unfoldable pub found_place : R.Option ℕ → Option ℕ
found_place (R.Some at) = some at
found_place R.None = none

-- the least item that may come next: any item where none came before, else the one above the last
unfoldable pub least : R.Option Item → ℕ
least (R.Some last) = suc (item_of last)
least R.None = 0

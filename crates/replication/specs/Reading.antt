-- Records read from bytes, and the tests on them that stores and batches share. There is nothing to believe here: the laws
-- `store_exact` and `batch_exact` say in plain relations which bytes are read, and as what.
use Rattle.std.specs.Prelude.{ℕ, zero, suc, ◌+◌, Bool, true, false, List, [], ◌∷◌, eqb, leb, length}
use Rattle.codec.specs.Prelude.{Option, none, some}
use Rattle.codec.specs.Number.{be_at}
use Rattle.layout.specs.Knowledge.{largest_tick}
use Rattle.replication.specs.Record.{Content, Rec}

-- the length of a record with its byte of kind; 0 for a number that is no record's kind
unfoldable pub rec_length : ℕ → ℕ
rec_length kind = elim (eqb kind 1) [ true ↦ 89 | false ↦ elim (eqb kind 2) [ true ↦ 89 | false ↦ 0 ] ]

-- the place behind the record at a place
unfoldable pub behind : List ℕ → ℕ → ℕ
behind s at = at + rec_length (be_at s 1 at)

-- the places of a record's fields, counted from its own
abbrev pub item_place : ℕ
item_place = 1

abbrev pub change_replica_place : ℕ
change_replica_place = 25

abbrev pub change_tick_place : ℕ
change_tick_place = 41

abbrev pub create_replica_place : ℕ
create_replica_place = 49

abbrev pub create_tick_place : ℕ
create_tick_place = 65

abbrev pub tag_place : ℕ
tag_place = 73

-- the content of the record at a place: kind 2 is a tombstone
unfoldable pub content_at : List ℕ → ℕ → Content
content_at s at = record { deleted = eqb (be_at s 1 at) 2; tag = be_at s 16 (at + tag_place) }

-- the record at a place
unfoldable pub rec_at : List ℕ → ℕ → Rec
rec_at s at =
    record {
      item = be_at s 24 (at + item_place);
      change_replica = be_at s 16 (at + change_replica_place);
      change_tick = be_at s 8 (at + change_tick_place);
      create_replica = be_at s 16 (at + create_replica_place);
      create_tick = be_at s 8 (at + create_tick_place);
      content = content_at s at;
    }

-- both tests hold; the second is looked at only where the first holds
abbrev pub both : Bool → Bool → Bool
both true b = b
both false b = false

-- a whole record of a known kind stands at the place
unfoldable pub whole : List ℕ → ℕ → Bool
whole s at = elim (eqb (rec_length (be_at s 1 at)) 0) [ true ↦ false | false ↦ leb (behind s at) (length s) ]

unfoldable pub front : Rec → Option (List Rec) → Option (List Rec)
front r none = none
front r (some rs) = some (r ∷ rs)

-- n records from a place on, up to the very end of the bytes; none where anything else stands there
unfoldable pub recs_at : List ℕ → ℕ → ℕ → Option (List Rec)
recs_at s zero at = elim (eqb at (length s)) [ true ↦ some [] | false ↦ none ]
recs_at s (suc n) at = elim (whole s at) [ true ↦ front (rec_at s at) (recs_at s n (behind s at)) | false ↦ none ]

-- "content tag 16 (zeros in a tombstone)"
unfoldable pub tag_kept : Content → Bool
tag_kept c = elim c.deleted [ true ↦ eqb c.tag 0 | false ↦ true ]

-- ticks from 1 to the largest, the create tick at most the change tick
unfoldable pub valid_rec : Rec → Bool
valid_rec r =
    both (leb 1 r.create_tick)
    (both (leb r.create_tick r.change_tick) (both (leb r.change_tick largest_tick) (tag_kept r.content)))

-- records that rise strictly by item id, from lo on, each valid and with the property
unfoldable pub valid_recs : (Rec → Bool) → ℕ → List Rec → Bool
valid_recs P lo [] = true
valid_recs P lo (r ∷ rs) = both (leb lo r.item) (both (valid_rec r) (both (P r) (valid_recs P (suc r.item) rs)))

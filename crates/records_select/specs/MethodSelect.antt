-- The records of a table that a batch carries, by their places. There is nothing to believe here: the laws `selected_table`,
-- `selected_size` and `selected_copied` say what these are in the terms of `replication`, for a table that rises.
use Rattle.std.specs.Prelude.{ℕ, ◌+◌, ◌-◌, ◌≤◌, ◌<◌, ◌≡◌, true, false, List, [], ◌∷◌, ltb, length}
use Rattle.replication.specs.Reading.{rec_at}
use Rattle.replication.specs.Queries.{places, length_at}
use Rattle.lookup.specs.declared.Cursor.{Cursor}
use Rattle.records_versions.specs.Method.{moved_to, change_in}
use Rattle.records_select.specs.declared.Pick.{Pick}

-- places without those in front of the first one whose record's item is not below an item
unfoldable pub from_first : List ℕ → ℕ → List ℕ → List ℕ
from_first s first [] = []
from_first s first (p ∷ ps) = elim (ltb (rec_at s p).item first) [ true ↦ from_first s first ps | false ↦ p ∷ ps ]

-- of the places in front of the first one whose record's item is above an item, those of the records whose change version is not in k;
-- the cursor is moved on from record to record
unfoldable pub lacking : List ℕ → List ℕ → ℕ → Cursor → ℕ → List ℕ → List ℕ
lacking s k r c last [] = []
lacking s k r c last (p ∷ ps) =
    elim (ltb last (rec_at s p).item) [
      | true ↦ []
      | false ↦ elim (change_in s p k r (moved_to s p k r c).vector) [
        | true ↦ lacking s k r (moved_to s p k r c) last ps
        | false ↦ p ∷ lacking s k r (moved_to s p k r c) last ps
      ]
    ]

-- the table is what a walker goes through from a place on
unfoldable pub lacking_at : List ℕ → ℕ → List ℕ → ℕ → Cursor → ℕ → List ℕ
lacking_at s at k r c last = lacking s k r c last (places s at)

-- x is the next of these places, with the cursor there, and the others follow behind it
pub record Picks (s : List ℕ) (at : ℕ) (k : List ℕ) (r : ℕ) (c : Cursor) (last : ℕ) (x : Pick) : Type 0 where
  pub next : lacking_at s at k r c last ≡ x.at ∷ lacking_at s (x.at + x.size) k r x.cursor last
  pub sized : x.size ≡ length_at s x.at
  pub some : 0 < x.size
  pub left : x.size + (length s - (x.at + x.size)) ≤ length s - at

-- the places of the records from first to last that k lacks
unfoldable pub select_places : List ℕ → ℕ → List ℕ → ℕ → Cursor → ℕ → ℕ → List ℕ
select_places s at k r start first last = lacking s k r start last (from_first s first (places s at))

-- Records in bytes as the code meets them: values by their places, tests apart from them. There is nothing to believe here: the
-- laws `recs_fit`, `valid_split`, `shaped_is`, `checked-table` and `find_table` say what these are in the terms of
-- specs/Reading.antt and specs/Queries.antt.
use Rattle.std.specs.Prelude.{ℕ, zero, suc, ◌+◌, ◌≤◌, ◌<◌, ◌≡◌, ◌⊎◌, Bool, true, false, List, [], ◌∷◌, eqb, leb, length}
use Rattle.codec.specs.Prelude.{Option, none, some}
use Rattle.codec.specs.Number.{be_at}
use Rattle.replication.specs.Record.{Rec}
use Rattle.replication.specs.Reading.{behind, item_place, change_replica_place, change_tick_place, create_replica_place, create_tick_place, tag_place}
use Rattle.replication.specs.Reading.{rec_at, both, whole, valid_rec}

-- a value where a test holds
unfoldable pub only_if : {A : Type 0} → Bool → A → Option A
only_if true x = some x
only_if false x = none

-- no property asked
unfoldable pub any_rec : Rec → Bool
any_rec r = true

-- all records have the property
unfoldable pub each : (Rec → Bool) → List Rec → Bool
each P [] = true
each P (r ∷ rs) = both (P r) (each P rs)

-- the n records from a place on, with no test
unfoldable pub records_at : List ℕ → ℕ → ℕ → List Rec
records_at s zero at = []
records_at s (suc n) at = rec_at s at ∷ records_at s n (behind s at)

-- n whole records of known kinds stand from a place on, up to the very end of the bytes
unfoldable pub fits_at : List ℕ → ℕ → ℕ → Bool
fits_at s zero at = eqb at (length s)
fits_at s (suc n) at = both (whole s at) (fits_at s n (behind s at))

-- the same, and they rise strictly by item id, from lo on, and each is valid: in one pass
unfoldable pub shaped_at : List ℕ → ℕ → ℕ → ℕ → Bool
shaped_at s lo zero at = eqb at (length s)
shaped_at s lo (suc n) at =
    both (whole s at)
    (both (leb lo (rec_at s at).item) (both (valid_rec (rec_at s at)) (shaped_at s (suc (rec_at s at).item) n (behind s at))))

-- the record at a place, where there is one
unfoldable pub found_at : List ℕ → Option ℕ → Option Rec
found_at s none = none
found_at s (some at) = some (rec_at s at)

-- a whole record of a known kind stands at the place. The bounds say more than is needed, so that each read of a field has its own
pub record WholeAt (s : List ℕ) (at : ℕ) : Type 0 where
  pub kind : (be_at s 1 at ≡ 1) ⊎ (be_at s 1 at ≡ 2)
  pub first : at < length s
  pub item : at + item_place + 24 ≤ length s
  pub change_replica : at + change_replica_place + 16 ≤ length s
  pub change_tick : at + change_tick_place + 8 ≤ length s
  pub create_replica : at + create_replica_place + 16 ≤ length s
  pub create_tick : at + create_tick_place + 8 ≤ length s
  pub tag : at + tag_place + 16 ≤ length s
  pub ends : behind s at ≡ at + tag_place + 16
  pub later : at < behind s at
  pub inside : behind s at ≤ length s

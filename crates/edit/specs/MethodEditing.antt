-- An edit or a delete as the code has it: what is written, by its words, what was found of the item, and what the changed store is made of.
-- There is nothing to believe here: the contracts of the calls cite the replies of `replication`.
use Rattle.std.specs.Prelude.{ℕ, ◌+◌, ◌^◌, ◌≤◌, ◌<◌, ◌≡◌, List, length}
use Rattle.std.specs.Prelude as R
use Rattle.codec.specs.Prelude.{Option, none, some}
use Rattle.codec.specs.Words.{words2, words3}
use Rattle.layout.specs.Knowledge as K
use Rattle.layout.specs.declared.Limits.{Limits}
use Rattle.layout.specs.Decode.{decode}
use Rattle.ticks.specs.Meaning.{highest, known, Normal}
use Rattle.ticks.specs.Operations.{raise}
use Rattle.replication.specs.Record.{Content, Rec}
use Rattle.replication.specs.Formats.{Store}
use Rattle.replication.specs.Operate.{join}
use Rattle.replication.specs.OpenStore.{store_knowledge}
use Rattle.replication.specs.Queries.{places, place_of}
use Rattle.replication.specs.MethodTable.{table_at}
use Rattle.lookup.specs.declared.View.{View}
use Rattle.results.specs.MethodOpened.{Reads}
use Rattle.records.specs.Method.{read_rec, found_place}
use Rattle.records_join.specs.declared.VersionWords.{VersionWords}
use Rattle.store_open.specs.declared.OpenStore.{OpenStore}
use Rattle.store_open.specs.Method.{own_bytes, store_opened}
use Rattle.edit.specs.declared.Change.{Change}

-- the item of a change, and its content
abbrev pub item_of : Change → ℕ
item_of w = words3 w.item.high w.item.middle w.item.low

abbrev pub content_of : Change → Content
content_of w = record { deleted = w.deleted; tag = words2 w.tag.high w.tag.low }

-- the replica of a version
abbrev pub version_replica : VersionWords → ℕ
version_replica v = words2 v.replica.high v.replica.low

-- the record at the place that was found, by total reads
unfoldable pub found_read : List ℕ → R.Option ℕ → Option Rec
found_read s (R.Some at) = some (read_rec s at)
found_read s R.None = none

-- what raising the own tick goes by: bytes that were opened under the limits, in normal form; a version whose replica is two words of 64 bits and
-- has the same tick for all items; and a tick of 1 or more
pub record Raises (limits : Limits) (k : List ℕ) (v : View) (change : VersionWords) : Type 0 where
  pub reads : Reads limits k v
  pub normal : Normal (decode k)
  pub alike : (i : ℕ) → i ≤ highest → known (decode k) i (version_replica change) ≡ known (decode k) 0 (version_replica change)
  pub high : change.replica.high < 2 ^ 64
  pub low : change.replica.low < 2 ^ 64
  pub some : 1 ≤ change.tick

-- the store that is written: the own tick raised in the knowledge of the bytes k, and the table behind k joined with that of other bytes
pub record Becomes (s k : List ℕ) (who tick : ℕ) (one : List ℕ) (st : Store) : Type 0 where
  pub own : who ≡ st.own
  pub knowledge : raise who tick (decode k) ≡ st.knowledge
  pub records : join (table_at s (store_knowledge + length k)) (table_at one 0) ≡ st.records

-- a store that was found valid, the bytes k of its knowledge, and what was found of the item of a change, whose ids have room in their fields
pub record Asked (L : K.Limits) (s k : List ℕ) (opened : OpenStore) (found : R.Option ℕ) (what : Change) : Type 0 where
  pub valid : store_opened L s ≡ R.Ok opened
  pub part : k ≡ own_bytes s
  pub place : found_place found ≡ place_of s (item_of what) (places s (store_knowledge + opened.own.length))
  pub item : item_of what < 256 ^ 24
  pub tag : (content_of what).tag < 256 ^ 16

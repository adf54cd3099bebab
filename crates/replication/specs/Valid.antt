-- Which stores are valid, on their values: document 01's list "A valid store: …".
use Rattle.std.specs.Prelude.{ℕ, ◌^◌, ◌≤◌, ◌<◌, ◌≡◌, true, length}
use Rattle.layout.specs.Knowledge.{Limits, any_id, largest_tick, Knowledge, All, Rising, Lawful}
use Rattle.ticks.specs.Meaning.{highest, known, Normal}
use Rattle.replication.specs.Record.{Content, Rec}
use Rattle.replication.specs.Formats.{items, Store}

-- "content tag 16 (zeros in a tombstone)"
pub record LawfulContent (c : Content) : Type 0 where
  pub tag : c.tag < 256 ^ 16
  pub bare : c.deleted ≡ true → c.tag ≡ 0

-- "ticks 1 to 2^63 − 1, create tick at most change tick"
pub record LawfulRec (r : Rec) : Type 0 where
  pub item : r.item < 256 ^ 24
  pub change_replica : r.change_replica < 256 ^ 16
  pub create_replica : r.create_replica < 256 ^ 16
  pub content : LawfulContent r.content
  pub create_tick : 1 ≤ r.create_tick
  pub order : r.create_tick ≤ r.change_tick
  pub change_tick : r.change_tick ≤ largest_tick

-- its change and create versions are contained in a knowledge
pub record ContainedIn (k : Knowledge) (r : Rec) : Type 0 where
  pub change : r.change_tick ≤ known k r.item r.change_replica
  pub create : r.create_tick ≤ known k r.item r.create_replica

-- "A valid store: records, kinds and tombstone tags as above, exact length, knowledge in normal form, each change and create version
-- contained in it, own tick alike in all ranges"; records "at most 256" that "rise strictly by item id"
pub record LawfulStore (L : Limits) (st : Store) : Type 0 where
  pub own : st.own < 256 ^ 16
  pub lawful : Lawful (any_id L) st.knowledge
  pub normal : Normal st.knowledge
  pub alike : (i j : ℕ) → i ≤ highest → j ≤ highest → known st.knowledge i st.own ≡ known st.knowledge j st.own
  pub count : length st.records ≤ L.records
  pub rising : Rising 0 (items st.records)
  pub records : All LawfulRec st.records
  pub versions : All (ContainedIn st.knowledge) st.records

-- Which batches are valid, on their values: document 01's list "A valid batch: …".
use Rattle.std.specs.Prelude.{ℕ, ◌^◌, ◌≤◌, ◌<◌, ◌≡◌, ◌⊎◌, length}
use Rattle.layout.specs.Knowledge.{Limits, any_id, All, Rising, Lawful}
use Rattle.ticks.specs.Meaning.{highest, known, Normal}
use Rattle.replication.specs.Formats.{items}
use Rattle.replication.specs.BatchFormat.{Batch}
use Rattle.replication.specs.Valid.{LawfulRec, ContainedIn}

-- "A valid batch: records, kinds and tombstone tags as above, exact length, first not above last, both knowledges in normal form,
-- learned unchanged by projecting onto the span, records inside the span, change and create versions contained in learned, change
-- versions not in needed"
pub record LawfulBatch (L : Limits) (b : Batch) : Type 0 where
  pub span : b.first ≤ b.last
  pub last : b.last < 256 ^ 24
  pub needed_lawful : Lawful (any_id L) b.needed
  pub needed_normal : Normal b.needed
  pub learned_lawful : Lawful (any_id L) b.learned
  pub learned_normal : Normal b.learned
  pub outside : (i p : ℕ) → i ≤ highest → (i < b.first) ⊎ (b.last < i) → known b.learned i p ≡ 0
  pub count : length b.records ≤ L.records
  pub rising : Rising 0 (items b.records)
  pub records : All LawfulRec b.records
  pub inside : All (λ r. (b.first ≤ r.item) × (r.item ≤ b.last)) b.records
  pub versions : All (ContainedIn b.learned) b.records
  pub lacked : All (λ r. known b.needed r.item r.change_replica < r.change_tick) b.records

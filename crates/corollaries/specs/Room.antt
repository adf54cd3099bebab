-- How long the bytes of a store and of a batch can be. A buffer so long is never too short for a result: the law `enough`.
use Rattle.std.specs.Prelude.{ℕ, ◌+◌, ◌*◌, max}
use Rattle.layout.specs.Knowledge.{Limits}
use Rattle.layout.specs.Permitted.{longest}
use Rattle.replication.specs.Reading.{rec_length}
use Rattle.replication.specs.OpenStore.{store_knowledge}
use Rattle.replication.specs.OpenBatch.{batch_needed}

-- the longest record, of either kind
unfoldable pub longest_record : ℕ
longest_record = max (rec_length 1) (rec_length 2)

-- a store at all limits: its header, its knowledge, its records
unfoldable pub longest_store : Limits → ℕ
longest_store L = store_knowledge + longest L + longest_record * L.records

-- a batch at all limits: its header, two knowledges, its records
unfoldable pub longest_batch : Limits → ℕ
longest_batch L = batch_needed + longest L + longest L + longest_record * L.records

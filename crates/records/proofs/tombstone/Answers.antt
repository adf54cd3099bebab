-- `records::tombstone` meets its contract: past the end the byte is 0, which is no tombstone's kind.
use Rattle.records.proofs.Fields.{deleted_read}
use Rattle.records.proofs.tombstone.Goals as goal

pub returns : goal.returns
returns c = deleted_read _ _ _ c.read.ensures.value

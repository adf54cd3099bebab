-- `records_join::RecordWords::kind` meets its contract: a tombstone has kind 2, any other record kind 1.
use Rattle.records_join.proofs.Written.{kind_deleted, kind_live}
use Rattle.records_join.proofs.RecordWords.kind.Goals as goal

pub returns-then-self : goal.returns-then-self
returns-then-self c = kind_deleted _ c.if-self.true

pub returns-else-self : goal.returns-else-self
returns-else-self c = kind_live _ c.if-self.false

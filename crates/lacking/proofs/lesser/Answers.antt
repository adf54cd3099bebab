-- `lacking::lesser` meets its contract: what was best stays unless the new id is below it.
use Rattle.std.proofs.Common.{◌∙◌, arith}
use Rattle.codec.proofs.Ids.{replica_lt}
use Rattle.lacking.proofs.Cells.{lesser_nothing, lesser_new, lesser_old}
use Rattle.lacking.proofs.lesser.Goals as goal

pub returns-in_default : goal.returns-in_default
returns-in_default c = lesser_nothing _ _ c.in_default.is

pub returns-then-lt : goal.returns-then-lt
returns-then-lt c =
    lesser_new _ _ _ c.in-Some.is _ (c.lt.ensures ∙ replica_lt _ _ (omega arith) (omega arith)) c.if-lt.true

pub returns : goal.returns
returns c =
    lesser_old _ _ _ c.in-Some.is _ (c.lt.ensures ∙ replica_lt _ _ (omega arith) (omega arith)) c.if-lt.false

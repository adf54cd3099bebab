-- `lacking::keys_of` meets its contract. The loop's invariant: the keys of the ids up to here.
use Rattle.std.proofs.Common.{arith}
use Rattle.lacking.proofs.Ids.{replica_part}
use Rattle.lacking.proofs.Cells.{keyed_more}
use Rattle.lacking.proofs.keys_of.Goals as goal

pub loop-k-preserved : goal.loop-k-preserved
loop-k-preserved c =
    keyed_more _ _ _ _ _ _ _ c.loop-k.invariant (omega arith) (replica_part _ _ _ c.from_bytes.ensures.value (omega arith))
    c.key_of.ensures

-- `leaves::write_replica` meets its contract: without room nothing is written; with it, one word behind the other.
use Rattle.std.proofs.Common.{arith}
use Rattle.codec.proofs.Writing.{no_room}
use Rattle.leaves.proofs.Writing.{pair_placed}
use Rattle.leaves.proofs.write_replica.Goals as goal

pub returns-then-beyond : goal.returns-then-beyond
returns-then-beyond c = no_room _ _ 16 _ (c.beyond.ensures.0 c.if-beyond.true)

pub returns : goal.returns
returns c =
    pair_placed _ _ _ _ _ _ (c.beyond.ensures.1 c.if-beyond.false) (omega arith) c.write.ensures c.write-2.ensures

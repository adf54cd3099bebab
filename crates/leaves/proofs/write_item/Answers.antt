-- `leaves::write_item` meets its contract: without room nothing is written; with it, one word behind the other.
use Rattle.std.proofs.Common.{arith}
use Rattle.codec.proofs.Writing.{no_room}
use Rattle.leaves.proofs.Writing.{item_placed}
use Rattle.leaves.proofs.write_item.Goals as goal

pub returns-then-beyond : goal.returns-then-beyond
returns-then-beyond c = no_room _ _ 24 _ (c.beyond.ensures.0 c.if-beyond.true)

pub returns : goal.returns
returns c =
    item_placed _ _ _ _ _ _ _ _ (c.beyond.ensures.1 c.if-beyond.false) (omega arith) (omega arith)
    c.write.ensures c.write-2.ensures c.write-3.ensures

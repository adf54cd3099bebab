-- `lookup::elements_at` meets its contract: the count is that of the bytes where the elements are all there, and else 0.
use Rattle.std.proofs.Common.{arith}
use Rattle.leaves.proofs.Part.{part_is}
use Rattle.lookup.proofs.Loops.{there_none, there_short, there_all}
use Rattle.lookup.proofs.elements_at.Goals as goal

pub returns-then-beyond : goal.returns-then-beyond
returns-then-beyond c = there_none _ _ (c.beyond.ensures.0 c.if-beyond.true)

pub returns-then-s-at : goal.returns-then-s-at
returns-then-s-at c = there_short _ _ _ (part_is _ _ _ _ c.first-n.ensures.0 (omega arith)) (omega arith) (omega arith)

pub returns : goal.returns
returns c = there_all _ _ _ (part_is _ _ _ _ c.first-n.ensures.0 (omega arith)) (omega arith)

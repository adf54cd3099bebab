-- `compare::alike_from` meets its contract. The loop's invariant: both cursors have come to an item, and nothing lacks below it.
use Rattle.codec.specs.Ids.{item_of}
use Rattle.compare.proofs.HowFar.{Going}
use Rattle.compare.proofs.alike_from.Given as goal

abbrev pub invariant-loop-n : goal.invariant-loop-n
invariant-loop-n l = Going l.s l.r l.t l.m l.x l.y (item_of l.i)

abbrev pub decreases-loop-n : goal.decreases-loop-n
decreases-loop-n l = l.x.left

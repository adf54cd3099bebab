-- `cover::walk` meets its contract. The loop's invariant: the whole answer is the one from the item on to which both cursors have
-- come.
use Prim.Native.Nat.{◌+◌}
use Rattle.codec.specs.Ids.{item_of}
use Rattle.cover.specs.Method.{clear_by}
use Rattle.cover.proofs.Steps.{Clears}
use Rattle.cover.proofs.walk.Given as goal

abbrev pub invariant-loop-last : goal.invariant-loop-last
invariant-loop-last l = Clears l.s l.r l.t l.m (item_of l.last) l.keys l.x l.y (clear_by l.s l.r l.t l.m (item_of l.last) (l.initial.x.left + l.initial.y.left) l.initial.x l.initial.y)

abbrev pub decreases-loop-last : goal.decreases-loop-last
decreases-loop-last l = l.x.left + l.y.left

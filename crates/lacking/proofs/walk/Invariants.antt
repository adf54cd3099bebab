-- `lacking::walk` meets its contract. The loop's invariant: the whole answer is the one from the item on to which both cursors have
-- come, and the row is the first one's there.
use Prim.Native.Nat.{◌+◌}
use mathlib.Core.Path.{◌≡◌}
use lib.ListN.{length}
use Rattle.codec.specs.Ids.{item_of}
use Rattle.lacking.specs.Method.{walk_by}
use Rattle.lacking.proofs.Walking.{Walks}
use Rattle.lacking.proofs.walk.Given as goal

abbrev pub invariant-loop-replica : goal.invariant-loop-replica
invariant-loop-replica l = Walks l.s l.r l.t l.m (item_of l.last) l.keys l.row l.x l.y (item_of l.i)
    (walk_by l.s l.r l.t l.m (item_of l.last) (l.initial.x.left + l.initial.y.left) l.initial.x l.initial.y (item_of l.initial.i))
    × (length l.row ≡ length l.initial.row)

abbrev pub decreases-loop-replica : goal.decreases-loop-replica
decreases-loop-replica l = l.x.left + l.y.left

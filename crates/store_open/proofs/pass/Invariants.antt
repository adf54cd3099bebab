-- `store_open::pass` meets its contract. The loop's invariant: the cursor past all ranges is the cursor past those that are
-- left.
use Rattle.std.proofs.Common.{◌≡◌, ◌+◌, ◌*◌, ◌≤◌, length}
use Rattle.codec.specs.Ids.{item_of}
use Rattle.lookup.specs.Method.{passed}
use Rattle.store_open.proofs.pass.Given as goal

abbrev pub invariant-loop-d : goal.invariant-loop-d
invariant-loop-d l =
    (passed l.k (item_of l.i) l.initial.d.left l.initial.d ≡ passed l.k (item_of l.i) l.d.left l.d) × (l.d.next + 28 * l.d.left ≤ length l.k)

abbrev pub decreases-loop-d : goal.decreases-loop-d
decreases-loop-d l = l.d.left

-- `records_select::next_lacking` meets its contract. The loop's invariant: what is selected from the first place on is what is selected from the
-- present place on, with the cursor as it was moved on. The measure is the bytes that are left.
use Prim.Native.Nat.{◌-◌}
use lib.ListN.{length}
use Rattle.codec.specs.Ids.{item_of}
use Rattle.records_select.proofs.Picking.{Passed}
use Rattle.records_select.proofs.next_lacking.Given as goal

abbrev pub invariant-loop-last : goal.invariant-loop-last
invariant-loop-last l = Passed l.s l.from l.k l.r l.initial.cursor (item_of l.last) l.at l.cursor

abbrev pub decreases-loop-last : goal.decreases-loop-last
decreases-loop-last l = length l.s - l.at

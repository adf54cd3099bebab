-- `records_select::all_lacking` meets its contract. The loop's invariant: what is counted and stored so far, with what is left to select from the
-- present place and cursor on, is the whole. The measure is the bytes that are left.
use mathlib.Core.Path.{◌≡◌}
use Prim.Native.Nat.{◌-◌}
use lib.ListN.{length}
use Rattle.codec.specs.Ids.{item_of}
use Rattle.records_select.proofs.Picking.{Selecting}
use Rattle.records_select.proofs.all_lacking.Given as goal

abbrev pub invariant-loop-x : goal.invariant-loop-x
invariant-loop-x l = (Selecting l.s l.at l.k l.r l.initial.c (item_of l.last) l.initial.picks l.p l.c l.count l.size l.picks) × (length l.picks ≡ length l.initial.picks)

abbrev pub decreases-loop-x : goal.decreases-loop-x
decreases-loop-x l = length l.s - l.p

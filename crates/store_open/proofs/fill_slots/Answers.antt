-- `store_open::fill_slots` meets its contract: whatever is written, the slots stay as many.
use native.Mathlib.Omega.{arith}
use lib.ListN.{length-set}
use Rattle.store_open.proofs.fill_slots.Goals as goal

pub bounds-slots-slot_of : goal.bounds-slots-slot_of
bounds-slots-slot_of c = omega (arith, c.slot_of.ensures)

pub loop-key-preserved : goal.loop-key-preserved
loop-key-preserved c = simp length-set c.loop-key.invariant

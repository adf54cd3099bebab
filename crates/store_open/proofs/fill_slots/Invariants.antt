-- `store_open::fill_slots` meets its contract: whatever is written, the slots stay as many.
use mathlib.Core.Path.{◌≡◌}
use lib.ListN.{length}
use Rattle.store_open.proofs.fill_slots.Given as goal

abbrev pub invariant-loop-key : goal.invariant-loop-key
invariant-loop-key l = length l.slots ≡ length l.initial.slots

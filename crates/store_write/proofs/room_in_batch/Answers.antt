-- `store_write::room_in_batch` meets its contract: nothing, or what header, needed and records leave.
use native.Mathlib.Omega.{arith}
use mathlib.Core.Path.{refl}
use Rattle.store_write.specs.MethodClosing.{batch_room}
use Rattle.store_write.proofs.Around.{room_short, room_some}
use Rattle.store_write.proofs.room_in_batch.Goals as goal

pub returns-then-beyond-clause-value : goal.returns-then-beyond-clause-value
unfolding batch_room
returns-then-beyond-clause-value c = room_short _ _ _ _ refl (omega (arith, c.beyond.ensures.0 c.if-beyond.true))

pub returns-then-beyond-clause-from_le_to : goal.returns-then-beyond-clause-from_le_to
unfolding batch_room
returns-then-beyond-clause-from_le_to c = (omega arith, omega arith)

pub overflow_add-from : goal.overflow_add-from
overflow_add-from c = omega (arith, c.beyond.ensures.1 c.if-beyond.false)

pub returns-then-beyond-2-clause-value : goal.returns-then-beyond-2-clause-value
unfolding batch_room
returns-then-beyond-2-clause-value c = room_short _ _ _ _ refl (omega (arith, c.beyond-2.ensures.0 c.if-beyond-2.true))

pub returns-then-beyond-2-clause-from_le_to : goal.returns-then-beyond-2-clause-from_le_to
unfolding batch_room
returns-then-beyond-2-clause-from_le_to c = (omega arith, omega arith)

pub overflow_sub-result : goal.overflow_sub-result
overflow_sub-result c = omega (arith, c.beyond-2.ensures.1 c.if-beyond-2.false)

pub returns-clause-value : goal.returns-clause-value
unfolding batch_room
returns-clause-value c = let h = c.beyond-2.ensures.1 c.if-beyond-2.false in
    room_some _ _ _ _ refl (omega (arith, h))

pub returns-clause-from_le_to : goal.returns-clause-from_le_to
unfolding batch_room
returns-clause-from_le_to c = let h = c.beyond-2.ensures.1 c.if-beyond-2.false in
    (omega (arith, h), omega arith)

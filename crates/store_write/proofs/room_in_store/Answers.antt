-- `store_write::room_in_store` meets its contract: nothing, or what header and records leave.
use native.Mathlib.Omega.{arith}
use borrow.Author.Tests.{le-leb, lt-leb}
use Rattle.codec.specs.Total.{clamp}
use Rattle.layout.specs.Permitted.{largest_records}
use Rattle.store_write.specs.MethodClosing.{store_room}
use Rattle.store_write.proofs.Around.{room_not, room_short, room_some}
use Rattle.store_write.proofs.room_in_store.Goals as goal

pub returns-then-most-e-clause-value : goal.returns-then-most-e-clause-value
unfolding store_room
returns-then-most-e-clause-value c = let a = c.args in
    let over = lt-leb a.e.count (clamp a.records largest_records) (omega (arith, c.clamp-most.ensures, c.if-most-e.true)) in
    room_not _ _ _ _ over

pub returns-then-most-e-clause-from_le_to : goal.returns-then-most-e-clause-from_le_to
unfolding store_room
returns-then-most-e-clause-from_le_to c = let a = c.args in
    let over = lt-leb a.e.count (clamp a.records largest_records) (omega (arith, c.clamp-most.ensures, c.if-most-e.true)) in
    (omega arith, omega arith)

pub returns-then-beyond-clause-value : goal.returns-then-beyond-clause-value
unfolding store_room
returns-then-beyond-clause-value c = let a = c.args in
    let few = le-leb a.e.count (clamp a.records largest_records) (omega (arith, c.clamp-most.ensures, c.if-most-e.false)) in
    room_short _ _ _ _ few (c.beyond.ensures.0 c.if-beyond.true)

pub returns-then-beyond-clause-from_le_to : goal.returns-then-beyond-clause-from_le_to
unfolding store_room
returns-then-beyond-clause-from_le_to c = let a = c.args in
    let few = le-leb a.e.count (clamp a.records largest_records) (omega (arith, c.clamp-most.ensures, c.if-most-e.false)) in
    (omega arith, omega arith)

pub overflow_sub-result : goal.overflow_sub-result
overflow_sub-result c = omega (arith, c.beyond.ensures.1 c.if-beyond.false)

pub returns-clause-value : goal.returns-clause-value
unfolding store_room
returns-clause-value c = let a = c.args in
    let few = le-leb a.e.count (clamp a.records largest_records) (omega (arith, c.clamp-most.ensures, c.if-most-e.false)) in
    let h = c.beyond.ensures.1 c.if-beyond.false in
    room_some _ _ _ _ few h

pub returns-clause-from_le_to : goal.returns-clause-from_le_to
unfolding store_room
returns-clause-from_le_to c = let a = c.args in
    let few = le-leb a.e.count (clamp a.records largest_records) (omega (arith, c.clamp-most.ensures, c.if-most-e.false)) in
    let h = c.beyond.ensures.1 c.if-beyond.false in
    (omega (arith, h), omega arith)

-- `records_join::join` meets its contract. The loop's invariant: what is counted and stored so far, with what is left to join from the present
-- places on, is the whole. The measure is the bytes that are left on both sides.
use mathlib.Core.Path.{refl}
use native.Mathlib.Omega.{arith}
use Rattle.records_join.proofs.Steps.{joining_all, count_end, size_end, chosen_end, joining_more, joining_room, joining_less}
use Rattle.records_join.proofs.join.Goals as goal

pub loop-r-init : goal.loop-r-init
loop-r-init c = (joining_all _ _ _ _ _, refl)

pub overflow_add-count : goal.overflow_add-count
overflow_add-count c = omega (arith, joining_room _ _ _ _ _ _ _ _ _ _ c.loop-r.invariant.0 _ c.in-Some.ensures, c.in-Some.ensures.some)

pub overflow_add-size : goal.overflow_add-size
overflow_add-size c = omega (arith, joining_room _ _ _ _ _ _ _ _ _ _ c.loop-r.invariant.0 _ c.in-Some.ensures)

pub loop-r-smaller : goal.loop-r-smaller
loop-r-smaller c = joining_less _ _ _ _ _ _ _ _ _ _ c.loop-r.invariant.0 _ c.in-Some.ensures

pub loop-r-preserved : goal.loop-r-preserved
loop-r-preserved c = (
  joining_more _ _ _ _ _ _ _ _ _ _ c.loop-r.invariant.0 _ c.in-Some.ensures _ c.put.ensures,
  omega (arith, c.chosen-1.given, c.loop-r.invariant.1),
)

pub returns-clause-count_value : goal.returns-clause-count_value
returns-clause-count_value c =
    (count_end _ _ _ _ _ _ _ _ _ _ c.loop-r.invariant.0 c.in_default.ensures, size_end _ _ _ _ _ _ _ _ _ _ c.loop-r.invariant.0 c.in_default.ensures)

pub returns-clause-chosen_after : goal.returns-clause-chosen_after
returns-clause-chosen_after c = chosen_end _ _ _ _ _ _ _ _ _ _ c.loop-r.invariant.0 c.in_default.ensures

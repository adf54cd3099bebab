-- `records_select::all_lacking` meets its contract. The loop's invariant: what is counted and stored so far, with what is left to select from the
-- present place and cursor on, is the whole. The measure is the bytes that are left.
use mathlib.Core.Path.{refl}
use native.Mathlib.Omega.{arith}
use Rattle.records_select.proofs.Picking.{selecting_all, count_end, size_end, picks_end, pick_inside, selecting_more, selecting_less, selecting_room}
use Rattle.records_select.proofs.all_lacking.Goals as goal

pub loop-x-init : goal.loop-x-init
loop-x-init c = (selecting_all _ _ _ _ _ _ _, refl)

pub overflow_add-count : goal.overflow_add-count
overflow_add-count c = omega (arith, selecting_room _ _ _ _ _ _ _ _ _ _ _ _ c.loop-x.invariant.0 _ c.in-Some.ensures, c.in-Some.ensures.some)

pub overflow_add-size : goal.overflow_add-size
overflow_add-size c = omega (arith, selecting_room _ _ _ _ _ _ _ _ _ _ _ _ c.loop-x.invariant.0 _ c.in-Some.ensures)

pub overflow_add-p : goal.overflow_add-p
overflow_add-p c = omega (arith, pick_inside _ _ _ _ _ _ _ _ _ _ _ _ c.loop-x.invariant.0 _ c.in-Some.ensures)

pub loop-x-smaller : goal.loop-x-smaller
loop-x-smaller c = selecting_less _ _ _ _ _ _ _ _ _ _ _ _ c.loop-x.invariant.0 _ c.in-Some.ensures

pub loop-x-preserved : goal.loop-x-preserved
loop-x-preserved c = (
  selecting_more _ _ _ _ _ _ _ _ _ _ _ _ c.loop-x.invariant.0 _ c.in-Some.ensures _ c.put.ensures,
  omega (arith, c.picks-1.given, c.loop-x.invariant.1),
)

pub returns-clause-count_value : goal.returns-clause-count_value
returns-clause-count_value c = (
  count_end _ _ _ _ _ _ _ _ _ _ _ _ c.loop-x.invariant.0 c.in_default.ensures,
  size_end _ _ _ _ _ _ _ _ _ _ _ _ c.loop-x.invariant.0 c.in_default.ensures,
)

pub returns-clause-picks_after : goal.returns-clause-picks_after
returns-clause-picks_after c = picks_end _ _ _ _ _ _ _ _ _ _ _ _ c.loop-x.invariant.0 c.in_default.ensures

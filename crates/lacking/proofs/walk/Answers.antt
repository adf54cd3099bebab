-- `lacking::walk` meets its contract. The loop's invariant: the whole answer is the one from the item on to which both cursors have
-- come, and the row is the first one's there.
use mathlib.Core.Path.{refl}
use Rattle.lacking.proofs.Walking.{walk_starts, walk_whole, walk_here, walk_past, walk_on, walk_less}
use native.Mathlib.Omega.{arith}
use Rattle.lacking.proofs.walk.Goals as goal

pub loop-replica-init : goal.loop-replica-init
loop-replica-init c = let p = c.requires in (
  walk_starts _ _ _ _ _ _ _ _ _ _ c.advance-x.ensures
      c.advance-y.ensures _ _ _ p.0 p.1 p.2 p.3 p.5
      c.write_row.ensures,
  refl,
)

pub returns-in-Some : goal.returns-in-Some
returns-in-Some c = walk_whole _ _ _ _ _ _ _ _ _ _ c.advance-x.ensures c.advance-y.ensures _
    (walk_here _ _ _ _ _ _ _ _ _ _ _ c.loop-replica.invariant.0 _ c.least_lacking.ensures _ _ refl
    c.in-Some.is)

pub returns-in_err-n : goal.returns-in_err-n
returns-in_err-n c = rw c.from_residual.ensures (walk_whole _ _ _ _ _ _ _ _ _ _ c.advance-x.ensures
    c.advance-y.ensures _
    (walk_past _ _ _ _ _ _ _ _ _ _ _ c.loop-replica.invariant.0 _
    c.least_lacking.ensures c.in_default.is _ _ _
    (c.bound_of.ensures.stop (omega arith)) (c.bound_of-in-loop-replica.ensures.stop (omega arith))
    c.nearer.ensures c.in_err-n.was))

pub loop-replica-smaller : goal.loop-replica-smaller
loop-replica-smaller c = walk_less _ _ _ _ _ _ _ _ _ _ _ c.loop-replica.invariant.0 _ c.least_lacking.ensures
    c.in_default.is _ _ _ (c.bound_of.ensures.stop (omega arith)) (c.bound_of-in-loop-replica.ensures.stop (omega arith))
    c.nearer.ensures _ c.in_ok-n.was _ _ c.advance-x-in-loop-replica.ensures
    c.advance-y-in-loop-replica.ensures

pub loop-replica-preserved : goal.loop-replica-preserved
loop-replica-preserved c = (
  walk_on _ _ _ _ _ _ _ _ _ _ _ c.loop-replica.invariant.0 _ c.least_lacking.ensures
      c.in_default.is _ _ _ (c.bound_of.ensures.stop (omega arith)) (c.bound_of-in-loop-replica.ensures.stop (omega arith))
      c.nearer.ensures _ c.in_ok-n.was _ _ c.advance-x-in-loop-replica.ensures
      c.advance-y-in-loop-replica.ensures _ c.refill.ensures,
  omega (arith, c.loop-replica.invariant.1, c.refill.ensures.size),
)

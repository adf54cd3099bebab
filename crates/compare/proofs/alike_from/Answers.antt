-- `compare::alike_from` meets its contract. The loop's invariant: both cursors have come to an item, and nothing lacks below it.
use Rattle.compare.proofs.HowFar.{going_starts, going_done, going_on, going_less}
use Rattle.compare.proofs.alike_from.Goals as goal

pub loop-n-init : goal.loop-n-init
loop-n-init c = let pre = c.requires in
    going_starts _ _ _ _ _ _ _ _ pre.0 pre.1 pre.2 c.advance-x.ensures c.advance-y.ensures

pub returns-in-Done : goal.returns-in-Done
returns-in-Done c = going_done _ _ _ _ _ _ _ c.loop-n.invariant _ c.next_alike.ensures c.in-Done.is

pub loop-n-smaller : goal.loop-n-smaller
loop-n-smaller c = going_less _ _ _ _ _ _ _ c.loop-n.invariant _ c.next_alike.ensures _ c.in-At.is _ _
    c.advance-x-in-At.ensures c.advance-y-in-At.ensures

pub loop-n-preserved : goal.loop-n-preserved
loop-n-preserved c = going_on _ _ _ _ _ _ _ c.loop-n.invariant _ c.next_alike.ensures _ c.in-At.is _ _
    c.advance-x-in-At.ensures c.advance-y-in-At.ensures

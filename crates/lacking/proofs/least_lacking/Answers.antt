-- `lacking::least_lacking` meets its contract. The loop's invariant: the whole answer is the answer from the least id so far
-- and the elements that are left.
use Rattle.lacking.proofs.Cells.{least_none_above, least_begins, least_next, least_end}
use native.Mathlib.Omega.{arith}
use Rattle.lacking.proofs.least_lacking.Goals as goal

pub returns-then-none_above : goal.returns-then-none_above
returns-then-none_above c = least_none_above _ (c.none_above.ensures c.if-none_above.true)

pub loop-i-init : goal.loop-i-init
loop-i-init c = least_begins _ _ _ _ _ _ c.elements_at-n.ensures (omega arith)

pub loop-i-preserved : goal.loop-i-preserved
loop-i-preserved c = least_next _ _ _ _ _ _ _ _ c.loop-i.invariant _ _ c.least_with-best.ensures c.loop-i-test.true (omega arith)

pub returns : goal.returns
returns c = least_end _ _ _ _ _ _ _ _ c.loop-i.invariant (omega arith)

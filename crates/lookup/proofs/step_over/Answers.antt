-- `lookup::step_over` meets its contract. The loop's invariant: the place after all vectors is the place after those that
-- are left.
use Rattle.std.proofs.Common.{sym, arith}
use Rattle.leaves.proofs.Part.{part_is}
use Rattle.lookup.proofs.Loops.{stepped_stop, stepped_all, step_stop, step_on, step_end}
use Rattle.lookup.proofs.step_over.Goals as goal

pub returns-then-s-lt8 : goal.returns-then-s-lt8
returns-then-s-lt8 c = sym (stepped_stop _ _ _ (omega arith))

pub loop-init : goal.loop-init
loop-init c = (stepped_all _ _ _, omega arith)

pub returns-then-end-at : goal.returns-then-end-at
returns-then-end-at c = step_stop _ _ _ _ _ c.loop.invariant.0 (omega arith)

pub loop-preserved : goal.loop-preserved
loop-preserved c = (
  step_on _ _ _ _ _ c.loop.invariant.0 _ (part_is _ _ _ _ c.first.ensures.0 (omega arith)) c.loop-test.true (omega arith),
  omega arith,
)

pub returns : goal.returns
returns c = step_end _ _ _ _ _ c.loop.invariant.0 c.loop-test.false

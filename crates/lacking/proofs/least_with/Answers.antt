-- `lacking::least_with` meets its contract: an element whose tick is above the level of its key is compared with the least so far.
use Rattle.leaves.proofs.Part.{part_is}
use Rattle.lacking.proofs.Cells.{with_not_above, with_above}
use native.Mathlib.Omega.{arith}
use Rattle.lacking.proofs.least_with.Goals as goal

pub returns-then-tick-level : goal.returns-then-tick-level
returns-then-tick-level c = with_not_above _ _ _ _ _ _ _ _ (part_is _ _ _ _ c.first-n.ensures.0 (omega arith)) (part_is _ _ _ _ c.first-tick.ensures.0 (omega arith))
    c.level.ensures c.if-tick-level.true

pub returns : goal.returns
returns c = with_above _ _ _ _ _ _ _ _ (part_is _ _ _ _ c.first-n.ensures.0 (omega arith))
    (part_is _ _ _ _ c.first-tick.ensures.0 (omega arith))
    c.level.ensures c.if-tick-level.false _ _
    c.read-high.ensures.value c.read-low.ensures.value _ c.lesser.ensures

-- `lacking::none_above` meets its contract. The loop's invariant: what lacks among all elements is what lacks among those that are left.
use Rattle.leaves.proofs.Part.{part_is}
use Rattle.lacking.proofs.Cells.{none_above_begins, none_above_next, none_above_all}
use native.Mathlib.Omega.{arith}
use Rattle.lacking.proofs.none_above.Goals as goal

pub loop-i-init : goal.loop-i-init
loop-i-init c = none_above_begins _ _ _ _ _ _ _ c.elements_at-n.ensures (omega arith)

pub loop-i-preserved : goal.loop-i-preserved
loop-i-preserved c = let room = c.elements_at-n.ensures.room (omega arith) in
    none_above_next _ _ _ _ _ _ _ _ c.loop-i.invariant _ _ _ _
    (part_is _ _ _ _ c.first-k.ensures.0 (omega arith)) (part_is _ _ _ _ c.first.ensures.0 (omega arith))
    c.level.ensures c.if-level-first.false c.loop-i-test.true (omega arith)

pub returns : goal.returns
returns c = λ e. none_above_all _ _ _ _ _ _ _ _ c.loop-i.invariant (omega arith)

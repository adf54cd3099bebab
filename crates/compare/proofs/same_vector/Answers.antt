-- `compare::same_vector` meets its contract. The loop's invariant: all elements are the same where those that are left are.
use native.Mathlib.Omega.{arith}
use Rattle.leaves.proofs.Part.{part_is}
use Rattle.compare.proofs.HowFar.{elements_all, elements_next, elements_done}
use Rattle.compare.proofs.same_vector.Goals as goal

pub loop-i-init : goal.loop-i-init
loop-i-init c = elements_all _ _ _ _ _ _ _ _ _ c.elements_at-n.ensures c.elements_at.ensures c.if-elements_at-n.false
    (omega arith) (omega arith) (omega arith)

pub loop-i-preserved : goal.loop-i-preserved
loop-i-preserved c = let first = c.elements_at-n.ensures.room (omega arith) in
    let second = c.elements_at.ensures.room (omega arith) in
    elements_next _ _ _ _ _ _ _ c.loop-i.invariant _ _ _ _ _ _ _ (omega arith) (omega arith) (omega arith)
    (part_is _ _ _ _ c.first.ensures.0 (omega arith)) (part_is _ _ _ _ c.first-in-loop-i.ensures.0 (omega arith))
    c.if-first.false
    (part_is _ _ _ _ c.first-in-loop-i-2.ensures.0 (omega arith)) (part_is _ _ _ _ c.first-in-loop-i-3.ensures.0 (omega arith))
    c.if-first-2.false

pub returns : goal.returns
returns c = λ e. elements_done _ _ _ _ _ _ _ c.loop-i.invariant (omega arith)

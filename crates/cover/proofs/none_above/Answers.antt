-- `cover::none_above` meets its contract. The loop's invariant: the whole answer is the one from here on.
use Rattle.leaves.proofs.Part.{part_is}
use Rattle.cover.proofs.Steps.{none_empty, none_begins, none_next, none_stop, none_end}
use native.Mathlib.Omega.{arith}
use Rattle.cover.proofs.none_above.Goals as goal

pub returns-then-n-eq0 : goal.returns-then-n-eq0
returns-then-n-eq0 c = none_empty _ _ _ _ c.elements_at-n.ensures c.if-n-eq0.true

pub loop-i-init : goal.loop-i-init
loop-i-init c = none_begins _ _ _ _ _ c.elements_at-n.ensures (omega arith)

pub returns-then-level-first : goal.returns-then-level-first
returns-then-level-first c = let room = c.elements_at-n.ensures.room (omega arith) in
    none_stop _ _ _ _ _ _ c.loop-i.invariant _ _ _
    (part_is _ _ _ _ c.first-k.ensures.0 (omega arith)) (part_is _ _ _ _ c.first.ensures.0 (omega arith))
    c.level.ensures c.loop-i-test.true c.if-level-first.true

pub loop-i-preserved : goal.loop-i-preserved
loop-i-preserved c = let room = c.elements_at-n.ensures.room (omega arith) in
    none_next _ _ _ _ _ _ c.loop-i.invariant _ _ _
    (part_is _ _ _ _ c.first-k.ensures.0 (omega arith)) (part_is _ _ _ _ c.first.ensures.0 (omega arith))
    c.level.ensures c.loop-i-test.true _ c.if-level-first.false (omega arith)

pub returns : goal.returns
returns c = none_end _ _ _ _ _ _ c.loop-i.invariant (omega arith)

-- `records::tag_kept` meets its contract: only a tombstone's tag is looked at.
use native.Mathlib.Omega.{arith}
use Rattle.leaves.proofs.Part.{part_is}
use Rattle.records.proofs.Shape.{tag_live, tag_low, tag_high}
use Rattle.records.proofs.tag_kept.Goals as goal

pub returns-then-from-ne-TOMBSTONE : goal.returns-then-from-ne-TOMBSTONE
returns-then-from-ne-TOMBSTONE c = tag_live _ _ _ c.from.ensures c.if-from-ne-TOMBSTONE.true

pub returns-then-t0-eq0 : goal.returns-then-t0-eq0
returns-then-t0-eq0 c = tag_low _ _ _ c.from.ensures c.if-from-ne-TOMBSTONE.false _ _
    (part_is _ _ _ _ c.first-t0.ensures.0 (omega arith)) (part_is _ _ _ _ c.first-t1.ensures.0 (omega arith)) c.if-t0-eq0.true

pub returns-else-t0-eq0 : goal.returns-else-t0-eq0
returns-else-t0-eq0 c = tag_high _ _ _ c.from.ensures c.if-from-ne-TOMBSTONE.false _ _
    (part_is _ _ _ _ c.first-t0.ensures.0 (omega arith)) (part_is _ _ _ _ c.first-t1.ensures.0 (omega arith)) c.if-t0-eq0.false

-- `records::valid` meets its contract: the tests are those of the definition, in its order.
use native.Mathlib.Omega.{arith}
use Rattle.leaves.proofs.Part.{part_is}
use Rattle.records.proofs.Shape.{valid-zero, valid_later, valid_large, valid_tag}
use Rattle.records.proofs.valid.Goals as goal

pub returns-then-create-lt1 : goal.returns-then-create-lt1
returns-then-create-lt1 c = valid-zero _ _ _ _ (part_is _ _ _ _ c.first-create.ensures.0 (omega arith)) (part_is _ _ _ _ c.first-change.ensures.0 (omega arith)) c.if-create-lt1.true

pub returns-then-change-create : goal.returns-then-change-create
returns-then-change-create c = valid_later _ _ _ _ (part_is _ _ _ _ c.first-create.ensures.0 (omega arith)) (part_is _ _ _ _ c.first-change.ensures.0 (omega arith))
    (omega arith) c.if-change-create.true

pub returns-then-change-gt-LARGEST_TICK : goal.returns-then-change-gt-LARGEST_TICK
returns-then-change-gt-LARGEST_TICK c = valid_large _ _ _ _ (part_is _ _ _ _ c.first-create.ensures.0 (omega arith))
    (part_is _ _ _ _ c.first-change.ensures.0 (omega arith)) (omega arith) (omega arith) c.if-change-gt-LARGEST_TICK.true

pub returns : goal.returns
returns c = valid_tag _ _ _ _ (part_is _ _ _ _ c.first-create.ensures.0 (omega arith))
    (part_is _ _ _ _ c.first-change.ensures.0 (omega arith)) (omega arith) (omega arith) (omega arith) _
    c.tag_kept.ensures

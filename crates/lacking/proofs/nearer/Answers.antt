-- `lacking::nearer` meets its contract: the stop that is below the other.
use Rattle.std.proofs.Common.{◌∙◌, arith}
use Rattle.codec.proofs.Ids.{item_lt}
use Rattle.lacking.proofs.Cells.{nearer_second, nearer_first, nearer_less, nearer_not}
use Rattle.lacking.proofs.nearer.Goals as goal

pub returns-in_default : goal.returns-in_default
returns-in_default c = nearer_second _ _ c.in_default.is

pub returns-in_default-b : goal.returns-in_default-b
returns-in_default-b c = nearer_first _ _ _ c.in-Some.is c.in_default-b.is

pub returns-then-lt : goal.returns-then-lt
returns-then-lt c =
    nearer_less _ _ _ c.in-Some.is _ c.in-Some-b.is _
    (c.lt.ensures
    ∙ item_lt _ _ (record { high = omega arith; middle = omega arith; low = omega arith })
    (record { high = omega arith; middle = omega arith; low = omega arith })) c.if-lt.true

pub returns : goal.returns
returns c =
    nearer_not _ _ _ c.in-Some.is _ c.in-Some-b.is _
    (c.lt.ensures
    ∙ item_lt _ _ (record { high = omega arith; middle = omega arith; low = omega arith })
    (record { high = omega arith; middle = omega arith; low = omega arith })) c.if-lt.false

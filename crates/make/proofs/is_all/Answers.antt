-- `make::is_all` meets its contract: ids are compared as numbers.
use Rattle.std.proofs.Common.{◌∙◌, arith}
use Rattle.codec.proofs.Ids.{item_eq}
use Rattle.make.proofs.Learned.{not_first, from_first_lem}
use Rattle.make.proofs.is_all.Goals as goal

pub returns-then-eq : goal.returns-then-eq
returns-then-eq c =
    from_first_lem _ _
    (c.eq.ensures
    ∙ item_eq _ _ (record { high = omega arith; middle = omega arith; low = omega arith })
    (record { high = omega arith; middle = omega arith; low = omega arith }))
    _ c.if-eq.true
    (c.eq-then-eq.ensures
    ∙ item_eq _ _ (record { high = omega arith; middle = omega arith; low = omega arith })
    (record { high = omega arith; middle = omega arith; low = omega arith }))

pub returns-else-eq : goal.returns-else-eq
returns-else-eq c =
    c.if-eq.false
    ∙ not_first c.args.span _
    (c.eq.ensures
    ∙ item_eq _ _ (record { high = omega arith; middle = omega arith; low = omega arith })
    (record { high = omega arith; middle = omega arith; low = omega arith })) c.if-eq.false

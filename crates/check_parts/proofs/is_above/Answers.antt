-- `check_parts::is_above` meets its contract: ids are compared as numbers.
use Rattle.std.proofs.Common.{◌∙◌, sym, arith}
use borrow.Author.Tests.{le-leb}
use Rattle.codec.specs.Ids.{item_of}
use Rattle.codec.proofs.Ids.{item_lt}
use Rattle.check_parts.specs.Method.{lowest}
use Rattle.check_parts.proofs.is_above.Goals as goal

pub returns-in-Some : goal.returns-in-Some
unfolding lowest
returns-in-Some c =
    rw (c.in-Some.is, lowest)
    (c.lt.ensures ∙ item_lt _ _ (record { high = omega arith; middle = omega arith; low = omega arith })
    (record { high = omega arith; middle = omega arith; low = omega arith }))

pub returns-in-None : goal.returns-in-None
unfolding lowest
returns-in-None c = rw (c.in-None.is, lowest) (sym (le-leb 0 (item_of c.args.bound) (omega arith)))

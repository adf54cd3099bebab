-- `lookup_ranges::item_before` meets its contract: the lowest word that is not 0 is one less, and those below it are full.
use Rattle.std.proofs.Common.{arith}
use Rattle.codec.specs.Words.{words3}
use Rattle.lookup_ranges.proofs.item_before.Goals as goal

pub returns-then-b-ne0-clause-value : goal.returns-then-b-ne0-clause-value
unfolding words3
returns-then-b-ne0-clause-value c = omega (arith, c.if-b-ne0.true)

pub returns-then-b-ne0-2-clause-value : goal.returns-then-b-ne0-2-clause-value
unfolding words3
returns-then-b-ne0-2-clause-value c = omega (arith, c.if-b-ne0.false, c.if-b-ne0-2.true)

pub returns-then-b-ne0-3-clause-value : goal.returns-then-b-ne0-3-clause-value
unfolding words3
returns-then-b-ne0-3-clause-value c = omega (arith, c.if-b-ne0.false, c.if-b-ne0-2.false, c.if-b-ne0-3.true)

pub returns-clause-value : goal.returns-clause-value
unfolding words3
returns-clause-value c = omega (arith, c.if-b-ne0.false, c.if-b-ne0-2.false, c.if-b-ne0-3.false)

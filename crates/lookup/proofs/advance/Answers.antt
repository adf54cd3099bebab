-- `lookup::advance` meets its contract: it passes the ranges, and then finds the vector's place.
use Rattle.std.proofs.Common.{arith}
use Rattle.lookup.proofs.Loops.{advance_not, advance_is}
use Rattle.lookup.proofs.advance.Goals as goal

pub returns-then-beyond : goal.returns-then-beyond
returns-then-beyond c = advance_not _ _ _ _ (c.beyond.ensures.0 c.if-beyond.true)

pub returns : goal.returns
returns c = advance_is _ _ _ _ _ _ (c.beyond.ensures.1 c.if-beyond.false) c.pass-d.ensures c.vector_place.ensures

-- `lookup::vector_place` meets its contract, onwards from the vector whose place is known and from the first one on.
use Rattle.lookup.proofs.Loops.{from_here, from_first_lem}
use Rattle.lookup.proofs.vector_place.Goals as goal

pub returns-then-from-to : goal.returns-then-from-to
returns-then-from-to c = from_here _ _ _ _ _ _ c.if-from-to.true c.step_over.ensures

pub returns : goal.returns
returns c = from_first_lem _ _ _ _ _ _ c.if-from-to.false c.step_over-2.ensures

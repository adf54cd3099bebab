-- `compare::size_of` meets its contract, in each of the two cases.
use Rattle.compare.proofs.Calls.{size_none, size_some}
use Rattle.compare.proofs.size_of.Goals as goal

pub returns-in-Some : goal.returns-in-Some
returns-in-Some c = size_some _ _ c.in-Some.is

pub returns-in-None : goal.returns-in-None
returns-in-None c = size_none _ c.in-None.is

-- `lookup::start` meets its contract: the fields are those of the definition.
use Rattle.lookup.proofs.Calls.{start_is}
use Rattle.lookup.proofs.start.Goals as goal

pub returns : goal.returns
returns c = start_is _ _ _ _

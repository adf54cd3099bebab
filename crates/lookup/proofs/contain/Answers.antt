-- `lookup::contain` meets its contract: document 01's rules are those of its two numbers.
use Rattle.lookup.proofs.Calls.{contain_basic}
use Rattle.lookup.proofs.contain.Goals as goal

pub returns : goal.returns
returns c = contain_basic _ _ _ _ _ c.contain_within.ensures

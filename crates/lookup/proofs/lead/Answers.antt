-- `lookup::lead` meets its contract: document 01's rules are those of its two numbers.
use Rattle.lookup.proofs.Calls.{lead_basic}
use Rattle.lookup.proofs.lead.Goals as goal

pub returns : goal.returns
returns c = lead_basic _ _ _ _ _ c.lead_within.ensures

-- `store_open::each_lacking` meets its contract: it asks that the change version is lacking.
use Rattle.store_open.proofs.Asked.{asked_each_lacking}
use Rattle.store_open.proofs.each_lacking.Goals as goal

pub returns : goal.returns
returns c = asked_each_lacking _ _ _ c.each_asked.ensures

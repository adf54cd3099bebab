-- `store_open::each_contained` meets its contract: it asks for both versions.
use Rattle.store_open.proofs.Asked.{asked_contained}
use Rattle.store_open.proofs.each_contained.Goals as goal

pub returns : goal.returns
returns c = asked_contained _ _ _ c.each_asked.ensures

-- `store_open::tick_by` meets its contract: the replica's key has that tick in the vector.
use Rattle.records_versions.proofs.Versions.{tick_in_is}
use Rattle.store_open.proofs.tick_by.Goals as goal

pub returns : goal.returns
returns c = tick_in_is _ _ _ _ _ _ _ c.key_by-key.ensures c.tick_at.ensures

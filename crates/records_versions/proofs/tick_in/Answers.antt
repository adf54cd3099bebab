-- `records_versions::tick_in` meets its contract: the replica's key has that tick in the vector.
use Rattle.records_versions.proofs.Versions.{tick_in_is}
use Rattle.records_versions.proofs.tick_in.Goals as goal

pub returns : goal.returns
returns c = tick_in_is _ _ _ _ _ _ _ c.key_of-key.ensures c.tick_at.ensures

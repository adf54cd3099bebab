-- `records_join::VersionWords::write` meets its contract: the tick stands behind the replica.
use Rattle.records_join.proofs.Written.{version_wrote}
use Rattle.records_join.proofs.VersionWords.write.Goals as goal

pub returns : goal.returns
returns c = version_wrote _ _ _ _ _ c.write_replica.ensures c.write.ensures

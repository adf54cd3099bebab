-- `records_join::RecordWords::write_versions` meets its contract: the create version stands behind the change version.
use Rattle.records_join.proofs.Written.{versions_wrote}
use Rattle.records_join.proofs.RecordWords.write_versions.Goals as goal

pub returns : goal.returns
returns c = versions_wrote _ _ _ _ _ _ c.write.ensures c.write-2.ensures

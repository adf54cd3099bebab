-- `records_versions::change_in` meets its contract: replica and tick are those of the change version.
use Prim.Native.Nat.{◌+◌}
use Rattle.replication.specs.Reading.{change_replica_place, change_tick_place}
use Rattle.records_versions.proofs.Versions.{version_in_is}
use Rattle.records_versions.proofs.change_in.Goals as goal

pub returns : goal.returns
returns c = let a = c.args in
    version_in_is _ _ _ _ (a.at + change_replica_place) (a.at + change_tick_place) _ _ _ _
    c.change_replica-p.ensures.value
    c.change_tick-t.ensures c.tick_in.ensures

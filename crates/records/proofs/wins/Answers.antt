-- `records::wins` meets its contract: ticks that differ decide, else the replicas.
use Rattle.std.proofs.Common.{◌∙◌}
use Rattle.codec.proofs.Ids.{replica_lt}
use Rattle.records.proofs.Fields.{wins_by_tick, wins_by_replica}
use Rattle.records.proofs.wins.Goals as goal

pub returns-then-mine-theirs : goal.returns-then-mine-theirs
returns-then-mine-theirs c = wins_by_replica _ _ _ _ _ _ c.change_tick-mine.ensures
    c.change_tick-theirs.ensures c.if-mine-theirs.true _ _
    c.change_replica.ensures.value c.change_replica-then-mine-theirs.ensures.value _
    (c.lt.ensures ∙ replica_lt _ _ c.change_replica.ensures.low_bound c.change_replica-then-mine-theirs.ensures.low_bound)

pub returns : goal.returns
returns c = wins_by_tick _ _ _ _ _ _ c.change_tick-mine.ensures c.change_tick-theirs.ensures c.if-mine-theirs.false

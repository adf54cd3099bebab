-- `check_parts::replica_map` meets its contract: the count and its limits, then as many parts.
use Rattle.std.proofs.Common.{refl}
use Rattle.layout.specs.Got.{got_of}
use Rattle.layout.specs.Knowledge.{opening}
use Rattle.layout.specs.Read.{fields}
use Rattle.check_fields.proofs.Steps.{passed, limited}
use Rattle.check_parts.proofs.Lists.{limited_inside, map_fault, map_on}
use Rattle.check_parts.proofs.replica_map.Goals as goal

pub returns-in_err-r : goal.returns-in_err-r
unfolding got_of
returns-in_err-r c =
    passed _ _ c.from_residual.ensures.1 _
    (map_fault _ _ _ _ c.count_of_replicas.ensures (limited _ _ _ _ c.in_err-r.ensures) _ refl)

pub replica_ids-requires : goal.replica_ids-requires
unfolding got_of
replica_ids-requires c = let a = c.args in
    limited_inside a.s.now 4 _ _ (fields a.s.now opening 0 0) _ _ c.count_of_replicas.ensures (limited _ _ _ _ c.in_ok-r.ensures) _ _ refl

pub returns : goal.returns
unfolding got_of
returns c =
    map_on _ _ _ _ c.count_of_replicas.ensures (limited _ _ _ _ c.in_ok-r.ensures) _ _ refl _ c.replica_ids.ensures

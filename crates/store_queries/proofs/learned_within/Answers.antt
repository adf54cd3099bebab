-- `store_queries::learned_within` meets its contract, in each of the answers of the check.
use Rattle.std.proofs.Common.{arith}
use Rattle.std.proofs.lemmas.Result.{err_from_is_err_and}
use Rattle.codec.specs.Number.{Bytes}
use Rattle.replication.specs.Part.{part_of, located}
use Rattle.store_queries.proofs.Handed.{learned_not_batch, learned_place, learned_is}
use Rattle.store_queries.proofs.learned_within.Goals as goal

pub overflow_add-result : goal.overflow_add-result
overflow_add-result c =
    let a = c.args in
    let z : Bytes a.batch.now = record { below = λ i. omega (arith, c.type_inv.batch i) } in
    let inside = learned_place a.limits.replicas a.limits.ranges a.limits.records _ _ c.open_batch.ensures z _ c.in_ok-b.was in
    omega (arith, inside)

pub returns-in_err-b : goal.returns-in_err-b
unfolding part_of
returns-in_err-b c =
    let a = c.args in
    let p = err_from_is_err_and c.from_residual.result c.from_residual.ensures.1 in
    rw (p.1, p.2) (learned_not_batch a.limits.replicas a.limits.ranges a.limits.records _ _ c.open_batch.ensures _ c.in_err-b.was)

pub returns : goal.returns
unfolding part_of located
returns c =
    let a = c.args in
    let z : Bytes a.batch.now = record { below = λ i. omega (arith, c.type_inv.batch i) } in
    learned_is a.limits.replicas a.limits.ranges a.limits.records _ _ c.open_batch.ensures z _ c.in_ok-b.was

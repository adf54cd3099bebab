-- `store_queries::knowledge_within` meets its contract, in each of the answers of the check.
use Rattle.std.proofs.Common.{arith}
use Rattle.std.proofs.lemmas.Result.{err_from_is_err_and}
use Rattle.codec.specs.Number.{Bytes}
use Rattle.replication.specs.Part.{part_of, located}
use Rattle.store_queries.proofs.Handed.{knowledge_not_store, knowledge_is}
use Rattle.store_queries.proofs.knowledge_within.Goals as goal

pub returns-in_err-a : goal.returns-in_err-a
unfolding part_of
returns-in_err-a c =
    let a = c.args in
    let p = err_from_is_err_and c.from_residual.result c.from_residual.ensures.1 in
    rw (p.1, p.2) (knowledge_not_store a.limits.replicas a.limits.ranges a.limits.records _ _ c.open_store.ensures _ c.in_err-a.was)

pub returns : goal.returns
unfolding part_of located
returns c =
    let a = c.args in
    let y : Bytes a.store.now = record { below = λ i. omega (arith, c.type_inv.store i) } in
    knowledge_is a.limits.replicas a.limits.ranges a.limits.records _ _ c.open_store.ensures y _ c.in_ok-a.was

-- `store_queries::coverage_within` meets its contract, in each of the answers of the two checks.
use Rattle.std.proofs.Common.{arith}
use Rattle.std.proofs.lemmas.Result.{err_from_is_err_and}
use Rattle.codec.specs.Number.{Bytes}
use Rattle.replication.specs.Coverage.{coverage_of}
use Rattle.store_queries.proofs.Counting.{coverage_not_store, coverage_table, coverage_shaped}
use Rattle.store_queries.proofs.Counting.{coverage_not_read, coverage_opens, coverage_is}
use Rattle.store_queries.proofs.coverage_within.Goals as goal

pub returns-in_err-a : goal.returns-in_err-a
unfolding coverage_of
returns-in_err-a c =
    let a = c.args in
    let p = err_from_is_err_and c.from_residual.result c.from_residual.ensures.1 in
    rw (p.1, p.2) (coverage_not_store a.limits.replicas a.limits.ranges a.limits.records _ _ _ c.open_store.ensures _ c.in_err-a.was)

pub returns-in_err-v : goal.returns-in_err-v
unfolding coverage_of
returns-in_err-v c =
    let a = c.args in
    let y : Bytes a.store.now = record { below = λ i. omega (arith, c.type_inv.store i) } in
    let p = err_from_is_err_and c.from_residual-in_err-v.result c.from_residual-in_err-v.ensures.1 in
    rw (p.1, p.2)
    (coverage_not_read a.limits.replicas a.limits.ranges a.limits.records _ _ _ c.open_store.ensures y _ c.in_ok-a.was _ c.open_within.ensures _ c.in_err-v.was)

pub overflow_add-a : goal.overflow_add-a
overflow_add-a c =
    let a = c.args in
    let y : Bytes a.store.now = record { below = λ i. omega (arith, c.type_inv.store i) } in
    let inside = coverage_table a.limits.replicas a.limits.ranges a.limits.records _ a.knowledge.now _ c.open_store.ensures y _ c.in_ok-a.was in
    omega (arith, inside)

pub count_in-n-requires : goal.count_in-n-requires
count_in-n-requires c =
    let a = c.args in
    let y : Bytes a.store.now = record { below = λ i. omega (arith, c.type_inv.store i) } in
    let z : Bytes a.knowledge.now = record { below = λ i. omega (arith, c.type_inv.knowledge i) } in (
      coverage_opens a.limits.replicas a.limits.ranges a.limits.records _ _ _ c.open_store.ensures y _ c.in_ok-a.was _ c.open_within.ensures z _ c.in_ok-v.was,
      coverage_shaped a.limits.replicas a.limits.ranges a.limits.records _ a.knowledge.now _ c.open_store.ensures y _ c.in_ok-a.was,
    )

pub returns : goal.returns
unfolding coverage_of
returns c =
    let a = c.args in
    let y : Bytes a.store.now = record { below = λ i. omega (arith, c.type_inv.store i) } in
    let z : Bytes a.knowledge.now = record { below = λ i. omega (arith, c.type_inv.knowledge i) } in
    coverage_is a.limits.replicas a.limits.ranges a.limits.records _ _ _ c.open_store.ensures y _ c.in_ok-a.was _
    c.open_within.ensures z _ c.in_ok-v.was _ c.count_in-n.ensures _ c.thousandths.ensures

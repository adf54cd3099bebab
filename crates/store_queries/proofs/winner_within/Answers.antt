-- `store_queries::winner_within` meets its contract, in each of the answers of the two checks and for an item id of another length.
use Rattle.std.proofs.Common.{arith}
use Rattle.std.proofs.lemmas.Result.{err_from_is_err_and}
use Rattle.codec.specs.Number.{Bytes}
use Rattle.codec.specs.Refusal.{number}
use Rattle.replication.specs.Part.{part_of}
use Rattle.store_queries.proofs.Winning.{winner_not_store, winner_not_batch, winner_no_item, winner_lengths, winner_is}
use Rattle.store_queries.proofs.winner_within.Goals as goal

pub returns-in_err-a : goal.returns-in_err-a
unfolding part_of
returns-in_err-a c =
    let a = c.args in
    let p = err_from_is_err_and c.from_residual.result c.from_residual.ensures.1 in
    rw (p.1, p.2) (winner_not_store a.limits.replicas a.limits.ranges a.limits.records _ _ _ _ c.open_store.ensures _ c.in_err-a.was)

pub returns-in_err-b : goal.returns-in_err-b
unfolding part_of
returns-in_err-b c =
    let a = c.args in
    let y : Bytes a.store.now = record { below = λ i. omega (arith, c.type_inv.store i) } in
    let p = err_from_is_err_and c.from_residual-in_err-b.result c.from_residual-in_err-b.ensures.1 in
    rw (p.1, p.2) (winner_not_batch a.limits.replicas a.limits.ranges a.limits.records _ _ _ _ c.open_store.ensures y _ c.in_ok-a.was _ c.open_batch.ensures _ c.in_err-b.was)

pub returns-then-item-ne24 : goal.returns-then-item-ne24
unfolding part_of number
returns-then-item-ne24 c =
    let a = c.args in
    let y : Bytes a.store.now = record { below = λ i. omega (arith, c.type_inv.store i) } in
    let z : Bytes a.batch.now = record { below = λ i. omega (arith, c.type_inv.batch i) } in
    winner_no_item a.limits.replicas a.limits.ranges a.limits.records _ _ _ _ c.open_store.ensures y _ c.in_ok-a.was _
    c.open_batch.ensures z _ c.in_ok-b.was c.if-item-ne24.true

pub overflow_add-x : goal.overflow_add-x
overflow_add-x c =
    let a = c.args in
    let y : Bytes a.store.now = record { below = λ i. omega (arith, c.type_inv.store i) } in
    let z : Bytes a.batch.now = record { below = λ i. omega (arith, c.type_inv.batch i) } in
    let h = winner_lengths a.limits.replicas a.limits.ranges a.limits.records _ _ a.item.now _ c.open_store.ensures y _ c.in_ok-a.was _ c.open_batch.ensures z _ c.in_ok-b.was in
    omega (arith, h.0)

pub overflow_add-y : goal.overflow_add-y
overflow_add-y c =
    let a = c.args in
    let y : Bytes a.store.now = record { below = λ i. omega (arith, c.type_inv.store i) } in
    let z : Bytes a.batch.now = record { below = λ i. omega (arith, c.type_inv.batch i) } in
    let h = (winner_lengths a.limits.replicas a.limits.ranges a.limits.records _ _ a.item.now _ c.open_store.ensures y _ c.in_ok-a.was _ c.open_batch.ensures z _ c.in_ok-b.was).1 in
    omega (arith, h.0, h.1)

pub overflow_add-y-2 : goal.overflow_add-y-2
overflow_add-y-2 c =
    let a = c.args in
    let y : Bytes a.store.now = record { below = λ i. omega (arith, c.type_inv.store i) } in
    let z : Bytes a.batch.now = record { below = λ i. omega (arith, c.type_inv.batch i) } in
    let h = (winner_lengths a.limits.replicas a.limits.ranges a.limits.records _ _ a.item.now _ c.open_store.ensures y _ c.in_ok-a.was _ c.open_batch.ensures z _ c.in_ok-b.was).1 in
    omega (arith, h.0, h.1)

pub returns : goal.returns
returns c =
    let a = c.args in
    let y : Bytes a.store.now = record { below = λ i. omega (arith, c.type_inv.store i) } in
    let z : Bytes a.batch.now = record { below = λ i. omega (arith, c.type_inv.batch i) } in
    winner_is a.limits.replicas a.limits.ranges a.limits.records _ _ _ _ c.open_store.ensures y _ c.in_ok-a.was _
    c.open_batch.ensures z _ c.in_ok-b.was c.if-item-ne24.false _
    c.from_bytes-i.ensures.value _ c.winner_in.ensures

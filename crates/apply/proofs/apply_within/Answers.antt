-- `apply::apply_within` meets its contract, in each of the results of the two checks.
use native.Mathlib.Omega.{arith}
use Rattle.std.proofs.lemmas.Result.{err_from_is_err_and}
use Rattle.codec.specs.Number.{Bytes}
use Rattle.codec.specs.Answer.{answer_of}
use Rattle.apply.proofs.Applying.{not_store, not_batch, both_valid}
use Rattle.apply.proofs.apply_within.Goals as goal

pub returns-in_err-mine : goal.returns-in_err-mine
unfolding answer_of
returns-in_err-mine c = let a = c.args in
    let p = err_from_is_err_and c.from_residual.result c.from_residual.ensures.1 in
    rw (p.1, p.2)
    (not_store a.limits.replicas a.limits.ranges a.limits.records _ _ _ c.open_store.ensures _ _ c.in_err-mine.was)

pub returns-in_err-theirs : goal.returns-in_err-theirs
unfolding answer_of
returns-in_err-theirs c = let a = c.args in
    let y : Bytes a.store.now = record { below = λ i. omega (arith, c.type_inv.store i) } in
    let p = err_from_is_err_and c.from_residual-in_err-theirs.result c.from_residual-in_err-theirs.ensures.1 in
    rw (p.1, p.2)
    (not_batch a.limits.replicas a.limits.ranges a.limits.records _ _ _ c.open_store.ensures y _ c.in_ok-mine.was _
    c.open_batch.ensures _ _ c.in_err-theirs.was)

pub apply_open-requires : goal.apply_open-requires
apply_open-requires c = let a = c.args in
    let y : Bytes a.store.now = record { below = λ i. omega (arith, c.type_inv.store i) } in
    let z : Bytes a.batch.now = record { below = λ i. omega (arith, c.type_inv.batch i) } in
    both_valid a.limits.replicas a.limits.ranges a.limits.records _ _ _ c.open_store.ensures y _ c.in_ok-mine.was _
    c.open_batch.ensures z _ c.in_ok-theirs.was

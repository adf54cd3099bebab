-- `make::make_within` meets its contract, in each of the results of the two checks.
use native.Mathlib.Omega.{arith}
use Rattle.std.proofs.lemmas.Result.{err_from_is_err_and}
use Rattle.codec.specs.Number.{Bytes}
use Rattle.codec.specs.Answer.{answer_of}
use Rattle.make.proofs.Steps.{make_not_store, make_not_read, make_inputs}
use Rattle.make.proofs.make_within.Goals as goal

pub returns-in_err-opened : goal.returns-in_err-opened
unfolding answer_of
returns-in_err-opened c = let a = c.args in
    let p = err_from_is_err_and c.from_residual.result c.from_residual.ensures.1 in
    rw (p.1, p.2)
    (make_not_store a.limits a.store.now a.knowledge.now a.first.now a.last.now _ c.open_store.ensures a.out.now
    _ c.in_err-opened.was)

pub returns-in_err-given : goal.returns-in_err-given
unfolding answer_of
returns-in_err-given c = let a = c.args in
    let y : Bytes a.store.now = record { below = λ i. omega (arith, c.type_inv.store i) } in
    let p = err_from_is_err_and c.from_residual-in_err-given.result c.from_residual-in_err-given.ensures.1 in
    rw (p.1, p.2)
    (make_not_read a.limits a.store.now a.knowledge.now a.first.now a.last.now _ c.open_store.ensures a.out.now
    y _ c.in_ok-opened.was _ c.open_within.ensures _ c.in_err-given.was)

pub make_open-requires : goal.make_open-requires
make_open-requires c = let a = c.args in
    let y : Bytes a.store.now = record { below = λ i. omega (arith, c.type_inv.store i) } in
    let z : Bytes a.knowledge.now = record { below = λ i. omega (arith, c.type_inv.knowledge i) } in
    make_inputs a.limits a.store.now a.knowledge.now a.first.now a.last.now _ c.open_store.ensures a.out.now
    y _ c.in_ok-opened.was _ c.open_within.ensures z _ c.in_ok-given.was

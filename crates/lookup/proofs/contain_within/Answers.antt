-- `lookup::contain_within` meets its contract: the knowledge's fault, then that of the ids, and else by the known tick.
use Rattle.std.proofs.Common.{◌<◌, arith}
use Rattle.std.proofs.lemmas.Result.{err_from_is_err_and}
use Rattle.codec.specs.Number.{Bytes}
use Rattle.layout.specs.Permitted.{rules_within}
use Rattle.lookup.proofs.Calls.{opens_within, refuses_within, opens_open, contain_refused, contain_17, contain-zero, contain_later}
use Rattle.lookup.proofs.contain_within.Goals as goal

pub returns-in_err-v : goal.returns-in_err-v
returns-in_err-v c =
    let a = c.args in
    let p = err_from_is_err_and c.from_residual.result c.from_residual.ensures.1 in
    rw (p.1, p.2)
    (contain_refused (rules_within a.limits.replicas a.limits.ranges) _ _ _ _ _
    (refuses_within a.limits.replicas a.limits.ranges _ _ c.open_within.ensures _ c.in_err-v.was))

pub tick_of-requires : goal.tick_of-requires
tick_of-requires c =
    let a = c.args in
    let b : Bytes a.knowledge.now = record { below = λ i. omega (arith, c.type_inv.knowledge i) } in
    opens_open a.limits.replicas a.limits.ranges _ _ _
    (opens_within a.limits.replicas a.limits.ranges _ _ c.open_within.ensures b _ c.in_ok-v.was)

pub returns-in_err-known : goal.returns-in_err-known
returns-in_err-known c =
    let a = c.args in
    let b : Bytes a.knowledge.now = record { below = λ i. omega (arith, c.type_inv.knowledge i) } in
    let p = err_from_is_err_and c.from_residual-in_err-known.result c.from_residual-in_err-known.ensures.1 in
    rw (p.1, p.2)
    (contain_17 (rules_within a.limits.replicas a.limits.ranges) _ _ _
    (opens_within a.limits.replicas a.limits.ranges _ _ c.open_within.ensures b _ c.in_ok-v.was) _ _ _ _ c.in_err-known.ensures)

pub returns-then-tick-gt0 : goal.returns-then-tick-gt0
returns-then-tick-gt0 c =
    let a = c.args in
    let b : Bytes a.knowledge.now = record { below = λ i. omega (arith, c.type_inv.knowledge i) } in
    contain_later (rules_within a.limits.replicas a.limits.ranges) _ _ _
    (opens_within a.limits.replicas a.limits.ranges _ _ c.open_within.ensures b _ c.in_ok-v.was) _ _ _ _ c.in_ok-known.ensures
    c.if-tick-gt0.true

pub returns-else-tick-gt0 : goal.returns-else-tick-gt0
returns-else-tick-gt0 c =
    let a = c.args in
    let b : Bytes a.knowledge.now = record { below = λ i. omega (arith, c.type_inv.knowledge i) } in
    contain-zero (rules_within a.limits.replicas a.limits.ranges) _ _ _
    (opens_within a.limits.replicas a.limits.ranges _ _ c.open_within.ensures b _ c.in_ok-v.was) _ _ _ _ c.in_ok-known.ensures
    c.if-tick-gt0.false

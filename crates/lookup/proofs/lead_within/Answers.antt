-- `lookup::lead_within` meets its contract: the first knowledge's fault, the second's, that of the ids, and else the difference of the
-- two known ticks.
use Rattle.std.proofs.Common.{◌∙◌, arith}
use Rattle.std.proofs.lemmas.Result.{err_from_is_err_and}
use mir.Facts.{to_z-of_z}
use mir.Syntax.{w64}
use Rattle.codec.specs.Number.{Bytes}
use Rattle.layout.specs.Permitted.{rules_within}
use Rattle.lookup.specs.Method.{Opens}
use Rattle.lookup.proofs.Calls.{opens_within, refuses_within, opens_open, lead_refused_first, lead_refused_second, lead_17, lead_ahead}
use Rattle.lookup.proofs.lead_within.Goals as goal

pub returns-in_err-v : goal.returns-in_err-v
returns-in_err-v c =
    let a = c.args in
    let p = err_from_is_err_and c.from_residual.result c.from_residual.ensures.1 in
    rw (p.1, p.2)
    (lead_refused_first (rules_within a.limits.replicas a.limits.ranges) _ _ _ _ _
    (refuses_within a.limits.replicas a.limits.ranges _ _ c.open_within.ensures _ c.in_err-v.was))

pub returns-in_err-w : goal.returns-in_err-w
returns-in_err-w c =
    let a = c.args in
    let b : Bytes a.first.now = record { below = λ i. omega (arith, c.type_inv.first i) } in
    let p = err_from_is_err_and c.from_residual-in_err-w.result c.from_residual-in_err-w.ensures.1 in
    rw (p.1, p.2)
    (lead_refused_second (rules_within a.limits.replicas a.limits.ranges) _ _ _
    (opens_within a.limits.replicas a.limits.ranges _ _ c.open_within.ensures b _ c.in_ok-v.was) _ _ _ _
    (refuses_within a.limits.replicas a.limits.ranges _ _ c.open_within-2.ensures _ c.in_err-w.was))

pub tick_of-requires : goal.tick_of-requires
tick_of-requires c =
    let a = c.args in
    let b : Bytes a.first.now = record { below = λ i. omega (arith, c.type_inv.first i) } in
    opens_open a.limits.replicas a.limits.ranges _ _ _
    (opens_within a.limits.replicas a.limits.ranges _ _ c.open_within.ensures b _ c.in_ok-v.was)

pub returns-in_err-a : goal.returns-in_err-a
returns-in_err-a c =
    let a = c.args in
    let b : Bytes a.first.now = record { below = λ i. omega (arith, c.type_inv.first i) } in
    let d : Bytes a.second.now = record { below = λ i. omega (arith, c.type_inv.second i) } in
    let p = err_from_is_err_and c.from_residual-in_err-a.result c.from_residual-in_err-a.ensures.1 in
    rw (p.1, p.2)
    (lead_17 (rules_within a.limits.replicas a.limits.ranges) _ _ _
    (opens_within a.limits.replicas a.limits.ranges _ _ c.open_within.ensures b _ c.in_ok-v.was) _ _ _ _ _
    (opens_within a.limits.replicas a.limits.ranges _ _ c.open_within-2.ensures d _ c.in_ok-w.was) a.first.now _ c.in_err-a.ensures)

pub tick_of-requires-2 : goal.tick_of-requires-2
tick_of-requires-2 c =
    let a = c.args in
    let b : Bytes a.second.now = record { below = λ i. omega (arith, c.type_inv.second i) } in
    opens_open a.limits.replicas a.limits.ranges _ _ _
    (opens_within a.limits.replicas a.limits.ranges _ _ c.open_within-2.ensures b _ c.in_ok-w.was)

pub returns-in_err-b : goal.returns-in_err-b
returns-in_err-b c =
    let a = c.args in
    let b : Bytes a.first.now = record { below = λ i. omega (arith, c.type_inv.first i) } in
    let d : Bytes a.second.now = record { below = λ i. omega (arith, c.type_inv.second i) } in
    let p = err_from_is_err_and c.from_residual-in_err-b.result c.from_residual-in_err-b.ensures.1 in
    rw (p.1, p.2)
    (lead_17 (rules_within a.limits.replicas a.limits.ranges) _ _ _
    (opens_within a.limits.replicas a.limits.ranges _ _ c.open_within.ensures b _ c.in_ok-v.was) _ _ _ _ _
    (opens_within a.limits.replicas a.limits.ranges _ _ c.open_within-2.ensures d _ c.in_ok-w.was) a.second.now _ c.in_err-b.ensures)

pub ahead-requires : goal.ahead-requires
ahead-requires c = (c.in_ok-a.ensures.1.small, c.in_ok-b.ensures.1.small)

pub returns : goal.returns
returns c =
    let a = c.args in
    let b : Bytes a.first.now = record { below = λ i. omega (arith, c.type_inv.first i) } in
    let d : Bytes a.second.now = record { below = λ i. omega (arith, c.type_inv.second i) } in
    lead_ahead (rules_within a.limits.replicas a.limits.ranges) _ _ _
    (opens_within a.limits.replicas a.limits.ranges _ _ c.open_within.ensures b _ c.in_ok-v.was) _ _ _ _ _
    (opens_within a.limits.replicas a.limits.ranges _ _ c.open_within-2.ensures d _ c.in_ok-w.was) _ _ c.in_ok-a.ensures
    c.in_ok-b.ensures _ (to_z-of_z {w = w64} {z = c.ahead.result} (record { sfits = c.ahead.type_inv }) ∙ c.ahead.ensures)

-- `compare::compare_within` meets its contract: the first knowledge's fault, the second's, and else what both say.
use Rattle.std.proofs.Common.{arith}
use Rattle.std.proofs.lemmas.Result.{err_from_is_err_and}
use Rattle.codec.specs.Number.{Bytes}
use Rattle.layout.specs.Permitted.{rules_within}
use Rattle.lookup.proofs.Calls.{opens_within, refuses_within, opens_open}
use Rattle.compare.proofs.Calls.{ends_first, ends_second}
use Rattle.compare.proofs.compare_within.Goals as goal

pub returns-in_err-v : goal.returns-in_err-v
returns-in_err-v c =
    let a = c.args in
    let p = err_from_is_err_and c.from_residual.result c.from_residual.ensures.1 in
    rw (p.1, p.2)
    (ends_first (rules_within a.limits.replicas a.limits.ranges) _ _ _ _ _
    (refuses_within a.limits.replicas a.limits.ranges _ _ c.open_within.ensures _ c.in_err-v.was))

pub returns-in_err-w : goal.returns-in_err-w
returns-in_err-w c =
    let a = c.args in
    let b : Bytes a.first.now = record { below = λ i. omega (arith, c.type_inv.first i) } in
    let p = err_from_is_err_and c.from_residual-in_err-w.result c.from_residual-in_err-w.ensures.1 in
    rw (p.1, p.2)
    (ends_second (rules_within a.limits.replicas a.limits.ranges) _ _ _ _ _ _
    (opens_within a.limits.replicas a.limits.ranges _ _ c.open_within.ensures b _ c.in_ok-v.was) _
    (refuses_within a.limits.replicas a.limits.ranges _ _ c.open_within-2.ensures _ c.in_err-w.was))

pub compare_in-requires : goal.compare_in-requires
compare_in-requires c =
    let a = c.args in
    let b : Bytes a.first.now = record { below = λ i. omega (arith, c.type_inv.first i) } in
    let d : Bytes a.second.now = record { below = λ i. omega (arith, c.type_inv.second i) } in (
      opens_open a.limits.replicas a.limits.ranges _ _ _
          (opens_within a.limits.replicas a.limits.ranges _ _ c.open_within.ensures b _ c.in_ok-v.was),
      opens_open a.limits.replicas a.limits.ranges _ _ _
          (opens_within a.limits.replicas a.limits.ranges _ _ c.open_within-2.ensures d _ c.in_ok-w.was),
    )

pub returns : goal.returns
returns c =
    let a = c.args in
    let b : Bytes a.first.now = record { below = λ i. omega (arith, c.type_inv.first i) } in
    let d : Bytes a.second.now = record { below = λ i. omega (arith, c.type_inv.second i) } in
    c.compare_in.ensures (rules_within a.limits.replicas a.limits.ranges)
    (opens_within a.limits.replicas a.limits.ranges _ _ c.open_within.ensures b _ c.in_ok-v.was)
    (opens_within a.limits.replicas a.limits.ranges _ _ c.open_within-2.ensures d _ c.in_ok-w.was)

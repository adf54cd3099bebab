-- `cover::cover_within` meets its contract: the first knowledge's fault, the second's, and else what both say.
use Rattle.std.proofs.Common.{arith}
use Rattle.std.proofs.lemmas.Result.{err_from_is_err_and}
use Rattle.codec.specs.Number.{Bytes}
use Rattle.layout.specs.Permitted.{rules_within}
use Rattle.lookup.proofs.Calls.{opens_within, refuses_within, opens_open}
use Rattle.cover.proofs.Calls.{cover_first, cover_second}
use Rattle.cover.proofs.cover_within.Goals as goal

pub returns-in_err-v : goal.returns-in_err-v
returns-in_err-v c =
    let a = c.args in
    let p = err_from_is_err_and c.from_residual.result c.from_residual.ensures.1 in
    rw (p.1, p.2)
    (cover_first (rules_within a.limits.replicas a.limits.ranges) _ _ _ _ _
    (refuses_within a.limits.replicas a.limits.ranges _ _ c.open_within.ensures _ c.in_err-v.was))

pub returns-in_err-w : goal.returns-in_err-w
returns-in_err-w c =
    let a = c.args in
    let b : Bytes a.knowledge.now = record { below = λ i. omega (arith, c.type_inv.knowledge i) } in
    let p = err_from_is_err_and c.from_residual-in_err-w.result c.from_residual-in_err-w.ensures.1 in
    rw (p.1, p.2)
    (cover_second (rules_within a.limits.replicas a.limits.ranges) _ _ _ _ _ _
    (opens_within a.limits.replicas a.limits.ranges _ _ c.open_within.ensures b _ c.in_ok-v.was) _
    (refuses_within a.limits.replicas a.limits.ranges _ _ c.open_within-2.ensures _ c.in_err-w.was))

pub cover_in-requires : goal.cover_in-requires
cover_in-requires c =
    let a = c.args in
    let b : Bytes a.knowledge.now = record { below = λ i. omega (arith, c.type_inv.knowledge i) } in
    let d : Bytes a.other.now = record { below = λ i. omega (arith, c.type_inv.other i) } in (
      opens_open a.limits.replicas a.limits.ranges _ _ _
          (opens_within a.limits.replicas a.limits.ranges _ _ c.open_within.ensures b _ c.in_ok-v.was),
      opens_open a.limits.replicas a.limits.ranges _ _ _
          (opens_within a.limits.replicas a.limits.ranges _ _ c.open_within-2.ensures d _ c.in_ok-w.was),
    )

pub returns : goal.returns
returns c =
    let a = c.args in
    let b : Bytes a.knowledge.now = record { below = λ i. omega (arith, c.type_inv.knowledge i) } in
    let d : Bytes a.other.now = record { below = λ i. omega (arith, c.type_inv.other i) } in
    c.cover_in.ensures (rules_within a.limits.replicas a.limits.ranges)
    (opens_within a.limits.replicas a.limits.ranges _ _ c.open_within.ensures b _ c.in_ok-v.was)
    (opens_within a.limits.replicas a.limits.ranges _ _ c.open_within-2.ensures d _ c.in_ok-w.was)

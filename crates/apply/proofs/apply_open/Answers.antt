-- `apply::apply_open` meets its contract: 18 in either half, or the result.
use native.Mathlib.Omega.{arith}
use Rattle.codec.specs.Answer.{answer_of}
use Rattle.codec.specs.Refusal.{number}
use Rattle.apply.proofs.Applying.{own_there, own_room, batch_room_lem, asks_needed}
use Rattle.apply.proofs.Applying.{refuses_uncovered, asks_own, refuses_ahead, merges, on_to_result}
use borrow.Author.Tests.{not-true, not-false}
use Rattle.apply.proofs.apply_open.Goals as goal

pub overflow_add-end : goal.overflow_add-end
overflow_add-end c = omega (arith, own_room c.args.limits.replicas c.args.limits.ranges c.args.limits.records _ _ _ _ c.requires)

pub overflow_add-at : goal.overflow_add-at
overflow_add-at c = omega (arith, batch_room_lem c.args.limits.replicas c.args.limits.ranges c.args.limits.records _ _ _ _ c.requires)

pub overflow_add-last : goal.overflow_add-last
overflow_add-last c = omega (arith, batch_room_lem c.args.limits.replicas c.args.limits.ranges c.args.limits.records _ _ _ _ c.requires)

pub slice_bounds-k-end : goal.slice_bounds-k-end
slice_bounds-k-end c = omega (arith, own_room c.args.limits.replicas c.args.limits.ranges c.args.limits.records _ _ _ _ c.requires)

pub slice_bounds-n-end : goal.slice_bounds-n-end
slice_bounds-n-end c = omega (arith, batch_room_lem c.args.limits.replicas c.args.limits.ranges c.args.limits.records _ _ _ _ c.requires)

pub slice_bounds-l-end : goal.slice_bounds-l-end
slice_bounds-l-end c = omega (arith, batch_room_lem c.args.limits.replicas c.args.limits.ranges c.args.limits.records _ _ _ _ c.requires)

pub covers_needed-requires : goal.covers_needed-requires
covers_needed-requires c = asks_needed c.args.limits.replicas c.args.limits.ranges c.args.limits.records _ _ _ _ c.requires

pub returns-then-not-covers_needed : goal.returns-then-not-covers_needed
unfolding answer_of number
returns-then-not-covers_needed c = refuses_uncovered c.args.limits.replicas c.args.limits.ranges c.args.limits.records _ _ _ _ c.requires
    _ c.covers_needed.ensures _ (not-true _ c.if-not-covers_needed.true-raw)

pub slice_bounds-from_bytes-end : goal.slice_bounds-from_bytes-end
slice_bounds-from_bytes-end c = omega (arith, own_there c.args.limits.replicas c.args.limits.ranges c.args.limits.records _ _ _ _ c.requires)

pub covers_own-requires : goal.covers_own-requires
covers_own-requires c = asks_own c.args.limits.replicas c.args.limits.ranges c.args.limits.records _ _ _ _ c.requires _ c.covers_needed.ensures
    (not-false _ c.if-not-covers_needed.false-raw) _ c.from_bytes-id.ensures.value

pub returns-then-not-covers_own : goal.returns-then-not-covers_own
unfolding answer_of number
returns-then-not-covers_own c = refuses_ahead c.args.limits.replicas c.args.limits.ranges c.args.limits.records _ _ _ _ c.requires _ c.covers_needed.ensures
    (not-false _ c.if-not-covers_needed.false-raw) _ c.from_bytes-id.ensures.value
    _ c.covers_own.ensures _ (not-true _ c.if-not-covers_own.true-raw)

pub write_applied-requires : goal.write_applied-requires
write_applied-requires c = merges c.args.limits.replicas c.args.limits.ranges c.args.limits.records _ _ _ _ c.requires _ c.covers_needed.ensures
    (not-false _ c.if-not-covers_needed.false-raw) _ c.from_bytes-id.ensures.value

pub returns : goal.returns
returns c = on_to_result c.args.limits.replicas c.args.limits.ranges c.args.limits.records _ _ _ _ c.requires _ c.covers_needed.ensures
    (not-false _ c.if-not-covers_needed.false-raw) _ c.from_bytes-id.ensures.value
    _ c.covers_own.ensures _ _ _ (not-false _ c.if-not-covers_own.false-raw)
    c.write_applied.ensures

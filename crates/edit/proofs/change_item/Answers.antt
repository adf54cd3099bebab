-- `edit::change_item` meets its contract: 20, or what is written for the changed store.
use native.Mathlib.Omega.{arith}
use Rattle.codec.specs.Number.{Bytes}
use Rattle.codec.specs.Answer.{answer_of}
use Rattle.codec.specs.Refusal.{number}
use Rattle.edit.proofs.Changing.{own_there, change_20, change_raises, change_done}
use Rattle.edit.proofs.change_item.Goals as goal

pub returns-then-largest-ge-LARGEST_TICK : goal.returns-then-largest-ge-LARGEST_TICK
unfolding answer_of number
returns-then-largest-ge-LARGEST_TICK c = let a = c.args in
    let bytes : Bytes a.store.now = record { below = λ i. omega (arith, c.type_inv.store i) } in
    change_20 a.limits.replicas a.limits.ranges a.limits.records a.store.now bytes a.k.now a.opened a.found a.what
    c.requires _ c.largest_from-largest.ensures a.out.now c.if-largest-ge-LARGEST_TICK.true

pub overflow_add-change : goal.overflow_add-change
overflow_add-change c = omega (arith, c.if-largest-ge-LARGEST_TICK.false)

pub slice_bounds-from_bytes-end : goal.slice_bounds-from_bytes-end
slice_bounds-from_bytes-end c = let a = c.args in
    let bytes : Bytes a.store.now = record { below = λ i. omega (arith, c.type_inv.store i) } in
    omega (
      arith,
      own_there a.limits.replicas a.limits.ranges a.limits.records a.store.now bytes a.k.now a.opened a.found a.what c.requires,
    )

pub put_changed-requires : goal.put_changed-requires
put_changed-requires c = let a = c.args in
    let bytes : Bytes a.store.now = record { below = λ i. omega (arith, c.type_inv.store i) } in
    change_raises a.limits.replicas a.limits.ranges a.limits.records a.store.now bytes a.k.now a.opened a.found a.what
    c.requires _ _ _ c.changed_record-new.ensures.change_value c.from_bytes.ensures.value
    c.from_bytes.ensures.high_bound.0 c.from_bytes.ensures.high_bound.1

pub returns : goal.returns
returns c = let a = c.args in
    let bytes : Bytes a.store.now = record { below = λ i. omega (arith, c.type_inv.store i) } in
    change_done a.limits.replicas a.limits.ranges a.limits.records a.store.now bytes a.k.now a.opened a.found a.what
    c.requires _
    c.largest_from-largest.ensures
    c.if-largest-ge-LARGEST_TICK.false _
    c.from_bytes.ensures.value _ c.changed_record-new.ensures.result_value
    a.out.now _ _ c.put_changed.ensures

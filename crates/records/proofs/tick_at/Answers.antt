-- `records::tick_at` meets its contract: the tick is read where all of its bytes are there.
use native.Mathlib.Omega.{arith}
use mathlib.Core.Path.{sym}
use Rattle.codec.proofs.Total.{read_missing}
use Rattle.leaves.proofs.Part.{part_is}
use Rattle.records.proofs.Fields.{tick_total}
use Rattle.records.proofs.tick_at.Goals as goal

pub returns-then-beyond : goal.returns-then-beyond
returns-then-beyond c = sym (read_missing _ 8 _ (omega (arith, c.beyond.ensures.0 c.if-beyond.true)))

pub overflow_add-at : goal.overflow_add-at
overflow_add-at c = omega (arith, c.beyond.ensures.1 c.if-beyond.false)

pub overflow_add-at-2 : goal.overflow_add-at-2
overflow_add-at-2 c = omega (arith, c.beyond.ensures.1 c.if-beyond.false)

pub overflow_add-at-3 : goal.overflow_add-at-3
overflow_add-at-3 c = omega (arith, c.beyond.ensures.1 c.if-beyond.false)

pub slice_bounds-first-end : goal.slice_bounds-first-end
slice_bounds-first-end c = omega (arith, c.beyond.ensures.1 c.if-beyond.false)

pub returns : goal.returns
returns c = tick_total _ _ (omega (arith, c.beyond.ensures.1 c.if-beyond.false)) _
    (part_is _ _ _ _ c.first.ensures.0 (omega (arith, c.beyond.ensures.1 c.if-beyond.false)))

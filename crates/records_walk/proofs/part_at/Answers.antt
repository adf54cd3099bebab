-- `records_walk::part_at` meets its contract: the part begins at the place and is as long as the record.
use mathlib.Core.Path.{ap}
use Prim.Native.Nat.{ℕ, ◌+◌}
use native.Mathlib.Omega.{arith}
use Rattle.records.proofs.Finding.{length-inside}
use Rattle.records_walk.proofs.Given.{part_none, start_none, part_some, start_some}
use Rattle.records_walk.proofs.part_at.Goals as goal

pub returns-then-n-eq0 : goal.returns-then-n-eq0
returns-then-n-eq0 c = (
  part_none _ _ _ c.length_at-n.ensures c.if-n-eq0.true,
  ap (λ (k : ℕ).
      (c.args.table.ref_ptr.0, k + c.args.table.ref_ptr.1))
      (start_none _ _ _ c.length_at-n.ensures c.if-n-eq0.true),
)

pub overflow_add-result : goal.overflow_add-result
overflow_add-result c = omega (arith, length-inside _ _ _ c.length_at-n.ensures c.if-n-eq0.false)

pub slice_bounds-result-end-2 : goal.slice_bounds-result-end-2
slice_bounds-result-end-2 c = length-inside _ _ _ c.length_at-n.ensures c.if-n-eq0.false

pub returns : goal.returns
returns c = (
  part_some _ _ _ c.length_at-n.ensures c.if-n-eq0.false,
  ap (λ (k : ℕ).
      (c.args.table.ref_ptr.0, k + c.args.table.ref_ptr.1))
      (start_some _ _ _ c.length_at-n.ensures c.if-n-eq0.false),
)

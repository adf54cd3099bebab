-- `records_join::merge_step` meets its contract: where one table has ended, the other's record is next.
use native.Mathlib.Omega.{arith}
use Rattle.records.proofs.Finding.{length-inside}
use Rattle.records_join.proofs.Steps.{steps_none, steps_first, steps_second}
use Rattle.records_join.proofs.merge_step.Goals as goal

pub returns-then-m-eq0 : goal.returns-then-m-eq0
returns-then-m-eq0 c = steps_none _ _ _ _ _ _ c.length_at-m.ensures c.length_at-n.ensures c.if-m-eq0.true
    c.if-n-eq0.true

pub overflow_add-result : goal.overflow_add-result
overflow_add-result c = omega (arith, length-inside _ _ _ c.length_at-m.ensures c.if-m-eq0.false)

pub returns-then-n-eq0 : goal.returns-then-n-eq0
returns-then-n-eq0 c = steps_first _ _ _ _ _ _ c.length_at-m.ensures c.length_at-n.ensures c.if-m-eq0.false
    c.if-n-eq0.true

pub overflow_add-result-then-m-eq0-2 : goal.overflow_add-result-then-m-eq0-2
overflow_add-result-then-m-eq0-2 c = omega (arith, length-inside _ _ _ c.length_at-n.ensures c.if-n-eq0.false)

pub overflow_add-result-then-m-eq0-2-2 : goal.overflow_add-result-then-m-eq0-2-2
overflow_add-result-then-m-eq0-2-2 c = omega (arith, length-inside _ _ _ c.length_at-n.ensures c.if-n-eq0.false)

pub returns-then-m-eq0-2 : goal.returns-then-m-eq0-2
returns-then-m-eq0-2 c = steps_second _ _ _ _ _ _ c.length_at-m.ensures c.length_at-n.ensures c.if-m-eq0-2.true
    c.if-n-eq0.false

pub merge_step_both-requires : goal.merge_step_both-requires
merge_step_both-requires c = (
  c.length_at-m.ensures,
  c.length_at-n.ensures,
  omega (arith, c.if-m-eq0-2.false),
  omega (arith, c.if-n-eq0.false),
  length-inside _ _ _ c.length_at-m.ensures c.if-m-eq0-2.false,
  length-inside _ _ _ c.length_at-n.ensures c.if-n-eq0.false,
)

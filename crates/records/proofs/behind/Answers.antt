-- `records::behind` meets its contract: the place and the length of the record there.
use native.Mathlib.Omega.{arith}
use Rattle.records.proofs.Fields.{length_most, behind_past, behind_added}
use Rattle.records.proofs.behind.Goals as goal

pub overflow_add-result : goal.overflow_add-result
overflow_add-result c = omega (arith, length_most c.from.result, c.record_length.ensures)

pub returns-then-s-at : goal.returns-then-s-at
returns-then-s-at c = behind_past _ _ c.if-s-at.true

pub returns : goal.returns
returns c = behind_added _ _ _ _ c.from.ensures c.record_length.ensures

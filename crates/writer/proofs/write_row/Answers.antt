-- `writer::write_row` meets its contract: a joined row has no range.
use Rattle.writer.proofs.Laying.{row_joined, row_new}
use native.Mathlib.Omega.{arith}
use Rattle.writer.proofs.write_row.Goals as goal

pub returns-then-index-before : goal.returns-then-index-before
returns-then-index-before c = (row_joined _ _ _ _ _ _ c.if-index-before.true, omega arith)

pub returns : goal.returns
returns c = (row_new _ _ _ _ _ _ _ _ c.if-index-before.false c.write_range.ensures, omega arith)

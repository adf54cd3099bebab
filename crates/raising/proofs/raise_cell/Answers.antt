-- `raising::raise_cell` meets its contract: what is written is the larger of the cell and the tick.
use native.Mathlib.Omega.{arith}
use Rattle.sampling.proofs.Cells.{raised_past, raised_is}
use Rattle.raising.proofs.raise_cell.Goals as goal

pub returns-then-i-t : goal.returns-then-i-t
returns-then-i-t c = raised_is _ _ _ _ _ _ c.column_of-column.ensures _ c.max.ensures

pub returns-else-i-t : goal.returns-else-i-t
returns-else-i-t c = raised_past _ _ _ _ _ _ c.column_of-column.ensures (omega arith)

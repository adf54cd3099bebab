-- `raising::fill` meets its contract: the rows raised where there is a bound for each; or nothing.
use native.Mathlib.Omega.{arith}
use mathlib.Core.Path.{◌∙◌}
use Rattle.sampling.proofs.Tables.{in_rows_lem, in_bounds, in_is}
use Rattle.raising.proofs.fill.Goals as goal
use Rattle.raising.proofs.fill.Goals.{else-top-lt-ROWS-via-then-top-lt-ROWS+else-top-bounds, else-top-lt-ROWS-via-else-top-lt-ROWS}

pub returns-then-top-bounds : goal.returns-then-top-bounds
returns-then-top-bounds c = c.fill_rows.ensures ∙ in_is _ _ _ _ _ _ _ _ (omega arith) (omega arith)

pub returns-else-top-lt-ROWS : goal.returns-else-top-lt-ROWS
returns-else-top-lt-ROWS c = elim c.else-top-lt-ROWS.branch [
  | else-top-lt-ROWS-via-then-top-lt-ROWS+else-top-bounds w ↦ in_bounds _ _ _ _ _ _ _ _ (omega arith) (omega arith)
  | else-top-lt-ROWS-via-else-top-lt-ROWS w ↦ in_rows_lem _ _ _ _ _ _ _ _ (omega arith)
]

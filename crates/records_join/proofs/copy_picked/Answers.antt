-- `records_join::copy_picked` meets its contract: past the end of the output nothing is written.
use mathlib.Core.Path.{sym}
use Rattle.records_join.proofs.Copies.{copied_past}
use Rattle.records_join.proofs.copy_picked.Goals as goal

pub returns-then-out-at : goal.returns-then-out-at
returns-then-out-at c = sym (copied_past _ _ _ _ _ c.if-out-at.true)

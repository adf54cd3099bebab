-- `records_join::copy_run` meets its contract: an address is a place of the first bytes or of the second.
use mathlib.Core.Path.{sym, ap, ◌∙◌}
use native.Mathlib.Omega.{arith}
use Rattle.codec.specs.Part.{placed}
use Rattle.records_join.proofs.Runs.{run_first, run_later}
use Rattle.records_join.proofs.copy_run.Goals as goal

pub returns-then-x-s : goal.returns-then-x-s
returns-then-x-s c = c.copy_part.ensures ∙ ap (placed _ _) (sym (run_first _ _ _ _ c.if-x-s.true))

pub returns : goal.returns
returns c = c.copy_part-2.ensures ∙ ap (placed _ _) (sym (run_later _ _ _ _ (omega arith)))

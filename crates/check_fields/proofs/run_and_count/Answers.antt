-- `check_fields::run_and_count` meets its contract: the fields, then the count.
use Rattle.std.proofs.Common.{◌∙◌}
use Rattle.check_fields.proofs.Steps.{passed_on, then_on, number_any}
use Rattle.check_fields.proofs.run_and_count.Goals as goal

pub returns-in_err-x : goal.returns-in_err-x
returns-in_err-x c = passed_on _ _ c.from_residual.ensures.1 _ c.in_err-x.ensures _

pub returns : goal.returns
returns c = then_on _ _ _ _ c.in_ok-x.ensures (c.number.ensures ∙ number_any _ _ _ _)

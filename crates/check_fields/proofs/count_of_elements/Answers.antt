-- `check_fields::count_of_elements` meets its contract: the field, then the count.
use Rattle.std.proofs.Common.{◌∙◌}
use Rattle.check_fields.proofs.Steps.{passed_on, number_any, then_on}
use Rattle.check_fields.proofs.Run.{run_one}
use Rattle.check_fields.proofs.count_of_elements.Goals as goal

pub returns-in_err-x : goal.returns-in_err-x
returns-in_err-x c = passed_on _ _ c.from_residual.ensures.1 _ (c.in_err-x.ensures ∙ run_one _ _) _

pub returns : goal.returns
returns c = then_on _ _ _ _ (c.in_ok-x.ensures ∙ run_one _ _) (c.number.ensures ∙ number_any _ _ _ _)

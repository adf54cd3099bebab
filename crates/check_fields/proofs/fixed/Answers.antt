-- `check_fields::fixed` meets its contract: the number is read, then compared.
use Rattle.std.proofs.Common.{sym}
use Rattle.codec.specs.Refusal.{number as refusal}
use Rattle.layout.specs.Got.{got_of}
use Rattle.check_fields.proofs.Steps.{passed_on, same_yes, same_no}
use Rattle.check_fields.proofs.fixed.Goals as goal

pub returns-in_err-x : goal.returns-in_err-x
returns-in_err-x g c = passed_on _ _ c.from_residual.ensures.1 _ c.in_err-x.ensures _

pub returns-then-x-value : goal.returns-then-x-value
unfolding got_of refusal
returns-then-x-value g c = same_no _ _ _ _ (sym c.in_ok-x.ensures) c.if-x-value.true

pub returns : goal.returns
unfolding got_of
returns g c = same_yes _ _ _ _ (sym c.in_ok-x.ensures) c.if-x-value.false

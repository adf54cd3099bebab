-- `check_fields::first_vector` meets its contract: the field and the count, then that the count is 0.
use Rattle.std.proofs.Common.{sym}
use Rattle.codec.specs.Refusal.{number as refusal}
use Rattle.layout.specs.Got.{got_of}
use Rattle.layout.specs.Read.{first_vector}
use Rattle.check_fields.proofs.Steps.{passed_on, empty_yes, empty_no}
use Rattle.check_fields.proofs.first_vector.Goals as goal

pub returns-in_err-x : goal.returns-in_err-x
unfolding first_vector
returns-in_err-x c = passed_on _ _ c.from_residual.ensures.1 _ c.in_err-x.ensures _

pub returns-then-x-ne0 : goal.returns-then-x-ne0
unfolding first_vector got_of refusal
returns-then-x-ne0 c = empty_no _ _ _ (sym c.in_ok-x.ensures) c.if-x-ne0.true

pub returns : goal.returns
unfolding first_vector got_of
returns c = empty_yes _ _ _ (sym c.in_ok-x.ensures) c.if-x-ne0.false

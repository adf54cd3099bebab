-- `check_fields::in_limits` meets its contract: it makes the definition's tests, and an error is handed on, whichever number it has.
use Rattle.std.proofs.Common.{◌∙◌, ap}
use Rattle.std.proofs.lemmas.Result.{err_from_is_err_and}
use Rattle.codec.specs.declared.Refusal.TheVariants.{CountBeyondLimits}
use Rattle.codec.specs.Refusal.{number as refusal}
use Rattle.layout.specs.Got.{Fault}
use Rattle.check_fields.specs.Method.{got_under}
use Rattle.check_fields.proofs.Steps.{limit_low, limit_high, limit_in, under_fault}
use Rattle.check_fields.proofs.in_limits.Goals.{then-x-lo-via-then-x-lo, then-x-lo-via-else-x-lo+then-hi-x}
use Rattle.check_fields.proofs.in_limits.Goals as goal

-- what was not read ends with its error, whichever number that has
-- and without a test
pub returns-in_err-x : goal.returns-in_err-x
returns-in_err-x g c =
    let p = err_from_is_err_and c.from_residual.result c.from_residual.ensures.1 in
    rw (p.1, p.2) (under_fault g.E.Numbered.number_of _ _ c.in_err-x.was _)

pub returns-then-x-lo : goal.returns-then-x-lo
unfolding got_under refusal
returns-then-x-lo g c =
    let is = ap (got_under g.E.Numbered.number_of) c.in_ok-x.was in
    ap Fault (g.met.E.Numbered.of_refusal CountBeyondLimits _ c.from.ensures)
    ∙ elim c.then-x-lo.branch [
      | then-x-lo-via-then-x-lo w ↦ limit_low _ _ _ _ _ is w.if-x-lo.true
      | then-x-lo-via-else-x-lo+then-hi-x w ↦ limit_high _ _ _ _ _ is w.if-x-lo.false w.if-hi-x.true
    ]

pub returns : goal.returns
unfolding got_under
returns g c =
    limit_in _ _ _ _ _ (ap (got_under g.E.Numbered.number_of) c.in_ok-x.was) c.if-x-lo.false c.if-hi-x.false

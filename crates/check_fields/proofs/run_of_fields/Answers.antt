-- `check_fields::run_of_fields` meets its contract.
use Rattle.std.proofs.Common.{arith, refl, sym, ◌∙◌}
use Rattle.layout.specs.Got.{got_of}
use Rattle.check_fields.proofs.Steps.{passed_on, then_on}
use Rattle.check_fields.proofs.Run.{run_next, run_end}
use Rattle.check_fields.proofs.run_of_fields.Goals as goal

pub returns-in_err-x : goal.returns-in_err-x
returns-in_err-x c =
    passed_on _ _ c.from_residual.ensures.1 _ c.in_err-x.ensures _
    ∙ sym (run_next _ c.args.list.now _ c.loop-f.f-index _ _ c.loop-f.invariant (omega arith))

pub loop-f-preserved : goal.loop-f-preserved
loop-f-preserved c =
    run_next _ c.args.list.now _ c.loop-f.f-index _ _ c.loop-f.invariant (omega arith)
    ∙ sym (then_on c.in_ok-x.x _ _ _ c.in_ok-x.ensures refl)

pub returns : goal.returns
unfolding got_of
returns c = run_end _ c.args.list.now _ c.loop-f.f-index _ _ c.loop-f.invariant (omega arith)

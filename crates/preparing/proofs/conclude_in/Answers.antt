-- `preparing::conclude_in` meets its contract: the end goes by what planning has left in the lists, and its errors are refusals.
use Rattle.std.proofs.Common.{◌∙◌, ap, sym}
use Rattle.codec.specs.MethodEnded.{end_of}
use Rattle.codec.proofs.Ended.{under_refusals}
use Rattle.layout.specs.Permitted.{rules_within}
use Rattle.preparing.proofs.Ends.{end_planned}
use Rattle.preparing.proofs.conclude_in.Goals as goal

pub returns : goal.returns
returns g c =
    let L = (rules_within c.args.limits.replicas c.args.limits.ranges).limits in
    end_planned L _ _ _ _ _ _ _ _ _ _ _ _ _ c.prepare-p.ensures
    (ap (end_of c.finish.new.out) (sym (under_refusals c.finish.result)) ∙ c.finish.ensures)

-- `preparing::prepare` meets its contract: the plan of a table is judged by the limits.
use Rattle.layout.specs.Permitted.{rules_within}
use Rattle.preparing.proofs.Judged.{planned_is}
use Rattle.preparing.proofs.prepare.Goals as goal

pub returns : goal.returns
returns c =
    let L = (rules_within c.args.limits.replicas c.args.limits.ranges).limits in
    planned_is L _ _ _ _ _ _ _ _ _ _ _ c.plan-z.ensures.plans c.plan-z.ensures.value c.judge.ensures

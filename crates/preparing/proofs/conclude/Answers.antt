-- `preparing::conclude` meets its contract: less room for the plan where the rows are few.
use native.Mathlib.Omega.{arith}
use Rattle.layout.specs.Permitted.{rules_within}
use Rattle.preparing.proofs.Ends.{end_few, end_many}
use Rattle.preparing.proofs.conclude.Goals as goal

pub returns-then-q : goal.returns-then-q
returns-then-q c = let m = c.args.limits in
    end_few (rules_within m.replicas m.ranges).limits _ _ _ _ _ _ (omega arith) c.conclude_in.ensures

pub returns : goal.returns
returns c = let m = c.args.limits in
    end_many (rules_within m.replicas m.ranges).limits _ _ _ _ _ _ (omega arith) c.conclude_in-2.ensures

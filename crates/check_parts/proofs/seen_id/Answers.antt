-- `check_parts::seen_id` meets its contract.
use Rattle.std.proofs.Common.{sym, ◌∙◌, arith}
use Rattle.leaves.proofs.Compare.{same_part}
use Rattle.check_fields.proofs.Among.{among_found, among_on, among_end}
use Rattle.check_parts.proofs.seen_id.Goals as goal

pub returns-then-is_replica : goal.returns-then-is_replica
returns-then-is_replica c =
    among_found _ _ _ _ _ _ _ _ c.loop-i.invariant (omega arith)
    (sym (same_part _ _ _ _ c.is_replica.ensures (omega arith)) ∙ c.if-is_replica.true)

pub loop-i-preserved : goal.loop-i-preserved
loop-i-preserved c =
    among_on _ _ _ _ _ _ _ _ c.loop-i.invariant (omega arith)
    (sym (same_part _ _ _ _ c.is_replica.ensures (omega arith)) ∙ c.if-is_replica.false) _ (omega arith)

pub returns : goal.returns
returns c = among_end _ _ _ _ _ _ _ _ c.loop-i.invariant (omega arith)

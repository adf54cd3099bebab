-- `compare::same_ids` meets its contract. The loop's invariant: all ids are the same where those that are left are.
use Rattle.std.proofs.Common.{◌∙◌, sym, arith}
use Rattle.std.proofs.lemmas.Bool.{not-false}
use borrow.Author.Tests.{eqb-true}
use Rattle.codec.proofs.Ids.{replica_eq}
use Rattle.lacking.proofs.Ids.{replica_part}
use Rattle.compare.proofs.HowFar.{ids_next, ids_done}
use Rattle.compare.proofs.same_ids.Goals as goal

pub loop-i-preserved : goal.loop-i-preserved
loop-i-preserved c =
    let one = c.from_bytes.ensures in
    let other = c.from_bytes-in-loop-i.ensures in
    let same = eqb-true _ _ (sym (replica_eq _ _ one.high_bound.1 other.high_bound.1) ∙ not-false _ (sym c.ne.ensures ∙ c.if-ne.false)) in
    ids_next _ _ _ _ _ c.loop-i.invariant _ _ (omega arith) (omega arith)
    (sym (replica_part _ _ _ one.value (omega (arith, c.requires.0))) ∙ same ∙ replica_part _ _ _ other.value (omega (arith, c.requires.1)))

pub returns : goal.returns
returns c = λ e. ids_done _ _ _ _ _ c.loop-i.invariant (omega arith)

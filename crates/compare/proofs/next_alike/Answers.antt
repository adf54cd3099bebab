-- `compare::next_alike` meets its contract: the bounds of both are the same item.
use Rattle.std.proofs.Common.{◌∙◌, sym, arith}
use Rattle.std.proofs.lemmas.Bool.{not-false}
use borrow.Author.Tests.{eqb-true}
use Rattle.codec.proofs.Ids.{item_eq}
use Rattle.lacking.proofs.Ids.{item_part}
use Rattle.compare.proofs.HowFar.{goes_at}
use Rattle.compare.proofs.next_alike.Goals as goal

pub returns-else-ne : goal.returns-else-ne
returns-else-ne c =
    let one = c.from_bytes-bound.ensures in
    let other = c.from_bytes.ensures in
    let same = eqb-true _ _ (sym (item_eq _ _ one.in_words other.in_words) ∙ not-false _ (sym c.ne.ensures ∙ c.if-ne.false)) in
    goes_at _ _ _ _ _ (c.same_vector.ensures c.if-not-same_vector.false) (omega arith) (omega arith)
    (sym (item_part _ _ _ one.value (omega (arith, c.requires.0))))
    (sym (item_part _ _ _ other.value (omega (arith, c.requires.1))) ∙ sym same)

-- `leaves::below` meets its contract: ids are compared as numbers.
use Rattle.std.proofs.Common.{ap, ◌∙◌, nat_lt, arith}
use Rattle.codec.specs.Ids.{InWords, item_of}
use Rattle.codec.proofs.Ids.{item_lt, item_there}
use Rattle.leaves.proofs.Compare.{below_missing, below_there}
use Rattle.leaves.proofs.below.Goals as goal

pub returns-then-w-ge24 : goal.returns-then-w-ge24
returns-then-w-ge24 c =
    let i : InWords c.args.i = record { high = omega arith; middle = omega arith; low = omega arith } in
    below_there _ _ c.if-w-ge24.true _
    (c.lt.ensures ∙ item_lt _ _ i c.from_bytes.ensures.in_words
    ∙ ap (nat_lt (item_of c.args.i)) (ap item_of c.from_bytes.ensures.value ∙ item_there _ c.if-w-ge24.true))

pub returns-else-w-ge24 : goal.returns-else-w-ge24
returns-else-w-ge24 c = grind (arith, below_missing c.args.w.now (item_of c.args.i) c.if-w-ge24.false)

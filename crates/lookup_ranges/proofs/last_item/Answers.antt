-- `lookup_ranges::last_item` meets its contract: the top item where no range follows, and else the item before the bound.
use Rattle.std.proofs.Common.{ap, ◌∙◌, arith}
use Rattle.codec.specs.Ids.{item_of}
use Rattle.ticks.proofs.LawfulResults.{highest_words}
use Rattle.lookup_ranges.proofs.Outside.{item_part, last_top, last_before}
use Rattle.lookup_ranges.proofs.last_item.Goals as goal

pub returns-then-left-eq0-clause-value : goal.returns-then-left-eq0-clause-value
returns-then-left-eq0-clause-value c = last_top _ _ _ c.if-left-eq0.true _ highest_words

pub returns-clause-value : goal.returns-clause-value
returns-clause-value c =
    last_before _ _ _ c.if-left-eq0.false _ _ c.item_before.ensures.value
    (ap item_of c.from_bytes.ensures.value ∙ item_part _ _ (omega arith))

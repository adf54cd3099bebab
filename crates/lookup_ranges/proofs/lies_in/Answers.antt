-- `lookup_ranges::lies_in` meets its contract: by the index, the bound and the last item of the range.
use Rattle.std.proofs.Common.{ap, ◌∙◌, arith, leb}
use Rattle.codec.specs.Ids.{InWords, item_of}
use Rattle.leaves.proofs.Part.{part_is}
use Rattle.lookup_ranges.proofs.Outside.{item_le, item_part, lies_nothing, lies_below, lies_end}
use Rattle.lookup_ranges.proofs.lies_in.Goals as goal

pub returns-then-first-eq0 : goal.returns-then-first-eq0
returns-then-first-eq0 c = lies_nothing _ _ _ _ _ _ (part_is _ _ _ _ c.first.ensures.0 (omega arith)) c.if-first-eq0.true

pub returns-then-le : goal.returns-then-le
returns-then-le c =
    let first : InWords c.args.span.first = record { high = omega arith; middle = omega arith; low = omega arith } in
    let last : InWords c.args.span.last = record { high = omega arith; middle = omega arith; low = omega arith } in
    lies_end _ _ _ _ _ _ (part_is _ _ _ _ c.first.ensures.0 (omega arith)) c.if-first-eq0.false _
    (c.le.ensures ∙ item_le _ _ first c.from_bytes.ensures.in_words
    ∙ ap (leb (item_of c.args.span.first)) (ap item_of c.from_bytes.ensures.value ∙ item_part _ _ (omega arith)))
    c.if-le.true _
    (c.le-then-le.ensures ∙ item_le _ _ c.last_item.ensures.in_words last
    ∙ ap (λ x. leb x (item_of c.args.span.last)) c.last_item.ensures.value)

pub returns-else-le : goal.returns-else-le
returns-else-le c =
    let first : InWords c.args.span.first = record { high = omega arith; middle = omega arith; low = omega arith } in
    lies_below _ _ _ _ _ _ (part_is _ _ _ _ c.first.ensures.0 (omega arith)) c.if-first-eq0.false _
    (c.le.ensures ∙ item_le _ _ first c.from_bytes.ensures.in_words
    ∙ ap (leb (item_of c.args.span.first)) (ap item_of c.from_bytes.ensures.value ∙ item_part _ _ (omega arith)))
    c.if-le.false

-- `lookup::wrong_span` meets its contract: test by test.
use Rattle.std.proofs.Common.{◌∙◌}
use Rattle.codec.proofs.Ids.{item_lt}
use Rattle.lookup.proofs.Span.{wrong_first, wrong_last, wrong_order}
use Rattle.lookup.proofs.wrong_span.Goals as goal
use Rattle.lookup.proofs.wrong_span.Goals.{then-first-ne24-via-then-first-ne24, then-first-ne24-via-else-first-ne24+then-last-ne24}

pub returns-then-first-ne24 : goal.returns-then-first-ne24
returns-then-first-ne24 c =
    elim c.then-first-ne24.branch [
      | then-first-ne24-via-then-first-ne24 w ↦ wrong_first _ _ w.if-first-ne24.true
      | then-first-ne24-via-else-first-ne24+then-last-ne24 w ↦ wrong_last _ _ w.if-first-ne24.false w.if-last-ne24.true
    ]

pub returns : goal.returns
returns c =
    wrong_order _ _ c.if-first-ne24.false c.if-last-ne24.false c.from_bytes-2.result c.from_bytes.result _
    (c.lt.ensures ∙ item_lt _ _ c.from_bytes.ensures.in_words c.from_bytes-2.ensures.in_words) c.from_bytes-2.ensures.value
    c.from_bytes.ensures.value

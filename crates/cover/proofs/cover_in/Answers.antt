-- `cover::cover_in` meets its contract: 17 for the span, and else whether the first knowledge covers the second.
use Rattle.cover.proofs.Calls.{cover_17, cover_answered}
use Rattle.cover.proofs.cover_in.Goals as goal

pub returns-then-wrong_span : goal.returns-then-wrong_span
returns-then-wrong_span c = λ R o q. cover_17 R _ _ _ _ _ _ o _ _ q _ c.wrong_span.ensures c.if-wrong_span.true

pub returns : goal.returns
returns c = λ R o q.
    let pre = c.requires in
    cover_answered R _ _ _ _ _ _ o _ _ q _ c.wrong_span.ensures c.if-wrong_span.false _ _ c.from_bytes.ensures.value
    c.from_bytes-2.ensures.value pre.0 pre.1 _ c.covers.ensures

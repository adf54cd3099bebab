-- `lacking::bound_of` meets its contract: where a range is left, its bound is there.
use Rattle.std.proofs.Common.{◌∙◌, arith}
use Rattle.codec.proofs.Ids.{item_lt}
use Rattle.lacking.proofs.Ids.{item_part}
use Rattle.lacking.proofs.Cells.{bound_none, bound_above, bound_inside}
use Rattle.lacking.proofs.bound_of.Goals as goal
use Rattle.lacking.proofs.bound_of.Goals.{then-c-eq0-via-then-c-eq0, then-c-eq0-via-else-c-eq0+then-beyond}

pub returns-then-c-eq0-clause-stop : goal.returns-then-c-eq0-clause-stop
returns-then-c-eq0-clause-stop c = λ h.
    bound_none _ _ _
    (elim c.then-c-eq0.branch [
      | then-c-eq0-via-then-c-eq0 w ↦ w.if-c-eq0.true
      | then-c-eq0-via-else-c-eq0+then-beyond w ↦ omega (arith, h, w.if-c-eq0.false, w.beyond.ensures.0 w.if-beyond.true)
    ])

pub returns-then-lt-clause-stop : goal.returns-then-lt-clause-stop
returns-then-lt-clause-stop c = λ h.
    bound_above _ _ _ _ _ (omega arith)
    (item_part _ _ _ c.from_bytes-bound.ensures.value (c.beyond.ensures.1 c.if-beyond.false))
    (c.lt.ensures ∙ item_lt _ _ (record { high = omega arith; middle = omega arith; low = omega arith }) c.from_bytes-bound.ensures.in_words)
    c.if-lt.true

pub returns-clause-stop : goal.returns-clause-stop
returns-clause-stop c = λ h.
    bound_inside _ _ _ _ _ (omega arith)
    (item_part _ _ _ c.from_bytes-bound.ensures.value (c.beyond.ensures.1 c.if-beyond.false))
    (c.lt.ensures ∙ item_lt _ _ (record { high = omega arith; middle = omega arith; low = omega arith }) c.from_bytes-bound.ensures.in_words)
    c.if-lt.false

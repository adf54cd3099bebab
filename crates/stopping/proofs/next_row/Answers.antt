-- `stopping::next_row` meets its contract: a row more, where the bound is above the last one's.
use native.Mathlib.Omega.{arith}
use mathlib.Core.Path.{refl, ◌∙◌}
use Rattle.codec.proofs.Ids.{item_lt}
use Rattle.sampling.proofs.Bounds.{row_same, row_more_lem}
use Rattle.stopping.proofs.next_row.Goals as goal

pub returns-then-lt : goal.returns-then-lt
returns-then-lt c = (
  row_more_lem _ _ _ _ c.row_bound.ensures.value _
      (c.lt.ensures ∙ item_lt _ _ c.row_bound.ensures.in_words (record { high = omega arith; middle = omega arith; low = omega arith })) c.if-lt.true _ c.put_bound.ensures.0,
  omega arith,
  omega arith,
  omega arith,
)

pub returns : goal.returns
returns c = (
  row_same _ _ _ _ c.row_bound.ensures.value _
      (c.lt.ensures ∙ item_lt _ _ c.row_bound.ensures.in_words (record { high = omega arith; middle = omega arith; low = omega arith })) c.if-lt.false,
  omega arith,
  omega arith,
  refl,
)

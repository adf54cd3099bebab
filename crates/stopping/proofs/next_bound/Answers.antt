-- `stopping::next_bound` meets its contract: the smaller of the two next bounds, or the only one.
use native.Mathlib.Omega.{arith}
use mathlib.Core.Path.{◌∙◌}
use Rattle.codec.proofs.Ids.{item_lt}
use Rattle.sampling.proofs.Bounds.{turn_first, turn_second, turn_lower, turn_upper}
use Rattle.stopping.proofs.next_bound.Goals as goal

pub returns-then-y-j : goal.returns-then-y-j
returns-then-y-j c = (turn_first _ _ _ _ _ _ _ _ c.if-y-j.true _ c.bound-bound.ensures, omega arith, omega arith, omega arith)

pub returns-then-x-i : goal.returns-then-x-i
returns-then-x-i c = (turn_second _ _ _ _ _ _ _ _ (omega arith) c.if-x-i.true _ c.bound-after.ensures, omega arith, omega arith, omega arith)

pub returns-then-lt : goal.returns-then-lt
returns-then-lt c = (
  turn_lower _ _ _ _ _ _ _ _ (omega arith) (omega arith) _ _ c.bound-before.ensures c.bound-after.ensures _
      (c.lt.ensures ∙ item_lt _ _ (record { high = omega arith; middle = omega arith; low = omega arith }) (record { high = omega arith; middle = omega arith; low = omega arith })) c.if-lt.true,
  omega arith,
  omega arith,
  omega arith,
)

pub returns : goal.returns
returns c = (
  turn_upper _ _ _ _ _ _ _ _ (omega arith) (omega arith) _ _ c.bound-before.ensures c.bound-after.ensures _
      (c.lt.ensures ∙ item_lt _ _ (record { high = omega arith; middle = omega arith; low = omega arith }) (record { high = omega arith; middle = omega arith; low = omega arith })) c.if-lt.false,
  omega arith,
  omega arith,
  omega arith,
)

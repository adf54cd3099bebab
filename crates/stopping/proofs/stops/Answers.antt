-- `stopping::stops` meets its contract. The loop's invariant: the rows are still to be put at the bounds that are left.
use native.Mathlib.Omega.{arith}
use mathlib.Core.Path.{refl, ◌∙◌}
use Rattle.codec.proofs.Ids.{item_lt}
use Rattle.sampling.proofs.Bounds.{stop_starts, stop_ends, stop_last, stop_next, stop_whole}
use Rattle.stopping.proofs.stops.Goals as goal

pub loop-k-init : goal.loop-k-init
loop-k-init c = (stop_starts _ _ _ _ _ _ _ _, omega arith, omega arith, refl, omega arith, omega arith, refl)

pub next_bound-next-requires : goal.next_bound-next-requires
next_bound-next-requires c = (omega arith, omega arith, omega arith, omega arith, omega arith)

pub returns-then-lt : goal.returns-then-lt
returns-then-lt c = (
  stop_last _ _ _ _ _ _ _ _ _ _ _ _ c.loop-k.invariant.0 (omega arith) _
      c.next_bound-next.ensures.0 _ (c.lt.ensures ∙ item_lt _ _ (record { high = omega arith; middle = omega arith; low = omega arith }) (record { high = omega arith; middle = omega arith; low = omega arith })) c.if-lt.true
      ∙ stop_whole _ _ _ _ _ _ _ _ _ _ _ c.put_bound.ensures.0,
  omega arith,
  omega arith,
  omega arith,
)

pub loop-k-preserved : goal.loop-k-preserved
loop-k-preserved c = let turn = c.next_bound-next.ensures in (
  stop_next _ _ _ _ _ _ _ _ _ _ _ _ c.loop-k.invariant.0 (omega arith) _ turn.0 _ (c.lt.ensures ∙ item_lt _ _ (record { high = omega arith; middle = omega arith; low = omega arith }) (record { high = omega arith; middle = omega arith; low = omega arith }))
      c.if-lt.false turn.3 _ _ c.next_row-top.ensures.0,
  omega (arith, turn.1),
  omega (arith, turn.2),
  omega (arith, turn.3),
  omega arith,
  omega (arith, turn.3),
  omega arith,
)

pub returns : goal.returns
returns c = (
  stop_ends _ _ _ _ _ _ _ _ _ _ _ _ c.loop-k.invariant.0 (omega arith) ∙ stop_whole _ _ _ _ _ _ _ _ _ _ _
      c.put_bound.ensures.0,
  omega arith,
  omega arith,
  omega arith,
)

-- `stopping::put_span` meets its contract: the row at the first item of all, those of the span, and the one behind it.
use native.Mathlib.Omega.{arith}
use Rattle.sampling.proofs.Stops.{spanned_put}
use Rattle.stopping.proofs.put_span.Goals as goal

pub stops-top-requires : goal.stops-top-requires
stops-top-requires c = (omega arith, omega arith, omega arith, omega arith)

pub last_row-rows-requires : goal.last_row-rows-requires
last_row-rows-requires c = (omega arith, omega arith)

pub returns : goal.returns
returns c = (
  spanned_put _ _ _ _ _ _ _ _ _ _ _ c.first_row-from.ensures.0 c.stops-top.ensures.0
      c.last_row-rows.ensures.0,
  omega (arith, c.first_row-from.ensures.2, c.stops-top.ensures.2),
  omega arith,
)

-- `stopping::all_stops` meets its contract: the rows of all items, or none where the test fails.
use Prim.Native.Nat.{◌+◌}
use mathlib.Core.Path.{refl, ◌∙◌}
use lib.ListN.{length}
use native.Mathlib.Omega.{arith}
use Rattle.sampling.proofs.Stops.{rows_tell, stopped_none, stopped_some}
use Rattle.stopping.proofs.all_stops.Goals as goal

pub stops-requires : goal.stops-requires
stops-requires c = let a = c.args in
    let f = rows_tell a.s.now a.c a.t.now a.b a.bt (a.c.left + a.b + 1) (length a.bounds.now) _
    c.rows_fit.ensures c.if-rows_fit.true in
    (f.ranges, f.others, omega (arith, f.rows), omega (arith, f.bound_words))

pub returns-then-rows_fit : goal.returns-then-rows_fit
returns-then-rows_fit c = (
  c.stops.ensures.0 ∙ stopped_some _ _ _ _ _ _ _ c.rows_fit.ensures c.if-rows_fit.true,
  omega (arith, c.stops.ensures.2),
  c.stops.ensures.3,
)

pub returns : goal.returns
returns c = (stopped_none _ _ _ _ _ _ _ c.rows_fit.ensures c.if-rows_fit.false, omega arith, refl)

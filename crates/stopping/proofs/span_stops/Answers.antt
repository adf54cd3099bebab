-- `stopping::span_stops` meets its contract: the rows of a span, or none where the test fails.
use Prim.Native.Nat.{◌+◌}
use mathlib.Core.Path.{refl, ◌∙◌}
use lib.ListN.{length}
use native.Mathlib.Omega.{arith}
use Rattle.sampling.proofs.Stops.{rows_tell, spanned_none, spanned_some}
use Rattle.stopping.proofs.span_stops.Goals as goal

pub put_span-requires : goal.put_span-requires
put_span-requires c = let a = c.args in
    let f = rows_tell a.s.now a.c a.s.now 0 a.c.next (a.c.left + 3) (length a.bounds.now) _
    c.rows_fit.ensures c.if-rows_fit.true in
    (f.ranges, omega (arith, f.rows), omega (arith, f.bound_words))

pub returns-then-rows_fit : goal.returns-then-rows_fit
returns-then-rows_fit c = (
  c.put_span.ensures.0 ∙ spanned_some _ _ _ _ _ _ c.rows_fit.ensures c.if-rows_fit.true,
  c.put_span.ensures.1,
  c.put_span.ensures.2,
)

pub returns : goal.returns
returns c = (spanned_none _ _ _ _ _ _ c.rows_fit.ensures c.if-rows_fit.false, omega arith, refl)

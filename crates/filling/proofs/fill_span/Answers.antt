-- `filling::fill_span` meets its contract: columns for the replicas, the rows of the span, and the rows inside it raised; or nothing.
use native.Mathlib.Omega.{arith}
use Prim.Native.Nat.{◌+◌}
use mathlib.Core.Path.{refl, ◌∙◌}
use lib.ListN.{length}
use Rattle.sampling.proofs.Tables.{fits_tells, none_put, span_none, span_some, span_put}
use Rattle.filling.proofs.fill_span.Goals as goal

pub slice_bounds-add_ids-end : goal.slice_bounds-add_ids-end
slice_bounds-add_ids-end c = refl

pub add_ids-columns-requires : goal.add_ids-columns-requires
add_ids-columns-requires c = let a = c.args in
    let f = fits_tells a.s.now a.v.r a.v.start a.v.r (a.v.start.left + 3) (length a.ids.now) (length a.bounds.now)
    (length a.t.now) _ c.fits.ensures c.if-fits.true in
    (f.map, omega (arith, f.small), omega (arith, f.id_words), omega (arith, f.small))

pub returns-then-fits : goal.returns-then-fits
returns-then-fits c = let a = c.args in
    let f = fits_tells a.s.now a.v.r a.v.start a.v.r (a.v.start.left + 3) (length a.ids.now) (length a.bounds.now)
    (length a.t.now) _ c.fits.ensures c.if-fits.true in
    span_put _ _ _ _ _ _ _ _ _ c.add_ids-columns.ensures.0 _ _ _ _ _ _ c.span_stops-rows.ensures.0 c.span_stops-rows.ensures.1
    c.span_stops-rows.ensures.2 f _ c.fill.ensures
    ∙ span_some _ _ _ _ _ _ _ _ _ c.fits.ensures c.if-fits.true

pub returns : goal.returns
returns c = none_put _ _ _ ∙ span_none _ _ _ _ _ _ _ _ _ c.fits.ensures c.if-fits.false

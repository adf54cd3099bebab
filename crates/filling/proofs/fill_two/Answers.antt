-- `filling::fill_two` meets its contract: the table of two knowledges where both fit; or nothing.
use Prim.Native.Nat.{◌+◌}
use mathlib.Core.Path.{◌∙◌}
use lib.ListN.{length}
use Rattle.sampling.proofs.Tables.{fits_tells, none_put, two_none, two_no_second, two_some}
use Rattle.filling.proofs.fill_two.Goals as goal

pub filled_two-requires : goal.filled_two-requires
filled_two-requires c = let a = c.args in (
  fits_tells a.s.now a.v.r a.v.start (a.v.r + a.w.r) (a.v.start.left + a.w.start.left + 1) (length a.ids.now)
      (length a.bounds.now) (length a.t.now) _ c.fits.ensures c.if-fits.true,
  fits_tells a.other.now a.w.r a.w.start (a.v.r + a.w.r) (a.v.start.left + a.w.start.left + 1) (length a.ids.now)
      (length a.bounds.now) (length a.t.now) _ c.fits-then-fits.ensures c.if-fits-2.true,
)

pub returns-then-fits-2 : goal.returns-then-fits-2
returns-then-fits-2 c = c.filled_two.ensures ∙ two_some _ _ _ _ _ _ _ _ _ _ c.fits.ensures c.if-fits.true _
    c.fits-then-fits.ensures c.if-fits-2.true

pub returns-else-fits-2 : goal.returns-else-fits-2
returns-else-fits-2 c = none_put _ _ _ ∙ two_no_second _ _ _ _ _ _ _ _ _ _ c.fits.ensures c.if-fits.true _
    c.fits-then-fits.ensures c.if-fits-2.false

pub returns-else-fits : goal.returns-else-fits
returns-else-fits c = none_put _ _ _ ∙ two_none _ _ _ _ _ _ _ _ _ _ c.fits.ensures c.if-fits.false

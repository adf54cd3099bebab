-- `filling::fill_one` meets its contract: the table of one knowledge where all fits; or nothing.
use Prim.Native.Nat.{◌+◌}
use mathlib.Core.Path.{◌∙◌}
use lib.ListN.{length}
use Rattle.sampling.proofs.Tables.{fits_tells, none_put, one_none, one_some}
use Rattle.filling.proofs.fill_one.Goals as goal

pub filled_one-requires : goal.filled_one-requires
filled_one-requires c = let a = c.args in
    fits_tells a.s.now a.v.r a.v.start a.v.r (a.v.start.left + 1) (length a.ids.now) (length a.bounds.now)
    (length a.t.now) _ c.fits.ensures c.if-fits.true

pub returns-then-fits : goal.returns-then-fits
returns-then-fits c = c.filled_one.ensures.0 ∙ one_some _ _ _ _ _ _ _ c.fits.ensures
    c.if-fits.true

pub returns : goal.returns
returns c = none_put _ _ _ ∙ one_none _ _ _ _ _ _ _ c.fits.ensures c.if-fits.false

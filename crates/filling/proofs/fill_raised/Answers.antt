-- `filling::fill_raised` meets its contract: the table of one knowledge, and the column of a replica set; or nothing.
use native.Mathlib.Omega.{arith}
use Prim.Native.Nat.{◌+◌}
use mathlib.Core.Path.{◌∙◌}
use lib.ListN.{length}
use Rattle.sampling.proofs.Tables.{fits_tells, fits_fewer, none_put, raised_none, raised_some, raised_put}
use Rattle.filling.proofs.fill_raised.Goals as goal

pub filled_one-q-requires : goal.filled_one-q-requires
filled_one-q-requires c = let a = c.args in
    let f = fits_tells a.s.now a.v.r a.v.start (a.v.r + 1) (a.v.start.left + 1) (length a.ids.now) (length a.bounds.now)
    (length a.t.now) _ c.fits.ensures c.if-fits.true in
    fits_fewer _ _ _ _ _ _ _ _ f a.v.r (omega arith)

pub join_id-own-requires : goal.join_id-own-requires
join_id-own-requires c = let a = c.args in
    let f = fits_tells a.s.now a.v.r a.v.start (a.v.r + 1) (a.v.start.left + 1) (length a.ids.now) (length a.bounds.now)
    (length a.t.now) _ c.fits.ensures c.if-fits.true in
    let x = c.filled_one-q.ensures in
    (omega arith, omega (arith, f.id_words, x.1, x.3), omega (arith, f.small, x.1))

pub raise_column-requires : goal.raise_column-requires
raise_column-requires c = let a = c.args in
    let f = fits_tells a.s.now a.v.r a.v.start (a.v.r + 1) (a.v.start.left + 1) (length a.ids.now) (length a.bounds.now)
    (length a.t.now) _ c.fits.ensures c.if-fits.true in
    let x = c.filled_one-q.ensures in (
      omega (arith, f.small, x.1, c.join_id-own.ensures.1),
      omega (arith, f.cells, x.2, x.4),
      omega (arith, f.rows, x.2),
    )

pub returns-then-fits : goal.returns-then-fits
returns-then-fits c = raised_put _ _ _ _ _ _ _ _ _ _ _ _ _ _ c.filled_one-q.ensures.0 _ _ _
    c.join_id-own.ensures.0 _ c.raise_column.ensures
    ∙ raised_some _ _ _ _ _ _ _ _ _ _ c.fits.ensures c.if-fits.true

pub returns : goal.returns
returns c = none_put _ _ _ ∙ raised_none _ _ _ _ _ _ _ _ _ _ c.fits.ensures c.if-fits.false

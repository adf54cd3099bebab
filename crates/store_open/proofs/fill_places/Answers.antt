-- `store_open::fill_places` meets its contract. The loop's invariant: the table has the places of the vectors so far, and the next one is known.
use native.Mathlib.Omega.{arith}
use mathlib.Core.Path.{refl}
use lib.ListN.{length-set}
use Rattle.store_open.proofs.Places.{filling_start, filling_on, filling_end}
use Rattle.store_open.proofs.fill_places.Goals as goal

pub loop-j-init : goal.loop-j-init
loop-j-init c = (filling_start _ _ _ _ c.requires, refl)

pub offset_bounds-places-j : goal.offset_bounds-places-j
offset_bounds-places-j c = omega (arith, c.loop-j.invariant.0.room, c.loop-j-test.true)

pub bounds-places-j : goal.bounds-places-j
bounds-places-j c = omega (arith, c.loop-j.invariant.0.room, c.loop-j-test.true)

pub loop-j-preserved : goal.loop-j-preserved
loop-j-preserved c = (
  filling_on _ _ _ _ _ _ c.loop-j.invariant.0 (omega (arith, c.loop-j-test.true)) _ c.next_vector-at.ensures,
  simp length-set c.loop-j.invariant.1,
)

pub shape_of-places : goal.shape_of-places
shape_of-places c = c.loop-j.invariant.1

pub returns : goal.returns
returns c = filling_end _ _ _ _ _ _ c.loop-j.invariant.0 (omega (arith, c.loop-j-test.false))

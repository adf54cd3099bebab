-- `store_open::each_asked` meets its contract: the slots and the table are filled, and then the records are looked at.
use native.Mathlib.Omega.{arith}
use mathlib.Core.Path.{sym}
use lib.Seq.{length-take-le}
use Rattle.store_open.proofs.Keys.{ids_once}
use Rattle.store_open.proofs.Places.{places_part}
use Rattle.store_open.proofs.each_asked.Goals as goal

pub fill_slots-requires : goal.fill_slots-requires
fill_slots-requires c = omega (arith, ids_once _ _ _ c.requires.1)

pub slice_bounds-each_by-end-2 : goal.slice_bounds-each_by-end-2
slice_bounds-each_by-end-2 c = sym (length-take-le _ _ c.fill_places.ensures.room)

pub each_by-requires : goal.each_by-requires
each_by-requires c = (
  c.requires.0,
  c.requires.1,
  places_part _ _ _ _ c.fill_places.ensures,
  c.fill_slots.ensures,
)

-- `store_open::move_on` meets its contract: past the ranges, and then the place of the vector.
use native.Mathlib.Omega.{arith}
use Rattle.store_open.proofs.Ids.{item_at}
use Rattle.store_open.proofs.Places.{move_is}
use Rattle.store_open.proofs.move_on.Goals as goal

pub returns : goal.returns
returns c =
    let w = c.requires.0 in
    move_is _ _ w _ _ _ _ _ _ c.requires.1 (item_at _ _ _ c.from_bytes.ensures.value (omega (arith, w.item))) c.pass-d.ensures
    c.place_by.ensures

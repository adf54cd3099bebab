-- `store_open::next_vector` meets its contract: a vector is stepped over by its count, where that is there.
use native.Mathlib.Omega.{arith}
use Rattle.leaves.proofs.Part.{part_is}
use Rattle.store_open.proofs.Places.{next_stays, next_on}
use Rattle.store_open.proofs.next_vector.Goals as goal

pub returns-then-beyond : goal.returns-then-beyond
returns-then-beyond c = next_stays _ _ (c.beyond.ensures.0 c.if-beyond.true)

pub returns : goal.returns
returns c =
    let l = c.beyond.ensures.1 c.if-beyond.false in
    next_on _ _ _ l (part_is _ _ _ _ c.first.ensures.0 (omega (arith, l)))

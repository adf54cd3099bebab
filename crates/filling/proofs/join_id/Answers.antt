-- `filling::join_id` meets its contract: the column that was found, or a new one.
use native.Mathlib.Omega.{arith}
use mathlib.Core.Path.{refl, sym}
use lib.ListN.{length-set}
use Rattle.sampling.proofs.Columns.{join_old, join_new}
use Rattle.filling.proofs.join_id.Goals as goal

pub returns-in-Some : goal.returns-in-Some
returns-in-Some c = let f = c.in-Some.ensures in
    (join_old _ _ _ _ _ _ f.0 f.1, omega (arith, f.1), omega arith, omega arith, refl)

pub bounds-ids-i-in-None : goal.bounds-ids-i-in-None
bounds-ids-i-in-None c = simp length-set (omega arith)

pub returns-in-None : goal.returns-in-None
returns-in-None c = (join_new _ _ _ _ _ _ (sym c.in-None.ensures) (omega arith), omega arith, omega arith, omega arith, simp length-set)

-- `store_open::place_by` meets its contract: the table has the place that walking leads to.
use native.Mathlib.Omega.{arith}
use Rattle.store_open.proofs.Places.{place_taken}
use Rattle.store_open.proofs.place_by.Goals as goal

pub returns : goal.returns
returns c = place_taken _ _ _ _ c.requires.0 _ _ _ c.requires.1 (omega arith)

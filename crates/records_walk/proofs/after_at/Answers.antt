-- `records_walk::after_at` meets its contract: where no record stands its length is 0.
use native.Mathlib.Omega.{arith}
use Rattle.records_walk.proofs.Given.{after_fits, after_added, later_added}
use Rattle.records_walk.proofs.after_at.Goals as goal

pub overflow_add-result : goal.overflow_add-result
overflow_add-result c = omega (arith, after_fits _ _ _ c.length_at-n.ensures)

pub returns : goal.returns
returns c = (later_added _ _ _ c.length_at-n.ensures, after_added _ _ _ c.length_at-n.ensures)

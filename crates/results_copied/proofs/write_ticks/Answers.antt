-- `results_copied::write_ticks` meets its contract. The loop's invariant: writing in all vectors is writing in those that are left; a place is at
-- most 8 bytes a vector past the end of the bytes.
use mathlib.Core.Path.{refl, ap, ◌∙◌}
use native.Mathlib.Omega.{arith}
use lib.ListN.{length}
use Rattle.results_copied.proofs.Overwritten.{vector-length}
use Rattle.results_copied.proofs.Loops.{vectors_start, vectors_on, vectors_end, there_next}
use Rattle.results_copied.proofs.write_ticks.Goals as goal

pub loop-init : goal.loop-init
loop-init c = (vectors_start _ _ _ _ _ _, refl, omega arith)

pub loop-preserved : goal.loop-preserved
loop-preserved c = let wrote = c.write_tick.ensures in (
  vectors_on _ _ _ _ _ _ _ _ c.loop.invariant.0 c.loop-test.true _ c.elements_at-m.ensures _ wrote,
  ap length wrote ∙ vector-length _ _ _ _ _ ∙ c.loop.invariant.1,
  there_next _ _ _ _ _ c.elements_at-m.ensures c.loop.invariant.2,
)

pub returns : goal.returns
returns c = vectors_end _ _ _ _ _ _ _ _ c.loop.invariant.0 (omega arith)

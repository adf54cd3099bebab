-- `cover::step` meets its contract: past the next range, which is there.
use Rattle.leaves.proofs.Part.{part_is}
use Rattle.cover.proofs.Steps.{step_goes}
use native.Mathlib.Omega.{arith}
use Rattle.cover.proofs.step.Goals as goal

pub returns : goal.returns
returns c = step_goes _ _ _ _ _ (part_is _ _ _ _ c.first-n.ensures.0 (omega arith)) c.vector_place-vector.ensures

-- `lookup_ranges::past` meets its contract: the index that stands there, and the place of its vector.
use native.Mathlib.Omega.{arith}
use Rattle.leaves.proofs.Part.{part_is}
use Rattle.lookup_ranges.proofs.Ranges.{past_is}
use Rattle.lookup_ranges.proofs.past.Goals as goal

pub returns : goal.returns
returns c = past_is _ _ _ _ _ (part_is _ _ _ _ c.first.ensures.0 (omega arith)) c.vector_place-vector.ensures

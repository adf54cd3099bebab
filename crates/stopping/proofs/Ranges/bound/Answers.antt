-- `Ranges::bound` meets its contract: the bound is three words.
use native.Mathlib.Omega.{arith}
use Rattle.sampling.proofs.Bounds.{bound_is_read}
use Rattle.stopping.proofs.Ranges.bound.Goals as goal

pub returns : goal.returns
returns c = bound_is_read _ _ _ _ c.from_bytes.ensures.value (omega arith)

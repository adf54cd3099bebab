-- `writer::length` meets its contract: every count is below 2^32, so no sum is too large.
use Rattle.tables.specs.MethodPlan.{length_of}
use native.Mathlib.Omega.{arith}
use Rattle.writer.proofs.length.Goals as goal

pub returns : goal.returns
unfolding length_of
returns c = omega arith

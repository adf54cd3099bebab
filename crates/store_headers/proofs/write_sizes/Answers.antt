-- `store_headers::write_sizes` meets its contract: one number behind the other.
use native.Mathlib.Omega.{arith}
use Rattle.store_headers.proofs.Headers.{both_wrote}
use Rattle.store_headers.proofs.write_sizes.Goals as goal

pub returns : goal.returns
returns c = both_wrote _ _ _ _ _ 4 _ _ c.write.ensures c.write-2.ensures (omega arith)

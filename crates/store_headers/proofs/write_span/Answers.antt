-- `store_headers::write_span` meets its contract: one id behind the other.
use native.Mathlib.Omega.{arith}
use Rattle.store_headers.proofs.Headers.{both_wrote}
use Rattle.store_headers.proofs.write_span.Goals as goal

pub returns : goal.returns
returns c = both_wrote _ _ _ _ _ 24 _ _ c.write_item.ensures c.write_item-2.ensures (omega arith)

-- `store_open::inside_span` meets its contract: the ids are those of the span.
use native.Mathlib.Omega.{arith}
use Rattle.store_open.proofs.Ids.{item_at}
use Rattle.store_open.proofs.Batch.{span_inside}
use Rattle.store_open.proofs.inside_span.Goals as goal

pub returns : goal.returns
returns c =
    span_inside _ _ _ (item_at _ 1 _ c.from_bytes-first.ensures.value (omega (arith, c.requires)))
    (item_at _ 25 _ c.from_bytes-last.ensures.value (omega (arith, c.requires))) _ _ _ c.inside.ensures

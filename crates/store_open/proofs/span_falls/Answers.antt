-- `store_open::span_falls` meets its contract: the ids are those of the span.
use mathlib.Core.Path.{◌∙◌}
use native.Mathlib.Omega.{arith}
use Rattle.codec.proofs.Ids.{item_lt}
use Rattle.store_open.proofs.Ids.{item_at}
use Rattle.store_open.proofs.Batch.{span_less}
use Rattle.store_open.proofs.span_falls.Goals as goal

pub returns : goal.returns
returns c =
    span_less _ _ _ (item_at _ 1 _ c.from_bytes-first.ensures.value (omega (arith, c.requires)))
    (item_at _ 25 _ c.from_bytes-last.ensures.value (omega (arith, c.requires))) _
    (c.lt.ensures ∙ item_lt _ _ c.from_bytes-last.ensures.in_words c.from_bytes-first.ensures.in_words)

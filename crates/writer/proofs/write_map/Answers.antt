-- `writer::write_map` meets its contract: past the end nothing is written.
use Rattle.writer.proofs.Laying.{left_past, map-wrote}
use Rattle.writer.proofs.write_map.Goals as goal

pub returns-then-out-at : goal.returns-then-out-at
returns-then-out-at c = left_past _ _ _ c.if-out-at.true

pub returns : goal.returns
returns c = map-wrote _ _ _ _ _ _ _ _ c.write_opening.ensures c.write.ensures
    c.write_ids.ensures

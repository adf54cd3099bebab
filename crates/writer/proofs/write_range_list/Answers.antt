-- `writer::write_range_list` meets its contract: past the end nothing is written.
use Rattle.writer.proofs.Laying.{left_past, range_list_wrote}
use Rattle.writer.proofs.write_range_list.Goals as goal

pub returns-then-out-at : goal.returns-then-out-at
returns-then-out-at c = left_past _ _ _ c.if-out-at.true

pub returns : goal.returns
returns c = range_list_wrote _ _ _ _ _ _ _ _ c.write_before_ranges.ensures c.write.ensures
    c.write_ranges.ensures

-- `writer::write` meets its contract: each part goes on where the one before ended.
use Rattle.writer.proofs.Laying.{page_wrote}
use Rattle.writer.proofs.write.Goals as goal

pub returns : goal.returns
returns c = page_wrote c.args.z _ _ _ _ _ _ _ _ _ _ _ _ _ _ _ _ c.write_map-vectors.ensures
    c.write_vector_list-ranges.ensures c.write_range_list-end.ensures
    c.write_closing.ensures

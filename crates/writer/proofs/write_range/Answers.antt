-- `writer::write_range` meets its contract: three words and the index.
use Rattle.writer.proofs.Laying.{range_wrote}
use Rattle.writer.proofs.write_range.Goals as goal

pub returns : goal.returns
returns c = range_wrote _ _ _ _ _ _ _ _ _ _ _ _ c.word.ensures c.word-2.ensures c.word-3.ensures
    c.write.ensures c.write-2.ensures c.write-3.ensures
    c.write-4.ensures

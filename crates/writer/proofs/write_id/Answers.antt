-- `writer::write_id` meets its contract: two words.
use Rattle.writer.proofs.Laying.{id_wrote}
use Rattle.writer.proofs.write_id.Goals as goal

pub returns : goal.returns
returns c = id_wrote _ _ _ _ _ _ _ _ c.word.ensures c.word-2.ensures
    c.write.ensures c.write-2.ensures

-- `writer::write_element` meets its contract: the key and the tick.
use Rattle.writer.proofs.Laying.{element_wrote}
use Rattle.writer.proofs.write_element.Goals as goal

pub returns : goal.returns
returns c = element_wrote _ _ _ _ _ _ c.write.ensures c.write-2.ensures

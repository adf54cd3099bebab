-- `writer::write_vector` meets its contract: past the end nothing is written.
use mathlib.Core.Path.{refl}
use Rattle.writer.proofs.Laying.{left_past, vector_wrote}
use Rattle.writer.proofs.write_vector.Goals as goal

pub returns-then-out-at : goal.returns-then-out-at
returns-then-out-at c = left_past _ _ _ c.if-out-at.true

pub returns : goal.returns
returns c = vector_wrote _ _ _ _ _ _ _ _ _ c.write.ensures c.write_elements-end.ensures.0
    c.write_elements-end.ensures.1 refl c.write-2.ensures

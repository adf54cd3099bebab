-- `writer::write_before_vectors` meets its contract: the array has the bytes of the fields.
use Rattle.codec.specs.Number.{put}
use Rattle.codec.specs.Part.{part}
use Rattle.layout.specs.Knowledge.{put_fields, before_vectors}
use Rattle.writer.proofs.write_before_vectors.Goals as goal

pub returns : goal.returns
unfolding before_vectors put_fields put part
returns c = c.copy_part.ensures

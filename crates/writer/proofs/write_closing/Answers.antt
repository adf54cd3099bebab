-- `writer::write_closing` meets its contract: the array has the bytes of the fields.
use Rattle.codec.specs.Number.{put}
use Rattle.codec.specs.Part.{part}
use Rattle.layout.specs.Knowledge.{put_fields, closing}
use Rattle.writer.proofs.write_closing.Goals as goal

pub returns : goal.returns
unfolding closing put_fields put part
returns c = c.copy_part.ensures

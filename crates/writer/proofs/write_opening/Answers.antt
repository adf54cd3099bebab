-- `writer::write_opening` meets its contract: the array has the bytes of the fields.
use Rattle.codec.specs.Number.{put}
use Rattle.codec.specs.Part.{part}
use Rattle.layout.specs.Knowledge.{put_fields, opening}
use Rattle.writer.proofs.write_opening.Goals as goal

pub returns : goal.returns
unfolding opening put_fields put part
returns c = c.copy_part.ensures

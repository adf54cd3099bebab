-- `writer::write_before_ranges` meets its contract: the array has the bytes of the fields.
use Rattle.codec.specs.Number.{put}
use Rattle.codec.specs.Part.{part}
use Rattle.layout.specs.Knowledge.{put_fields, before_ranges}
use Rattle.writer.proofs.write_before_ranges.Goals as goal

pub returns : goal.returns
unfolding before_ranges put_fields put part
returns c = c.copy_part.ensures

-- `operations::write_empty` meets its contract: the array has the bytes of the empty knowledge.
use Rattle.codec.specs.Number.{put}
use Rattle.codec.specs.Part.{part}
use Rattle.layout.specs.Knowledge.{encode, put_fields, put_ids, put_elements, put_vectors, put_ranges}
use Rattle.layout.specs.Knowledge.{opening, before_vectors, before_elements, before_ranges, closing}
use Rattle.ticks.specs.Meaning.{empty_knowledge}
use Rattle.operations.proofs.write_empty.Goals as goal

pub returns : goal.returns
unfolding encode empty_knowledge opening before_vectors before_elements before_ranges closing put_fields put_ids put_elements put_vectors
    put_ranges put part
returns c = c.copy_part.ensures

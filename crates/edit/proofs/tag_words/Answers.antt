-- `edit::tag_words` meets its contract: two words of 8 bytes are the number of 16.
use Rattle.edit.proofs.Changing.{tag_is}
use Rattle.edit.proofs.tag_words.Goals as goal

pub returns : goal.returns
returns c = tag_is _ _ _ c.requires c.read.ensures.value c.read-2.ensures.value

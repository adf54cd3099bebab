-- `records_versions::move_to` meets its contract: the cursor is advanced to the item that was read.
use Rattle.records_versions.proofs.Versions.{moved_is}
use Rattle.records_versions.proofs.move_to.Goals as goal

pub returns : goal.returns
returns c = moved_is _ _ _ _ _ _ _ _ _ c.item_of.ensures.value c.advance.ensures

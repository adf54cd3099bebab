-- `codec::Item::from_bytes` meets its contract: the three words are those of the definition.
use Rattle.codec.proofs.Ids.{item_is_read}
use Rattle.codec.proofs.Item.from_bytes.Goals as goal

pub returns-clause-value : goal.returns-clause-value
returns-clause-value c = item_is_read _ _ _ _ c.read.ensures.value c.read-2.ensures.value c.read-3.ensures.value

-- `codec::Replica::from_bytes` meets its contract: the two words are those of the definition.
use Rattle.codec.proofs.Ids.{replica_is_read}
use Rattle.codec.proofs.Replica.from_bytes.Goals as goal

pub returns-clause-value : goal.returns-clause-value
returns-clause-value c = replica_is_read _ _ _ c.read.ensures.value c.read-2.ensures.value

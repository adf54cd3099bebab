-- `store_queries::knowledge_part` meets its contract: the limits given are document 01's.
use Rattle.store_queries.proofs.Handed.{knowledge_base}
use Rattle.store_queries.proofs.knowledge_part.Goals as goal

pub returns : goal.returns
returns c = knowledge_base _ _ c.knowledge_within.ensures

-- `store_queries::learned_part` meets its contract: the limits given are document 01's.
use Rattle.store_queries.proofs.Handed.{learned_base}
use Rattle.store_queries.proofs.learned_part.Goals as goal

pub returns : goal.returns
returns c = learned_base _ _ c.learned_within.ensures

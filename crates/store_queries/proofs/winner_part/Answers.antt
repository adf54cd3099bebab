-- `store_queries::winner_part` meets its contract: the limits given are document 01's.
use Rattle.store_queries.proofs.Winning.{winner_base}
use Rattle.store_queries.proofs.winner_part.Goals as goal

pub returns : goal.returns
returns c = winner_base _ _ _ _ c.winner_within.ensures

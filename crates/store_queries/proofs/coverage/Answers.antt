-- `store_queries::coverage` meets its contract: the limits given are document 01's.
use Rattle.store_queries.proofs.Counting.{coverage_basic}
use Rattle.store_queries.proofs.coverage.Goals as goal

pub returns : goal.returns
returns c = coverage_basic _ _ _ c.coverage_within.ensures

-- `store_queries::thousandths` meets its contract, with records and without.
use Rattle.store_queries.proofs.Counting.{rate_none, rate_some}
use Rattle.store_queries.proofs.thousandths.Goals as goal

pub returns-then-all-eq0 : goal.returns-then-all-eq0
returns-then-all-eq0 c = rate_none _ _ c.if-all-eq0.true

pub returns : goal.returns
returns c = rate_some _ _ c.if-all-eq0.false

-- `collector::sync_compare` meets its contract: number, length and buffer are those of the call's reply, and the order is as `compare`
-- leaves it.
use Rattle.collector.proofs.Endings.{answer_called}
use Rattle.collector.proofs.sync_compare.Goals as goal

pub returns-clause-called : goal.returns-clause-called
returns-clause-called c = let said = c.compare-a.ensures in
    answer_called _ _ _ _ _ _ _ c.answer_to_c.ensures.number c.answer_to_c.ensures.count said.value said.out_after

pub returns-clause-value : goal.returns-clause-value
returns-clause-value c = let said = c.compare-a.ensures in
    said.order_after

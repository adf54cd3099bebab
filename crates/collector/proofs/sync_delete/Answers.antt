-- `collector::sync_delete` meets its contract: number, length and buffer are those of the call's reply.
use Rattle.collector.proofs.Endings.{answer_called}
use Rattle.collector.proofs.sync_delete.Goals as goal

pub returns : goal.returns
returns c = answer_called _ _ _ _ _ _ _ c.answer_to_c.ensures.number c.answer_to_c.ensures.count c.delete-a.ensures.value c.delete-a.ensures.out_after

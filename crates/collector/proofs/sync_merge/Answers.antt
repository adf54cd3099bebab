-- `collector::sync_merge` meets its contract: number, length and buffer are those of the call's reply.
use Rattle.collector.proofs.Endings.{answer_called}
use Rattle.collector.proofs.sync_merge.Goals as goal

pub returns : goal.returns
returns c = answer_called _ _ _ _ _ _ _ c.answer_to_c.ensures.number c.answer_to_c.ensures.count c.merge-a.ensures.value c.merge-a.ensures.out_after

-- `collector::sync_learned` meets its contract: the values told are those of the part that the definition gives.
use Rattle.collector.proofs.Places.{part_called}
use Rattle.collector.proofs.sync_learned.Goals as goal

pub returns : goal.returns
returns c = part_called _ _ c.learned_part-p.ensures _ _ _ _ _ _ _ c.part_to_c.ensures

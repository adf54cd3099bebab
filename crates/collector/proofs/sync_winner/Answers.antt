-- `collector::sync_winner` meets its contract: the values told are those of the part that the definition gives.
use Rattle.collector.proofs.Places.{side_called}
use Rattle.collector.proofs.sync_winner.Goals as goal

pub returns : goal.returns
returns c = side_called _ _ c.winner_part-p.ensures _ _ _ _ _ _ _ c.part_to_c.ensures

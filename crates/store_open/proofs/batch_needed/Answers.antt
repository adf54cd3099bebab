-- `store_open::batch_needed` meets its contract: the check of the needed knowledge, and then that of the learned one.
use Rattle.store_open.proofs.Batch.{batch_needed_lem}
use Rattle.store_open.proofs.batch_needed.Goals as goal

pub returns-in_default : goal.returns-in_default
returns-in_default c = λ m few. batch_needed_lem _ _ m _ _ _ _ c.requires few _ (c.normal_part.ensures m) c.in_default.is

pub batch_learned-requires : goal.batch_learned-requires
batch_learned-requires c = (c.requires, λ n. (c.normal_part.ensures n).normal _ c.in-Some.is)

pub returns : goal.returns
returns c = c.batch_learned.ensures

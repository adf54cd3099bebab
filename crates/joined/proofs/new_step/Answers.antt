-- `joined::new_step` meets its contract: the equations are those of the C function, and by them it makes the call of a list.
use Rattle.joined.proofs.Steps.{called_of, new_called}
use Rattle.joined.proofs.new_step.Goals as goal

pub returns : goal.returns
returns c = let e = c.sync_new.ensures in
    new_called _ _ _ _ _ _ (called_of _ _ _ _ _ _ e.0 e.1.0 e.1.1)

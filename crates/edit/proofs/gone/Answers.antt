-- `edit::gone` meets its contract, for a record that was found and for none.
use Rattle.edit.proofs.Changing.{gone_at, gone_nothing}
use Rattle.edit.proofs.gone.Goals as goal

pub returns-in-Some : goal.returns-in-Some
returns-in-Some c = gone_at _ _ _ c.in-Some.is _ c.tombstone.ensures

pub returns-in-None : goal.returns-in-None
returns-in-None c = gone_nothing _ _ c.in-None.is

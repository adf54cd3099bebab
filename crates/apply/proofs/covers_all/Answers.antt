-- `apply::covers_all` meets its contract: the words of the span are the first and the last id of all.
use Rattle.apply.proofs.Merged.{all_covered}
use Rattle.apply.proofs.covers_all.Goals as goal

pub returns : goal.returns
returns c = all_covered _ _ _ _ _ _ c.requires.0 c.requires.1 _ c.covers.ensures

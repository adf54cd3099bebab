-- `stopping::row_bound` meets its contract: the bound is the three words of the row.
use mathlib.Core.Path.{refl}
use Rattle.sampling.proofs.Bounds.{bound_words_lem}
use Rattle.stopping.proofs.row_bound.Goals as goal

pub returns-clause-value : goal.returns-clause-value
returns-clause-value c = bound_words_lem _ _ _ _ _ refl refl refl

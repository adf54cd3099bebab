-- `check_parts::vector_list` meets its contract: the first vector, then those after it.
use Rattle.std.proofs.Common.{refl}
use Rattle.layout.specs.Got.{got_of}
use Rattle.check_fields.proofs.Steps.{passed}
use Rattle.check_fields.proofs.Vector.{first_fault_lem, first_on}
use Rattle.check_parts.proofs.vector_list.Goals as goal

pub returns-in_err-first : goal.returns-in_err-first
unfolding got_of
returns-in_err-first c = passed _ _ c.from_residual.ensures.1 _ (first_fault_lem _ _ _ _ _ c.in_err-first.ensures _ refl)

pub returns : goal.returns
unfolding got_of
returns c = first_on _ _ _ _ _ c.in_ok-first.ensures _ _ refl _ c.more_vectors.ensures

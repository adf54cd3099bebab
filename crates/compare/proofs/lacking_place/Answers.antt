-- `compare::lacking_place` meets its contract: nothing lacks, or the search begins where both are no longer known to be alike.
use Rattle.compare.proofs.Calls.{place_nowhere, place_found}
use Rattle.compare.proofs.lacking_place.Goals as goal

pub returns-in_err-first : goal.returns-in_err-first
returns-in_err-first c = rw c.from_residual.ensures (place_nowhere _ _ _ c.requires.2 c.in_err-first.was)

pub returns : goal.returns
returns c = let pre = c.requires in
    place_found _ _ _ _ _ _ _ pre.2 _ _ c.lacking.ensures pre.0 pre.1 c.in_ok-first.was

-- `apply::covers_needed` meets its contract: the words of the span are its ids.
use Rattle.apply.proofs.Applying.{needed_covered}
use Rattle.apply.proofs.covers_needed.Goals as goal

pub returns : goal.returns
returns c = needed_covered _ _ _ _ _ _ c.args.batch.now c.requires.0 c.requires.1 c.requires.2 c.requires.3 _ _
    c.from_bytes-first.ensures.value c.from_bytes-last.ensures.value _ c.covers.ensures

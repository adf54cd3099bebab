-- `cover::cover` meets its contract: document 01's rules are those of its two numbers.
use Rattle.cover.proofs.Calls.{cover_basic}
use Rattle.cover.proofs.cover.Goals as goal

pub returns : goal.returns
returns c = cover_basic _ _ _ _ _ c.cover_within.ensures

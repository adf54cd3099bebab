-- `cover::level` meets its contract: a key that there is none of has no tick.
use Rattle.cover.proofs.Steps.{level_none, level_read}
use Rattle.cover.proofs.level.Goals as goal

pub returns-in_default : goal.returns-in_default
returns-in_default c = level_none _ _ _ _ c.in_default.ensures.lookup.3

pub returns : goal.returns
returns c = let there = c.in-Some.ensures.lookup in
    level_read _ _ _ _ _ _ there.3.0 (there.3.1 0) c.tick_in.ensures

-- `lookup::known_tick` meets its contract: the range, the key, and the tick of the key in the vector of the range.
use Rattle.lookup.proofs.Loops.{tick_from_lem}
use Rattle.lookup.proofs.known_tick.Goals as goal

pub returns : goal.returns
returns c = tick_from_lem _ _ _ _ _ _ _ _ c.advance-d.ensures c.key_of-key.ensures c.tick_at.ensures

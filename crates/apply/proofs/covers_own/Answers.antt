-- `apply::covers_own` meets its contract: the largest own tick of learned is compared with the store's.
use mathlib.Core.Path.{refl}
use Rattle.apply.proofs.Applying.{own_covered_lem}
use Rattle.apply.proofs.covers_own.Goals as goal

pub returns : goal.returns
returns c = let h = c.requires in
    own_covered_lem _ _ _ _ _ _ _ h.0 h.1 h.2 _ c.known_tick-mine.ensures _ c.key_of-key.ensures
    _ c.top_key-top.ensures _ refl

-- `lookup_ranges::own_alike` meets its contract: the tick at item 0 is that of every range.
use Rattle.lookup_ranges.proofs.Ranges.{alike_is}
use Rattle.lookup_ranges.proofs.own_alike.Goals as goal

pub returns : goal.returns
returns c = alike_is _ _ _ _ _ _ _ _ c.key_of-key.ensures c.advance-first.ensures
    c.tick_at-own.ensures c.alike.ensures

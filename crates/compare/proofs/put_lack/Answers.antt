-- `compare::put_lack` meets its contract: nothing, or the place with the two ticks that lookup finds there, one field behind the other.
use Rattle.compare.proofs.Calls.{lack_nothing, lack_wrote}
use Rattle.compare.proofs.put_lack.Goals as goal

pub returns-in_default : goal.returns-in_default
returns-in_default c = let a = c.args in
    lack_nothing a.s.now a.v.r a.v.start a.t.now a.w.r a.w.start _ _ _ c.in_default.is

pub returns : goal.returns
returns c = lack_wrote _ _ _ _ _ _ _ _ _ _ _ _ _ _ _ _ c.in-Some.is c.requires.0 c.requires.1 c.known_tick-a.ensures
    c.known_tick-b.ensures c.write_item.ensures
    c.write_replica.ensures
    c.write.ensures c.write-2.ensures

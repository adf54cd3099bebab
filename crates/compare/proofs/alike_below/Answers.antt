-- `compare::alike_below` meets its contract: where the ids are the same it is as far as `alike_from` came, and else item 0.
use Rattle.compare.proofs.HowFar.{same_room, maps_same, reached_none}
use Rattle.compare.proofs.alike_below.Goals as goal

pub same_ids-requires : goal.same_ids-requires
same_ids-requires c = let pre = c.requires in
    same_room _ _ _ _ _ _ pre.0 pre.1 c.if-v-w.true

pub alike_from-requires : goal.alike_from-requires
alike_from-requires c = let pre = c.requires in
    (pre.0, pre.1, maps_same _ _ _ _ _ _ pre.0 pre.1 c.if-v-w.true (c.same_ids.ensures c.if-same_ids.true))

pub returns : goal.returns
returns c = (reached_none _ _, reached_none _ _)

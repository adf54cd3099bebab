-- `lookup_ranges::top_of` meets its contract. The loop's invariant: the largest tick of all elements is that of the largest so far
-- and those that are left.
use native.Mathlib.Omega.{arith}
use Rattle.leaves.proofs.Part.{part_is}
use Rattle.lookup_ranges.proofs.Ranges.{top_begins, top_next, top_end}
use Rattle.lookup_ranges.proofs.top_of.Goals as goal

pub loop-i-init : goal.loop-i-init
loop-i-init c = top_begins _ _ _ _ c.elements_at-n.ensures

pub loop-i-preserved : goal.loop-i-preserved
loop-i-preserved c = top_next _ _ _ _ _ _ c.loop-i.invariant _ _ (part_is _ _ _ _ c.first.ensures.0 (omega arith)) c.max-top.ensures (omega arith)

pub returns : goal.returns
returns c = top_end _ _ _ _ _ _ c.loop-i.invariant (omega arith)

-- `lookup_ranges::largest_from` meets its contract. The loop's invariant: the largest tick of all ranges is that of the largest so far
-- and those that are left.
use native.Mathlib.Omega.{arith}
use Rattle.std.proofs.Common.{rules}
use Rattle.lookup_ranges.proofs.Ranges.{tops_there, tops_next, tops_end}
use Rattle.lookup_ranges.proofs.largest_from.Goals as goal

pub loop-preserved : goal.loop-preserved
loop-preserved c = record {
  whole = tops_next _ _ _ _ _ c.loop.invariant.whole _ _ c.past-c.ensures c.top_of-top.ensures (omega arith);
  room = search rules;
  left = search rules;
}

pub returns : goal.returns
returns c = tops_there _ _ c.args.v.start _ (c.beyond.ensures.1 c.if-beyond.false) (tops_end _ _ _ _ _ c.loop.invariant.whole (omega arith))

-- `lookup_ranges::top_key` meets its contract. The loop's invariant: the key's largest tick of all ranges is that of the largest so far
-- and those that are left.
use native.Mathlib.Omega.{arith}
use Rattle.std.proofs.Common.{rules}
use Rattle.lookup_ranges.proofs.Ranges.{keys_there, keys_next, keys_end}
use Rattle.lookup_ranges.proofs.top_key.Goals as goal

pub loop-preserved : goal.loop-preserved
loop-preserved c = record {
  whole = keys_next _ _ _ _ _ _ c.loop.invariant.whole _ _ _ c.past-c.ensures c.tick_at.ensures c.max-top.ensures (omega arith);
  room = search rules;
  left = search rules;
}

pub returns : goal.returns
returns c = keys_there _ _ c.args.v.start _ _ (c.beyond.ensures.1 c.if-beyond.false) (keys_end _ _ _ _ _ _ c.loop.invariant.whole (omega arith))

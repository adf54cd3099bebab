-- `lookup_ranges::alike` meets its contract. The loop's invariant: the whole answer is the answer for the ranges that are left.
use native.Mathlib.Omega.{arith}
use Rattle.std.proofs.Common.{rules}
use Rattle.lookup_ranges.proofs.Ranges.{alike_there, alike_next, alike_stop, alike_end}
use Rattle.lookup_ranges.proofs.alike.Goals as goal

pub returns-then-tick_at-own : goal.returns-then-tick_at-own
returns-then-tick_at-own c = alike_there _ _ c.args.v.start _ _ _ (c.beyond.ensures.1 c.if-beyond.false)
    (alike_stop _ _ _ _ _ _ c.loop.invariant.whole _ _ c.past-c.ensures c.tick_at.ensures (omega arith) c.if-tick_at-own.true)

pub loop-preserved : goal.loop-preserved
loop-preserved c = record {
  whole = alike_next _ _ _ _ _ _ c.loop.invariant.whole _ _ c.past-c.ensures c.tick_at.ensures (omega arith) c.if-tick_at-own.false;
  room = search rules;
  left = search rules;
}

pub returns : goal.returns
returns c = alike_there _ _ c.args.v.start _ _ _ (c.beyond.ensures.1 c.if-beyond.false) (alike_end _ _ _ _ _ _ c.loop.invariant.whole (omega arith))

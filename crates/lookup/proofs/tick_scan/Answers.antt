-- `lookup::tick_scan` meets its contract. The loop's invariant: the tick of the key in the vector is its tick among the
-- elements that are left.
use Rattle.std.proofs.Common.{◌≡◌, ◌+◌, ◌*◌, ◌≤◌, length, arith}
use Rattle.leaves.proofs.Part.{part_is}
use Rattle.lookup.proofs.Loops.{elements_found, elements_next, elements_none, tick_is}
use Rattle.lookup.proofs.tick_scan.Goals as goal

pub returns-then-first-from : goal.returns-then-first-from
returns-then-first-from c =
    let room = c.requires.room (omega arith) in
    tick_is _ _ _ _ _ c.requires
    (elements_found _ _ _ _ _ _ c.loop-k.invariant _ _ (part_is _ _ _ _ c.first.ensures.0 (omega arith))
    (part_is _ _ _ _ c.first-then-first-from.ensures.0 (omega arith)) c.loop-k-test.true (omega arith))

pub loop-k-preserved : goal.loop-k-preserved
loop-k-preserved c =
    let room = c.requires.room (omega arith) in
    let k = c.loop-k.k in
    let step : c.args.vector + 8 + 12 * (k + 1) ≡ c.args.vector + 8 + 12 * k + 12 = omega arith in
    rw step
    (elements_next _ _ _ _ _ _ c.loop-k.invariant _ (part_is _ _ _ _ c.first.ensures.0 (omega arith)) c.loop-k-test.true
    (λ e. c.if-first-from.false (omega arith)))

pub returns : goal.returns
returns c = tick_is _ _ _ _ _ c.requires (elements_none _ _ _ _ _ _ c.loop-k.invariant c.loop-k-test.false)

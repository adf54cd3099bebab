-- `lookup::tick_at` meets its contract. The elements that were counted are all there, so the one whose index is the key is there too
-- where the key is below their number; it has the key, or the search finds what the definition says.
use Rattle.std.proofs.Common.{arith}
use Rattle.leaves.proofs.Part.{part_is}
use Rattle.lookup.proofs.Loops.{tick_beyond, tick_guessed, tick_other}
use Rattle.lookup.proofs.tick_at.Goals as goal

pub returns-then-n-guess : goal.returns-then-n-guess
returns-then-n-guess c = tick_beyond _ _ _ _ c.elements_at-n.ensures.is _ c.if-n-guess.true c.tick_scan.ensures

pub returns-then-first-from : goal.returns-then-first-from
returns-then-first-from c = let room = c.elements_at-n.ensures.room (omega arith) in
    tick_guessed _ _ _ _ c.elements_at-n.ensures.is _ c.if-n-guess.false (part_is _ _ _ _ c.first.ensures.0 (omega arith)) _
    (omega arith) (part_is _ _ _ _ c.first-then-first-from.ensures.0 (omega arith))

pub returns : goal.returns
returns c = let room = c.elements_at-n.ensures.room (omega arith) in
    tick_other _ _ _ _ c.elements_at-n.ensures.is _ c.if-n-guess.false (part_is _ _ _ _ c.first.ensures.0 (omega arith)) _
    (λ e. c.if-first-from.false (omega arith)) c.tick_scan-2.ensures

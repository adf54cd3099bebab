-- `results_copied::write_tick` meets its contract. The elements that were counted are all there, so the one whose index is the key is there too
-- where the key is below their number; it has the key, or the search writes what the definition says.
use native.Mathlib.Omega.{arith}
use Rattle.leaves.proofs.Part.{part_is}
use Rattle.results_copied.proofs.Loops.{written_beyond, written_other, written_guessed}
use Rattle.results_copied.proofs.write_tick.Goals as goal
use Rattle.results_copied.proofs.write_tick.Goals.{then-guess-n+else-first-from, else-guess-n}

pub returns-then-first-from : goal.returns-then-first-from
returns-then-first-from c = let there = c.requires in
    let room = there.room (omega arith) in
    written_guessed _ _ _ _ _ _ _ there c.if-guess-n.true _ (part_is _ _ _ _ c.first.ensures.0 (omega arith))
    (omega arith) c.write.ensures

pub returns : goal.returns
returns c = let there = c.requires in
    elim c.if-guess-n.branch [
      | then-guess-n+else-first-from w ↦ let room = there.room (omega (arith, w.if-guess-n.true)) in
          written_other _ _ _ _ _ _ _ there c.write_first.ensures w.if-guess-n.true _
          (part_is _ _ _ _ w.first.ensures.0 (omega arith)) (λ e. w.if-first-from.false (omega arith))
      | else-guess-n w ↦ written_beyond _ _ _ _ _ _ _ there c.write_first.ensures w.if-guess-n.false
    ]

-- `cover::tick_in` meets its contract: the element at the key's index, or what lookup finds.
use Rattle.leaves.proofs.Part.{part_is}
use Rattle.lookup.proofs.Loops.{tick_guessed}
use native.Mathlib.Omega.{arith}
use Rattle.cover.proofs.tick_in.Goals as goal

pub returns-then-first-from : goal.returns-then-first-from
returns-then-first-from c = tick_guessed _ _ _ _ c.requires.is _ c.if-n-guess.false
    (part_is _ _ _ _ c.first.ensures.0 (omega (arith, c.requires.room (omega arith)))) _ (omega arith)
    (part_is _ _ _ _ c.first-then-first-from.ensures.0 (omega (arith, c.requires.room (omega arith))))

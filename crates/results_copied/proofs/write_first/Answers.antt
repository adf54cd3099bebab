-- `results_copied::write_first` meets its contract. The loop's invariant: writing among all elements is writing among those that are left.
use mathlib.Core.Path.{refl}
use native.Mathlib.Omega.{arith}
use Rattle.leaves.proofs.Part.{part_is}
use Rattle.results_copied.proofs.Loops.{first_start, first_found, first_on, first_end}
use Rattle.results_copied.proofs.write_first.Goals as goal

pub loop-i-init : goal.loop-i-init
loop-i-init c = (first_start _ _ _ _ _ _, refl)

pub returns-then-first-from : goal.returns-then-first-from
returns-then-first-from c = let took = c.loop-i-test.true in
    let room = c.requires.room (omega arith) in
    first_found _ _ _ _ _ _ _ _ c.loop-i.invariant.0 took _ _ refl (part_is _ _ _ _ c.first.ensures.0 (omega arith))
    _ (omega arith) c.write.ensures

pub loop-i-preserved : goal.loop-i-preserved
loop-i-preserved c = let took = c.loop-i-test.true in
    let room = c.requires.room (omega arith) in (
      first_on _ _ _ _ _ _ _ _ c.loop-i.invariant.0 took _ _ refl (part_is _ _ _ _ c.first.ensures.0 (omega arith))
          (λ e. c.if-first-from.false (omega arith)),
      c.loop-i.invariant.1,
    )

pub returns : goal.returns
returns c = first_end _ _ _ _ _ _ _ _ c.loop-i.invariant.0 (omega arith)

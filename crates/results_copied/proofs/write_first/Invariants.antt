-- `results_copied::write_first` meets its contract. The loop's invariant: writing among all elements is writing among those that are left.
use Prim.Native.Nat.{◌+◌}
use mathlib.Core.Path.{◌≡◌}
use lib.ListN.{length}
use Rattle.layout.specs.Decode.{elements_at}
use Rattle.results_copied.specs.MethodRaised.{first_written}
use Rattle.results_copied.proofs.Loops.{left_from}
use Rattle.results_copied.proofs.write_first.Given as goal

abbrev pub invariant-loop-i : goal.invariant-loop-i
invariant-loop-i l = (first_written l.key.0 l.tick l.initial.out (l.vector + 8) (elements_at l.s l.n (l.vector + 8)) ≡ left_from l.key.0 l.tick l.s (l.vector + 8) l.n l.out l.i)
    × (length l.out ≡ length l.initial.out)

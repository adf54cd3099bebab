-- `results_copied::write_ticks` meets its contract. The loop's invariant: writing in all vectors is writing in those that are left; a place is at
-- most 8 bytes a vector past the end of the bytes.
use Prim.Native.Nat.{◌+◌, ◌-◌, ◌*◌, ◌≤◌}
use mathlib.Core.Path.{◌≡◌}
use lib.ListN.{length}
use Rattle.results_copied.specs.MethodRaised.{vectors_written}
use Rattle.results_copied.proofs.write_ticks.Given as goal

abbrev pub invariant-loop : goal.invariant-loop
invariant-loop l = (vectors_written l.key.0 l.tick l.s l.initial.out l.n l.start ≡ vectors_written l.key.0 l.tick l.s l.out (l.n - l.counter) l.at) × (length l.out ≡ length l.initial.out)
    × (l.at ≤ l.start + length l.s + 8 * l.counter)

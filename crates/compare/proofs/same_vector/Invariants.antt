-- `compare::same_vector` meets its contract. The loop's invariant: all elements are the same where those that are left are.
use Prim.Native.Nat.{◌+◌, ◌-◌, ◌*◌}
use Rattle.compare.proofs.HowFar.{ElementsFrom}
use Rattle.compare.proofs.same_vector.Given as goal

abbrev pub invariant-loop-i : goal.invariant-loop-i
invariant-loop-i l = ElementsFrom l.s l.a l.t l.b (l.n - l.i) (l.a + 8 + 12 * l.i) (l.b + 8 + 12 * l.i)

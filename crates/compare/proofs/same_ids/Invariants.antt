-- `compare::same_ids` meets its contract. The loop's invariant: all ids are the same where those that are left are.
use Prim.Native.Nat.{◌+◌, ◌-◌, ◌*◌}
use Rattle.layout.specs.MethodPlaces.{ids_place}
use Rattle.compare.proofs.HowFar.{IdsFrom}
use Rattle.compare.proofs.same_ids.Given as goal

abbrev pub invariant-loop-i : goal.invariant-loop-i
invariant-loop-i l = IdsFrom l.s l.t l.r (l.r - l.i) (ids_place + 16 * l.i)

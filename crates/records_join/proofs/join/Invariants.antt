-- `records_join::join` meets its contract. The loop's invariant: what is counted and stored so far, with what is left to join from the present
-- places on, is the whole. The measure is the bytes that are left on both sides.
use mathlib.Core.Path.{◌≡◌}
use Prim.Native.Nat.{◌+◌, ◌-◌}
use lib.ListN.{length}
use Rattle.records_join.proofs.Steps.{Joining}
use Rattle.records_join.proofs.join.Given as goal

abbrev pub invariant-loop-r : goal.invariant-loop-r
invariant-loop-r l = (Joining l.s l.a l.t l.b l.initial.chosen l.x l.y l.count l.size l.chosen) × (length l.chosen ≡ length l.initial.chosen)

abbrev pub decreases-loop-r : goal.decreases-loop-r
decreases-loop-r l = (length l.s - l.x) + (length l.t - l.y)

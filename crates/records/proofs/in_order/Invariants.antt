-- `records::in_order` meets its contract. The loop's invariant: the check of all records is the check of those that are left, above
-- the last item. Their places follow from their number, as all have one length.
use Prim.Native.Nat.{◌+◌, ◌-◌, ◌*◌}
use mathlib.Core.Path.{◌≡◌}
use Rattle.replication.specs.MethodRecords.{shaped_at}
use Rattle.records.specs.Method.{common_length, least}
use Rattle.records.proofs.in_order.Given as goal

abbrev pub invariant-loop-k : goal.invariant-loop-k
invariant-loop-k l = shaped_at l.s 0 l.n l.at ≡ shaped_at l.s (least l.last) (l.n - l.k) (l.at + common_length * l.k)

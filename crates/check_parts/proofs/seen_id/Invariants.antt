-- `check_parts::seen_id` meets its contract. The loop's invariant: the whole answer is the answer from here on.
use Rattle.std.proofs.Common.{◌≡◌, ◌+◌, ◌-◌, ◌*◌}
use Rattle.codec.specs.Ids.{replica_of}
use Rattle.layout.specs.Read.{among}
use Rattle.check_parts.proofs.seen_id.Given as goal

abbrev pub invariant-loop-i : goal.invariant-loop-i
invariant-loop-i l = among l.s 16 16 l.start l.k (replica_of l.fn.id) ≡ among l.s 16 16 (l.start + 16 * l.i) (l.k - l.i) (replica_of l.fn.id)

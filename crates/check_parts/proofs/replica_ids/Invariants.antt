-- `check_parts::replica_ids` meets its contract. The loop's invariant: the whole answer is the answer from here on, and the place is inside the bytes.
use Rattle.std.proofs.Common.{◌≡◌, ◌+◌, ◌-◌, ◌*◌, ◌≤◌, length}
use Rattle.layout.specs.Knowledge.{basic}
use Rattle.layout.specs.Read.{repeat, replica_id}
use Rattle.check_parts.proofs.replica_ids.Given as goal

abbrev pub invariant-loop-k : goal.invariant-loop-k
invariant-loop-k l = record {
  rest : repeat (replica_id basic.judge l.s l.start) l.n 0 l.start ≡ repeat (replica_id basic.judge l.s l.start) (l.n - l.k) l.x.number l.x.next;
  count : l.x.number ≡ l.k;
  place : l.x.next ≡ l.start + 16 * l.k;
  inside : l.x.next ≤ length l.s;
}

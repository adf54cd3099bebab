-- `check_parts::more_vectors` meets its contract. The loop's invariant: the whole answer is the answer from here on, and there are no more elements than bytes.
use Rattle.std.proofs.Common.{◌≡◌, ◌-◌, ◌≤◌}
use Rattle.layout.specs.Read.{repeat, vector}
use Rattle.check_parts.proofs.more_vectors.Given as goal

abbrev pub invariant-loop : goal.invariant-loop
invariant-loop l = record {
  rest : repeat (vector l.s l.r) (l.v - 1) 0 l.start ≡ repeat (vector l.s l.r) (l.v - l.counter) l.x.number l.x.next;
  few : l.x.number ≤ l.x.next;
}

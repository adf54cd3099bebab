-- `check_fields::elements` meets its contract. The loop's invariant: the whole answer is the answer from here on, and the place is inside the bytes.
use Rattle.std.proofs.Common.{◌≡◌, ◌+◌, ◌-◌, ◌*◌, ◌≤◌, length}
use Rattle.layout.specs.Read.{repeat, element}
use Rattle.check_fields.proofs.elements.Given as goal

abbrev pub invariant-loop-k : goal.invariant-loop-k
invariant-loop-k l = record {
  rest : repeat (element l.s l.r l.start) l.n 0 l.start ≡ repeat (element l.s l.r l.start) (l.n - l.k) l.x.number l.x.next;
  count : l.x.number ≡ l.k;
  place : l.x.next ≡ l.start + 12 * l.k;
  inside : l.x.next ≤ length l.s;
}

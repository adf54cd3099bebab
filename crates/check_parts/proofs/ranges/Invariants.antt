-- `check_parts::ranges` meets its contract. The loop's invariant: the whole answer is the answer from here on, after the bound before, and the place is inside the bytes.
use Rattle.std.proofs.Common.{◌≡◌, ◌+◌, ◌-◌, ◌*◌, ◌≤◌, length}
use Rattle.layout.specs.Read.{repeat, range}
use Rattle.check_parts.specs.Method.{lowest}
use Rattle.check_parts.proofs.ranges.Given as goal

abbrev pub invariant-loop-k : goal.invariant-loop-k
invariant-loop-k l = record {
  rest : repeat (range l.s l.v) l.g 0 l.start ≡ repeat (range l.s l.v) (l.g - l.k) (lowest l.before) (l.start + 28 * l.k);
  inside : l.start + 28 * l.k ≤ length l.s;
}

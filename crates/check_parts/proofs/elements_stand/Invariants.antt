-- `check_parts::elements_stand` meets its contract. The loop's invariant: while nothing wrong was gathered, the whole answer is the answer from here on, and a key without a mark was not met.
use Rattle.std.proofs.Common.{◌≡◌, false, length}
use Rattle.layout.specs.Permitted.{largest_replicas}
use Rattle.check_parts.proofs.Marked.{Marked}
use Rattle.check_parts.proofs.elements_stand.Given as goal

abbrev pub invariant-loop-k : goal.invariant-loop-k
invariant-loop-k l = record {
  places : length l.seen ≡ largest_replicas;
  marked : l.twice ≡ false → l.late ≡ false → Marked l.s l.r l.start l.n l.k l.seen;
}

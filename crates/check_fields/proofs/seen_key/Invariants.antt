-- `check_fields::seen_key` meets its contract. The loop's invariant: the whole answer is the answer from here on.
use Rattle.std.proofs.Common.{◌≡◌, ◌+◌, ◌-◌, ◌*◌}
use Rattle.layout.specs.Read.{among}
use Rattle.check_fields.proofs.seen_key.Given as goal

abbrev pub invariant-loop-i : goal.invariant-loop-i
invariant-loop-i l = among l.s 4 12 l.start l.k l.key ≡ among l.s 4 12 (l.start + 12 * l.i) (l.k - l.i) l.key

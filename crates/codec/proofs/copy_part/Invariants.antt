-- `codec::copy_part` meets its contract. The loop's invariant: the part is there and has room, its first k bytes stand in their
-- place, and `dst` is as long as it was.
use Rattle.std.proofs.Common.{◌≡◌, ◌+◌, ◌≤◌, length}
use Rattle.codec.specs.Part.{part}
use Rattle.codec.proofs.Writing.{copying}
use Rattle.codec.proofs.copy_part.Given as goal

abbrev pub invariant-loop-k : goal.invariant-loop-k
invariant-loop-k l = (l.from + l.n ≤ length l.src) × (l.at + l.n ≤ length l.initial.dst) × (l.dst ≡ copying l.initial.dst l.at (part l.src l.from l.n) l.k)
    × (length l.dst ≡ length l.initial.dst)

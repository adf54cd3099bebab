-- `codec::write` meets its contract. The loop's invariant: the bytes before the index stand in their places.
use Rattle.std.proofs.Common.{◌≡◌, ◌+◌, ◌≤◌, length}
use Rattle.codec.specs.Part.{bytes}
use Rattle.codec.proofs.Writing.{copying}
use Rattle.codec.proofs.write.Given as goal

abbrev pub invariant-loop-i : goal.invariant-loop-i
invariant-loop-i g l =
    (l.at + l.n ≤ length l.initial.out) × (l.out ≡ copying l.initial.out l.at (bytes l.n l.x) l.i)

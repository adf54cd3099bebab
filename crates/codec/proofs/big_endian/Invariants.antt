-- `codec::big_endian` meets its contract. The loop's invariant: x is the number of the bytes before the index, and fits them.
use Rattle.std.proofs.Common.{◌≡◌, ◌^◌, ◌<◌}
use Rattle.codec.specs.Number.{be_at}
use Rattle.codec.proofs.big_endian.Given as goal

abbrev pub invariant-loop-b : goal.invariant-loop-b
invariant-loop-b l = (l.x ≡ be_at l.w l.b-index 0) × (l.x < 256 ^ l.b-index)

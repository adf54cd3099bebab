-- The answer of a call that returns a part of the bytes given: no part, one of the store's bytes or of the batch's with its place and
-- length, or the refusal's number. In the code it is a `Result`.
use Rattle.std.specs.Prelude.{ℕ, Option, Some, None, Result, Ok, Err}
use Rattle.codec.specs.declared.Refusal.{Refusal}
use Rattle.codec.specs.Refusal.{number}
use Rattle.replication.specs.declared.Location.{Location}
use Rattle.replication.specs.declared.Side.{Side}
use Rattle.replication.specs.declared.Side.TheVariants.{Store, Batch}

pub data Part : Type 0 where
  Nothing : Part
  OfStore : ℕ → ℕ → Part
  OfBatch : ℕ → ℕ → Part
  Refused : ℕ → Part

unfoldable pub located : Side → ℕ → ℕ → Part
located Store at n = OfStore at n
located Batch at n = OfBatch at n

unfoldable pub part_of : Result (Option Location) Refusal → Part
part_of (Ok None) = Nothing
part_of (Ok (Some l)) = located l.side l.at l.length
part_of (Err e) = Refused (number e)

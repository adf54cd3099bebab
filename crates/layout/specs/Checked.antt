-- The answer of the check of a knowledge: the replicas, the clock vectors, the elements of all vectors and the ranges, or the refusal's
-- number. In the code it is a `Result`.
use Rattle.std.specs.Prelude.{ℕ, Result, Ok, Err}
use Rattle.codec.specs.declared.Refusal.{Refusal}
use Rattle.codec.specs.Refusal.{number}
use Rattle.layout.specs.declared.Counts.{Counts}

pub data Checked : Type 0 where
  Accepted : ℕ → ℕ → ℕ → ℕ → Checked
  Refused : ℕ → Checked

unfoldable pub checked_of : Result Counts Refusal → Checked
checked_of (Ok n) = Accepted n.r n.v n.e n.g
checked_of (Err e) = Refused (number e)

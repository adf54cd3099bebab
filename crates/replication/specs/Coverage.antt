-- The answer of coverage: the records whose change version the knowledge contains, the records in all, and 1000 times their ratio; or
-- the refusal's number. In the code it is a `Result`.
use Rattle.std.specs.Prelude.{ℕ, Result, Ok, Err}
use Rattle.codec.specs.declared.Refusal.{Refusal}
use Rattle.codec.specs.Refusal.{number}
use Rattle.replication.specs.declared.Counted.{Counted}

pub data Coverage : Type 0 where
  Covered : ℕ → ℕ → ℕ → Coverage
  Refused : ℕ → Coverage

unfoldable pub coverage_of : Result Counted Refusal → Coverage
coverage_of (Ok c) = Covered c.contained c.all c.thousandths
coverage_of (Err e) = Refused (number e)

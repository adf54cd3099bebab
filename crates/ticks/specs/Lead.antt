-- The answer of lead: the first knowledge's tick minus the second's, or the refusal's number. In the code it is a `Result`.
use Rattle.std.specs.Prelude.{ℕ, ℤ, Result, Ok, Err}
use Rattle.codec.specs.declared.Refusal.{Refusal}
use Rattle.codec.specs.Refusal.{number}

pub data Lead : Type 0 where
  Ahead : ℤ → Lead
  Refused : ℕ → Lead

unfoldable pub lead_given : Result ℤ Refusal → Lead
lead_given (Ok x) = Ahead x
lead_given (Err e) = Refused (number e)

-- The answer of a call that writes, as document 01 gives it: how many bytes were written from the front of the buffer, or the
-- refusal's number. In the code it is a `Result`.
use Rattle.std.specs.Prelude.{ℕ, Result, Ok, Err}
use Rattle.codec.specs.declared.Refusal.{Refusal}
use Rattle.codec.specs.Refusal.{number}

pub data Answer : Type 0 where
  Written : ℕ → Answer
  Refused : ℕ → Answer

unfoldable pub answer_of : Result ℕ Refusal → Answer
answer_of (Ok n) = Written n
answer_of (Err e) = Refused (number e)

-- The answer of cover: the first knowledge knows at least as much as the second throughout the span, it does not, or the refusal's
-- number. In the code it is a `Result`.
use Rattle.std.specs.Prelude.{ℕ, Bool, true, false, Result, Ok, Err}
use Rattle.codec.specs.declared.Refusal.{Refusal}
use Rattle.codec.specs.Refusal.{number}

pub data Cover : Type 0 where
  Covers : Cover
  Lacks : Cover
  Refused : ℕ → Cover

unfoldable pub cover_of : Result Bool Refusal → Cover
cover_of (Ok true) = Covers
cover_of (Ok false) = Lacks
cover_of (Err e) = Refused (number e)

-- The answer of contain: the version is contained, it is not, or the refusal's number. In the code it is a `Result`.
use Rattle.std.specs.Prelude.{ℕ, Bool, true, false, Result, Ok, Err}
use Rattle.codec.specs.declared.Refusal.{Refusal}
use Rattle.codec.specs.Refusal.{number}

pub data Contain : Type 0 where
  Contained : Contain
  Lacking : Contain
  Refused : ℕ → Contain

unfoldable pub contain_of : Result Bool Refusal → Contain
contain_of (Ok true) = Contained
contain_of (Ok false) = Lacking
contain_of (Err e) = Refused (number e)

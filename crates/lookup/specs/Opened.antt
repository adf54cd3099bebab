-- What the check of a knowledge comes to for lookup: a view, or the refusal's number. In the code it is a `Result`.
use Rattle.std.specs.Prelude.{ℕ, Result, Ok, Err}
use Rattle.codec.specs.declared.Refusal.{Refusal}
use Rattle.codec.specs.Refusal.{number}
use Rattle.lookup.specs.declared.View.{View}

pub data Opened : Type 0 where
  At : View → Opened
  Refused : ℕ → Opened

unfoldable pub opened_of : Result View Refusal → Opened
opened_of (Ok v) = At v
opened_of (Err e) = Refused (number e)

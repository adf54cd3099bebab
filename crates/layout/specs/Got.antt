-- What reading one part of the bytes comes to: a number and the place after the part, or the number of the fault. In the code it is
-- a `Result`.
use Rattle.std.specs.Prelude.{ℕ, Result, Ok, Err}
use Rattle.codec.specs.declared.Refusal.{Refusal}
use Rattle.codec.specs.Refusal.{number}
use Rattle.layout.specs.declared.Read.{Read}

pub data Got : Type 0 where
  Num : ℕ → ℕ → Got
  Fault : ℕ → Got

unfoldable pub got_of : Result Read Refusal → Got
got_of (Ok x) = Num x.number x.next
got_of (Err e) = Fault (number e)

-- What reading bytes as a knowledge, a store or a batch comes to: the value, or the number of its fault. And the line that this is in
-- a call's table of refusals.
use Rattle.std.specs.Prelude.{ℕ, Bool, true, false}
use Rattle.codec.specs.Reply.{Line}

pub data Parsed (A : Type 0) : Type 0 where
  accepted : A → Parsed A
  refused : ℕ → Parsed A

abbrev pub line : ℕ → Bool → Line
line n b = record { number = n; holds = b }

-- the bytes' own fault, where they have one
unfoldable pub own_fault : {A : Type 0} → Parsed A → Line
own_fault (accepted x) = line 0 false
own_fault (refused n) = line n true

-- the value; where the bytes are refused, another one, which is of no account: the table's line of their own fault holds
unfoldable pub read_or : {A : Type 0} → A → Parsed A → A
read_or other (accepted x) = x
read_or other (refused n) = other

-- The answer of a call that writes. Document 01: "Only the number returns; buffers are unaltered" on a refusal;
-- demand 1: "a success writes the stated bytes from the front and none after them."
use Rattle.std.specs.Prelude.{ℕ, Bool, true, false, List, [], ◌∷◌, ◌++◌, leb, length, drop}
use Rattle.codec.specs.Answer.{Answer}
use Rattle.codec.specs.Answer.{Written, Refused}

-- what a call comes to before its output buffer is looked at: the bytes to be written, or the refusal's number
pub data Reply : Type 0 where
  gives : List ℕ → Reply
  refuses : ℕ → Reply

-- 14: the output buffer is shorter than the result. It is the last line of document 01's table.
unfoldable pub answer : Reply → ℕ → Answer
answer (gives bs) room = elim (leb (length bs) room) [ true ↦ Written (length bs) | false ↦ Refused 14 ]
answer (refuses n) room = Refused n

-- the output buffer after the call: the bytes, then the rest as it was; on a refusal, 14 too, all as it was
unfoldable pub after : Reply → List ℕ → List ℕ
after (gives bs) out = elim (leb (length bs) (length out)) [ true ↦ bs ++ drop (length bs) out | false ↦ out ]
after (refuses n) out = out

-- an answer's number, 0 where nothing is refused, and how many bytes were written: the old value where the call is refused
unfoldable pub number_of : Answer → ℕ
number_of (Written n) = 0
number_of (Refused n) = n

unfoldable pub written_of : Answer → ℕ → ℕ
written_of (Written n) old = n
written_of (Refused n) old = old

-- a line of a table of refusals: a number, and whether its condition holds
pub record Line : Type 0 where
  pub number : ℕ
  pub holds : Bool

-- the answer of every call: the first line whose condition holds gives the refusal with its number; where none does, what was found stands
unfoldable pub first_fault : {A : Type 0} → (ℕ → A) → List Line → A → A
first_fault refusal [] found = found
first_fault refusal (l ∷ ls) found = elim l.holds [ true ↦ refusal l.number | false ↦ first_fault refusal ls found ]

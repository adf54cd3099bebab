-- What a call that writes owes, in one word. There is nothing to believe here: the contracts of the public calls have the two
-- equations themselves.
use Rattle.std.specs.Prelude.{ℕ, ◌≡◌, List, length, Result, Ok, Err}
use Rattle.codec.specs.Reply.{Reply, answer, after}
use Rattle.codec.specs.Answer.{Answer, Written, Refused}

-- the call has ended as its reply says
pub record Ended (reply : Reply) (out after' : List ℕ) (a : Answer) : Type 0 where
  pub answers : a ≡ answer reply (length out)
  pub leaves : after' ≡ after reply out

-- the buffer and the answer that a call ends with
pub record End : Type 0 where
  pub out : List ℕ
  pub answer : Answer

abbrev pub end_of : List ℕ → Answer → End
end_of out a = record { out = out; answer = a }

-- the answer that a `Result` is whose errors have numbers; where they are refusals, `answer_of`
unfoldable pub answer_under : {E : Type 0} → (E → ℕ) → Result ℕ E → Answer
answer_under number_of (Ok n) = Written n
answer_under number_of (Err e) = Refused (number_of e)

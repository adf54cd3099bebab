-- How a call that writes ends for C: the number and the length are those of its answer, and the answer and the buffer are those
-- that its reply gives.
use mathlib.Core.Path.{◌≡◌, sym, ap, ◌∙◌}
use mathlib.Core.List.{List}
use Prim.Native.Nat.{ℕ}
use lib.ListN.{length}
use Rattle.codec.specs.Answer.{Answer}
use Rattle.codec.specs.Answer.{Written, Refused}
use Rattle.codec.specs.Reply.{Reply, answer, after, number_of, written_of}
use Rattle.collector.specs.Called.{Called}

pub answer_written : (a : Answer) (n old : ℕ) → a ≡ Written n → (0 ≡ number_of a) × (n ≡ written_of a old)
unfolding number_of written_of
answer_written a n old e = (sym (ap number_of e), sym (ap (λ x. written_of x old) e))

pub answer_refused : (a : Answer) (n old : ℕ) → a ≡ Refused n → (n ≡ number_of a) × (old ≡ written_of a old)
unfolding number_of written_of
answer_refused a n old e = (sym (ap number_of e), sym (ap (λ x. written_of x old) e))

pub answer_called : (r w old : ℕ) (a : Answer) (reply : Reply) (out u : List ℕ) → r ≡ number_of a → w ≡ written_of a old
    → a ≡ answer reply (length out) → u ≡ after reply out → Called reply r old w out u
answer_called r w old a reply out u e f g h = (e ∙ ap number_of g, (f ∙ ap (λ x. written_of x old) g, h))

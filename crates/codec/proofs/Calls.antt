-- How a call that writes ends. Where its reply refuses, it answers the number and leaves the buffer; where its reply gives bytes
-- and the buffer is shorter, it answers 14 and leaves the buffer; else it answers their count, and the buffer has the bytes
-- placed at its front. Each is one clause of `answer` and one of `after`.
use Rattle.std.proofs.Common.{◌≡◌, ℕ, ◌+◌, ◌<◌, ◌≤◌, List, ◌++◌, length, drop, ap, ◌∙◌, zero-add, arith, le-leb}
use borrow.Author.Tests.{lt-leb}
use Rattle.codec.specs.Answer.{Written, Refused}
use Rattle.codec.specs.Reply.{Reply, gives, refuses, answer, after}
use Rattle.codec.specs.Part.{placed}
use Rattle.codec.proofs.Writing.{placed_in}

module _ (reply : Reply) (out : List ℕ) where
  pub refused_answer : (n : ℕ) → reply ≡ refuses n → Refused n ≡ answer reply (length out)
  unfolding answer
  refused_answer n e = rw e

  pub refused_after : (n : ℕ) → reply ≡ refuses n → out ≡ after reply out
  unfolding after
  refused_after n e = rw e

  module _ (bs : List ℕ) (e : reply ≡ gives bs) where
    pub short_answer : length out < length bs → Refused 14 ≡ answer reply (length out)
    unfolding answer
    short_answer h = rw (e, lt-leb (length bs) (length out) h, answer)

    pub short_after : length out < length bs → out ≡ after reply out
    unfolding after
    short_after h = rw (e, lt-leb (length bs) (length out) h, after)

    pub written_answer : length bs ≤ length out → Written (length bs) ≡ answer reply (length out)
    unfolding answer
    written_answer h = rw (e, le-leb (length bs) (length out) h, answer)

    pub written_after : (u : List ℕ) → length bs ≤ length out → u ≡ placed out 0 bs → u ≡ after reply out
    unfolding after
    written_after u h p = rw (e, le-leb (length bs) (length out) h, after) (p ∙ front)
      where
        l : 0 + length bs ≤ length out
        l = omega arith

        front : placed out 0 bs ≡ bs ++ drop (length bs) out
        front = placed_in out 0 bs l ∙ ap (λ (n : ℕ). bs ++ drop n out) (zero-add (length bs))

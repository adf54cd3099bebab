-- Bytes that are copied as a whole are what a reply that gives them leaves: the part of a list from its front on, as long as the list, is
-- the list.
use mathlib.Core.Path.{◌≡◌, refl, ap, ◌∙◌}
use mathlib.Core.List.{List}
use Prim.Native.Nat.{ℕ, ◌+◌, ◌≤◌, ◌<◌}
use native.Mathlib.Omega.{arith}
use lib.ListN.{length}
use lib.Seq.{take_all}
use borrow.Author.Tests.{le-leb}
use Rattle.codec.specs.Part.{part, placed}
use Rattle.codec.specs.Reply.{gives}
use Rattle.codec.specs.MethodEnded.{Ended}
use Rattle.codec.specs.Answer.{Written, Refused}
use Rattle.codec.proofs.Calls.{short_answer, short_after, written_answer, written_after}

pub part_whole : (s : List ℕ) → part s 0 (length s) ≡ s
unfolding part
part_whole s = rw (le-leb (0 + length s) (length s) (omega arith), part) (take_all (length s) s (omega arith))

pub whole_short : (s out : List ℕ) → length out < length s → Ended (gives s) out out (Refused 14)
whole_short s out h = record { answers = short_answer (gives s) out s refl h; leaves = short_after (gives s) out s refl h }

pub whole_copied : (s out u : List ℕ) → length s ≤ length out → u ≡ placed out 0 (part s 0 (length s))
    → Ended (gives s) out u (Written (length s))
whole_copied s out u h e = record {
  answers = written_answer (gives s) out s refl h;
  leaves = written_after (gives s) out s refl u h (e ∙ ap (placed out 0) (part_whole s));
}

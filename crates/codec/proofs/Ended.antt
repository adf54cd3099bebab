-- A call that writes has ended as its reply says: how that is shown in each case of the reply, and what it says in each. And what the answer is
-- of a `Result` whose errors have numbers, by its cases.
use Rattle.std.proofs.Common.{◌≡◌, ℕ, ◌<◌, ◌≤◌, Bool, true, false, leb, List, length, sym, refl, ◌∙◌, leb-false, leb-true}
use Rattle.std.specs.Prelude.{Result, Ok, Err}
use Rattle.codec.specs.declared.Refusal.{Refusal}
use Rattle.codec.specs.Refusal.{number}
use Rattle.codec.specs.Answer.{Answer, answer_of}
use Rattle.codec.specs.Answer.{Written, Refused}
use Rattle.codec.specs.Reply.{Reply, gives, refuses}
use Rattle.codec.specs.Part.{placed}
use Rattle.codec.specs.MethodEnded.{Ended, answer_under}
use Rattle.codec.proofs.Calls.{refused_answer, refused_after, short_answer, short_after, written_answer, written_after}

module _ {E : Type 0} (number_of : E → ℕ) where
  pub written_under : (n : ℕ) → answer_under number_of (Ok n) ≡ Written n
  unfolding answer_under
  written_under n = refl

  pub refused_under : (e : E) → answer_under number_of (Err e) ≡ Refused (number_of e)
  unfolding answer_under
  refused_under e = refl

-- under the numbers of the refusals it is the answer of the call
pub under_refusals : (r : Result ℕ Refusal) → answer_under number r ≡ answer_of r
unfolding answer_of answer_under
under_refusals (Ok n) = refl
under_refusals (Err e) = refl

module _ (reply : Reply) (out : List ℕ) where
  pub ended_refused : (n : ℕ) → reply ≡ refuses n → Ended reply out out (Refused n)
  ended_refused n e = record { answers = refused_answer reply out n e; leaves = refused_after reply out n e }

pub ended_cases : (out u : List ℕ) (a : Answer) (C : Type 0) (reply : Reply) → Ended reply out u a
    → ((n : ℕ) → reply ≡ refuses n → a ≡ Refused n → u ≡ out → C)
    → ((bs : List ℕ) → reply ≡ gives bs → length out < length bs → a ≡ Refused 14 → u ≡ out → C)
    → ((bs : List ℕ) → reply ≡ gives bs → length bs ≤ length out → a ≡ Written (length bs) → u ≡ placed out 0 bs → C) → C
ended_cases out u a C (refuses n) h x y z =
    x n refl (h.answers ∙ sym (refused_answer (refuses n) out n refl)) (h.leaves ∙ sym (refused_after (refuses n) out n refl))
ended_cases out u a C (gives bs) h x y z = go (leb (length bs) (length out)) refl
  where
    go : (b : Bool) → leb (length bs) (length out) ≡ b → C
    go true e =
        let l = leb-true (length bs) (length out) e in
        z bs refl l (h.answers ∙ sym (written_answer (gives bs) out bs refl l))
        (h.leaves ∙ sym (written_after (gives bs) out bs refl (placed out 0 bs) l refl))
    go false e =
        let l = leb-false (length bs) (length out) e in
        y bs refl l (h.answers ∙ sym (short_answer (gives bs) out bs refl l)) (h.leaves ∙ sym (short_after (gives bs) out bs refl l))

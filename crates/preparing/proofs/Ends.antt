-- How a call ends that has prepared its table. What was prepared is what the call's reply says; so a call that refuses, finds its buffer
-- short or writes has ended as its reply says. The end that `finished` computes is one of these three, by the tests that it makes.
use Prim.Native.Nat.{ℕ, ◌≤◌, ◌<◌}
use mathlib.Core.Path.{◌≡◌, refl, sym, ap, ap₂, ◌∙◌, subst}
use mathlib.Core.List.{List}
use native.Mathlib.Omega.{arith}
use lib.ListN.{length, replicate}
use borrow.Author.Tests.{lt-ltb, le-ltb}
use Rattle.codec.specs.Reply.{Reply}
use Rattle.codec.specs.Answer.{Answer, answer_of}
use Rattle.codec.specs.Answer as A
use Rattle.codec.proofs.Calls.{short_answer, short_after, written_answer, written_after}
use Rattle.layout.specs.Knowledge.{Limits}
use Rattle.ticks.proofs.Lists.{order, less, same, more}
use Rattle.tables.specs.declared.Sizes.{Sizes}
use Rattle.tables.specs.MethodWords.{stride, most_rows}
use Rattle.tables.specs.MethodPlan.{length_of}
use Rattle.tables.specs.MethodPieces.{laid, page_pieces}
use Rattle.sampling.specs.declared.Filled.{Filled}
use Rattle.std.specs.Prelude.{Result, Ok, Err}
use Rattle.codec.specs.declared.Refusal.{Refusal}
use Rattle.codec.specs.Refusal.{number}
use Rattle.codec.specs.MethodEnded.{End, end_of, Ended, answer_under}
use Rattle.preparing.specs.MethodPrepared.{few, Plan, plan_of, planned, written_end, finished}
use Rattle.codec.proofs.Ended.{ended_refused}
use Rattle.preparing.specs.MethodPrepared.{planned_end, blank_end, concluded, Holds, Prepares}

module _ (reply : Reply) (out : List ℕ) where
  module _ (ids bounds t cols firsts numbers : List ℕ) (z : Sizes) (n : ℕ) (h : Holds reply ids bounds t cols firsts numbers z n) where
    pub ended_short : length out < length_of z → Ended reply out out (A.Refused 14)
    ended_short l = record {
      answers = short_answer reply out h.bs h.is (omega (arith, h.size));
      leaves = short_after reply out h.bs h.is (omega (arith, h.size));
    }

    pub ended_written : (u : List ℕ) (m : ℕ) → m ≡ length_of z → length_of z ≤ length out
        → u ≡ laid out 0 (page_pieces z ids bounds t n cols firsts numbers) → Ended reply out u (A.Written m)
    ended_written u m e l p = record {
      answers = ap A.Written (e ∙ sym h.size) ∙ written_answer reply out h.bs h.is (omega (arith, h.size));
      leaves = written_after reply out h.bs h.is u (omega (arith, h.size)) (p ∙ h.writes out 0 (omega arith));
    }

-- the end that is computed, by its cases
module _ (out ids bounds t cols firsts numbers : List ℕ) where
  module _ (z : Sizes) (n : ℕ) where
    pub end_short : length out < length_of z → end_of out (A.Refused 14) ≡ written_end out ids bounds t cols firsts numbers z n
    unfolding written_end
    end_short l = rw (lt-ltb (length out) (length_of z) l, written_end)

    pub end_written : (u : List ℕ) (m : ℕ) → length_of z ≤ length out → u ≡ laid out 0 (page_pieces z ids bounds t n cols firsts numbers)
        → m ≡ length_of z → end_of u (A.Written m) ≡ written_end out ids bounds t cols firsts numbers z n
    unfolding written_end
    end_written u m l e f =
        ap₂ (λ v k. end_of v (A.Written k)) e f ∙ rw (le-ltb (length out) (length_of z) l, written_end)

  -- whatever the errors are, of which each has a number
  module _ {E : Type 0} (number_of : E → ℕ) where
    pub finished_ready : (z : Sizes) (n : ℕ) (p : Result Sizes E) (w : End) → w ≡ written_end out ids bounds t cols firsts numbers z n
        → p ≡ Ok z → w ≡ finished number_of out ids bounds t cols firsts numbers n p
    unfolding finished
    finished_ready z n p w e f = e ∙ sym (ap (finished number_of out ids bounds t cols firsts numbers n) f)

    pub finished_refused : (n : ℕ) (e : E) (p : Result Sizes E) → p ≡ Err e
        → end_of out (A.Refused (number_of e)) ≡ finished number_of out ids bounds t cols firsts numbers n p
    unfolding finished
    finished_refused n e p f = sym (ap (finished number_of out ids bounds t cols firsts numbers n) f)

    -- what the code gives: for what is refused, for what has no room in the buffer, and for what is written
    module _ (n : ℕ) (p : Result Sizes E) where
      abbrev Ends : List ℕ → Result ℕ E → Type 0
      Ends u r = end_of u (answer_under number_of r) ≡ finished number_of out ids bounds t cols firsts numbers n p

      pub ends_refused : (e : E) → p ≡ Err e → Ends out (Err e)
      unfolding answer_under
      ends_refused e f = finished_refused n e p f

      pub ends_short : (z : Sizes) → p ≡ Ok z → length out < length_of z → (e : E) → number_of e ≡ 14 → Ends out (Err e)
      unfolding answer_under
      ends_short z f l e is = ap (λ k. end_of out (A.Refused k)) is ∙ finished_ready z n p _ (end_short z n l) f

      pub ends_written : (z : Sizes) → p ≡ Ok z → (u : List ℕ) (m : ℕ) → length_of z ≤ length out
          → u ≡ laid out 0 (page_pieces z ids bounds t n cols firsts numbers) → m ≡ length_of z → Ends u (Ok m)
      unfolding answer_under
      ends_written z f u m l e g = finished_ready z n p _ (end_written z n u m l e g) f

-- and it is as the reply says
module _ (reply : Reply) (out ids bounds t cols firsts numbers : List ℕ) where
  abbrev Fine : End → Type 0
  Fine w = Ended reply out w.out w.answer

  fine_written : (z : Sizes) (n : ℕ) → Holds reply ids bounds t cols firsts numbers z n → Fine (written_end out ids bounds t cols firsts numbers z n)
  fine_written z n h =
      elim (order (length out) (length_of z)) [
        | less l ↦ subst Fine (end_short out ids bounds t cols firsts numbers z n l) (ended_short reply out ids bounds t cols firsts numbers z n h l)
        | same l ↦ room (omega arith)
        | more l ↦ room (omega arith)
      ]
    where
      room : length_of z ≤ length out → Fine (written_end out ids bounds t cols firsts numbers z n)
      room l =
          let u = laid out 0 (page_pieces z ids bounds t n cols firsts numbers) in
          subst Fine (end_written out ids bounds t cols firsts numbers z n u (length_of z) l refl refl)
          (ended_written reply out ids bounds t cols firsts numbers z n h u (length_of z) refl l refl)

  fine_finished : (n : ℕ) (p : Result Sizes Refusal) → Prepares reply ids bounds t cols firsts numbers n p
      → Fine (finished number out ids bounds t cols firsts numbers n p)
  unfolding finished
  fine_finished n (Ok z) h = fine_written z n h.is
  fine_finished n (Err e) h = ended_refused reply out (number e) h.is

-- the end after a plan
module _ (L : Limits) (q : Filled) (out ids bounds t : List ℕ) where
  pub end_planned : (c f x c' f' x' : List ℕ) (p : Result Sizes Refusal) (w : End) → plan_of c' f' x' p ≡ planned L q ids t c f x
      → w ≡ finished number out ids bounds t c' f' x' q.rows p → w ≡ planned_end (planned L q ids t c f x) q.rows out ids bounds t
  unfolding planned_end
  end_planned c f x c' f' x' p w e g = g ∙ ap (λ y. planned_end y q.rows out ids bounds t) e

  pub end_few : (w : End) → q.rows < few → w ≡ blank_end few L q out ids bounds t → w ≡ concluded L q out ids bounds t
  unfolding concluded
  end_few w l e = e ∙ rw (lt-ltb q.rows few l, concluded)

  pub end_many : (w : End) → few ≤ q.rows → w ≡ blank_end most_rows L q out ids bounds t → w ≡ concluded L q out ids bounds t
  unfolding concluded
  end_many w l e = e ∙ rw (le-ltb q.rows few l, concluded)

  module _ (reply : Reply) where
    abbrev Good : End → Type 0
    Good w = Ended reply out w.out w.answer

    planned_good : (w : Plan) → Prepares reply ids bounds t w.cols w.firsts w.numbers q.rows w.prepared → Good (planned_end w q.rows out ids bounds t)
    unfolding planned_end
    planned_good w h = fine_finished reply out ids bounds t w.cols w.firsts w.numbers q.rows w.prepared h

    -- what planning leaves is what the reply says, whichever lists of zeros were lent for it
    pub concluded_ended : (u : List ℕ) (a : Answer) → end_of u a ≡ concluded L q out ids bounds t
        → ((n : ℕ) → q.rows < n → let w = planned L q ids t (replicate stride 0) (replicate n 0) (replicate n 0) in
        Prepares reply ids bounds t w.cols w.firsts w.numbers q.rows w.prepared) → q.rows < most_rows → Ended reply out u a
    concluded_ended u a e h l =
        elim (order q.rows few) [
          | less k ↦ subst Good (sym (e ∙ sym (end_few (blank_end few L q out ids bounds t) k refl))) (planned_good (plan few) (h few k))
          | same k ↦ many (omega arith)
          | more k ↦ many (omega arith)
        ]
      where
        plan : ℕ → Plan
        plan n = planned L q ids t (replicate stride 0) (replicate n 0) (replicate n 0)

        many : few ≤ q.rows → Ended reply out u a
        many k =
            subst Good (sym (e ∙ sym (end_many (blank_end most_rows L q out ids bounds t) k refl))) (planned_good (plan most_rows) (h most_rows l))

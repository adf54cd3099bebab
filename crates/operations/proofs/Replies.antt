-- A call that opens its bytes and then takes a function on what was opened has ended as its own reply says: the bytes were accepted, and the
-- span is one, so no line of the call's table before those of the result holds. Document 01's limits are those of its two numbers.
use Prim.Native.Nat.{ℕ}
use mathlib.Core.Path.{◌≡◌, refl, sym, ap, ◌∙◌, subst}
use mathlib.Core.Bool.{false}
use mathlib.Core.List.{List}
use lib.ListN.{length}
use Rattle.codec.specs.Reply.{Reply, answer, after, refuses}
use Rattle.codec.specs.MethodEnded.{Ended, end_of}
use Rattle.codec.specs.Ids.{InWords, item_of, item_read}
use Rattle.codec.specs.Answer.{Answer, Refused}
use Rattle.codec.specs.declared.Item.{Item}
use Rattle.codec.proofs.Ended.{ended_refused}
use Rattle.layout.specs.Knowledge.{Rules, Knowledge, basic, base}
use Rattle.layout.specs.Permitted.{rules_within}
use Rattle.layout.specs.Decode.{decode}
use Rattle.layout.specs.declared.Limits.{Limits}
use Rattle.layout.proofs.Within.{basic_within}
use Rattle.ticks.specs.Operations.{normalise, merge, project}
use Rattle.ticks.specs.Calls.{wrong_span, normalise_reply, merge_reply, project_reply}
use Rattle.lookup.specs.declared.View.{View}
use Rattle.lookup.specs.Method.{Opens}
use Rattle.loading.proofs.Closing.{result_is, normalise_accepted, merge_accepted, project_accepted}
use Rattle.sampling.proofs.Opening.{opened_read}
use Rattle.preparing.proofs.Ready.{first_item_lem, last_item, span_rises}
use Rattle.results.specs.MethodOpened.{Reads, result_of, merged_end, normalised_end, projected_end}
use Rattle.results.proofs.Opened.{merge_opened, normalise_opened, project_opened}

module _ (replicas ranges : ℕ) where
  abbrev R : Rules
  R = rules_within replicas ranges

  abbrev most : Limits
  most = record { replicas = replicas; ranges = ranges; records = base.records }

  reads : (s : List ℕ) (v : View) → Opens R s v.r v.start → Reads most s v
  reads s v o = record { rules = R; limits = refl; opens = o }

  module _ (s : List ℕ) (v : View) (o : Opens R s v.r v.start) (out u : List ℕ) (a : Answer) where
    -- the reply of the call, where it is what the result says
    says : (k : Knowledge) (reply : Reply) → reply ≡ result_of most k → Ended (result_of most k) out u a → Ended reply out u a
    says k reply e h = subst (λ x. Ended x out u a) (sym e) h

    pub normalise_says : end_of u a ≡ normalised_end most s v out → Ended (normalise_reply R s) out u a
    normalise_says e =
        says (normalise (decode s)) (normalise_reply R s)
        (normalise_accepted R s (decode s) (opened_read R s v.r v.start o) ∙ result_is R.limits (normalise (decode s)))
        (normalise_opened most s v out u a e (reads s v o))

    pub merge_says : (other : List ℕ) (w : View) → Opens R other w.r w.start → end_of u a ≡ merged_end most s v other w out
        → Ended (merge_reply R s other) out u a
    merge_says other w p e =
        let k = merge (decode s) (decode other) in
        says k (merge_reply R s other)
        (merge_accepted R s other (decode s) (opened_read R s v.r v.start o) (decode other) (opened_read R other w.r w.start p)
        ∙ result_is R.limits k)
        (merge_opened most s v other w out u a e (reads s v o) (reads other w p))

    pub project_says : (first last : List ℕ) → wrong_span first last ≡ false → (f l : Item) → f ≡ item_read first → l ≡ item_read last
        → InWords f → InWords l → end_of u a ≡ projected_end most s v (record { first = f; last = l }) out
        → Ended (project_reply R s first last) out u a
    project_says first last right f l is too i j e =
        let k = project (item_of f) (item_of l) (decode s) in
        says k (project_reply R s first last)
        (project_accepted R s first last (decode s) (opened_read R s v.r v.start o) right
        ∙ rw (← first_item_lem first last right f is, ← last_item first last right l too) (result_is R.limits k))
        (project_opened most s v (record { first = f; last = l }) out u a e (reads s v o) i j (span_rises first last right f l is too))

-- Document 01's limits

pub ended_basic : (call : Rules → Reply) (out u : List ℕ) (a : Answer) → Ended (call (rules_within base.replicas base.ranges)) out u a
    → (a ≡ answer (call basic) (length out)) × (u ≡ after (call basic) out)
ended_basic call out u a h =
    let e : call (rules_within base.replicas base.ranges) ≡ call basic = ap call basic_within in
    (h.answers ∙ ap (λ r. answer r (length out)) e, h.leaves ∙ ap (λ r. after r out) e)

-- a call that is refused under them leaves the refusal and the buffer as it was
pub refused_basic : (call : Rules → Reply) (out : List ℕ) (n : ℕ) → call (rules_within base.replicas base.ranges) ≡ refuses n
    → (Refused n ≡ answer (call basic) (length out)) × (out ≡ after (call basic) out)
refused_basic call out n e = ended_basic call out out (Refused n) (ended_refused (call (rules_within base.replicas base.ranges)) out n e)

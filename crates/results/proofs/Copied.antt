-- Bytes that were opened are those of the value that they decode to, which is within the limits: where that value is a result, the bytes are
-- given as they stand (`opened_given`). A knowledge in normal form is its own normal form (`normal_given`).
use Prim.Native.Nat.{ℕ, ◌≤◌}
use mathlib.Core.Path.{◌≡◌, sym, ap, ap₂, ◌∙◌}
use mathlib.Core.Bool.{Bool, true, false}
use mathlib.Core.List.{List}
use native.Mathlib.Omega.{arith}
use Rattle.codec.specs.Reply.{gives}
use Rattle.codec.specs.MethodEnded.{Ended, End, end_of}
use Rattle.codec.specs.Answer.{Answer}
use Rattle.layout.specs.Knowledge as K
use Rattle.layout.specs.Permitted.{largest_replicas, largest_ranges}
use Rattle.layout.specs.Decode.{decode}
use Rattle.layout.specs.declared.Limits.{Limits}
use Rattle.layout.proofs.Exact.{exact}
use Rattle.layout.proofs.Within.{few_replicas, few_ranges}
use Rattle.ticks.specs.Operations.{normalise}
use Rattle.ticks.proofs.Operations.{normalise_normal, normal_test}
use Rattle.lookup.specs.declared.View.{View}
use Rattle.normal_form.specs.MethodNormal.{normal_opened}
use Rattle.normal_form.proofs.Opened.{opened_normal}
use Rattle.loading.specs.MethodReply.{result_reply}
use Rattle.loading.proofs.Closing.{result_is, result_gives}
use Rattle.sampling.proofs.Opening.{opened_read}
use Rattle.results.specs.MethodOpened.{limits_of, Reads, result_of, copied_end, by_table_end, normalised_end}

-- ---- the end of a copy

module _ (s out u : List ℕ) (a : Answer) where
  pub copied_end_lem : Ended (gives s) out u a → end_of u a ≡ copied_end s out
  unfolding copied_end
  copied_end_lem h = ap₂ end_of h.leaves h.answers

  pub end_copied : end_of u a ≡ copied_end s out → Ended (gives s) out u a
  unfolding copied_end
  end_copied e = record { answers = ap (λ (x : End). x.answer) e; leaves = ap (λ (x : End). x.out) e }

-- ---- what normalise leaves

module _ (most : Limits) (s : List ℕ) (v : View) (out : List ℕ) where
  pub normalised_is_copied : normal_opened s v.r v.start ≡ true → normalised_end most s v out ≡ copied_end s out
  unfolding normalised_end
  normalised_is_copied t = rw (t, normalised_end)

  pub normalised_is_by_table : normal_opened s v.r v.start ≡ false → normalised_end most s v out ≡ by_table_end most s v out
  unfolding normalised_end
  normalised_is_by_table t = rw (t, normalised_end)

  module _ (b : Bool) (is : b ≡ normal_opened s v.r v.start) where
    pub normalised_copied : (u : List ℕ) (a : Answer) → b ≡ true → Ended (gives s) out u a → end_of u a ≡ normalised_end most s v out
    normalised_copied u a t h = copied_end_lem s out u a h ∙ sym (normalised_is_copied (sym is ∙ t))

    pub normalised_by_table : (e : End) → b ≡ false → e ≡ by_table_end most s v out → e ≡ normalised_end most s v out
    normalised_by_table e t h = h ∙ sym (normalised_is_by_table (sym is ∙ t))

-- ---- opened bytes as a result

module _ (most : Limits) (s : List ℕ) (v : View) (x : Reads most s v) where
  few : x.rules.limits.replicas ≤ largest_replicas
  few = omega (arith, ap (λ (L : K.Limits). L.replicas) x.limits, few_replicas most.replicas most.ranges)

  fewer : x.rules.limits.ranges ≤ largest_ranges
  fewer = omega (arith, ap (λ (L : K.Limits). L.ranges) x.limits, few_ranges most.replicas most.ranges)

  pub opened_given : result_of most (decode s) ≡ gives s
  opened_given =
      let R = x.rules in
      let o = x.opens in
      let h = (exact R o.permitted s (decode s) o.bytes).0 (opened_read R s v.r v.start o) in
      sym (result_is (limits_of most) (decode s))
      ∙ ap (λ (L : K.Limits). result_reply L (decode s)) (sym x.limits)
      ∙ result_gives R.limits (decode s) h.1.replicas h.1.ranges
      ∙ ap gives (sym h.0)

  pub normal_given : normal_opened s v.r v.start ≡ true → result_of most (normalise (decode s)) ≡ gives s
  normal_given t =
      let n = (normal_test (decode s)).0 (sym (opened_normal x.rules s v.r v.start x.opens few fewer) ∙ t) in
      ap (result_of most) (normalise_normal (decode s) n) ∙ opened_given

-- `operations::merge` meets its contract: the refusal of the first check, that of the second, or what is written for both.
use native.Mathlib.Omega.{arith}
use Rattle.std.proofs.lemmas.Result.{err_from_is_err_and}
use Rattle.codec.specs.Answer.{answer_of}
use Rattle.codec.specs.Number.{Bytes}
use Rattle.layout.specs.Knowledge.{base}
use Rattle.layout.specs.Permitted.{rules_within}
use Rattle.ticks.specs.Calls.{merge_reply}
use Rattle.ticks.proofs.ForCode.{refusing}
use Rattle.lookup.proofs.Calls.{opens_within, refuses_within}
use Rattle.loading.proofs.Closing.{merge_first, merge_second_lem}
use Rattle.sampling.proofs.Opening.{opened_read}
use Rattle.operations.proofs.Replies.{ended_basic, refused_basic, merge_says}
use Rattle.operations.proofs.merge.Goals as goal

pub returns-in_err-v : goal.returns-in_err-v
unfolding answer_of
returns-in_err-v c = let a = c.args in
    let p = err_from_is_err_and c.from_residual.result c.from_residual.ensures.1 in
    let R = rules_within base.replicas base.ranges in
    let e = refused_basic (λ R. merge_reply R a.first.now a.second.now) _ _
    (merge_first R _ _ _ (refusing R _ _ (refuses_within base.replicas base.ranges _ _ c.open_within.ensures _
    c.in_err-v.was))) in
    rw (p.1, p.2) (record { value = e.0; out_after = e.1 })

pub returns : goal.returns
returns c = let a = c.args in
    let b : Bytes a.first.now = record { below = λ i. omega (arith, c.type_inv.first i) } in
    let d : Bytes a.second.now = record { below = λ i. omega (arith, c.type_inv.second i) } in
    let e = ended_basic (λ R. merge_reply R a.first.now a.second.now) _ _ _
    (merge_says base.replicas base.ranges a.first.now _
    (opens_within base.replicas base.ranges _ _ c.open_within.ensures b _ c.in_ok-v.was) _ _ _ a.second.now _
    (opens_within base.replicas base.ranges _ _ c.open_within-2.ensures d _ c.in_ok-w.was)
    c.merge_opened.ensures) in
    record { value = e.0; out_after = e.1 }

pub returns-in_err-w : goal.returns-in_err-w
unfolding answer_of
returns-in_err-w c = let a = c.args in
    let p = err_from_is_err_and c.from_residual-in_err-w.result c.from_residual-in_err-w.ensures.1 in
    let R = rules_within base.replicas base.ranges in
    let b : Bytes a.first.now = record { below = λ i. omega (arith, c.type_inv.first i) } in
    let o = opens_within base.replicas base.ranges _ _ c.open_within.ensures b _ c.in_ok-v.was in
    let e = refused_basic (λ R. merge_reply R a.first.now a.second.now) _ _
    (merge_second_lem R _ _ _ (opened_read R _ _ _ o) _
    (refusing R _ _ (refuses_within base.replicas base.ranges _ _ c.open_within-2.ensures _ c.in_err-w.was))) in
    rw (p.1, p.2) (record { value = e.0; out_after = e.1 })

-- `operations::normalise` meets its contract: the refusal of the check, or what is written for the opened knowledge.
use native.Mathlib.Omega.{arith}
use Rattle.std.proofs.lemmas.Result.{err_from_is_err_and}
use Rattle.codec.specs.Answer.{answer_of}
use Rattle.codec.specs.Number.{Bytes}
use Rattle.layout.specs.Knowledge.{base}
use Rattle.layout.specs.Permitted.{rules_within}
use Rattle.ticks.specs.Calls.{normalise_reply}
use Rattle.ticks.proofs.ForCode.{refusing}
use Rattle.lookup.proofs.Calls.{opens_within, refuses_within}
use Rattle.loading.proofs.Closing.{normalise_refused}
use Rattle.operations.proofs.Replies.{ended_basic, refused_basic, normalise_says}
use Rattle.operations.proofs.normalise.Goals as goal

pub returns : goal.returns
returns c = let a = c.args in
    let b : Bytes a.knowledge.now = record { below = λ i. omega (arith, c.type_inv.knowledge i) } in
    let e = ended_basic (λ R. normalise_reply R a.knowledge.now) _ _ _
    (normalise_says base.replicas base.ranges a.knowledge.now _
    (opens_within base.replicas base.ranges _ _ c.open_within.ensures b _ c.in_ok-v.was) _ _ _
    c.normalise_opened.ensures) in
    record { value = e.0; out_after = e.1 }

pub returns-in_err-v : goal.returns-in_err-v
unfolding answer_of
returns-in_err-v c = let a = c.args in
    let p = err_from_is_err_and c.from_residual.result c.from_residual.ensures.1 in
    let R = rules_within base.replicas base.ranges in
    let e = refused_basic (λ R. normalise_reply R a.knowledge.now) _ _
    (normalise_refused R _ _ (refusing R _ _ (refuses_within base.replicas base.ranges _ _ c.open_within.ensures _
    c.in_err-v.was))) in
    rw (p.1, p.2) (record { value = e.0; out_after = e.1 })

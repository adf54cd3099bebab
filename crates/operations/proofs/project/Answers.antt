-- `operations::project` meets its contract: the refusal of the check, 17 for the span, or what is written for the opened knowledge.
use native.Mathlib.Omega.{arith}
use mathlib.Core.Path.{sym, ◌∙◌}
use Rattle.std.proofs.lemmas.Result.{err_from_is_err_and}
use Rattle.codec.specs.Answer.{answer_of}
use Rattle.codec.specs.Number.{Bytes}
use Rattle.codec.specs.Refusal.{number}
use Rattle.layout.specs.Knowledge.{base}
use Rattle.layout.specs.Permitted.{rules_within}
use Rattle.layout.specs.Decode.{decode}
use Rattle.ticks.specs.Calls.{project_reply}
use Rattle.ticks.proofs.ForCode.{refusing}
use Rattle.lookup.proofs.Calls.{opens_within, refuses_within}
use Rattle.loading.proofs.Closing.{project_refused, project_span}
use Rattle.sampling.proofs.Opening.{opened_read}
use Rattle.operations.proofs.Replies.{ended_basic, refused_basic, project_says}
use Rattle.operations.proofs.project.Goals as goal

pub returns-in_err-v : goal.returns-in_err-v
unfolding answer_of
returns-in_err-v c = let a = c.args in
    let p = err_from_is_err_and c.from_residual.result c.from_residual.ensures.1 in
    let R = rules_within base.replicas base.ranges in
    let e = refused_basic (λ R. project_reply R a.knowledge.now a.first.now a.last.now) _ _
    (project_refused R _ _ _ _ (refusing R _ _ (refuses_within base.replicas base.ranges _ _ c.open_within.ensures _
    c.in_err-v.was))) in
    rw (p.1, p.2) (record { value = e.0; out_after = e.1 })

pub returns-then-wrong_span : goal.returns-then-wrong_span
unfolding answer_of number
returns-then-wrong_span c = let a = c.args in
    let R = rules_within base.replicas base.ranges in
    let b : Bytes a.knowledge.now = record { below = λ i. omega (arith, c.type_inv.knowledge i) } in
    let o = opens_within base.replicas base.ranges _ _ c.open_within.ensures b _ c.in_ok-v.was in
    let e = refused_basic (λ R. project_reply R a.knowledge.now a.first.now a.last.now) _ _
    (project_span R a.knowledge.now _ _ (decode a.knowledge.now) (opened_read R _ _ _ o)
    (sym c.wrong_span.ensures ∙ c.if-wrong_span.true)) in
    record { value = e.0; out_after = e.1 }

pub returns : goal.returns
returns c = let a = c.args in
    let b : Bytes a.knowledge.now = record { below = λ i. omega (arith, c.type_inv.knowledge i) } in
    let o = opens_within base.replicas base.ranges _ _ c.open_within.ensures b _ c.in_ok-v.was in
    let e = ended_basic (λ R. project_reply R a.knowledge.now a.first.now a.last.now) _ _ _
    (project_says base.replicas base.ranges a.knowledge.now _ o _ _ _ a.first.now a.last.now
    (sym c.wrong_span.ensures ∙ c.if-wrong_span.false) _ _
    c.from_bytes.ensures.value c.from_bytes-2.ensures.value
    c.from_bytes.ensures.in_words c.from_bytes-2.ensures.in_words
    c.project_opened.ensures) in
    record { value = e.0; out_after = e.1 }

-- `make::make_open` meets its contract: WrongIds for the span, or the batch of the parts that the inputs give.
use mathlib.Core.Path.{refl, sym, ◌∙◌}
use Rattle.codec.specs.Answer.{answer_of}
use Rattle.codec.specs.Refusal.{number}
use Rattle.make.proofs.Steps.{make_no_span, parts, make_ends}
use Rattle.make.proofs.make_open.Goals as goal

pub returns-then-wrong_span : goal.returns-then-wrong_span
unfolding answer_of number
returns-then-wrong_span c = let a = c.args in
    make_no_span a.limits a.store.now a.own a.knowledge.now a.given c.requires a.first.now a.last.now a.out.now
    (sym c.wrong_span.ensures ∙ c.if-wrong_span.true)

pub make_needed-requires : goal.make_needed-requires
make_needed-requires c = let a = c.args in
    parts a.limits a.store.now a.own a.knowledge.now a.given c.requires a.first.now a.last.now a.out.now
    (sym c.wrong_span.ensures ∙ c.if-wrong_span.false) _ _ c.from_bytes-first.ensures.value c.from_bytes-last.ensures.value
    c.from_bytes-first.ensures.in_words c.from_bytes-last.ensures.in_words _ refl

pub returns : goal.returns
returns c = let a = c.args in
    make_ends a.limits a.store.now a.own a.knowledge.now a.given c.requires a.first.now a.last.now a.out.now
    (sym c.wrong_span.ensures ∙ c.if-wrong_span.false) _ _ c.from_bytes-first.ensures.value c.from_bytes-last.ensures.value _ _
    c.make_needed.ensures

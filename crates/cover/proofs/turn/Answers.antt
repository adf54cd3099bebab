-- `cover::turn` meets its contract: by which of the two has a bound up to the last item.
use Rattle.std.proofs.Common.{◌∙◌, ap, sym, arith}
use Rattle.codec.specs.Ids.{item_of}
use Rattle.lacking.specs.Method.{stop_at}
use Rattle.lacking.proofs.Ids.{item_cmp}
use Rattle.cover.proofs.Steps.{turn_both, turn_first_only, turn_second_only, turn_neither}
use Rattle.cover.proofs.turn.Goals as goal

pub returns-in-Some-Some : goal.returns-in-Some-Some
unfolding stop_at
returns-in-Some-Some c =
    turn_both _ _ (item_of c.in-Some-Some.a) (item_of c.in-Some-Some.b) _
    (sym (c.bound_of.ensures.stop (omega arith)) ∙ ap stop_at c.in-Some-Some.is-0)
    (sym (c.bound_of-2.ensures.stop (omega arith)) ∙ ap stop_at c.in-Some-Some.is-1)
    (c.cmp.ensures ∙ item_cmp _ _ (c.bound_of.ensures.in_words _ c.in-Some-Some.is-0)
    (c.bound_of-2.ensures.in_words _ c.in-Some-Some.is-1))

pub returns-in-Some-None : goal.returns-in-Some-None
unfolding stop_at
returns-in-Some-None c =
    turn_first_only _ _ (item_of c.in-Some-None.field-0-0)
    (sym (c.bound_of.ensures.stop (omega arith)) ∙ ap stop_at c.in-Some-None.is-0)
    (sym (c.bound_of-2.ensures.stop (omega arith)) ∙ ap stop_at c.in-Some-None.is-1)

pub returns-in-None-Some : goal.returns-in-None-Some
unfolding stop_at
returns-in-None-Some c =
    turn_second_only _ _ (item_of c.in-None-Some.field-0-1)
    (sym (c.bound_of.ensures.stop (omega arith)) ∙ ap stop_at c.in-None-Some.is-0)
    (sym (c.bound_of-2.ensures.stop (omega arith)) ∙ ap stop_at c.in-None-Some.is-1)

pub returns-in-None-None : goal.returns-in-None-None
unfolding stop_at
returns-in-None-None c =
    turn_neither _ _
    (sym (c.bound_of.ensures.stop (omega arith)) ∙ ap stop_at c.in-None-None.is-0)
    (sym (c.bound_of-2.ensures.stop (omega arith)) ∙ ap stop_at c.in-None-None.is-1)

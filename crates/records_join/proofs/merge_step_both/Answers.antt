-- `records_join::merge_step_both` meets its contract: the tests are those of the join, on the items as the records have them.
use Rattle.std.proofs.Common.{◌∙◌}
use Rattle.codec.proofs.Ids.{item_lt}
use Rattle.records_join.proofs.Steps.{steps_left, steps_right, steps_theirs, steps_mine}
use Rattle.records_join.proofs.merge_step_both.Goals as goal

pub returns-then-lt : goal.returns-then-lt
returns-then-lt c = let p = c.requires in
    steps_left _ _ _ _ _ _ p.0 p.1 p.2 p.3 _ _ c.item_of-x.ensures.value c.item_of-y.ensures.value
    _ (c.lt.ensures ∙ item_lt _ _ c.item_of-x.ensures.in_words c.item_of-y.ensures.in_words) c.if-lt.true

pub returns-then-lt-2 : goal.returns-then-lt-2
returns-then-lt-2 c = let p = c.requires in
    steps_right _ _ _ _ _ _ p.0 p.1 p.2 p.3 _ _ c.item_of-x.ensures.value c.item_of-y.ensures.value
    _ (c.lt.ensures ∙ item_lt _ _ c.item_of-x.ensures.in_words c.item_of-y.ensures.in_words) c.if-lt.false
    _ (c.lt-2.ensures ∙ item_lt _ _ c.item_of-y.ensures.in_words c.item_of-x.ensures.in_words) c.if-lt-2.true

pub returns-then-wins : goal.returns-then-wins
returns-then-wins c = let p = c.requires in
    steps_theirs _ _ _ _ _ _ p.0 p.1 p.2 p.3 _ _ c.item_of-x.ensures.value c.item_of-y.ensures.value
    _ (c.lt.ensures ∙ item_lt _ _ c.item_of-x.ensures.in_words c.item_of-y.ensures.in_words) c.if-lt.false
    _ (c.lt-2.ensures ∙ item_lt _ _ c.item_of-y.ensures.in_words c.item_of-x.ensures.in_words) c.if-lt-2.false
    _ c.wins.ensures c.if-wins.true

pub returns : goal.returns
returns c = let p = c.requires in
    steps_mine _ _ _ _ _ _ p.0 p.1 p.2 p.3 _ _ c.item_of-x.ensures.value c.item_of-y.ensures.value
    _ (c.lt.ensures ∙ item_lt _ _ c.item_of-x.ensures.in_words c.item_of-y.ensures.in_words) c.if-lt.false
    _ (c.lt-2.ensures ∙ item_lt _ _ c.item_of-y.ensures.in_words c.item_of-x.ensures.in_words) c.if-lt-2.false
    _ c.wins.ensures c.if-wins.false

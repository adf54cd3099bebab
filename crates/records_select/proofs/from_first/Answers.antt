-- `records_select::from_first` meets its contract. The loop's invariant: what is skipped from the first place on is what is skipped from the present
-- place on. The measure is the bytes that are left.
use Rattle.std.proofs.Common.{refl, ◌∙◌, arith}
use Rattle.codec.proofs.Ids.{item_lt}
use Rattle.records.proofs.Finding.{length-inside}
use Rattle.records_select.proofs.Picking.{less_left, skip_end, skip_stop, skip_on}
use Rattle.records_select.proofs.from_first.Goals as goal

pub loop-first-init : goal.loop-first-init
loop-first-init c = refl

pub returns-then-n-eq0 : goal.returns-then-n-eq0
returns-then-n-eq0 c = skip_end _ _ _ _ _ c.loop-first.invariant c.length_at-n.ensures c.if-n-eq0.true

pub returns-else-lt : goal.returns-else-lt
returns-else-lt c = skip_stop _ _ _ _ _ c.loop-first.invariant c.length_at-n.ensures c.if-n-eq0.false _
    c.item_of.ensures.value _
    (c.lt.ensures ∙ item_lt _ _ c.item_of.ensures.in_words (record { high = omega arith; middle = omega arith; low = omega arith })) c.if-lt.false

pub overflow_add-p : goal.overflow_add-p
overflow_add-p c = omega (arith, length-inside _ _ _ c.length_at-n.ensures c.if-n-eq0.false)

pub loop-first-smaller : goal.loop-first-smaller
loop-first-smaller c = less_left _ _ _ c.length_at-n.ensures c.if-n-eq0.false

pub loop-first-preserved : goal.loop-first-preserved
loop-first-preserved c = skip_on _ _ _ _ _ c.loop-first.invariant c.length_at-n.ensures c.if-n-eq0.false _
    c.item_of.ensures.value _
    (c.lt.ensures ∙ item_lt _ _ c.item_of.ensures.in_words (record { high = omega arith; middle = omega arith; low = omega arith })) c.if-lt.true

-- `records_select::next_lacking` meets its contract. The loop's invariant: what is selected from the first place on is what is selected from the
-- present place on, with the cursor as it was moved on. The measure is the bytes that are left.
use Rattle.std.proofs.Common.{◌∙◌, arith}
use borrow.Author.Tests.{not-true, not-false}
use Rattle.codec.proofs.Ids.{item_lt}
use Rattle.records.proofs.Finding.{length-inside}
use Rattle.records_select.proofs.Picking.{less_left, passed_none, pick_end, pick_past, pick_taken, pick_on}
use Rattle.records_select.proofs.next_lacking.Goals as goal

pub loop-last-init : goal.loop-last-init
loop-last-init c = passed_none _ _ _ _ _ _

pub returns-then-size-eq0 : goal.returns-then-size-eq0
returns-then-size-eq0 c = pick_end _ _ _ _ _ _ _ _ c.loop-last.invariant _ c.length_at-size.ensures c.if-size-eq0.true

pub returns-then-lt : goal.returns-then-lt
returns-then-lt c = pick_past _ _ _ _ _ _ _ _ c.loop-last.invariant _ c.length_at-size.ensures c.if-size-eq0.false _ _ _
    c.item_of-i.ensures.value _
    (c.lt.ensures ∙ item_lt _ _ (record { high = omega arith; middle = omega arith; low = omega arith }) c.item_of-i.ensures.in_words) c.if-lt.true

pub returns-then-not-change_in : goal.returns-then-not-change_in
returns-then-not-change_in c = pick_taken _ _ _ _ _ _ _ _ c.loop-last.invariant _ c.length_at-size.ensures c.if-size-eq0.false _ _ _
    c.item_of-i.ensures.value _
    (c.lt.ensures ∙ item_lt _ _ (record { high = omega arith; middle = omega arith; low = omega arith }) c.item_of-i.ensures.in_words) c.if-lt.false _
    c.advance-cursor.ensures _ c.change_in.ensures (not-true _ c.if-not-change_in.true-raw)

pub overflow_add-at : goal.overflow_add-at
overflow_add-at c = omega (arith, length-inside _ _ _ c.length_at-size.ensures c.if-size-eq0.false)

pub loop-last-smaller : goal.loop-last-smaller
loop-last-smaller c = less_left _ _ _ c.length_at-size.ensures c.if-size-eq0.false

pub loop-last-preserved : goal.loop-last-preserved
loop-last-preserved c = pick_on _ _ _ _ _ _ _ _ c.loop-last.invariant _ c.length_at-size.ensures c.if-size-eq0.false _ _ _
    c.item_of-i.ensures.value _
    (c.lt.ensures ∙ item_lt _ _ (record { high = omega arith; middle = omega arith; low = omega arith }) c.item_of-i.ensures.in_words) c.if-lt.false _
    c.advance-cursor.ensures _ c.change_in.ensures (not-false _ c.if-not-change_in.false-raw)

-- `records::place_of` meets its contract. The loop's invariant: the place of the item's record among all records is the one among those
-- that are left.
use mathlib.Core.Path.{refl}
use native.Mathlib.Omega.{arith}
use Rattle.records.proofs.Finding.{length-at, length-inside, search_past, search_end, search_found, search_on}
use Rattle.records.proofs.place_of.Goals as goal

pub loop-p-init : goal.loop-p-init
loop-p-init c = refl

pub returns-then-n-eq0 : goal.returns-then-n-eq0
returns-then-n-eq0 c = search_end _ _ _ _ c.loop-p.invariant _ c.length_at-n.ensures c.if-n-eq0.true

pub has_item-requires : goal.has_item-requires
has_item-requires c = length-at _ _ _ c.length_at-n.ensures c.if-n-eq0.false

pub returns-then-has_item : goal.returns-then-has_item
returns-then-has_item c = search_found _ _ _ _ c.loop-p.invariant _
    c.length_at-n.ensures c.if-n-eq0.false _ c.has_item.ensures
    c.if-has_item.true

pub overflow_add-p : goal.overflow_add-p
overflow_add-p c = omega (arith, length-inside _ _ _ c.length_at-n.ensures c.if-n-eq0.false)

pub loop-p-preserved : goal.loop-p-preserved
loop-p-preserved c = search_on _ _ _ _ c.loop-p.invariant _
    c.length_at-n.ensures c.if-n-eq0.false _ c.has_item.ensures
    c.if-has_item.false

pub returns : goal.returns
returns c = search_past _ _ _ _ c.loop-p.invariant (omega arith)

-- `raising::raise_row` meets its contract. The loop's invariant: the whole row is what the elements that are left raise.
use native.Mathlib.Omega.{arith}
use mathlib.Core.Path.{ap, ◌∙◌}
use lib.ListN.{length}
use Rattle.leaves.proofs.Part.{part_is}
use Rattle.sampling.proofs.Cells.{by_size, rest_starts, rest_ends, rest_room, rest_next}
use Rattle.raising.proofs.raise_row.Goals as goal

pub loop-i-init : goal.loop-i-init
loop-i-init c = rest_starts _ _ _ _ _ _ c.elements_at-n.ensures

pub overflow_add-at : goal.overflow_add-at
overflow_add-at c = omega (arith, c.loop-i.invariant.there c.loop-i-test.true)

pub loop-i-preserved : goal.loop-i-preserved
loop-i-preserved c =
    let r = rest_room _ _ _ _ _ _ _ _ c.loop-i.invariant c.loop-i-test.true in
    rest_next _ _ _ _ _ _ _ _ c.loop-i.invariant c.loop-i-test.true _ _ _
    (part_is _ _ _ _ c.first.ensures.0 (omega (arith, r)))
    (part_is _ _ _ _ c.first-tick.ensures.0 (omega (arith, r)))
    c.raise_cell.ensures

pub shape_of-t : goal.shape_of-t
shape_of-t c = ap length (rest_ends _ _ _ _ _ _ _ _ c.loop-i.invariant (omega arith)) ∙ by_size _ _ _ _

pub returns : goal.returns
returns c = rest_ends _ _ _ _ _ _ _ _ c.loop-i.invariant (omega arith)

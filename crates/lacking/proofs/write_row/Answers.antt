-- `lacking::write_row` meets its contract. The loop's invariant: the row has the ticks of the elements from here on.
use Rattle.leaves.proofs.Part.{part_is}
use Rattle.lacking.proofs.Cells.{row_whole, row_begins, row-set, row_skip}
use native.Mathlib.Omega.{arith}
use Rattle.lacking.proofs.write_row.Goals as goal

pub loop-k-init : goal.loop-k-init
loop-k-init c = row_begins _ _ _ _ c.requires

pub loop-k-preserved-then-key-row : goal.loop-k-preserved-then-key-row
loop-k-preserved-then-key-row c = let room = c.elements_at-n.ensures.room (omega arith) in
    row-set _ _ _ _ _ _ _ c.loop-k.invariant (omega arith) (omega arith) (omega arith)
    (part_is _ _ _ _ c.first-key.ensures.0 (omega arith)) _ (part_is _ _ _ _ c.first.ensures.0 (omega arith)) c.if-key-row.true

pub loop-k-preserved : goal.loop-k-preserved
loop-k-preserved c = let room = c.elements_at-n.ensures.room (omega arith) in
    row_skip _ _ _ _ _ _ _ c.loop-k.invariant (omega arith) (omega arith) (omega arith)
    (part_is _ _ _ _ c.first-key.ensures.0 (omega arith)) c.if-key-row.false

pub returns : goal.returns
returns c = row_whole _ _ _ _ c.elements_at-n.ensures _ _ _ c.loop-k.invariant (omega arith) (omega arith) c.loop-k.auto.row

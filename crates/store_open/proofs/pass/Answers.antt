-- `store_open::pass` meets its contract. The loop's invariant: the cursor past all ranges is the cursor past those that are
-- left.
use Rattle.std.proofs.Common.{arith}
use Rattle.leaves.proofs.Compare.{below_part}
use Rattle.leaves.proofs.Part.{part_is}
use Rattle.lookup.proofs.Loops.{pass_stop, pass_on, pass_end}
use Rattle.store_open.proofs.pass.Goals as goal

pub loop-d-preserved : goal.loop-d-preserved
loop-d-preserved c = (
  pass_on _ _ _ _ _ _ _ c.loop-d.invariant.0 _ _ (below_part _ _ _ _ c.below.ensures (omega arith))
      (part_is _ _ _ _ c.first.ensures.0 (omega arith)) (omega arith) c.if-not-below.true,
  omega arith,
)

pub returns-else-not-below : goal.returns-else-not-below
returns-else-not-below c =
    pass_stop _ _ _ _ _ _ _ c.loop-d.invariant.0 _ (below_part _ _ _ _ c.below.ensures (omega arith)) c.if-not-below.false

pub returns-after-loop-d : goal.returns-after-loop-d
returns-after-loop-d c = pass_end _ _ _ _ _ _ _ c.loop-d.invariant.0 (omega arith)

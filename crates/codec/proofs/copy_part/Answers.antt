-- `codec::copy_part` meets its contract: where the part is missing or has no room nothing changes, and else it is copied whole.
use Rattle.std.proofs.Common.{arith, length-set}
use Rattle.codec.proofs.Writing.{no_part, no_place, copying_none, part_more, part_all}
use Rattle.codec.proofs.copy_part.Goals as goal
use Rattle.codec.proofs.copy_part.Goals.{then-beyond-via-then-beyond, then-beyond-via-else-beyond+then-beyond-2}

pub returns-then-beyond : goal.returns-then-beyond
returns-then-beyond c =
    elim c.then-beyond.branch [
      | then-beyond-via-then-beyond w ↦ no_part _ _ _ _ _ (c.beyond.ensures.0 w.if-beyond.true)
      | then-beyond-via-else-beyond+then-beyond-2 w ↦
          no_place _ _ _ _ _ (c.beyond.ensures.1 w.if-beyond.false) (w.beyond-else-beyond.ensures.0 w.if-beyond-2.true)
    ]

pub loop-k-init : goal.loop-k-init
loop-k-init c = (
  c.beyond.ensures.1 c.if-beyond.false,
  c.beyond-else-beyond.ensures.1 c.if-beyond-2.false,
  copying_none _ _ _,
  omega arith,
)

pub loop-k-preserved : goal.loop-k-preserved
loop-k-preserved c = let v = c.loop-k.invariant in (
  v.0,
  v.1,
  part_more _ _ _ _ _ v.0 v.1 _ _ (omega arith) v.2,
  simp length-set (omega arith),
)

pub returns : goal.returns
returns c = let v = c.loop-k.invariant in part_all _ _ _ _ _ v.0 v.1 _ c.loop-k.k (omega arith) v.2

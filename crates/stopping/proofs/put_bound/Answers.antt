-- `stopping::put_bound` meets its contract: the three words of the row.
use native.Mathlib.Omega.{arith}
use Rattle.sampling.proofs.Bounds.{put_is}
use lib.ListN.{length-set}
use Rattle.stopping.proofs.put_bound.Goals as goal

pub bounds-bounds-i-2 : goal.bounds-bounds-i-2
bounds-bounds-i-2 c = simp length-set (omega arith)

pub bounds-bounds-i-3 : goal.bounds-bounds-i-3
bounds-bounds-i-3 c = simp length-set (omega arith)

pub shape_of-bounds : goal.shape_of-bounds
shape_of-bounds c = simp length-set

pub returns : goal.returns
returns c = (put_is _ _ _, simp length-set)

-- `filling::raise_column` meets its contract. The loop's invariant: the column is still to be set in the rows that are left.
use native.Mathlib.Omega.{arith}
use mathlib.Core.Path.{refl}
use lib.ListN.{length-set}
use Rattle.sampling.proofs.Filling.{set-starts, set-ends, set_next}
use Rattle.filling.proofs.raise_column.Goals as goal

pub loop-k-init : goal.loop-k-init
loop-k-init c = (set-starts _ _ _ _ _, refl, omega arith, omega arith, omega arith)

pub loop-k-preserved : goal.loop-k-preserved
loop-k-preserved c = (
  set_next _ _ _ _ _ _ c.loop-k.invariant.0 (omega arith),
  simp length-set (omega arith),
  omega arith,
  omega arith,
  omega arith,
)

pub returns : goal.returns
returns c = set-ends _ _ _ _ _ _ c.loop-k.invariant.0 (omega arith)

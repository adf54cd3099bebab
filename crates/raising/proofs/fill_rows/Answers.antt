-- `raising::fill_rows` meets its contract. The loop's invariant: the rows that are left are still to be raised, from the cursor on.
use native.Mathlib.Omega.{arith}
use mathlib.Core.Path.{ap, ◌∙◌}
use lib.ListN.{length}
use Rattle.tables.specs.MethodWords.{bound_at}
use Rattle.sampling.proofs.Filling.{fill_starts, fill_ends, fill_next, filled-length}
use Rattle.raising.proofs.fill_rows.Goals as goal

pub loop-k-init : goal.loop-k-init
loop-k-init c = (fill_starts _ _ _ _ _ _ _ _, omega arith, omega arith)

pub loop-k-preserved : goal.loop-k-preserved
unfolding bound_at
loop-k-preserved c = (
  fill_next _ _ _ _ _ _ _ _ _ c.loop-k.invariant.0 (omega arith) _ c.advance-c.ensures _
      c.raise_row.ensures,
  omega arith,
  omega arith,
)

pub shape_of-t : goal.shape_of-t
shape_of-t c = ap length (fill_ends _ _ _ _ _ _ _ _ _ c.loop-k.invariant.0 (omega arith)) ∙ filled-length _ _ _ _ _ _ _ _

pub returns : goal.returns
returns c = fill_ends _ _ _ _ _ _ _ _ _ c.loop-k.invariant.0 (omega arith)

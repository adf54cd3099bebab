-- `store_queries::count_in` meets its contract. The loop's invariant: the cursor has passed just the ranges below the next record, and
-- those contained in all are those counted and those among the records that are left.
use native.Mathlib.Omega.{arith}
use Rattle.store_queries.proofs.Counting.{counted_start, counted_end, counted_yes, counted_no}
use Rattle.store_queries.proofs.count_in.Goals as goal
use Rattle.store_queries.proofs.count_in.Goals.{then-change_in, else-change_in}

pub loop-i-init : goal.loop-i-init
loop-i-init c = counted_start _ _ _ _ _ _ c.requires.0 c.requires.1

pub overflow_add-contained : goal.overflow_add-contained
overflow_add-contained c = omega (arith, c.loop-i.invariant.few, c.loop-i-test.true)

pub loop-i-preserved : goal.loop-i-preserved
loop-i-preserved c =
    elim c.if-change_in.branch [
      | then-change_in w ↦
          counted_yes _ _ _ _ _ _ _ _ _ c.loop-i.invariant (omega (arith, c.loop-i-test.true)) _ c.move_to-c.ensures _ c.behind-p.ensures
          _ c.change_in.ensures w.if-change_in.true _ w.contained-is
      | else-change_in w ↦
          counted_no _ _ _ _ _ _ _ _ _ c.loop-i.invariant (omega (arith, c.loop-i-test.true)) _ c.move_to-c.ensures _ c.behind-p.ensures
          _ c.change_in.ensures w.if-change_in.false _ w.contained-is
    ]

pub returns : goal.returns
returns c = counted_end _ _ _ _ _ _ _ _ _ c.loop-i.invariant (omega (arith, c.loop-i-test.false))

-- `stopping::rows_fit` meets its contract, test by test.
use Prim.Native.Nat.{◌+◌, ◌*◌}
use native.Mathlib.Omega.{arith}
use Rattle.sampling.proofs.Stops.{rows_1, rows_2, rows_3, rows_last}
use Rattle.stopping.proofs.rows_fit.Goals as goal

pub returns-then-beyond : goal.returns-then-beyond
returns-then-beyond c = rows_1 _ _ _ _ _ _ _ (omega (arith, c.beyond.ensures.0 c.if-beyond.true))

pub returns-then-beyond-2 : goal.returns-then-beyond-2
returns-then-beyond-2 c = rows_2 _ _ _ _ _ _ _ (omega (arith, c.beyond.ensures.1 c.if-beyond.false)) (omega (arith, c.beyond-2.ensures.0 c.if-beyond-2.true))

pub returns-then-n-ge-ROWS : goal.returns-then-n-ge-ROWS
returns-then-n-ge-ROWS c = rows_3 _ _ _ _ _ _ _ (omega (arith, c.beyond.ensures.1 c.if-beyond.false)) (omega (arith, c.beyond-2.ensures.1 c.if-beyond-2.false)) (omega arith)

pub returns : goal.returns
returns c = rows_last _ _ _ _ _ _ _ (omega (arith, c.beyond.ensures.1 c.if-beyond.false)) (omega (arith, c.beyond-2.ensures.1 c.if-beyond-2.false))
    (omega arith) (3 * (c.args.n + 1)) (omega arith)

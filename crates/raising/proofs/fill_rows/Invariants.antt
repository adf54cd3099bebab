-- `raising::fill_rows` meets its contract. The loop's invariant: the rows that are left are still to be raised, from the cursor on.
use Prim.Native.Nat.{suc, ◌+◌, ◌-◌, ◌*◌, ◌^◌, ◌≤◌, ◌<◌}
use mathlib.Core.Path.{◌≡◌}
use lib.ListN.{length}
use Rattle.sampling.specs.MethodCells.{filled_from, filled}
use Rattle.raising.proofs.fill_rows.Given as goal

abbrev pub invariant-loop-k : goal.invariant-loop-k
invariant-loop-k l = (filled l.s l.v.r l.initial.c l.keys l.bounds l.from l.top l.initial.t ≡ filled_from l.s l.v.r l.keys l.bounds (suc l.top - l.k) l.c l.k l.t) × (3 * (l.top + 1) ≤ length l.bounds) ×
    (l.top + 1 < 2 ^ 32)

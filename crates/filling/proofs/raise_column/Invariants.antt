-- `filling::raise_column` meets its contract. The loop's invariant: the column is still to be set in the rows that are left.
use Prim.Native.Nat.{suc, ◌+◌, ◌-◌, ◌*◌, ◌^◌, ◌≤◌, ◌<◌}
use mathlib.Core.Path.{◌≡◌}
use lib.ListN.{length}
use Rattle.tables.specs.MethodWords.{stride}
use Rattle.sampling.specs.MethodCells.{column_set_from, column_set}
use Rattle.filling.proofs.raise_column.Given as goal

abbrev pub invariant-loop-k : goal.invariant-loop-k
invariant-loop-k l = (column_set l.c.0 l.tick l.from l.top l.initial.t ≡ column_set_from l.c.0 l.tick (suc l.top - l.k) l.k l.t) × (length l.t ≡ length l.initial.t) × (l.c.0 < stride)
    × (stride * (l.top + 1) ≤ length l.initial.t) × (l.top + 1 < 2 ^ 32)

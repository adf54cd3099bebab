-- `lacking::write_row` meets its contract. The loop's invariant: the row has the ticks of the elements from here on.
use Prim.Native.Nat.{◌+◌, ◌-◌, ◌*◌}
use Rattle.layout.specs.Decode.{elements_at}
use Rattle.lacking.specs.Method.{RowOf}
use Rattle.lacking.proofs.write_row.Given as goal

abbrev pub invariant-loop-k : goal.invariant-loop-k
invariant-loop-k l = RowOf (elements_at l.s (l.n - l.k) (l.vector + 8 + 12 * l.k)) l.row

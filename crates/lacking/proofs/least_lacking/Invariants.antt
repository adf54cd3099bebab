-- `lacking::least_lacking` meets its contract. The loop's invariant: the whole answer is the answer from the least id so far
-- and the elements that are left.
use Prim.Native.Nat.{◌+◌, ◌-◌, ◌*◌}
use mathlib.Core.Path.{◌≡◌}
use mathlib.Core.Option.{none}
use Rattle.layout.specs.Decode.{elements_at}
use Rattle.ticks.specs.MethodRows.{least_of}
use Rattle.lookup.specs.Method.{elements_here}
use Rattle.lacking.specs.Method.{id_from, level_of, least_id}
use Rattle.lacking.proofs.least_lacking.Given as goal

abbrev pub invariant-loop-i : goal.invariant-loop-i
invariant-loop-i l = least_of (level_of l.keys l.row) (id_from l.t) none (elements_here l.t l.vector)
    ≡ least_of (level_of l.keys l.row) (id_from l.t) (least_id l.best) (elements_at l.t (l.n - l.i) (l.vector + 8 + 12 * l.i))

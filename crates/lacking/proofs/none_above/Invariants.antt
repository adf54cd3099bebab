-- `lacking::none_above` meets its contract. The loop's invariant: what lacks among all elements is what lacks among those that are left.
use Prim.Native.Nat.{◌+◌, ◌-◌, ◌*◌}
use mathlib.Core.Path.{◌≡◌}
use mathlib.Core.Option.{none}
use Rattle.layout.specs.Decode.{elements_at}
use Rattle.ticks.specs.MethodRows.{least_of}
use Rattle.lookup.specs.Method.{elements_here}
use Rattle.lacking.specs.Method.{id_from, level_of}
use Rattle.lacking.proofs.none_above.Given as goal

abbrev pub invariant-loop-i : goal.invariant-loop-i
invariant-loop-i l = least_of (level_of l.keys l.row) (id_from l.t) none (elements_here l.t l.vector)
    ≡ least_of (level_of l.keys l.row) (id_from l.t) none (elements_at l.t (l.n - l.i) (l.vector + 8 + 12 * l.i))

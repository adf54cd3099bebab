-- `cover::none_above` meets its contract. The loop's invariant: the whole answer is the one from here on.
use Prim.Native.Nat.{◌+◌, ◌-◌, ◌*◌}
use mathlib.Core.Path.{◌≡◌}
use Rattle.layout.specs.Decode.{elements_at}
use Rattle.lookup.specs.Method.{elements_here}
use Rattle.cover.specs.Method.{level_in, none_above}
use Rattle.cover.proofs.none_above.Given as goal

abbrev pub invariant-loop-i : goal.invariant-loop-i
invariant-loop-i l = none_above (level_in l.keys l.s l.x) (elements_here l.t l.y)
    ≡ none_above (level_in l.keys l.s l.x) (elements_at l.t (l.n - l.i) (l.y + 8 + 12 * l.i))

-- `lookup_ranges::top_of` meets its contract. The loop's invariant: the largest tick of all elements is that of the largest so far
-- and those that are left.
use mathlib.Core.Path.{◌≡◌}
use Prim.Native.Nat.{◌+◌}
use Rattle.ticks.specs.MethodRows.{top_tick}
use Rattle.lookup.specs.Method.{elements_here}
use Rattle.lookup_ranges.proofs.Ranges.{elements_from}
use Rattle.lookup_ranges.proofs.top_of.Given as goal

abbrev pub invariant-loop-i : goal.invariant-loop-i
invariant-loop-i l = top_tick l.before (elements_here l.s l.vector) ≡ top_tick l.top (elements_from l.s l.n (l.vector + 8) l.i)

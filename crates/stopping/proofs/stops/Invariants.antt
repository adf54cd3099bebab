-- `stopping::stops` meets its contract. The loop's invariant: the rows are still to be put at the bounds that are left.
use Prim.Native.Nat.{◌+◌, ◌-◌, ◌≤◌}
use mathlib.Core.Path.{◌≡◌}
use lib.ListN.{length}
use Rattle.codec.specs.Ids.{item_of}
use Rattle.sampling.specs.MethodRows.{rows_of, stopped_from}
use Rattle.stopping.proofs.stops.Given as goal

abbrev pub invariant-loop-k : goal.invariant-loop-k
invariant-loop-k l = (stopped_from l.x.s.now l.x.count l.x.at l.y.s.now l.y.count l.y.at (item_of l.last) (l.x.count + l.y.count) 0 0 (rows_of l.initial.bounds l.from)
    ≡ stopped_from l.x.s.now l.x.count l.x.at l.y.s.now l.y.count l.y.at (item_of l.last) (l.x.count + l.y.count - (l.i + l.j)) l.i l.j (rows_of l.bounds l.top))
    × (l.i ≤ l.x.count) × (l.j ≤ l.y.count) × (l.i + l.j ≡ l._k) × (l.from ≤ l.top) × (l.top ≤ l.from + l.i + l.j) × (length l.bounds ≡ length l.initial.bounds)

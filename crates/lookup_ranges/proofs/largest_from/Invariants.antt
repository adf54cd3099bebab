-- `lookup_ranges::largest_from` meets its contract. The loop's invariant: the largest tick of all ranges is that of the largest so far
-- and those that are left.
use Prim.Native.Nat.{◌+◌, ◌*◌, ◌≤◌}
use mathlib.Core.Path.{◌≡◌}
use lib.ListN.{length}
use Rattle.lookup_ranges.specs.Method.{top_by}
use Rattle.lookup_ranges.proofs.largest_from.Given as goal

abbrev pub invariant-loop : goal.invariant-loop
invariant-loop l = record {
  whole : top_by l.s l.v.r l.initial.c.left l.initial.c.next l.initial.c.index l.initial.c.vector 0
      ≡ top_by l.s l.v.r l.c.left l.c.next l.c.index l.c.vector l.top;
  room : l.c.next + 28 * l.c.left ≤ length l.s;
  left : l.c.left + l.counter ≡ l.v.start.left;
}

-- `lookup_ranges::alike` meets its contract. The loop's invariant: the whole answer is the answer for the ranges that are left.
use Prim.Native.Nat.{◌+◌, ◌*◌, ◌≤◌}
use mathlib.Core.Path.{◌≡◌}
use lib.ListN.{length}
use Rattle.lookup_ranges.specs.Method.{alike_by}
use Rattle.lookup_ranges.proofs.alike.Given as goal

abbrev pub invariant-loop : goal.invariant-loop
invariant-loop l = record {
  whole : alike_by l.s l.v.r l.key l.own l.initial.c.left l.initial.c.next l.initial.c.index l.initial.c.vector
      ≡ alike_by l.s l.v.r l.key l.own l.c.left l.c.next l.c.index l.c.vector;
  room : l.c.next + 28 * l.c.left ≤ length l.s;
  left : l.c.left + l.counter ≡ l.v.start.left;
}

-- `lookup::tick_scan` meets its contract. The loop's invariant: the tick of the key in the vector is its tick among the
-- elements that are left.
use Rattle.std.proofs.Common.{◌≡◌, ◌+◌, ◌-◌, ◌*◌}
use Rattle.layout.specs.Decode.{elements_at}
use Rattle.ticks.specs.Meaning.{tick_at}
use Rattle.lookup.proofs.tick_scan.Given as goal

abbrev pub invariant-loop-k : goal.invariant-loop-k
invariant-loop-k l =
    tick_at (elements_at l.s l.n (l.vector + 8)) l.key.0 ≡ tick_at (elements_at l.s (l.n - l.k) (l.vector + 8 + 12 * l.k)) l.key.0

-- `records_select::from_first` meets its contract. The loop's invariant: what is skipped from the first place on is what is skipped from the present
-- place on. The measure is the bytes that are left.
use mathlib.Core.Path.{◌≡◌}
use Prim.Native.Nat.{◌-◌}
use lib.ListN.{length}
use Rattle.codec.specs.Ids.{item_of}
use Rattle.replication.specs.Queries.{places}
use Rattle.records_select.specs.MethodSelect.{from_first}
use Rattle.records_select.proofs.from_first.Given as goal

abbrev pub invariant-loop-first : goal.invariant-loop-first
invariant-loop-first l = from_first l.s (item_of l.first) (places l.s l.at) ≡ from_first l.s (item_of l.first) (places l.s l.p)

abbrev pub decreases-loop-first : goal.decreases-loop-first
decreases-loop-first l = length l.s - l.p

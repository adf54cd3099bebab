-- `records::place_of` meets its contract. The loop's invariant: the place of the item's record among all records is the one among those
-- that are left.
use Prim.Native.Nat.{◌-◌}
use lib.ListN.{length}
use mathlib.Core.Path.{◌≡◌}
use Rattle.codec.specs.Ids.{item_of}
use Rattle.replication.specs.Queries.{places, place_of}
use Rattle.records.proofs.place_of.Given as goal

abbrev pub invariant-loop-p : goal.invariant-loop-p
invariant-loop-p l = place_of l.s (item_of l.item) (places l.s l.at) ≡ place_of l.s (item_of l.item) (places l.s l.p)

abbrev pub decreases-loop-p : goal.decreases-loop-p
decreases-loop-p l = length l.s - l.p

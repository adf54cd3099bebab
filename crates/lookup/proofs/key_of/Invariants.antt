-- `lookup::key_of` meets its contract. The loop's invariant: the place of the id among all ids is the index and the place
-- among those that are left.
use Rattle.std.proofs.Common.{◌≡◌, ◌+◌, ◌-◌, ◌*◌, ◌≤◌, length}
use Rattle.codec.specs.Ids.{replica_of}
use Rattle.layout.specs.Decode.{ids_at}
use Rattle.layout.specs.MethodPlaces.{ids_place}
use Rattle.ticks.specs.Meaning.{place}
use Rattle.lookup.proofs.key_of.Given as goal

abbrev pub invariant-loop-k : goal.invariant-loop-k
invariant-loop-k l =
    (place (replica_of l.p) (ids_at l.s l.r ids_place)
    ≡ l.k + place (replica_of l.p) (ids_at l.s (l.r - l.k) (ids_place + 16 * l.k)))
    × (ids_place + 16 * l.r ≤ length l.s)

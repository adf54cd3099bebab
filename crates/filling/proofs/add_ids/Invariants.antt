-- `filling::add_ids` meets its contract. The loop's invariant: the columns of the keys that are left are still to be added.
use Prim.Native.Nat.{◌+◌, ◌-◌, ◌*◌, ◌^◌, ◌≤◌, ◌<◌}
use mathlib.Core.Path.{◌≡◌}
use lib.ListN.{length}
use Rattle.layout.specs.MethodPlaces.{ids_place}
use Rattle.sampling.specs.MethodColumns.{columns_of, mapped_from, mapped}
use Rattle.filling.proofs.add_ids.Given as goal

abbrev pub invariant-loop-k : goal.invariant-loop-k
invariant-loop-k l = (mapped l.s l.r l.initial.ids l.n l.initial.keys ≡ mapped_from l.s l.n (l.r - l.k) l.k (columns_of l.ids l.m l.keys)) × (l.k ≤ l.r) × (l.n ≤ l.m) × (l.m ≤ l.n + l.k)
    × (length l.ids ≡ length l.initial.ids) × (length l.keys ≡ length l.initial.keys) × (ids_place + 16 * l.r ≤ length l.s) × (l.r ≤ length l.initial.keys)
    × (2 * (l.n + l.r) ≤ length l.initial.ids) × (l.n + l.r < 2 ^ 32)

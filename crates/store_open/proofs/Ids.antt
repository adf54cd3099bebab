-- Ids that are read from parts of the bytes: their words are the number that stands there.
use Prim.Native.Nat.{ℕ, ◌+◌, ◌-◌, ◌≤◌}
use mathlib.Core.Path.{◌≡◌, sym, ap, ◌∙◌}
use mathlib.Core.List.{List}
use native.Mathlib.Omega.{arith}
use lib.ListN.{length, take, drop, length-drop}
use lib.Seq.{length-take-le}
use Rattle.codec.specs.Number.{be_at}
use Rattle.codec.specs.declared.Item.{Item}
use Rattle.codec.specs.declared.Replica.{Replica}
use Rattle.codec.specs.Ids.{item_of, replica_of, item_read, replica_read}
use Rattle.codec.proofs.Ids.{replica_there}
use Rattle.codec.proofs.Total.{read_there}
use Rattle.leaves.proofs.Part.{part_at}
use Rattle.lookup_ranges.proofs.Outside.{item_part}

pub item_at : (s : List ℕ) (at : ℕ) (i : Item) → i ≡ item_read (take (at + 24 - at) (drop at s)) → at + 24 ≤ length s
    → item_of i ≡ be_at s 24 at
item_at s at i e h = ap (λ (x : Item). item_of x) e ∙ item_part s at h

pub replica_at : (s : List ℕ) (at : ℕ) (p : Replica) → p ≡ replica_read (take (at + 16 - at) (drop at s)) → at + 16 ≤ length s
    → replica_of p ≡ be_at s 16 at
replica_at s at p e h =
    let part = take (at + 16 - at) (drop at s) in
    let d = length-drop at s in
    let l : 16 ≤ length part = omega (arith, d, length-take-le (at + 16 - at) (drop at s) (omega (arith, d))) in
    ap (λ (x : Replica). replica_of x) e ∙ replica_there part l ∙ sym (read_there part 16 0 (omega arith)) ∙ part_at s at 16 h

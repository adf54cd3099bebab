-- Numbers inside a part of a slice, the part spelt as the code's `&s[at..at + m]` gives it, and the replica id that such a part is.
use mathlib.Core.Path.{◌≡◌, ap, ◌∙◌}
use mathlib.Core.List.{List}
use Prim.Native.Nat.{ℕ, ◌+◌, ◌-◌, ◌≤◌}
use native.Mathlib.Omega.{arith}
use lib.ListN.{length, take, drop, length-take, length-drop}
use Rattle.codec.specs.Number.{be_at}
use Rattle.codec.specs.Total.{read_at}
use Rattle.codec.specs.Ids.{replica_read}
use Rattle.codec.specs.declared.Replica.{Replica}
use Rattle.codec.proofs.Numbers.{be_take, be_drop}
use Rattle.codec.proofs.Total.{read_there}

pub part_read : (s : List ℕ) (at m n k : ℕ) → k + n ≤ m → at + m ≤ length s → read_at (take (at + m - at) (drop at s)) n k ≡ be_at s n (at + k)
part_read s at m n k h l =
    let long : k + n ≤ length (take (at + m - at) (drop at s)) = simp (length-take, length-drop) (omega arith) in
    read_there (take (at + m - at) (drop at s)) n k long ∙ be_take (drop at s) n k (at + m - at) (omega arith) ∙ be_drop s n at k

module _ (s : List ℕ) (at : ℕ) (p : Replica) (e : p ≡ replica_read (take (at + 16 - at) (drop at s))) (l : at + 16 ≤ length s) where
  pub high_read : p.high ≡ be_at s 8 at
  unfolding replica_read
  high_read = ap (λ (q : Replica). q.high) e ∙ part_read s at 16 8 0 (omega arith) l ∙ ap (be_at s 8) (omega arith)

  pub low_read : p.low ≡ be_at s 8 (at + 8)
  unfolding replica_read
  low_read = ap (λ (q : Replica). q.low) e ∙ part_read s at 16 8 8 (omega arith) l

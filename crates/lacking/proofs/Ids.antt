-- An id read from the bytes at a place is the number that these bytes make. The part is spelt as the code's `&s[at..at + n]` gives it.
-- And the order of two items is that of their numbers.
use Rattle.std.proofs.Common.{◌≡◌, ℕ, ◌+◌, ◌-◌, ◌≤◌, List, length, sym, ap, ◌∙◌, arith}
use Rattle.std.specs.Ordering.{nat_cmp, ordering_then}
use Rattle.std.proofs.lemmas.Grind.{common_steps}
use lib.ListN.{take, drop, length-drop}
use lib.Seq.{length-take-le}
use Rattle.codec.specs.Number.{be_at}
use Rattle.codec.specs.declared.Item.{Item}
use Rattle.codec.specs.declared.Replica.{Replica}
use Rattle.codec.specs.Words.{words3}
use Rattle.codec.specs.Ids.{InWords, item_of, replica_of, item_read, replica_read}
use Rattle.codec.proofs.Ids.{item_there, replica_there}
use Rattle.codec.proofs.Total.{read_there}
use Rattle.leaves.proofs.Part.{part_at}

module _ (s : List ℕ) (at : ℕ) where
  long : (n : ℕ) → at + n ≤ length s → n ≤ length (take (at + n - at) (drop at s))
  long n h =
      let d : length (drop at s) ≡ length s - at = length-drop at s in
      let t : length (take (at + n - at) (drop at s)) ≡ at + n - at = length-take-le (at + n - at) (drop at s) (omega arith) in
      omega arith

  pub item_part : (i : Item) → i ≡ item_read (take (at + 24 - at) (drop at s)) → at + 24 ≤ length s → item_of i ≡ be_at s 24 at
  item_part i e h =
      ap (λ (j : Item). item_of j) e ∙ item_there _ (long 24 h) ∙ sym (read_there _ 24 0 (long 24 h)) ∙ part_at s at 24 h

  pub replica_part : (p : Replica) → p ≡ replica_read (take (at + 16 - at) (drop at s)) → at + 16 ≤ length s
      → replica_of p ≡ be_at s 16 at
  replica_part p e h =
      ap (λ (q : Replica). replica_of q) e ∙ replica_there _ (long 16 h) ∙ sym (read_there _ 16 0 (long 16 h)) ∙ part_at s at 16 h

pub item_cmp : (i j : Item) → InWords i → InWords j
    → ordering_then (nat_cmp i.high j.high) (ordering_then (nat_cmp i.middle j.middle) (nat_cmp i.low j.low))
    ≡ nat_cmp (item_of i) (item_of j)
unfolding words3
item_cmp i j a b = grind (arith, common_steps)

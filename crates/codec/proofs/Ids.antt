-- Ids read from bytes: where all their bytes are there, the words are the number that the bytes make. And ids in words are
-- compared as these numbers: the first words decide where they differ, and else the words after them.
use Rattle.std.proofs.Common.{◌≡◌, ℕ, ◌^◌, ◌<◌, ◌≤◌, List, length, ltb, eqb, arith}
use Rattle.std.specs.Prelude.{◌==◌, ◌&&◌}
use Rattle.std.specs.Ordering.{partial_lt}
use Rattle.std.proofs.lemmas.Grind.{common_steps}
use Rattle.codec.specs.contracts.ItemPartialOrd.TheImpl.{partial_cmp-value as item-order}
use Rattle.codec.specs.contracts.ReplicaPartialOrd.TheImpl.{partial_cmp-value as replica-order}
use Rattle.codec.specs.declared.Item.{Item}
use Rattle.codec.specs.declared.Replica.{Replica}
use Rattle.codec.specs.Words.{words2, words3}
use Rattle.codec.specs.Ids.{InWords}
use Rattle.codec.specs.Number.{be_at}
use Rattle.codec.specs.Total.{read_at}
use Rattle.codec.specs.Ids.{item_of, replica_of, item_read, replica_read}
use Rattle.codec.proofs.Total.{read_id2, read_id3}

pub item_is_read : (id : List ℕ) (x y z : ℕ) → x ≡ read_at id 8 0 → y ≡ read_at id 8 8 → z ≡ read_at id 8 16
    → record { high = x; middle = y; low = z } ≡ item_read id
unfolding item_read
item_is_read id x y z a b c = cc

pub replica_is_read : (id : List ℕ) (x y : ℕ) → x ≡ read_at id 8 0 → y ≡ read_at id 8 8 → record { high = x; low = y } ≡ replica_read id
unfolding replica_read
replica_is_read id x y a b = cc

pub item_there : (id : List ℕ) → 24 ≤ length id → item_of (item_read id) ≡ be_at id 24 0
unfolding item_read
item_there id h = read_id3 id 0 (omega arith)

pub replica_there : (id : List ℕ) → 16 ≤ length id → replica_of (replica_read id) ≡ be_at id 16 0
unfolding replica_read
replica_there id h = read_id2 id 0 (omega arith)

-- ---- ids are compared as the numbers that they are

module _ (i j : Item) (a : InWords i) (b : InWords j) where
  pub item_lt : partial_lt item-order.it i j ≡ ltb (item_of i) (item_of j)
  unfolding words3
  item_lt = grind (arith, common_steps)

  pub item_eq : i.high == j.high && (i.middle == j.middle && i.low == j.low) ≡ eqb (item_of i) (item_of j)
  unfolding words3
  item_eq = grind (arith, common_steps)

module _ (p q : Replica) (a : p.low < 2 ^ 64) (b : q.low < 2 ^ 64) where
  pub replica_lt : partial_lt replica-order.it p q ≡ ltb (replica_of p) (replica_of q)
  unfolding words2
  replica_lt = grind (arith, common_steps)

  pub replica_eq : p.high == q.high && p.low == q.low ≡ eqb (replica_of p) (replica_of q)
  unfolding words2
  replica_eq = grind (arith, common_steps)

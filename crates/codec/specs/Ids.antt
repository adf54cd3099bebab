-- Ids as the code has them: words of 64 bits, the highest first.
use Rattle.std.specs.Prelude.{ℕ, ◌^◌, ◌<◌, List}
use Rattle.codec.specs.Total.{read_at}
use Rattle.codec.specs.Words.{words2, words3}
use Rattle.codec.specs.declared.Item.{Item}
use Rattle.codec.specs.declared.Replica.{Replica}

abbrev pub item_of : Item → ℕ
item_of i = words3 i.high i.middle i.low

abbrev pub replica_of : Replica → ℕ
replica_of p = words2 p.high p.low

pub record InWords (i : Item) : Type 0 where
  pub high : i.high < 2 ^ 64
  pub middle : i.middle < 2 ^ 64
  pub low : i.low < 2 ^ 64

-- the item id in the first 24 bytes, and the replica id in the first 16; a word that is not all there is 0
unfoldable pub item_read : List ℕ → Item
item_read s = record { high = read_at s 8 0; middle = read_at s 8 8; low = read_at s 8 16 }

unfoldable pub replica_read : List ℕ → Replica
replica_read s = record { high = read_at s 8 0; low = read_at s 8 8 }

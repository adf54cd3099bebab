-- The method of the reading of lists: nothing here is to be believed. These definitions name the parts that its
-- functions compute, and its laws show that together they are the definitions of the layout.
use Rattle.std.specs.Prelude.{ℕ, suc, List, Option, None, Some, Result, Ok, Err}
use Rattle.codec.specs.declared.Item.{Item}
use Rattle.codec.specs.declared.Refusal.{Refusal}
use Rattle.codec.specs.Ids.{item_of}
use Rattle.codec.specs.Refusal.{number}
use Rattle.layout.specs.Got.{Got}
use Rattle.layout.specs.Got.{Num, Fault}
use Rattle.layout.specs.Read.{◌▷◌, repeat, range}

-- the lowest bound that a range may have after the one before it: any where there is none
unfoldable pub lowest : Option Item → ℕ
lowest None = 0
lowest (Some b) = suc (item_of b)

-- a range's bound, and the place after the range
unfoldable pub ranged : ℕ → Result Item Refusal → Got
ranged next (Ok bound) = Num (suc (item_of bound)) next
ranged next (Err e) = Fault (number e)

-- the g ranges from a place on, and the place after them
unfoldable pub ranges_from : List ℕ → ℕ → ℕ → ℕ → Got
ranges_from s v g start = repeat (range s v) g 0 start ▷ λ low next. Num g next

-- 17 for a span: the tests of lengths and words are document 01's.
use Prim.Native.Nat.{ℕ}
use mathlib.Core.Path.{◌≡◌, ap₂, ◌∙◌}
use mathlib.Core.Bool.{Bool, true}
use mathlib.Core.List.{List}
use native.Mathlib.Omega.{arith}
use lib.Dec.{ltb}
use lib.ListN.{length}
use borrow.Author.Tests.{eq-eqb, ne_eqb}
use Rattle.ticks.specs.Calls.{id_of, wrong_length, wrong_span}
use Rattle.codec.specs.declared.Item.{Item}
use Rattle.codec.specs.Ids.{item_of, item_read}
use Rattle.codec.proofs.Total.{read_id3}

-- an id of 24 bytes
pub item_id : (id : List ℕ) → length id ≡ 24 → item_of (item_read id) ≡ id_of 24 id
unfolding item_read id_of
item_id id h = read_id3 id 0 (omega arith)

module _ (first last : List ℕ) where
  pub wrong_first : (length first ≡ 24 → ⊥) → true ≡ wrong_span first last
  unfolding wrong_span wrong_length
  wrong_first h = rw (ne_eqb (length first) 24 h)

  pub wrong_last : length first ≡ 24 → (length last ≡ 24 → ⊥) → true ≡ wrong_span first last
  unfolding wrong_span wrong_length
  wrong_last k h = rw (eq-eqb (length first) 24 k, ne_eqb (length last) 24 h)

  right : length first ≡ 24 → length last ≡ 24 → ltb (id_of 24 last) (id_of 24 first) ≡ wrong_span first last
  unfolding wrong_span wrong_length
  right k l = rw (eq-eqb (length first) 24 k, eq-eqb (length last) 24 l)

  pub wrong_order : length first ≡ 24 → length last ≡ 24 → (x y : Item) (t : Bool) → t ≡ ltb (item_of y) (item_of x) → x ≡ item_read first
      → y ≡ item_read last → t ≡ wrong_span first last
  wrong_order k l x y t e f g =
      e ∙ ap₂ (λ u v. ltb (item_of u) (item_of v)) g f ∙ ap₂ ltb (item_id last l) (item_id first k) ∙ right k l

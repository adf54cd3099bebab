-- The method of comparing, by words: nothing here is to be believed. The laws show that what is written is what is defined.
use Rattle.std.specs.Prelude.{ℕ, ◌≤◌, ◌<◌, ◌≡◌, List, length, Option, Some, None}
use Rattle.codec.specs.Number.{be_at}
use Rattle.codec.specs.Reply.{answer, after}
use Rattle.codec.specs.Answer.{Answer}
use Rattle.codec.specs.declared.Item.{Item}
use Rattle.codec.specs.Ids.{item_of}
use Rattle.layout.specs.Knowledge.{Rules, Knowledge}
use Rattle.ticks.specs.Meaning.{highest}
use Rattle.ticks.specs.Operations.{Lack, nowhere, here, lacking}
use Rattle.ticks.specs.Compare.{compare_reply, order_value}
use Rattle.lookup.specs.declared.Cursor.{Cursor}
use Rattle.lookup.specs.Method.{elements_here}
use Rattle.compare.specs.declared.Next.{Next}
use Rattle.compare.specs.declared.Next.TheVariants as N

-- How far both are alike

-- nothing lacks below an item, so that the first lacking place is the first from there on; or nothing lacks
pub record Reached (a b : Knowledge) (e : Option Item) : Type 0 where
  pub whole : e ≡ None → lacking a b 0 highest ≡ nowhere
  pub from : (i : Item) → e ≡ Some i → (item_of i ≤ highest) × (lacking a b 0 highest ≡ lacking a b (item_of i) highest)

-- two cursors that stand at one item: the vectors are the same, and there is no further bound, or one that is the next of both
pub record GoesOn (s : List ℕ) (c : Cursor) (t : List ℕ) (d : Cursor) (e : Next) : Type 0 where
  pub done : e ≡ N.Done → (elements_here s c.vector ≡ elements_here t d.vector) × ((c.left ≡ 0) × (d.left ≡ 0))
  pub on : (i : Item) → e ≡ N.At i → (elements_here s c.vector ≡ elements_here t d.vector)
      × ((0 < c.left) × ((0 < d.left) × ((be_at s 24 c.next ≡ item_of i) × (be_at t 24 d.next ≡ item_of i))))

-- What is written

-- the length of what is written for a side
unfoldable pub size_of : Lack → ℕ
size_of nowhere = 0
size_of (here i p) = 56

-- how the call ends: its answer, and the buffer and the order after it from those before
pub record Compared (R : Rules) (s t out left : List ℕ) (old new : ℕ) (a : Answer) : Type 0 where
  pub is : a ≡ answer (compare_reply R s t) (length out)
  pub buffer : left ≡ after (compare_reply R s t) out
  pub order : new ≡ order_value R s t (answer (compare_reply R s t) (length out)) old

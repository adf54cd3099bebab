-- The search for an item's record along the walker's places. What is found from the first place on is what is found from the present place
-- on: a record of another item is passed, and past the last whole record there is none.
use Prim.Native.Nat.{ℕ, ◌+◌, ◌≤◌}
use mathlib.Core.Path.{◌≡◌, refl, sym, ap, ◌∙◌}
use mathlib.Core.Bool.{Bool, true, false}
use mathlib.Core.List.{List}
use mathlib.Core.Option.{none, some}
use native.Mathlib.Omega.{arith}
use lib.Dec.{eqb}
use lib.ListN.{length}
use borrow.Author.Tests.{eqb-true, eqb-false}
use Rattle.codec.specs.Number.{be_at}
use Rattle.replication.specs.Reading.{item_place, rec_at}
use Rattle.replication.specs.Queries.{places, place_of, length_at}
use Rattle.replication.proofs.Tables.InBytes.{whole_at}
use Rattle.replication.proofs.Tables.Walked.{place_end, place_found, place_on}
use Rattle.std.specs.Prelude as R
use Rattle.replication.specs.MethodRecords.{WholeAt}
use Rattle.records.specs.Method.{found_place}
use Rattle.records.proofs.Fields.{whole_past, length-ends, length_stands, length-behind, item_at}

pub found_at_lem : (at : ℕ) → found_place (R.Some at) ≡ some at
unfolding found_place
found_at_lem at = refl

pub found_nothing : found_place R.None ≡ none
unfolding found_place
found_nothing = refl

-- a comparison of the words read
pub same_item : (s : List ℕ) (at i j : ℕ) → j ≡ be_at s 24 (at + item_place) → (r : Bool) → r ≡ eqb j i → r ≡ eqb (rec_at s at).item i
same_item s at i j e r h = h ∙ ap (λ (k : ℕ). eqb k i) (e ∙ sym (item_at s at))

-- a length other than 0: all fields of the record are there, and the place behind it is inside the bytes
pub length-at : (s : List ℕ) (at n : ℕ) → n ≡ length_at s at → (n ≡ 0 → ⊥) → WholeAt s at
length-at s at n e z = whole_at s at (length_stands s at n e z)

pub length-inside : (s : List ℕ) (at n : ℕ) → n ≡ length_at s at → (n ≡ 0 → ⊥) → at + n ≤ length s
length-inside s at n e z = omega (arith, length-behind s at n e z, (length-at s at n e z).inside)

module _ (s : List ℕ) (i first at : ℕ) (inv : place_of s i (places s first) ≡ place_of s i (places s at)) where
  pub search_past : length s ≤ at → found_place R.None ≡ place_of s i (places s first)
  search_past l = found_nothing ∙ sym (inv ∙ place_end s i at (whole_past s at l))

  module _ (n : ℕ) (e : n ≡ length_at s at) where
    pub search_end : n ≡ 0 → found_place R.None ≡ place_of s i (places s first)
    search_end z = found_nothing ∙ sym (inv ∙ place_end s i at (length-ends s at n e z))

    module _ (z : n ≡ 0 → ⊥) (r : Bool) (h : r ≡ eqb (rec_at s at).item i) where
      pub search_found : r ≡ true → found_place (R.Some at) ≡ place_of s i (places s first)
      search_found k =
          found_at_lem at ∙ sym (inv ∙ place_found s i at (length_stands s at n e z) (eqb-true (rec_at s at).item i (sym h ∙ k)))

      pub search_on : r ≡ false → place_of s i (places s first) ≡ place_of s i (places s (at + n))
      search_on k =
          inv
          ∙ (place_on s i at (length_stands s at n e z) (eqb-false (rec_at s at).item i (sym h ∙ k))
          ∙ ap (λ (p : ℕ). place_of s i (places s p)) (sym (length-behind s at n e z)))

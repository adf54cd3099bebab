-- The selection by loops. Records below the first item are passed; then each turn finds the next place that is selected, passing those that
-- are left out. What was counted and stored so far, with what is left to select, is the whole.
use Prim.Native.Nat.{ℕ, ◌+◌, ◌-◌, ◌≤◌, ◌<◌}
use mathlib.Core.Path.{◌≡◌, refl, sym, ap, ap₂, ◌∙◌}
use mathlib.Core.Bool.{Bool, true, false}
use mathlib.Core.List.{List, [], ◌∷◌}
use native.Mathlib.Omega.{arith}
use native.Mathlib.Numerals.{add-one}
use lib.Dec.{ltb}
use lib.ListN.{length, set}
use lib.Seq.{sets}
use borrow.Author.Tests.{ltb-true, ltb-false}
use Rattle.codec.specs.Total.{read_at}
use Rattle.codec.specs.Words.{words3}
use Rattle.replication.specs.Reading.{item_place, rec_at}
use Rattle.replication.specs.Queries.{places, length_at}
use Rattle.replication.proofs.Tables.Places.{places_step, places_end}
use Rattle.records.proofs.Fields.{length-ends, length_stands, length-behind, item_word}
use Rattle.records.proofs.Finding.{length-at, length-inside}
use Rattle.lookup.specs.declared.Cursor.{Cursor}
use Rattle.lookup.specs.Method.{advanced}
use Rattle.records_versions.specs.Method.{moved_to, change_in}
use Rattle.records_versions.proofs.Versions.{moved_is}
use Rattle.records_join.specs.MethodJoin.{at_address, size_from, fronted}
use Rattle.records_join.proofs.Addresses.{at_first, size_none, size_more, fronted-sets}
use Rattle.records_select.specs.declared.Pick.{Pick}
use Rattle.records_select.specs.MethodSelect.{from_first, lacking, lacking_at, select_places, Picks}
use Rattle.records_select.proofs.SelectedPlaces.{first_none, first_below, first_there}
use Rattle.records_select.proofs.SelectedPlaces.{lacking_none, lacking_ends, lacking_leaves, lacking_takes, select_is}

-- the item that was read
read_item : (s : List ℕ) (p n i : ℕ) → n ≡ length_at s p → (n ≡ 0 → ⊥) → i ≡ read_at s 24 (p + item_place) → i ≡ (rec_at s p).item
read_item s p n i e z h = h ∙ item_word s p (length-at s p n e z)

-- where a record stands, the table goes on behind it
places_on : (s : List ℕ) (p n : ℕ) → n ≡ length_at s p → (n ≡ 0 → ⊥) → places s p ≡ p ∷ places s (p + n)
places_on s p n e z =
    places_step s p (length_stands s p n e z) ∙ ap (λ (q : ℕ). p ∷ places s q) (sym (length-behind s p n e z))

-- fewer bytes are left
pub less_left : (s : List ℕ) (p n : ℕ) → n ≡ length_at s p → (n ≡ 0 → ⊥) → length s - (p + n) < length s - p
less_left s p n e z = omega (arith, length-inside s p n e z, z)

-- ---- up to the first item

module _ (s : List ℕ) (first at p n : ℕ) (inv : from_first s first (places s at) ≡ from_first s first (places s p))
    (e : n ≡ length_at s p) where
  pub skip_end : n ≡ 0 → places s p ≡ from_first s first (places s at)
  skip_end z =
      let q = places_end s p (length-ends s p n e z) in
      sym (inv ∙ (ap (from_first s first) q ∙ (first_none s first ∙ sym q)))

  module _ (z : n ≡ 0 → ⊥) (i : ℕ) (g : i ≡ read_at s 24 (p + item_place)) (b : Bool) (h : b ≡ ltb i first) where
    pub skip_stop : b ≡ false → places s p ≡ from_first s first (places s at)
    skip_stop f =
        let q = places_on s p n e z in
        let l = ltb-false i first (sym h ∙ f) in
        sym (inv ∙ (ap (from_first s first) q
        ∙ (first_there s first p (places s (p + n)) (omega (arith, l, read_item s p n i e z g)) ∙ sym q)))

    pub skip_on : b ≡ true → from_first s first (places s at) ≡ from_first s first (places s (p + n))
    skip_on f =
        let l = ltb-true i first (sym h ∙ f) in
        inv ∙ (ap (from_first s first) (places_on s p n e z)
        ∙ first_below s first p (places s (p + n)) (omega (arith, l, read_item s p n i e z g)))

-- ---- the next place

lacking_is : (s : List ℕ) (at : ℕ) (k : List ℕ) (r : ℕ) (c : Cursor) (last : ℕ)
    → lacking_at s at k r c last ≡ lacking s k r c last (places s at)
unfolding lacking_at
lacking_is s at k r c last = refl

-- what is selected from the present place on is all that is selected from the first one on
pub record Passed (s : List ℕ) (at : ℕ) (k : List ℕ) (r : ℕ) (start : Cursor) (last p : ℕ) (c : Cursor) : Type 0 where
  pub is : lacking_at s at k r start last ≡ lacking_at s p k r c last
  pub left : length s - p ≤ length s - at

module _ (s : List ℕ) (at : ℕ) (k : List ℕ) (r : ℕ) (start : Cursor) (last : ℕ) where
  pub passed_none : Passed s at k r start last at start
  passed_none = record { is = refl; left = omega arith }

  module _ (p : ℕ) (c : Cursor) (inv : Passed s at k r start last p c) (n : ℕ) (e : n ≡ length_at s p) where
    pub pick_end : n ≡ 0 → lacking_at s at k r start last ≡ []
    pick_end z =
        inv.is ∙ (lacking_is s p k r c last
        ∙ (ap (lacking s k r c last) (places_end s p (length-ends s p n e z)) ∙ lacking_none s k r c last))

    module _ (z : n ≡ 0 → ⊥) (i0 i1 i2 : ℕ) (g : words3 i0 i1 i2 ≡ read_at s 24 (p + item_place)) (b : Bool)
        (h : b ≡ ltb last (words3 i0 i1 i2)) where
      item_is : words3 i0 i1 i2 ≡ (rec_at s p).item
      item_is = read_item s p n (words3 i0 i1 i2) e z g

      here : lacking_at s at k r start last ≡ lacking s k r c last (p ∷ places s (p + n))
      here = inv.is ∙ (lacking_is s p k r c last ∙ ap (lacking s k r c last) (places_on s p n e z))

      pub pick_past : b ≡ true → lacking_at s at k r start last ≡ []
      pick_past f =
          let l = ltb-true last (words3 i0 i1 i2) (sym h ∙ f) in
          here ∙ lacking_ends s k r c last p (places s (p + n)) (omega (arith, l, item_is))

      module _ (f : b ≡ false) (d : Cursor) (m : d ≡ advanced k r c (words3 i0 i1 i2)) (t : Bool)
          (o : t ≡ change_in s p k r d.vector) where
        inside : (rec_at s p).item ≤ last
        inside = omega (arith, ltb-false last (words3 i0 i1 i2) (sym h ∙ f), item_is)

        moved : d ≡ moved_to s p k r c
        moved = moved_is s p k r c d i0 i1 i2 g m

        asked : (a : Bool) → t ≡ a → change_in s p k r (moved_to s p k r c).vector ≡ a
        asked a j = ap (λ (x : Cursor). change_in s p k r x.vector) (sym moved) ∙ (sym o ∙ j)

        onwards : lacking s k r (moved_to s p k r c) last (places s (p + n)) ≡ lacking_at s (p + n) k r d last
        onwards = ap (λ (x : Cursor). lacking s k r x last (places s (p + n))) (sym moved) ∙ sym (lacking_is s (p + n) k r d last)

        pub pick_taken : t ≡ false → Picks s at k r start last (record { at = p; size = n; cursor = d })
        pick_taken j =
            let l = length-inside s p n e z in
            record {
              next =
                  here ∙ (lacking_takes s k r c last p (places s (p + n)) inside (asked false j) ∙ ap (λ (ps : List ℕ). p ∷ ps) onwards);
              sized = e;
              some = omega (arith, z);
              left = omega (arith, inv.left);
            }

        pub pick_on : t ≡ true → Passed s at k r start last (p + n) d
        pick_on j =
            let l = length-inside s p n e z in
            record {
              is = here ∙ (lacking_leaves s k r c last p (places s (p + n)) inside (asked true j) ∙ onwards);
              left = omega (arith, inv.left);
            }

-- ---- all of them

-- what is counted and stored, and the place and the cursor from which the rest is selected
pub record Selecting (s : List ℕ) (at : ℕ) (k : List ℕ) (r : ℕ) (start : Cursor) (last : ℕ) (d : List ℕ) (p : ℕ) (c : Cursor)
    (count size : ℕ) (picks : List ℕ) : Type 0 where
  pub counted : length (lacking_at s at k r start last) ≡ count + length (lacking_at s p k r c last)
  pub sized : size_from s s (lacking_at s at k r start last) ≡ size + size_from s s (lacking_at s p k r c last)
  pub stored : sets d 0 (lacking_at s at k r start last) ≡ sets picks count (lacking_at s p k r c last)
  pub few : count ≤ size
  pub left : size + (length s - p) ≤ length s - at

module _ (s : List ℕ) (at : ℕ) (k : List ℕ) (r : ℕ) (start : Cursor) (last : ℕ) (d : List ℕ) where
  pub selecting_all : Selecting s at k r start last d at start 0 0 d
  selecting_all = record { counted = omega arith; sized = omega arith; stored = refl; few = omega arith; left = omega arith }

  module _ (p : ℕ) (c : Cursor) (count size : ℕ) (picks : List ℕ) (i : Selecting s at k r start last d p c count size picks) where
    module _ (z : lacking_at s p k r c last ≡ []) where
      pub count_end : count ≡ length (lacking_at s at k r start last)
      count_end = omega (arith, i.counted, ap length z)

      pub size_end : size ≡ size_from s s (lacking_at s at k r start last)
      size_end = omega (arith, i.sized, ap (size_from s s) z ∙ size_none s s)

      pub picks_end : picks ≡ fronted d (lacking_at s at k r start last)
      picks_end = sym (sym (fronted-sets d (lacking_at s at k r start last)) ∙ (i.stored ∙ ap (sets picks count) z))

    module _ (x : Pick) (h : Picks s p k r c last x) where
      size_some : x.size ≡ 0 → ⊥
      size_some z = omega (arith, z, h.some)

      pub pick_inside : x.at + x.size ≤ length s
      pick_inside = length-inside s x.at x.size h.sized size_some

      pub selecting_more : (u : List ℕ) → u ≡ set picks count x.at
          → Selecting s at k r start last d (x.at + x.size) x.cursor (count + 1) (size + x.size) u
      selecting_more u e =
          let rest = lacking_at s (x.at + x.size) k r x.cursor last in
          let one : x.size ≡ at_address length_at s s x.at =
          h.sized ∙ sym (at_first length_at s s x.at (length-at s x.at x.size h.sized size_some).first) in
          record {
            counted = omega (arith, i.counted, ap length h.next);
            sized = omega (arith, i.sized, ap (size_from s s) h.next ∙ size_more s s x.at rest, one);
            stored =
                i.stored
                ∙ (ap (sets picks count) h.next ∙ ap₂ {C = List ℕ} (λ (l : List ℕ) (n : ℕ). sets l n rest) (sym e) (sym (add-one count)));
            few = omega (arith, i.few, h.some);
            left = omega (arith, i.left, h.left);
          }

      pub selecting_less : length s - (x.at + x.size) < length s - p
      selecting_less = omega (arith, h.left, h.some)

      -- what the code needs for its sums
      pub selecting_room : (size + x.size ≤ length s) × (count ≤ size)
      selecting_room = (omega (arith, i.left, h.left), i.few)

-- ---- both parts of the selection

module _ (s : List ℕ) (at : ℕ) (k : List ℕ) (r : ℕ) (start : Cursor) (first last p : ℕ)
    (f : places s p ≡ from_first s first (places s at)) where
  pub select_from : lacking_at s p k r start last ≡ select_places s at k r start first last
  select_from = lacking_is s p k r start last ∙ (ap (lacking s k r start last) f ∙ sym (select_is s at k r start first last))

  pub select_count : (n : ℕ) → n ≡ length (lacking_at s p k r start last) → n ≡ length (select_places s at k r start first last)
  select_count n e = e ∙ ap length select_from

  pub select_size : (n : ℕ) → n ≡ size_from s s (lacking_at s p k r start last) → n ≡ size_from s s (select_places s at k r start first last)
  select_size n e = e ∙ ap (size_from s s) select_from

  pub select_picks : (d u : List ℕ) → u ≡ fronted d (lacking_at s p k r start last) → u ≡ fronted d (select_places s at k r start first last)
  select_picks d u e = e ∙ ap (fronted d) select_from

-- A table in bytes and the walker over it. Where whole records stand from a place on to the very end, the walker goes through them all and
-- no further, so that the table is the values at the walker's places, and their number need not be carried. An item's record is in the
-- table exactly where one of the walker's places has it.
use Prim.Native.Nat.{ℕ, zero, suc}
use mathlib.Core.Path.{◌≡◌, refl, sym, ap, ◌∙◌}
use mathlib.Core.Bool.{Bool, true, false}
use mathlib.Core.List.{List, [], ◌∷◌}
use mathlib.Core.Option.{none, some}
use native.Mathlib.Omega.{arith}
use lib.Dec.{eqb}
use lib.ListN.{length}
use borrow.Author.Tests.{eq-eqb, ne_eqb, eqb-true, eqb-false}
use Rattle.layout.specs.Knowledge.{All}
use Rattle.replication.specs.Formats.{find}
use Rattle.replication.specs.Reading.{behind, rec_at, whole}
use Rattle.replication.specs.Queries.{places, place_of}
use Rattle.replication.specs.MethodTable.{recs_of, table_at}
use Rattle.replication.specs.MethodRecords.{records_at, fits_at, found_at}
use Rattle.replication.proofs.Tables.Rising.{find-nil, find_here, find_there}
use Rattle.replication.proofs.Tables.Places.{places_step, places_end, places_whole, table_read}
use Rattle.replication.proofs.Tables.InBytes.{records-nil, records-cons, recs_fits}

-- ---- clauses

module _ (s : List ℕ) where
  pub recs_nil : recs_of s [] ≡ []
  unfolding recs_of
  recs_nil = refl

  pub recs_cons : (at : ℕ) (ats : List ℕ) → recs_of s (at ∷ ats) ≡ rec_at s at ∷ recs_of s ats
  unfolding recs_of
  recs_cons at ats = refl

  table_of : (at : ℕ) → table_at s at ≡ recs_of s (places s at)
  unfolding table_at
  table_of at = refl

  pub found_none : found_at s none ≡ none
  unfolding found_at
  found_none = refl

  pub found_some : (at : ℕ) → found_at s (some at) ≡ some (rec_at s at)
  unfolding found_at
  found_some at = refl

  pub place-nil : (i : ℕ) → place_of s i [] ≡ none
  unfolding place_of
  place-nil i = refl

  pub place_here : (i at : ℕ) (ats : List ℕ) → (rec_at s at).item ≡ i → place_of s i (at ∷ ats) ≡ some at
  unfolding place_of
  place_here i at ats e = rw (eq-eqb (rec_at s at).item i e, place_of)

  pub place_there : (i at : ℕ) (ats : List ℕ) → ((rec_at s at).item ≡ i → ⊥) → place_of s i (at ∷ ats) ≡ place_of s i ats
  unfolding place_of
  place_there i at ats n = rw (ne_eqb (rec_at s at).item i n, place_of)

-- ---- a table is the values at the walker's places

-- the number of records read by places is the one asked for
pub count_records : (s : List ℕ) (n at : ℕ) → length (records_at s n at) ≡ n
count_records s zero at = ap length (records-nil s at)
count_records s (suc n) at = ap length (records-cons s n at) ∙ ap suc (count_records s n (behind s at))

module _ (s : List ℕ) (n at : ℕ) (f : fits_at s n at ≡ true) where
  pub fits_table : table_at s at ≡ records_at s n at
  fits_table = table_read s n at (records_at s n at) (recs_fits s n at f)

  pub count_table : length (table_at s at) ≡ n
  count_table = ap length fits_table ∙ count_records s n at

recs_count : (s : List ℕ) (ats : List ℕ) → length (recs_of s ats) ≡ length ats
recs_count s [] = ap length (recs_nil s)
recs_count s (at ∷ ats) = ap length (recs_cons s at ats) ∙ ap suc (recs_count s ats)

pub count_places : (s : List ℕ) (n at : ℕ) → fits_at s n at ≡ true → length (places s at) ≡ n
count_places s n at f = sym (recs_count s (places s at)) ∙ (ap length (sym (table_of s at)) ∙ count_table s n at f)

-- ---- finding an item

-- along the walker's places, for every place of any bytes
module _ (s : List ℕ) (i at : ℕ) where
  pub place_end : whole s at ≡ false → place_of s i (places s at) ≡ none
  place_end w = ap (place_of s i) (places_end s at w) ∙ place-nil s i

  pub place_found : whole s at ≡ true → (rec_at s at).item ≡ i → place_of s i (places s at) ≡ some at
  place_found w e = ap (place_of s i) (places_step s at w) ∙ place_here s i at (places s (behind s at)) e

  pub place_on : whole s at ≡ true → ((rec_at s at).item ≡ i → ⊥) → place_of s i (places s at) ≡ place_of s i (places s (behind s at))
  place_on w n = ap (place_of s i) (places_step s at w) ∙ place_there s i at (places s (behind s at)) n

-- the record found among the places is the one found in the table
find_of : (s : List ℕ) (i : ℕ) (ats : List ℕ) → find i (recs_of s ats) ≡ found_at s (place_of s i ats)
find_of s i [] = ap (find i) (recs_nil s) ∙ (find-nil i ∙ sym (ap (found_at s) (place-nil s i) ∙ found_none s))
find_of s i (at ∷ ats) = ap (find i) (recs_cons s at ats) ∙ go (eqb (rec_at s at).item i) refl (find_of s i ats)
  where
    go : (t : Bool) → eqb (rec_at s at).item i ≡ t → find i (recs_of s ats) ≡ found_at s (place_of s i ats) →
        find i (rec_at s at ∷ recs_of s ats) ≡ found_at s (place_of s i (at ∷ ats))
    go true e h =
        let k = eqb-true (rec_at s at).item i e in
        find_here i (rec_at s at) (recs_of s ats) k ∙ sym (ap (found_at s) (place_here s i at ats k) ∙ found_some s at)
    go false e h =
        let k = eqb-false (rec_at s at).item i e in
        find_there i (rec_at s at) (recs_of s ats) k ∙ (h ∙ sym (ap (found_at s) (place_there s i at ats k)))

pub find_table : (s : List ℕ) (i at : ℕ) → find i (table_at s at) ≡ found_at s (place_of s i (places s at))
find_table s i at = ap (find i) (table_of s at) ∙ find_of s i (places s at)

-- where no place has the item, the table does not have it
module _ (s : List ℕ) (i at : ℕ) where
  pub none_found : place_of s i (places s at) ≡ none → find i (table_at s at) ≡ none
  none_found e = find_table s i at ∙ (ap (found_at s) e ∙ found_none s)

-- where a place is found, a whole record of the item stands
found_of : (s : List ℕ) (i : ℕ) (ats : List ℕ) (a : ℕ) → All (λ (x : ℕ). whole s x ≡ true) ats → place_of s i ats ≡ some a →
    (whole s a ≡ true) × ((rec_at s a).item ≡ i)
found_of s i [] a h e = absurd (let k : none ≡ some a = sym (place-nil s i) ∙ e in let z : ◌≡◌ {A = ℕ} 0 1 = cc in omega arith)
found_of s i (at ∷ ats) a h e = go (eqb (rec_at s at).item i) refl (found_of s i ats a h.1)
  where
    go : (t : Bool) → eqb (rec_at s at).item i ≡ t → (place_of s i ats ≡ some a → (whole s a ≡ true) × ((rec_at s a).item ≡ i)) →
        (whole s a ≡ true) × ((rec_at s a).item ≡ i)
    go true x rest =
        let k = eqb-true (rec_at s at).item i x in
        let j : some at ≡ some a = sym (place_here s i at ats k) ∙ e in
        let q : at ≡ a = cc in
        (ap (whole s) (sym q) ∙ h.0, ap (λ (y : ℕ). (rec_at s y).item) (sym q) ∙ k)
    go false x rest = rest (sym (place_there s i at ats (eqb-false (rec_at s at).item i x)) ∙ e)

pub found_place_lem : (s : List ℕ) (i at a : ℕ) → place_of s i (places s at) ≡ some a → (whole s a ≡ true) × ((rec_at s a).item ≡ i)
found_place_lem s i at a e = found_of s i (places s at) a (places_whole s at) e

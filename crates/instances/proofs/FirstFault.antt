-- Nothing after the first faulty field of a knowledge is looked at: the field's number is given also where the bytes end
-- inside the very next field, where a later field is faulty too, and where bytes are left over. The examples are those of
-- the table of faults in `layout`, with every field changed in turn; they are computed.
use Prim.Native.Nat.{ℕ, suc}
use mathlib.Core.Path.{◌≡◌, refl}
use mathlib.Core.Bool.{true, false}
use mathlib.Core.List.{List, [], ◌∷◌, ◌++◌}
use lib.Dec.{eqb}
use Rattle.codec.specs.Number.{be_from, be_at, put}
use Rattle.layout.specs.Checked.{Checked}
use Rattle.layout.specs.Checked.{Refused}
use Rattle.layout.specs.Knowledge.{basic, opening, before_vectors, before_elements, before_ranges, closing}
use Rattle.layout.specs.Read.{repeat, number, same, fields, limit, empty, among, judged, replica_id, tick, element, first_vector, vector, index, range}
use Rattle.layout.specs.Parse.{replica_map, vector_count, vector_list, range_list, ended, checked, checked_by}
use Rattle.layout.proofs.Faults.{example, bytes_of, change, cut_at, answer, changed, cut}

-- a faulty field of the example: its place, the value that stands there instead, and the number it gives
pub data Faulty : Type 0 where
  bad : (place value number : ℕ) → Faulty

-- every field of the example that can have a fault other than 1, with each kind of fault it can have, from left to
-- right; the first replica id, 8, and the first bound, 31, can have none
pub faulty : List Faulty
faulty =
    -- the opening, r, a replica id seen before
    bad 0 6 2 ∷ bad 1 1 2 ∷ bad 2 0 2 ∷ bad 3 1 2 ∷ bad 4 4 2 ∷ bad 5 1 2 ∷ bad 6 24 2 ∷ bad 7 17 3 ∷ bad 9 3 5 ∷
    -- the fields before the vectors, v
    bad 10 25 2 ∷ bad 11 1 2 ∷ bad 12 24 2 ∷ bad 13 1 2 ∷ bad 14 16 2 ∷ bad 15 1 2 ∷ bad 16 0 2 ∷ bad 17 22 2 ∷ bad 18 0 3 ∷ bad 18 66 3 ∷
    -- the first vector; the second with its elements: a key at or above r, a tick too large, a key seen before
    bad 19 2 2 ∷ bad 20 1 4 ∷ bad 20 3 4 ∷ bad 21 0 2 ∷ bad 22 3 3 ∷ bad 23 2 6 ∷ bad 24 9223372036854775808 7 ∷ bad 25 2 6 ∷ bad 25 1 6 ∷ bad 26 9223372036854775808 7 ∷
    -- the fields before the ranges, g; the ranges: an index at or above v, a bound equal to the one before or below it
    bad 27 22 2 ∷ bad 28 0 2 ∷ bad 29 23 2 ∷ bad 30 0 3 ∷ bad 30 65 3 ∷ bad 32 2 9 ∷ bad 33 7 8 ∷ bad 33 6 8 ∷ bad 34 2 9 ∷
    -- the end
    bad 35 1 2 ∷ bad 36 24 2 ∷ bad 37 0 2 ∷ bad 38 1 2 ∷ []

-- the answer for each of them
pub answers : (ℕ → ℕ → Checked) → List Faulty → List Checked
answers f [] = []
answers f (bad i y n ∷ fs) = f i y ∷ answers f fs

-- the refusal with each one's number
pub refusals : List Faulty → List Checked
refusals [] = []
refusals (bad i y n ∷ fs) = Refused n ∷ refusals fs

-- the bytes end inside the next field; where the last one, 38, is faulty, they are whole
pub first_before_cut : answers (λ i y. cut (suc i) (change i y example)) faulty ≡ refusals faulty
unfolding example bytes_of change cut_at answer changed cut faulty answers refusals be_from be_at put opening before_vectors before_elements
    before_ranges closing repeat number same fields limit empty among judged replica_id tick element first_vector vector index range replica_map
    vector_count vector_list range_list ended checked
first_before_cut = refl

-- the last field is faulty too, which gives 2, and a byte is left over, which gives 10
pub first_before_last : answers (λ i y. checked_by basic (bytes_of (change i y (change 38 1 example)) ++ (0 ∷ []))) faulty ≡ refusals faulty
unfolding example bytes_of change cut_at answer changed cut faulty answers refusals be_from be_at put opening before_vectors before_elements
    before_ranges closing repeat number same fields limit empty among judged replica_id tick element first_vector vector index range replica_map
    vector_count vector_list range_list ended checked
first_before_last = refl

-- the answer where the field at a place is faulty, which gives n, and the first of these with another number too
pub with_next : (place value n : ℕ) → List Faulty → Checked
with_next i y n [] = changed i y
with_next i y n (bad j z m ∷ fs) = elim (eqb m n) [ true ↦ with_next i y n fs | false ↦ answer (change i y (change j z example)) ]

pub each_next : List Faulty → List Checked
each_next [] = []
each_next (bad i y n ∷ fs) = with_next i y n fs ∷ each_next fs

-- the next field that can have another number is faulty too
pub first_before_next : each_next faulty ≡ refusals faulty
unfolding example bytes_of change cut_at answer changed cut faulty answers refusals with_next each_next be_from be_at put opening before_vectors
    before_elements before_ranges closing repeat number same fields limit empty among judged replica_id tick element first_vector vector index
    range replica_map vector_count vector_list range_list ended checked
first_before_next = refl

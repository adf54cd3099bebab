-- The table of faults, line by line, on closed examples: each number of document 01's table "Where a fault is caught"
-- for the field that has it, and what is looked for first where a field has two faults. The examples start from one
-- knowledge of two replicas, two vectors and two ranges, with a field or two changed. Both sides are closed, so the
-- definitions are computed and the results compared.
use Prim.Native.Nat.{ℕ, zero, suc, ◌-◌}
use mathlib.Core.Path.{◌≡◌, refl}
use mathlib.Core.List.{List, [], ◌∷◌, ◌++◌}
use lib.ListN.{take}
use Rattle.codec.specs.Number.{be_from, be_at, put}
use Rattle.layout.specs.Checked.{Checked}
use Rattle.layout.specs.Checked.{Accepted, Refused}
use Rattle.layout.specs.Knowledge.{basic, opening, before_vectors, before_elements, before_ranges, closing}
use Rattle.layout.specs.Read.{repeat, number, same, fields, limit, empty, among, judged, replica_id, tick, element, first_vector, vector, index, range}
use Rattle.layout.specs.Parse.{replica_map, vector_count, vector_list, range_list, ended, checked, checked_by}

-- the fields of the example, each with its size; counted from 0
pub data Sized : Type 0 where
  of : (size value : ℕ) → Sized

unfoldable pub example : List Sized
example =
    -- 0 to 6, the opening; 7, r; 8 and 9, the replica ids
    of 4 5 ∷ of 4 0 ∷ of 4 1 ∷ of 4 0 ∷ of 4 5 ∷ of 1 0 ∷ of 2 16 ∷ of 4 2 ∷ of 16 3 ∷ of 16 4 ∷
    -- 10 to 17, the fields before the vectors; 18, v; 19 and 20, the first vector
    of 4 24 ∷ of 1 0 ∷ of 2 16 ∷ of 1 0 ∷ of 2 24 ∷ of 1 0 ∷ of 2 1 ∷ of 4 21 ∷ of 4 2 ∷ of 4 1 ∷ of 4 0 ∷
    -- 21 and 22, the second vector; its elements: 23 and 24, 25 and 26
    of 4 1 ∷ of 4 2 ∷ of 4 1 ∷ of 8 6 ∷ of 4 0 ∷ of 8 9223372036854775807 ∷
    -- 27 to 29, the fields before the ranges; 30, g; the ranges: 31 and 32, 33 and 34
    of 4 23 ∷ of 4 1 ∷ of 4 22 ∷ of 4 2 ∷ of 24 7 ∷ of 4 1 ∷ of 24 8 ∷ of 4 0 ∷
    -- 35 to 38, the end
    of 4 0 ∷ of 4 25 ∷ of 1 1 ∷ of 4 0 ∷ []

-- the fields as bytes
unfoldable pub bytes_of : List Sized → List ℕ
bytes_of [] = []
bytes_of (of n x ∷ fs) = put n x (bytes_of fs)

-- the fields with another value at a place
unfoldable pub change : ℕ → ℕ → List Sized → List Sized
change i y [] = []
change zero y (of n x ∷ fs) = of n y ∷ fs
change (suc i) y (of n x ∷ fs) = of n x ∷ change i y fs

-- the bytes up to the middle of the field at a place: all but its last byte
unfoldable pub cut_at : ℕ → List Sized → List ℕ
cut_at i [] = []
cut_at zero (of n x ∷ fs) = take (n - 1) (put n x [])
cut_at (suc i) (of n x ∷ fs) = put n x (cut_at i fs)

unfoldable pub answer : List Sized → Checked
answer fs = checked_by basic (bytes_of fs)

unfoldable pub changed : ℕ → ℕ → Checked
changed i y = answer (change i y example)

unfoldable pub cut : ℕ → List Sized → Checked
cut i fs = checked_by basic (cut_at i fs)

-- the example itself is accepted
pub accepted_example : answer example ≡ Accepted 2 2 2 2
unfolding example bytes_of change cut_at answer changed cut be_from be_at put opening before_vectors before_elements before_ranges closing repeat
    number same fields limit empty among judged replica_id tick element first_vector vector index range replica_map vector_count vector_list
    range_list ended checked
accepted_example = refl

-- 1: no bytes at all
pub fault_1_none : checked_by basic [] ≡ Refused 1
unfolding example bytes_of change cut_at answer changed cut be_from be_at put opening before_vectors before_elements before_ranges closing repeat
    number same fields limit empty among judged replica_id tick element first_vector vector index range replica_map vector_count vector_list
    range_list ended checked
fault_1_none = refl

-- 1: the bytes end inside a field
pub fault_1 : (cut 0 example ≡ Refused 1) × (cut 7 example ≡ Refused 1) × (cut 9 example ≡ Refused 1) × (cut 18 example ≡ Refused 1)
    × (cut 20 example ≡ Refused 1) × (cut 23 example ≡ Refused 1) × (cut 24 example ≡ Refused 1) × (cut 31 example ≡ Refused 1)
    × (cut 34 example ≡ Refused 1) × (cut 38 example ≡ Refused 1)
unfolding example bytes_of change cut_at answer changed cut be_from be_at put opening before_vectors before_elements before_ranges closing repeat
    number same fields limit empty among judged replica_id tick element first_vector vector index range replica_map vector_count vector_list
    range_list ended checked
fault_1 = (refl, refl, refl, refl, refl, refl, refl, refl, refl, refl)

-- 1 comes before any other number of the field
pub fault_1_first : (cut 4 (change 4 1000000000 example) ≡ Refused 1) × (cut 20 (change 20 1000000000 example) ≡ Refused 1) × (cut 25 (change 25 1000000000 example) ≡ Refused 1)
unfolding example bytes_of change cut_at answer changed cut be_from be_at put opening before_vectors before_elements before_ranges closing repeat
    number same fields limit empty among judged replica_id tick element first_vector vector index range replica_map vector_count vector_list
    range_list ended checked
fault_1_first = (refl, refl, refl)

-- 2: a fixed field differs
pub fault_2 : (changed 0 6 ≡ Refused 2) × (changed 6 24 ≡ Refused 2) × (changed 10 25 ≡ Refused 2) × (changed 17 22 ≡ Refused 2)
    × (changed 19 2 ≡ Refused 2) × (changed 21 0 ≡ Refused 2) × (changed 29 23 ≡ Refused 2) × (changed 37 0 ≡ Refused 2)
unfolding example bytes_of change cut_at answer changed cut be_from be_at put opening before_vectors before_elements before_ranges closing repeat
    number same fields limit empty among judged replica_id tick element first_vector vector index range replica_map vector_count vector_list
    range_list ended checked
fault_2 = (refl, refl, refl, refl, refl, refl, refl, refl)

-- 3: r above 16, v 0 or above 65, an element count above r, g 0 or above 64
pub fault_3 : (changed 7 17 ≡ Refused 3) × (changed 18 0 ≡ Refused 3) × (changed 18 66 ≡ Refused 3)
    × (changed 22 3 ≡ Refused 3) × (changed 30 0 ≡ Refused 3) × (changed 30 65 ≡ Refused 3)
unfolding example bytes_of change cut_at answer changed cut be_from be_at put opening before_vectors before_elements before_ranges closing repeat
    number same fields limit empty among judged replica_id tick element first_vector vector index range replica_map vector_count vector_list
    range_list ended checked
fault_3 = (refl, refl, refl, refl, refl, refl)

-- 4: the first vector is not empty, also where its count is above r
pub fault_4 : (changed 20 1 ≡ Refused 4) × (changed 20 3 ≡ Refused 4)
unfolding example bytes_of change cut_at answer changed cut be_from be_at put opening before_vectors before_elements before_ranges closing repeat
    number same fields limit empty among judged replica_id tick element first_vector vector index range replica_map vector_count vector_list
    range_list ended checked
fault_4 = (refl, refl)

-- 5: a replica id seen before
pub fault_5 : changed 9 3 ≡ Refused 5
unfolding example bytes_of change cut_at answer changed cut be_from be_at put opening before_vectors before_elements before_ranges closing repeat
    number same fields limit empty among judged replica_id tick element first_vector vector index range replica_map vector_count vector_list
    range_list ended checked
fault_5 = refl

-- 6: a key at or above r, or repeated; also where its tick is cut
pub fault_6 : (changed 23 2 ≡ Refused 6) × (changed 25 1 ≡ Refused 6) × (cut 26 (change 25 1 example) ≡ Refused 6)
unfolding example bytes_of change cut_at answer changed cut be_from be_at put opening before_vectors before_elements before_ranges closing repeat
    number same fields limit empty among judged replica_id tick element first_vector vector index range replica_map vector_count vector_list
    range_list ended checked
fault_6 = (refl, refl, refl)

-- 7: tick 2^63
pub fault_7 : (changed 24 9223372036854775808 ≡ Refused 7) × (changed 26 9223372036854775808 ≡ Refused 7)
unfolding example bytes_of change cut_at answer changed cut be_from be_at put opening before_vectors before_elements before_ranges closing repeat
    number same fields limit empty among judged replica_id tick element first_vector vector index range replica_map vector_count vector_list
    range_list ended checked
fault_7 = (refl, refl)

-- 8: a bound equal to the one before, or below it
pub fault_8 : (changed 33 7 ≡ Refused 8) × (changed 33 6 ≡ Refused 8)
unfolding example bytes_of change cut_at answer changed cut be_from be_at put opening before_vectors before_elements before_ranges closing repeat
    number same fields limit empty among judged replica_id tick element first_vector vector index range replica_map vector_count vector_list
    range_list ended checked
fault_8 = (refl, refl)

-- 9: an index equal to v
pub fault_9 : (changed 32 2 ≡ Refused 9) × (changed 34 2 ≡ Refused 9)
unfolding example bytes_of change cut_at answer changed cut be_from be_at put opening before_vectors before_elements before_ranges closing repeat
    number same fields limit empty among judged replica_id tick element first_vector vector index range replica_map vector_count vector_list
    range_list ended checked
fault_9 = (refl, refl)

-- 10: bytes left over
pub fault_10 : checked_by basic (bytes_of example ++ (0 ∷ [])) ≡ Refused 10
unfolding example bytes_of change cut_at answer changed cut be_from be_at put opening before_vectors before_elements before_ranges closing repeat
    number same fields limit empty among judged replica_id tick element first_vector vector index range replica_map vector_count vector_list
    range_list ended checked
fault_10 = refl

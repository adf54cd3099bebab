-- The method of the test of normal form, by places, for any bytes and sizes: nothing here is to be believed. The law
-- `normal_by_places` shows that for bytes that the check accepts it is the test itself. A vector that is not all there counts as
-- empty, and so fails.
use Rattle.std.specs.Prelude.{ℕ, zero, suc, max, ◌+◌, ◌-◌, ◌*◌, ◌/◌, ◌%◌, ◌^◌, ◌≤◌, ◌<◌, ◌≡◌, Bool, true, false, List, [], ◌∷◌, eqb, ltb, leb, length, get_or, set, replicate, Option, Some, None}
use Rattle.codec.specs.Number.{be_at}
use Rattle.layout.specs.Knowledge.{Element, Range}
use Rattle.layout.specs.Permitted.{largest_replicas, largest_ranges}
use Rattle.layout.specs.Decode.{elements_at, ranges_at}
use Rattle.layout.specs.MethodPlaces.{ids_place, vectors_place, ranges_place, whole_length}
use Rattle.ticks.specs.Written.{eq_vector}
use Rattle.lookup.specs.declared.Cursor.{Cursor}
use Rattle.lookup.specs.Method.{elements_there, in_four}

-- The replica ids

-- n times from a place on, is an id below the next one
unfoldable pub ids_rise : List ℕ → ℕ → ℕ → Bool
ids_rise s zero at = true
ids_rise s (suc n) at = elim (ltb (be_at s 16 at) (be_at s 16 (at + 16))) [ true ↦ ids_rise s n (at + 16) | false ↦ false ]

-- The elements of a vector

-- do the keys rise, from lo on and below r, and are the ticks 1 or more
unfoldable pub in_order : ℕ → ℕ → List Element → Bool
in_order r lo [] = true
in_order r lo (x ∷ xs) =
    elim (leb lo x.key.0) [
      | true ↦ elim (ltb x.key.0 r) [
        | true ↦ elim (leb 1 x.tick) [ true ↦ in_order r (suc x.key.0) xs | false ↦ false ]
        | false ↦ false
      ]
      | false ↦ false
    ]

-- the marks of keys, with those of a vector, and with those of several
unfoldable pub marked : List Bool → List Element → List Bool
marked marks [] = marks
marked marks (x ∷ xs) = marked (set marks x.key.0 true) xs

unfoldable pub marked_by : List Bool → List (List Element) → List Bool
marked_by marks [] = marks
marked_by marks (es ∷ vs) = marked_by (marked marks es) vs

-- have the n keys from k on a mark
unfoldable pub keys_marked : List Bool → ℕ → ℕ → Bool
keys_marked marks zero k = true
keys_marked marks (suc n) k = elim (get_or marks k false) [ true ↦ keys_marked marks n (suc k) | false ↦ false ]

-- a word of 64 bits into which the elements of a vector are mixed, one after the other, and the hash of 32 bits into which it is
-- folded. Any function of the elements would do: vectors with unlike hashes are unlike
unfoldable pub mixed : ℕ → ℕ → ℕ → ℕ
mixed w key tick = ((w % 4294967296 * 2654435761 + w / 4294967296 + tick) % 2 ^ 64 + key * 4294967296) % 2 ^ 64

unfoldable pub word_from : ℕ → List Element → ℕ
word_from w [] = w
word_from w (x ∷ xs) = word_from (mixed w x.key.0 x.tick) xs

unfoldable pub folded : ℕ → ℕ
folded w = (w % 4294967296 + w / 4294967296 * 2654435761) % 4294967296

unfoldable pub hash_of : List Element → ℕ
hash_of es = folded (word_from 0 es)

unfoldable pub taken_if : Bool → ℕ → Option ℕ
taken_if true w = Some w
taken_if false w = None

-- what taking in elements came to: the word where they are in order, and then their keys have a mark beside the old ones
pub record TakenIn (r : ℕ) (es : List Element) (old new : List Bool) (t : Option ℕ) : Type 0 where
  pub is : t ≡ taken_if (in_order r 0 es) (word_from 0 es)
  pub marks : in_order r 0 es ≡ true → new ≡ marked old es

-- The vectors

-- the elements of the vector at a place; none where they are not all there
abbrev pub vector_here : List ℕ → ℕ → List Element
vector_here s at = elements_at s (elements_there s at) (at + 8)

-- n vectors from a place on
unfoldable pub vectors_here : List ℕ → ℕ → ℕ → List (List Element)
vectors_here s zero at = []
vectors_here s (suc n) at = vector_here s at ∷ vectors_here s n (at + 8 + 12 * elements_there s at)

-- is each not empty and in order
unfoldable pub each_in_order : ℕ → List (List Element) → Bool
each_in_order r [] = true
each_in_order r (es ∷ vs) =
    elim (leb 1 (length es)) [
      | true ↦ elim (in_order r 0 es) [ true ↦ each_in_order r vs | false ↦ false ]
      | false ↦ false
    ]

-- the vector of a number, in a list, and by a list of places
unfoldable pub numbered : List (List Element) → ℕ → List Element
numbered vs j = get_or vs j []

unfoldable pub standing : List ℕ → List ℕ → ℕ → List Element
standing s places j = vector_here s (get_or places j 0)

-- the places of vectors, and their hashes
pub record Listed (s : List ℕ) (vs : List (List Element)) (n : ℕ) (hashes places : List ℕ) : Type 0 where
  pub place : (j : ℕ) → j < n → standing s places j ≡ numbered vs j
  pub hash : (j : ℕ) → j < n → get_or hashes j 0 ≡ hash_of (standing s places j)

-- what taking in n vectors from a place on came to
pub record VectorsTaken (s : List ℕ) (r n start : ℕ) (old new : List Bool) (hashes places : List ℕ) (b : Bool) : Type 0 where
  pub is : b ≡ each_in_order r (vectors_here s n start)
  pub marks : b ≡ true → new ≡ marked_by old (vectors_here s n start)
  pub listed : b ≡ true → Listed s (vectors_here s n start) n hashes places

-- each of n places has its hash
pub record Hashed (s hashes places : List ℕ) (n : ℕ) : Type 0 where
  pub is : (j : ℕ) → j < n → get_or hashes j 0 ≡ hash_of (standing s places j)
  pub hash_room : n ≤ length hashes
  pub place_room : n ≤ length places

-- are the n vectors from number j on unlike vector k
unfoldable pub unlike : (ℕ → List Element) → ℕ → ℕ → ℕ → Bool
unlike f k zero j = true
unlike f k (suc n) j = elim (eq_vector (f j) (f k)) [ true ↦ false | false ↦ unlike f k n (suc j) ]

-- are the n vectors from number k on unlike those before them
unfoldable pub apart : (ℕ → List Element) → ℕ → ℕ → Bool
apart f zero k = true
apart f (suc n) k = elim (unlike f k k 0) [ true ↦ apart f n (suc k) | false ↦ false ]

abbrev pub no_marks : List Bool
no_marks = replicate largest_replicas false

-- the vectors after vector 0: in order, all of the r keys used, distinct
unfoldable pub vectors_normal : ℕ → List (List Element) → Bool
vectors_normal r vs =
    elim (each_in_order r vs) [
      | true ↦ elim (keys_marked (marked_by no_marks vs) r 0) [ true ↦ apart (numbered vs) (length vs) 0 | false ↦ false ]
      | false ↦ false
    ]

-- The ranges

-- with m vectors met so far and the index of the range before: does each index differ from the one before, and is it one that was
-- met, or the next; and are all v met at the end
unfoldable pub used_in_order : ℕ → ℕ → ℕ → List Range → Bool
used_in_order v m before [] = eqb m v
used_in_order v m before (x ∷ xs) =
    elim (eqb x.index.0 before) [
      | true ↦ false
      | false ↦ elim (leb x.index.0 m) [
        | true ↦ used_in_order v (max m (suc x.index.0)) x.index.0 xs
        | false ↦ false
      ]
    ]

-- the first bound is 0, and the vectors are used in order. Vector 0 counts as met, and no index is v
unfoldable pub ranges_normal : List ℕ → ℕ → ℕ → ℕ → Bool
ranges_normal s v g at =
    elim (eqb (be_at s 24 at) 0) [ true ↦ used_in_order v 1 v (ranges_at s g at) | false ↦ false ]

-- The whole

unfoldable pub normal_there : List ℕ → ℕ → ℕ → ℕ → ℕ → Bool
normal_there s r v e g =
    elim (ids_rise s (r - 1) ids_place) [
      | true ↦ elim (ranges_normal s v g (ranges_place r v e)) [
        | true ↦ vectors_normal r (vectors_here s (v - 1) (vectors_place r + 8))
        | false ↦ false
      ]
      | false ↦ false
    ]

-- sizes that there is room for, and bytes that are long enough for them
unfoldable pub roomy : List ℕ → ℕ → ℕ → ℕ → ℕ → Bool
roomy s r v e g =
    elim (leb r largest_replicas) [
      | true ↦ elim (leb 1 v) [
        | true ↦ elim (leb (v - 1) largest_ranges) [
          | true ↦ elim (leb 1 g) [ true ↦ leb (whole_length r v e g) (length s) | false ↦ false ]
          | false ↦ false
        ]
        | false ↦ false
      ]
      | false ↦ false
    ]

-- what this test says
pub record RoomFor (s : List ℕ) (r v e g : ℕ) : Type 0 where
  pub replicas : r ≤ largest_replicas
  pub some_vector : 1 ≤ v
  pub vectors : v - 1 ≤ largest_ranges
  pub some_range : 1 ≤ g
  pub whole : whole_length r v e g ≤ length s

unfoldable pub normal_in : List ℕ → ℕ → ℕ → ℕ → ℕ → Bool
normal_in s r v e g = elim (roomy s r v e g) [ true ↦ normal_there s r v e g | false ↦ false ]

-- From a cursor before any range

-- the count of vectors stands before them
abbrev pub count_before : List ℕ → ℕ → ℕ
count_before s r = be_at s 4 (vectors_place r - 4)

-- where the ranges would begin after vectors with no elements, and how many elements, of 12 bytes, there are if they begin at the cursor
abbrev pub no_elements : ℕ → ℕ → ℕ
no_elements r v = 64 + 16 * r + 8 * v

abbrev pub elements_before : ℕ → ℕ → Cursor → ℕ
elements_before r v c = in_four ((c.next - no_elements r v) / 12)

unfoldable pub normal_opened : List ℕ → ℕ → Cursor → Bool
normal_opened s r c =
    elim (leb (vectors_place r) (length s)) [
      | true ↦ elim (leb (no_elements r (count_before s r)) c.next) [
        | true ↦ normal_in s r (count_before s r) (elements_before r (count_before s r) c) c.left
        | false ↦ false
      ]
      | false ↦ false
    ]

-- Document 01's table "Where a fault is caught", the lines of a knowledge, for all bytes: the statements. The laws are
-- `table_exact`, that the check refuses bytes with a number exactly where they have that fault (`Faulty`); `numbers_exact`,
-- that each line's number is given; and `numbers_lawful`, the same for the fields and ends of a lawful knowledge (`NumbersOf`).
-- Each `Line` is a field of the layout. The bytes before it are those of a lawful knowledge's beginning, with the counts
-- that stand there. Where the bytes end inside the field, whatever its first bytes are, the number is 1; for each bad value
-- and anything after it, it is the field's own number.
use Prim.Native.Nat.{ℕ, suc, ◌+◌, ◌-◌, ◌^◌, ◌<◌, ◌≤◌}
use mathlib.Core.Path.{◌≡◌}
use mathlib.Core.Logic.{◌⊎◌}
use mathlib.Core.List.{List, [], ◌∷◌, ◌++◌}
use lib.ListN.{length, get_or, take}
use Rattle.codec.specs.Number.{put}
use Rattle.layout.specs.Checked.{Refused}
use Rattle.layout.specs.Knowledge.{Rules, largest_tick, Element, Range, Knowledge, Field, opening, before_vectors, before_elements, before_ranges, closing}
use Rattle.layout.specs.Knowledge.{put_fields, put_ids, put_elements, put_vectors, put_ranges, encode, All, Distinct, Rising, keys, bounds, Lawful}
use Rattle.layout.specs.Parse.{checked_by}
use Rattle.layout.proofs.Parts.{LawfulId, LawfulElement, LawfulVector, LawfulRange}

-- the bytes of a knowledge of r replicas up to and with the first of them, in front of t
abbrev pub map_bytes : ℕ → List ℕ → List ℕ → List ℕ
map_bytes r ids t = put_fields opening (put 4 r (put_ids ids t))

-- those of a knowledge of these replicas and v vectors, up to and with the first vectors
abbrev pub vector_bytes : List ℕ → ℕ → List (List Element) → List ℕ → List ℕ
vector_bytes ids v vs t = map_bytes (length ids) ids (put_fields before_vectors (put 4 v (put_vectors vs t)))

-- those of a vector of n elements, up to and with the first of them
abbrev pub element_bytes : ℕ → List Element → List ℕ → List ℕ
element_bytes n es t = put_fields before_elements (put 4 n (put_elements es t))

-- those of a knowledge of these replicas and vectors and of g ranges, up to and with the first ranges
abbrev pub range_bytes : List ℕ → List (List Element) → ℕ → List Range → List ℕ → List ℕ
range_bytes ids vs g xs t = vector_bytes ids (length vs) vs (put_fields before_ranges (put 4 g (put_ranges xs t)))

-- what a lawful knowledge says of its first ids, vectors, elements of a vector and ranges, and of their counts
pub record FirstIds (R : Rules) (r : ℕ) (ids : List ℕ) : Type 0 where
  pub most : r ≤ R.limits.replicas
  pub lawful : All (LawfulId R) ids
  pub distinct : Distinct ids

pub record FirstVectors (R : Rules) (r v : ℕ) (vs : List (List Element)) : Type 0 where
  pub some : 1 ≤ v
  pub most : v ≤ R.limits.ranges + 1
  pub first : get_or vs 0 [] ≡ []
  pub clocks : All (LawfulVector r) vs

pub record FirstElements (r n : ℕ) (es : List Element) : Type 0 where
  pub most : n ≤ r
  pub elements : All (LawfulElement r) es
  pub distinct : Distinct (keys es)

pub record FirstRanges (R : Rules) (v g : ℕ) (xs : List Range) : Type 0 where
  pub some : 1 ≤ g
  pub most : g ≤ R.limits.ranges
  pub spans : All (LawfulRange v) xs
  pub rising : Rising 0 (bounds xs)

-- a field of n bytes, with the bytes that p puts before it: 1 where the bytes end inside it; j for each bad value,
-- whatever follows
pub record Refuses (R : Rules) (n : ℕ) (p : List ℕ → List ℕ) (Bad : ℕ → Type 0) (j : ℕ) : Type 0 where
  pub ends : (t : List ℕ) → length t < n → checked_by R (p t) ≡ Refused 1
  pub bad : (x : ℕ) (t : List ℕ) → x < 256 ^ n → Bad x → checked_by R (p (put n x t)) ≡ Refused j

-- f is one of the fixed fields fs, with these before it and those after it
abbrev pub Parted : List Field → List Field → Field → List Field → Type 0
Parted fs before f after = fs ≡ before ++ (f ∷ after)

abbrev pub Differs : Field → ℕ → Type 0
Differs f x = x ≡ f.value → ⊥

-- x is one of the numbers before
abbrev pub Seen : List ℕ → ℕ → Type 0
Seen xs x = (j : ℕ) × (j < length xs) × (x ≡ get_or xs j 0)

-- there is a range before, and x is not above its bound
abbrev pub NotAbove : List Range → ℕ → Type 0
NotAbove xs x = (1 ≤ length xs) × (x ≤ get_or (bounds xs) (length xs - 1) 0)

-- the table: a field of n bytes, what stands before it, its bad values and their number
pub data Line (R : Rules) : (n : ℕ) (p : List ℕ → List ℕ) (Bad : ℕ → Type 0) (j : ℕ) → Type 1 where
  -- 2, a fixed field of the opening differs; 3, r beyond its limit
  fixed_opening : (before : List Field) (f : Field) (after : List Field) → Parted opening before f after →
      Line R f.size (put_fields before) (Differs f) 2
  count_r : Line R 4 (put_fields opening) (λ x. R.limits.replicas < x) 3
  -- 5, a replica id seen before; and the number that the rules themselves give a new one
  replica_id_lem : (r : ℕ) (ids : List ℕ) → FirstIds R r ids → length ids < r → Line R 16 (map_bytes r ids) (Seen ids) 5
  replica_judged : (r : ℕ) (ids : List ℕ) → FirstIds R r ids → length ids < r → (n : ℕ) →
      Line R 16 (map_bytes r ids) (λ x. (Seen ids x → ⊥) × (R.judge x ≡ suc n)) (suc n)
  -- 2, a fixed field before the vectors differs; 3, v is 0 or beyond its limit
  fixed_vectors : (ids : List ℕ) → FirstIds R (length ids) ids →
      (before : List Field) (f : Field) (after : List Field) → Parted before_vectors before f after →
      Line R f.size (λ t. map_bytes (length ids) ids (put_fields before t)) (Differs f) 2
  count_v : (ids : List ℕ) → FirstIds R (length ids) ids →
      Line R 4 (λ t. map_bytes (length ids) ids (put_fields before_vectors t)) (λ x. (x < 1) ⊎ (R.limits.ranges + 1 < x)) 3
  -- of each clock vector: 2, its fixed field differs; 4, the first has an element, also where that is beyond 3's limit;
  -- 3, another has more than r
  fixed_vector : (ids : List ℕ) (v : ℕ) (vs : List (List Element)) → FirstIds R (length ids) ids →
      FirstVectors R (length ids) v vs → length vs < v →
      (before : List Field) (f : Field) (after : List Field) → Parted before_elements before f after →
      Line R f.size (λ t. vector_bytes ids v vs (put_fields before t)) (Differs f) 2
  count_first : (ids : List ℕ) (v : ℕ) → FirstIds R (length ids) ids → FirstVectors R (length ids) v [] →
      Line R 4 (λ t. vector_bytes ids v [] (put_fields before_elements t)) (λ x. x ≡ 0 → ⊥) 4
  count_elements : (ids : List ℕ) (v : ℕ) (vs : List (List Element)) → FirstIds R (length ids) ids →
      FirstVectors R (length ids) v vs → 1 ≤ length vs → length vs < v →
      Line R 4 (λ t. vector_bytes ids v vs (put_fields before_elements t)) (λ x. length ids < x) 3
  -- of each element of a vector of n: 6, its key is at or above r, or seen before in this vector; 7, its tick is above the largest
  key : (ids : List ℕ) (v : ℕ) (vs : List (List Element)) (n : ℕ) (es : List Element) → FirstIds R (length ids) ids →
      FirstVectors R (length ids) v vs → 1 ≤ length vs → length vs < v → FirstElements (length ids) n es → length es < n →
      Line R 4 (λ t. vector_bytes ids v vs (element_bytes n es t)) (λ x. (length ids ≤ x) ⊎ Seen (keys es) x) 6
  tick : (ids : List ℕ) (v : ℕ) (vs : List (List Element)) (n : ℕ) (es : List Element) (key : ℕ) → FirstIds R (length ids) ids →
      FirstVectors R (length ids) v vs → 1 ≤ length vs → length vs < v → FirstElements (length ids) n es → length es < n →
      key < length ids → (Seen (keys es) key → ⊥) →
      Line R 8 (λ t. vector_bytes ids v vs (element_bytes n es (put 4 key t))) (λ x. largest_tick < x) 7
  -- 2, a fixed field before the ranges differs; 3, g is 0 or beyond its limit
  fixed_ranges : (ids : List ℕ) (vs : List (List Element)) → FirstIds R (length ids) ids →
      FirstVectors R (length ids) (length vs) vs →
      (before : List Field) (f : Field) (after : List Field) → Parted before_ranges before f after →
      Line R f.size (λ t. vector_bytes ids (length vs) vs (put_fields before t)) (Differs f) 2
  count_g : (ids : List ℕ) (vs : List (List Element)) → FirstIds R (length ids) ids →
      FirstVectors R (length ids) (length vs) vs →
      Line R 4 (λ t. vector_bytes ids (length vs) vs (put_fields before_ranges t)) (λ x. (x < 1) ⊎ (R.limits.ranges < x)) 3
  -- of each range: 8, its bound is not above the one before; 9, its index is at or above v
  bound : (ids : List ℕ) (vs : List (List Element)) (g : ℕ) (xs : List Range) → FirstIds R (length ids) ids →
      FirstVectors R (length ids) (length vs) vs → FirstRanges R (length vs) g xs → length xs < g →
      Line R 24 (range_bytes ids vs g xs) (NotAbove xs) 8
  index : (ids : List ℕ) (vs : List (List Element)) (g : ℕ) (xs : List Range) (bound : ℕ) → FirstIds R (length ids) ids →
      FirstVectors R (length ids) (length vs) vs → FirstRanges R (length vs) g xs → length xs < g →
      bound < 256 ^ 24 → (NotAbove xs bound → ⊥) →
      Line R 4 (λ t. range_bytes ids vs g xs (put 24 bound t)) (λ x. length vs ≤ x) 9
  -- 2, a fixed field after the ranges differs
  fixed_closing : (ids : List ℕ) (vs : List (List Element)) (xs : List Range) → FirstIds R (length ids) ids →
      FirstVectors R (length ids) (length vs) vs → FirstRanges R (length vs) (length xs) xs →
      (before : List Field) (f : Field) (after : List Field) → Parted closing before f after →
      Line R f.size (λ t. range_bytes ids vs (length xs) xs (put_fields before t)) (Differs f) 2

-- the bytes u, from a field of n bytes on, have the fault j: they end inside it, or it has a bad value, whatever follows
pub data Hit (n : ℕ) (Bad : ℕ → Type 0) (k j : ℕ) (u : List ℕ) : Type 0 where
  cut_short : j ≡ 1 → length u < n → Hit n Bad k j u
  bad_value : (x : ℕ) (t : List ℕ) → j ≡ k → u ≡ put n x t → x < 256 ^ n → Bad x → Hit n Bad k j u

-- the bytes s have the fault j: their first faulty field is one of the table, or they are those of a lawful knowledge
-- and at least one byte more
pub data Faulty (R : Rules) (s : List ℕ) (j : ℕ) : Type 1 where
  at_field : {n : ℕ} {p : List ℕ → List ℕ} {Bad : ℕ → Type 0} {k : ℕ} → Line R n p Bad k → (u : List ℕ) → s ≡ p u → Hit n Bad k j u →
      Faulty R s j
  at_end : (k : Knowledge) → Lawful R k → (b : ℕ) (t : List ℕ) → s ≡ encode k ++ (b ∷ t) → j ≡ 10 → Faulty R s j

-- the same of a lawful knowledge k: each field of its bytes, with the parts of k that stand before it
pub record NumbersOf (R : Rules) (k : Knowledge) : Type 0 where
  -- 2 and 3
  pub fixed_opening : (before : List Field) (f : Field) (after : List Field) → Parted opening before f after →
      Refuses R f.size (put_fields before) (Differs f) 2
  pub count_r : Refuses R 4 (put_fields opening) (λ x. R.limits.replicas < x) 3
  -- 5, and the rules' own number
  pub replica_id_lem : (ids : List ℕ) (id : ℕ) (more : List ℕ) → k.replicas ≡ ids ++ (id ∷ more) →
      Refuses R 16 (map_bytes (length k.replicas) ids) (Seen ids) 5
  pub replica_judged : (ids : List ℕ) (id : ℕ) (more : List ℕ) → k.replicas ≡ ids ++ (id ∷ more) → (n : ℕ) →
      Refuses R 16 (map_bytes (length k.replicas) ids) (λ x. (Seen ids x → ⊥) × (R.judge x ≡ suc n)) (suc n)
  -- 2 and 3
  pub fixed_vectors : (before : List Field) (f : Field) (after : List Field) → Parted before_vectors before f after →
      Refuses R f.size (λ t. map_bytes (length k.replicas) k.replicas (put_fields before t)) (Differs f) 2
  pub count_v : Refuses R 4 (λ t. map_bytes (length k.replicas) k.replicas (put_fields before_vectors t))
      (λ x. (x < 1) ⊎ (R.limits.ranges + 1 < x)) 3
  -- 2, of each vector; 4, of the first; 3, of the others
  pub fixed_vector : (vs : List (List Element)) (es : List Element) (more : List (List Element)) → k.vectors ≡ vs ++ (es ∷ more) →
      (before : List Field) (f : Field) (after : List Field) → Parted before_elements before f after →
      Refuses R f.size (λ t. vector_bytes k.replicas (length k.vectors) vs (put_fields before t)) (Differs f) 2
  pub count_first : Refuses R 4 (λ t. vector_bytes k.replicas (length k.vectors) [] (put_fields before_elements t))
      (λ x. x ≡ 0 → ⊥) 4
  pub count_elements : (vs : List (List Element)) (es : List Element) (more : List (List Element)) → k.vectors ≡ vs ++ (es ∷ more) →
      1 ≤ length vs →
      Refuses R 4 (λ t. vector_bytes k.replicas (length k.vectors) vs (put_fields before_elements t)) (λ x. length
      k.replicas < x) 3
  -- 6 and 7, of each element of each vector
  pub key : (vs : List (List Element)) (es : List Element) (more : List (List Element)) → k.vectors ≡ vs ++ (es ∷ more) →
      (xs : List Element) (x : Element) (after : List Element) → es ≡ xs ++ (x ∷ after) →
      Refuses R 4 (λ t. vector_bytes k.replicas (length k.vectors) vs (element_bytes (length es) xs t))
      (λ y. (length k.replicas ≤ y) ⊎ Seen (keys xs) y) 6
  pub tick : (vs : List (List Element)) (es : List Element) (more : List (List Element)) → k.vectors ≡ vs ++ (es ∷ more) →
      (xs : List Element) (x : Element) (after : List Element) → es ≡ xs ++ (x ∷ after) →
      Refuses R 8 (λ t. vector_bytes k.replicas (length k.vectors) vs (element_bytes (length es) xs (put 4 x.key.0 t)))
      (λ y. largest_tick < y) 7
  -- 2 and 3
  pub fixed_ranges : (before : List Field) (f : Field) (after : List Field) → Parted before_ranges before f after →
      Refuses R f.size (λ t. vector_bytes k.replicas (length k.vectors) k.vectors (put_fields before t)) (Differs f) 2
  pub count_g : Refuses R 4 (λ t. vector_bytes k.replicas (length k.vectors) k.vectors (put_fields before_ranges t))
      (λ x. (x < 1) ⊎ (R.limits.ranges < x)) 3
  -- 8 and 9, of each range
  pub bound : (xs : List Range) (x : Range) (more : List Range) → k.ranges ≡ xs ++ (x ∷ more) →
      Refuses R 24 (range_bytes k.replicas k.vectors (length k.ranges) xs) (NotAbove xs) 8
  pub index : (xs : List Range) (x : Range) (more : List Range) → k.ranges ≡ xs ++ (x ∷ more) →
      Refuses R 4 (λ t. range_bytes k.replicas k.vectors (length k.ranges) xs (put 24 x.bound t)) (λ y. length
      k.vectors ≤ y) 9
  -- 2
  pub fixed_closing : (before : List Field) (f : Field) (after : List Field) → Parted closing before f after →
      Refuses R f.size (λ t. range_bytes k.replicas k.vectors (length k.ranges) k.ranges (put_fields before t))
      (Differs f) 2
  -- 1, each proper beginning; 10, at least one byte more
  pub beginning : (n : ℕ) → n < length (encode k) → checked_by R (take n (encode k)) ≡ Refused 1
  pub left_over : (b : ℕ) (t : List ℕ) → checked_by R (encode k ++ (b ∷ t)) ≡ Refused 10

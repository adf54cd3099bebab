-- Knowledge: the limits, the value, the bytes, and which knowledges are lawful. Document 01, "Knowledge bytes".
use Rattle.std.specs.Prelude.{ℕ, suc, ◌+◌, ◌^◌, ◌≤◌, ◌<◌, ◌≡◌, List, [], ◌∷◌, length, get_or}
use Rattle.codec.specs.Number.{put}
use Rattle.layout.specs.declared.ReplicaKey.{ReplicaKey}
use Rattle.layout.specs.declared.VectorIndex.{VectorIndex}

-- the most replicas, ranges and records. Definitions take them as a value, so that no number stands in a law
pub record Limits : Type 0 where
  pub replicas : ℕ
  pub ranges : ℕ
  pub records : ℕ

-- what a reading goes by: the limits, and for each replica id the number that it is refused with for itself, 0 for none
pub record Rules : Type 0 where
  pub limits : Limits
  pub judge : ℕ → ℕ

abbrev pub any_id : Limits → Rules  -- limits alone: every replica id is acceptable
any_id L = record { limits = L; judge = λ id. 0 }

-- "Limits: r 0 to 16, v 1 to 65, g 1 to 64" (a vector for each range, and vector 0), records "at most 256"
abbrev pub basic : Rules
basic = any_id (record { replicas = 16; ranges = 64; records = 256 })

abbrev pub base : Limits  -- these limits alone, by which stores and batches are opened
base = basic.limits

abbrev pub largest_tick : ℕ  -- 2^63 − 1
largest_tick = 9223372036854775807

-- "a replica key and a clock vector index are both four-byte numbers, and one never stands for the other": two types
pub record Element : Type 0 where
  pub key : ReplicaKey
  pub tick : ℕ

-- the ids from its bound up to the next one's have the vector at its index
pub record Range : Type 0 where
  pub bound : ℕ
  pub index : VectorIndex

pub record Knowledge : Type 0 where
  pub replicas : List ℕ
  pub vectors : List (List Element)
  pub ranges : List Range

pub record Field : Type 0 where  -- a fixed field: its size and its value
  pub size : ℕ
  pub value : ℕ

abbrev pub field : ℕ → ℕ → Field
field n x = record { size = n; value = x }

-- "5 (4), 0 (4), 1 (4), 0 (4)", and of the replica map "5 (4), 0 (1), 16 (2)"; the count r follows
unfoldable pub opening : List Field
opening = field 4 5 ∷ field 4 0 ∷ field 4 1 ∷ field 4 0 ∷ field 4 5 ∷ field 1 0 ∷ field 2 16 ∷ []

-- "24 (4), 0 (1), 16 (2), 0 (1), 24 (2), 0 (1), 1 (2)", and "21 (4)"; the count v follows
unfoldable pub before_vectors : List Field
before_vectors = field 4 24 ∷ field 1 0 ∷ field 2 16 ∷ field 1 0 ∷ field 2 24 ∷ field 1 0 ∷ field 2 1 ∷ field 4 21 ∷ []

unfoldable pub before_elements : List Field  -- of each clock vector "1 (4)"; its element count follows
before_elements = field 4 1 ∷ []

unfoldable pub before_ranges : List Field  -- "23 (4), 1 (4), 22 (4)"; the count g follows
before_ranges = field 4 23 ∷ field 4 1 ∷ field 4 22 ∷ []

unfoldable pub closing : List Field  -- "0 (4), 25 (4), 1 (1), 0 (4)"
closing = field 4 0 ∷ field 4 25 ∷ field 1 1 ∷ field 4 0 ∷ []

unfoldable pub put_fields : List Field → List ℕ → List ℕ  -- fixed fields, in front of t
put_fields [] t = t
put_fields (f ∷ fs) t = put f.size f.value (put_fields fs t)

unfoldable pub put_ids : List ℕ → List ℕ → List ℕ  -- replica ids of 16
put_ids [] t = t
put_ids (id ∷ ids) t = put 16 id (put_ids ids t)

unfoldable pub put_elements : List Element → List ℕ → List ℕ  -- elements of replica key (4) and tick (8)
put_elements [] t = t
put_elements (x ∷ xs) t = put 4 x.key.0 (put 8 x.tick (put_elements xs t))

unfoldable pub put_vectors : List (List Element) → List ℕ → List ℕ  -- clock vectors: 1 (4), element count (4), elements
put_vectors [] t = t
put_vectors (es ∷ vs) t = put_fields before_elements (put 4 (length es) (put_elements es (put_vectors vs t)))

unfoldable pub put_ranges : List Range → List ℕ → List ℕ  -- ranges: item id (24), clock vector index (4)
put_ranges [] t = t
put_ranges (x ∷ xs) t = put 24 x.bound (put 4 x.index.0 (put_ranges xs t))

unfoldable pub encode : Knowledge → List ℕ
encode k =
    put_fields opening (put 4 (length k.replicas) (put_ids k.replicas
    (put_fields before_vectors (put 4 (length k.vectors) (put_vectors k.vectors
    (put_fields before_ranges (put 4 (length k.ranges) (put_ranges k.ranges
    (put_fields closing [])))))))))

abbrev pub All : {A : Type 0} → (A → Type 0) → List A → Type 0  -- each element of a list has the property
All P [] = Unit {0}
All P (x ∷ xs) = P x × All P xs

abbrev pub Distinct : List ℕ → Type 0  -- no two numbers of the list are equal
Distinct [] = Unit {0}
Distinct (x ∷ xs) = All (λ y. x ≡ y → ⊥) xs × Distinct xs

abbrev pub Rising : ℕ → List ℕ → Type 0  -- the numbers rise strictly, from lo on
Rising lo [] = Unit {0}
Rising lo (x ∷ xs) = (lo ≤ x) × Rising (suc x) xs

unfoldable pub keys : List Element → List ℕ
keys [] = []
keys (x ∷ xs) = x.key.0 ∷ keys xs

unfoldable pub bounds : List Range → List ℕ
bounds [] = []
bounds (x ∷ xs) = x.bound ∷ bounds xs

-- "r 0 to 16, v 1 to 65, g 1 to 64, tick 0 to" the largest; "Keys and indices count from 0." The first vector is empty; no replica id
-- and no key of a vector stands twice; each bound is above the one before
pub record Lawful (R : Rules) (k : Knowledge) : Type 0 where
  pub replicas : length k.replicas ≤ R.limits.replicas
  pub ids : All (λ id. id < 256 ^ 16) k.replicas
  pub acceptable : All (λ id. R.judge id ≡ 0) k.replicas
  pub distinct : Distinct k.replicas
  pub some_vector : 1 ≤ length k.vectors
  pub vectors : length k.vectors ≤ R.limits.ranges + 1
  pub first : get_or k.vectors 0 [] ≡ []
  pub counts : All (λ es. length es ≤ length k.replicas) k.vectors
  pub keys_below : All (All (λ x. x.key.0 < length k.replicas)) k.vectors
  pub keys_once : All (λ es. Distinct (keys es)) k.vectors
  pub ticks : All (All (λ x. x.tick ≤ largest_tick)) k.vectors
  pub some_range : 1 ≤ length k.ranges
  pub ranges : length k.ranges ≤ R.limits.ranges
  pub items : All (λ x. x.bound < 256 ^ 24) k.ranges
  pub indices : All (λ x. x.index.0 < length k.vectors) k.ranges
  pub rising : Rising 0 (bounds k.ranges)

-- The conditions of a lawful knowledge gathered by replica id, element, clock vector and range, as the proofs take them one after the
-- other. `check_parts` and `whole` say that this is the same list of conditions.
use Prim.Native.Nat.{ℕ, ◌+◌, ◌≤◌, ◌<◌, ◌^◌}
use mathlib.Core.Path.{◌≡◌}
use mathlib.Core.List.{List, [], ◌∷◌}
use lib.ListN.{length, get_or}
use Rattle.layout.specs.Knowledge.{Rules, largest_tick, Element, Range, Knowledge, All, Distinct, Rising, keys, bounds, Lawful}

-- a replica id of 16 bytes that is acceptable
pub record LawfulId (R : Rules) (id : ℕ) : Type 0 where
  pub size : id < 256 ^ 16
  pub acceptable : R.judge id ≡ 0

pub record LawfulElement (r : ℕ) (x : Element) : Type 0 where
  pub key : x.key.0 < r
  pub tick : x.tick ≤ largest_tick

pub record LawfulVector (r : ℕ) (es : List Element) : Type 0 where
  pub count : length es ≤ r
  pub elements : All (LawfulElement r) es
  pub distinct : Distinct (keys es)

pub record LawfulRange (v : ℕ) (x : Range) : Type 0 where
  pub size : x.bound < 256 ^ 24
  pub index : x.index.0 < v

pub record Parts (R : Rules) (k : Knowledge) : Type 0 where
  pub replicas : length k.replicas ≤ R.limits.replicas
  pub ids : All (LawfulId R) k.replicas
  pub distinct : Distinct k.replicas
  pub some_vector : 1 ≤ length k.vectors
  pub vectors : length k.vectors ≤ R.limits.ranges + 1
  pub first : get_or k.vectors 0 [] ≡ []
  pub clocks : All (LawfulVector (length k.replicas)) k.vectors
  pub some_range : 1 ≤ length k.ranges
  pub ranges : length k.ranges ≤ R.limits.ranges
  pub spans : All (LawfulRange (length k.vectors)) k.ranges
  pub rising : Rising 0 (bounds k.ranges)

-- what each element has, each has; and two lists of conditions as one
pub all_map : {A : Type 0} (P Q : A → Type 0) → ((a : A) → P a → Q a) → (l : List A) → All P l → All Q l
all_map P Q f [] h = tt
all_map P Q f (a ∷ l) h = (f a h.0, all_map P Q f l h.1)

pub all_both : {A : Type 0} (P Q S : A → Type 0) → ((a : A) → P a → Q a → S a) → (l : List A) → All P l → All Q l → All S l
all_both P Q S f [] h g = tt
all_both P Q S f (a ∷ l) h g = (f a h.0 g.0, all_both P Q S f l h.1 g.1)

module _ (R : Rules) (k : Knowledge) where
  pub parts : Lawful R k → Parts R k
  parts l =
      let r = length k.replicas in
      let elements : All (All (LawfulElement r)) k.vectors =
      all_both (All (λ x. x.key.0 < r)) (All (λ x. x.tick ≤ largest_tick)) (All (LawfulElement r))
      (λ es a b. all_both (λ x. x.key.0 < r) (λ x. x.tick ≤ largest_tick) (LawfulElement r) (λ x a b. record { key = a; tick = b }) es a b)
      k.vectors l.keys_below l.ticks in
      let counted : All (λ es. (length es ≤ r) × Distinct (keys es)) k.vectors =
      all_both (λ es. length es ≤ r) (λ es. Distinct (keys es)) (λ es. (length es ≤ r) × Distinct (keys es)) (λ es a b. (a, b)) k.vectors l.counts l.keys_once in
      record {
        replicas = l.replicas;
        ids = all_both (λ id. id < 256 ^ 16) (λ id. R.judge id ≡ 0) (LawfulId R) (λ id a b. record { size = a; acceptable = b }) k.replicas l.ids l.acceptable;
        distinct = l.distinct;
        some_vector = l.some_vector;
        vectors = l.vectors;
        first = l.first;
        clocks =
            all_both (λ es. (length es ≤ r) × Distinct (keys es)) (All (LawfulElement r)) (LawfulVector r)
            (λ es a b. record { count = a.0; elements = b; distinct = a.1 }) k.vectors counted elements;
        some_range = l.some_range;
        ranges = l.ranges;
        spans = all_both (λ x. x.bound < 256 ^ 24) (λ x. x.index.0 < length k.vectors) (LawfulRange (length k.vectors))
            (λ x a b. record { size = a; index = b }) k.ranges l.items l.indices;
        rising = l.rising;
      }

  pub whole : Parts R k → Lawful R k
  whole l =
      let r = length k.replicas in
      let v = length k.vectors in
      record {
        replicas = l.replicas;
        ids = all_map (LawfulId R) (λ id. id < 256 ^ 16) (λ id a. a.size) k.replicas l.ids;
        acceptable = all_map (LawfulId R) (λ id. R.judge id ≡ 0) (λ id a. a.acceptable) k.replicas l.ids;
        distinct = l.distinct;
        some_vector = l.some_vector;
        vectors = l.vectors;
        first = l.first;
        counts = all_map (LawfulVector r) (λ es. length es ≤ r) (λ es a. a.count) k.vectors l.clocks;
        keys_below =
            all_map (LawfulVector r) (All (λ x. x.key.0 < r))
            (λ es a. all_map (LawfulElement r) (λ x. x.key.0 < r) (λ x a. a.key) es a.elements) k.vectors l.clocks;
        keys_once = all_map (LawfulVector r) (λ es. Distinct (keys es)) (λ es a. a.distinct) k.vectors l.clocks;
        ticks =
            all_map (LawfulVector r) (All (λ x. x.tick ≤ largest_tick))
            (λ es a. all_map (LawfulElement r) (λ x. x.tick ≤ largest_tick) (λ x a. a.tick) es a.elements) k.vectors l.clocks;
        some_range = l.some_range;
        ranges = l.ranges;
        items = all_map (LawfulRange v) (λ x. x.bound < 256 ^ 24) (λ x a. a.size) k.ranges l.spans;
        indices = all_map (LawfulRange v) (λ x. x.index.0 < v) (λ x a. a.index) k.ranges l.spans;
        rising = l.rising;
      }

-- Lawful knowledges are sound. A knowledge that meets the conditions of normal form but for the map's order, with acceptable
-- ids, ticks at most the largest and counts within the limits, is lawful; so is the result of each operation on lawful
-- knowledges, where its counts are within the limits.
use Prim.Native.Nat.{ℕ, zero, suc, ◌+◌, ◌≤◌, ◌<◌, ◌^◌}
use mathlib.Core.Path.{◌≡◌, refl, sym, ap, subst}
use mathlib.Core.Logic.{inl, inr, ⊎_elim}
use mathlib.Core.Bool.{false}
use mathlib.Core.Option.{none}
use mathlib.Core.List.{List, [], ◌∷◌, ◌++◌}
use native.Mathlib.Omega.{arith, none}
use lib.Dec.{eqb}
use lib.ListN.{length, get_or}
use Rattle.codec.specs.Words.{words3}
use Rattle.layout.specs.Answer.{elements}
use Rattle.layout.proofs.Forward.{encode-length}
use Rattle.layout.specs.Knowledge.{encode, Rules, largest_tick, Element, Range, Knowledge, All, Rising, keys, bounds, Lawful}
use Rattle.layout.proofs.Parts.{LawfulId, LawfulElement, LawfulVector, LawfulRange, parts, whole}
use Rattle.ticks.specs.Meaning.{highest, place_by, tick_at, vector_at, known, indices, Sound, Formed, EachUsed, empty_knowledge, index_from}
use Rattle.ticks.specs.Operations.{normalise, merge, project, raise, too_many_replicas, too_many_ranges}
use Rattle.ticks.proofs.Lists.{Among, among?, all_among, among_all, among_cases, rising_distinct, rising_above, side_in, side_below, side_above, span_side}
use Rattle.ticks.proofs.Equality.{eqb_exact, exact?}
use Rattle.ticks.proofs.Canonical.{highest-suc}
use Rattle.ticks.proofs.Vectors.{keys_length, tick-nil, tick_same, tick_other}
use Rattle.ticks.proofs.Numbering.{indices-length}
use Rattle.ticks.proofs.FirstUse.{met_count}
use Rattle.ticks.proofs.Written.{known_in, known_out}
use Rattle.ticks.proofs.Rebuilt.{used_index, order_first}
use Rattle.ticks.proofs.Unique.{all_get, get_in_order, found_all, key_known, vector_bound, replica_known}
use Rattle.ticks.proofs.Operations.{known_normalise, normal_normalise, known_merge, normal_merge, known_project_inside}
use Rattle.ticks.proofs.Operations.{known_project_below, known_project_above, normal_project, known_raise_own, known_raise_other}
use Rattle.ticks.proofs.Operations.{normal_raise}
use Rattle.ticks.proofs.Counts.{normalise-map, merge-map, project-map, raise-map, replicas_fit, ranges_fit, normalise_never_11, project_never_11}

-- The top item id and 24 bytes

-- the top item id is three full words
pub highest_words : words3 18446744073709551615 18446744073709551615 18446744073709551615 ≡ highest
unfolding words3 highest
highest_words = refl

pub below_top : (b : ℕ) → b < 256 ^ 24 → b ≤ highest
below_top b h = let l : b < suc highest = subst (λ n. b < n) (sym highest-suc) h in under l
  where
    under : {a n : ℕ} → a < suc n → a ≤ n
    under l = omega arith

pub top_below : (b : ℕ) → b ≤ highest → b < 256 ^ 24
top_below b h = subst (λ n. b < n) highest-suc (over h)
  where
    over : {a n : ℕ} → a ≤ n → a < suc n
    over l = omega arith

-- Lawful knowledges are sound

lawful_keys : (r : ℕ) (vs : List (List Element)) → All (LawfulVector r) vs → All (All (λ x. x.key.0 < r)) vs
lawful_keys r [] a = tt
lawful_keys r (es ∷ vs) a = (of es a.0.elements, lawful_keys r vs a.1)
  where
    of : (es : List Element) → All (LawfulElement r) es → All (λ x. x.key.0 < r) es
    of [] b = tt
    of (x ∷ xs) b = (b.0.key, of xs b.1)

lawful_indices : (v : ℕ) (xs : List Range) → All (LawfulRange v) xs → All (λ x. x.index.0 < v) xs
lawful_indices v [] a = tt
lawful_indices v (x ∷ xs) a = (a.0.index, lawful_indices v xs a.1)

lawful_items : (v : ℕ) (xs : List Range) → All (LawfulRange v) xs → All (λ b. b ≤ highest) (bounds xs)
unfolding bounds
lawful_items v [] a = tt
lawful_items v (x ∷ xs) a = (below_top x.bound a.0.size, lawful_items v xs a.1)

pub lawful_sound : (R : Rules) (k : Knowledge) → Lawful R k → Sound k
lawful_sound R k l = record {
  distinct = l.distinct;
  keys_below = lawful_keys (length k.replicas) k.vectors (parts R k l).clocks;
  indices_below = lawful_indices (length k.vectors) k.ranges (parts R k l).spans;
  rising = l.rising;
  items = lawful_items (length k.vectors) k.ranges (parts R k l).spans;
}

-- and their known ticks are at most the largest tick

ticks_most : (r : ℕ) (es : List Element) (key : ℕ) → All (LawfulElement r) es → tick_at es key ≤ largest_tick
ticks_most r [] key a = omega (arith, tick-nil key)
ticks_most r (x ∷ xs) key a =
    elim (exact? eqb eqb_exact x.key.0 key) [
      | inl e ↦ omega (arith, tick_same x xs key e, a.0.tick)
      | inr n ↦ omega (arith, tick_other x xs key n, ticks_most r xs key a.1)
    ]

vectors_most : (r : ℕ) (vs : List (List Element)) (key : ℕ) → All (LawfulVector r) vs → All (λ es. tick_at es key ≤ largest_tick) vs
vectors_most r [] key a = tt
vectors_most r (es ∷ vs) key a = (ticks_most r es key a.0.elements, vectors_most r vs key a.1)

pub lawful_ticks : (R : Rules) (k : Knowledge) (i p : ℕ) → Lawful R k → known k i p ≤ largest_tick
unfolding vector_at
lawful_ticks R k i p l =
    elim (among? p k.replicas) [
      | inl m ↦
          omega (
            arith,
            known_in k i p m,
            found_all (λ es. tick_at es (place_by eqb p k.replicas) ≤ largest_tick) k.vectors (index_from none k.ranges i)
                (vectors_most (length k.replicas) k.vectors (place_by eqb p k.replicas) (parts R k l).clocks)
                (omega (arith, tick-nil (place_by eqb p k.replicas))),
          )
      | inr n ↦ omega (arith, known_out k i p n)
    ]

-- Every element is a known tick, where the conditions hold

all_by_get : {A : Type 0} (P : A → Type 0) (d : A) (xs : List A) → ((n : ℕ) → n < length xs → P (get_or xs n d)) → All P xs
all_by_get P d [] f = tt
all_by_get P d (x ∷ xs) f = (f 0 (omega arith), all_by_get P d xs (λ n h. f (suc n) (omega arith)))

elements_most : (m lo : ℕ) (es : List Element) → Rising lo (keys es) → ((key : ℕ) → Among key (keys es) → tick_at es key ≤ m) → All (λ x. x.tick ≤ m) es
unfolding keys
elements_most m lo [] r f = tt
elements_most m lo (x ∷ xs) r f = (
  omega (arith, f x.key.0 (inl refl), tick_same x xs x.key.0 refl),
  elements_most m (suc x.key.0) xs r.1
      (λ key o.
      omega (
        arith,
        f key (inr o),
        tick_other x xs key (λ e. omega (arith, rising_above (suc x.key.0) key (keys xs) r.1 o)),
      )),
)

keys_below_lem : (r : ℕ) (es : List Element) (key : ℕ) → All (λ x. x.key.0 < r) es → Among key (keys es) → key < r
unfolding keys
keys_below_lem r [] key a m = absurd m
keys_below_lem r (x ∷ xs) key a (inl e) = omega (arith, a.0)
keys_below_lem r (x ∷ xs) key a (inr m) = keys_below_lem r xs key a.1 m

nothing_below : (m : ℕ) (es : List Element) → es ≡ [] → All (λ x. x.tick ≤ m) es
nothing_below m es e = subst (All (λ x. x.tick ≤ m)) (sym e) tt

pub formed_ticks : (k : Knowledge) (m : ℕ) → Formed k → ((i p : ℕ) → i ≤ highest → known k i p ≤ m) → All (All (λ x. x.tick ≤ m)) k.vectors
formed_ticks k m form f = all_by_get (All (λ x. x.tick ≤ m)) [] k.vectors each
  where
    each : (y : ℕ) → y < length k.vectors → All (λ x. x.tick ≤ m) (get_or k.vectors y [])
    each zero h = nothing_below m (get_or k.vectors 0 []) form.empty_first
    each (suc y) h =
        let w = vector_bound k (suc y) form.sound (used_index k (suc y) form (omega arith) h) in
        let b : w.0 ≤ highest = all_among (λ b. b ≤ highest) (bounds k.ranges) form.sound.items w.0 w.1.0 in
        elements_most m 0 (get_or k.vectors (suc y) [])
        (get_in_order k (suc y) form).rising
        (λ key o.
        let l : key < length k.replicas =
        keys_below_lem (length k.replicas) (get_or k.vectors (suc y) []) key
        (all_get (All (λ x. x.key.0 < length k.replicas)) [] k.vectors (suc y) form.sound.keys_below tt) o in
        omega (arith, f w.0 (get_or k.replicas key 0) b, key_known k w.0 key form.sound l, ap (λ v. tick_at v key) w.1.1))

-- Within the limits it is lawful

rising_count : (lo r : ℕ) (xs : List ℕ) → Rising lo xs → All (λ x. x < r) xs → lo ≤ r → lo + length xs ≤ r
rising_count lo r [] s a h = omega arith
rising_count lo r (x ∷ xs) s a h = omega (arith, s.0, rising_count (suc x) r xs s.1 a.1 a.0)

keys_all : (r : ℕ) (es : List Element) → All (λ x. x.key.0 < r) es → All (λ x. x < r) (keys es)
unfolding keys
keys_all r [] a = tt
keys_all r (x ∷ xs) a = (a.0, keys_all r xs a.1)

lawful_elements : (r : ℕ) (es : List Element) → All (λ x. x.key.0 < r) es → All (λ x. x.tick ≤ largest_tick) es → All (LawfulElement r) es
lawful_elements r [] a b = tt
lawful_elements r (x ∷ xs) a b = (record { key = a.0; tick = b.0 }, lawful_elements r xs a.1 b.1)

lawful_vectors : (r : ℕ) (vs : List (List Element)) → All (All (λ x. x.key.0 < r)) vs → All (λ es. Rising 0 (keys es)) vs
    → All (All (λ x. x.tick ≤ largest_tick)) vs → All (LawfulVector r) vs
lawful_vectors r [] a o b = tt
lawful_vectors r (es ∷ vs) a o b = (
  record {
    count = omega (arith, keys_length es, rising_count 0 r (keys es) o.0 (keys_all r es a.0) (omega arith));
    elements = lawful_elements r es a.0 b.0;
    distinct = rising_distinct 0 (keys es) o.0;
  },
  lawful_vectors r vs a.1 o.1 b.1,
)

lawful_ranges : (v : ℕ) (xs : List Range) → All (λ x. x.index.0 < v) xs → All (λ b. b ≤ highest) (bounds xs) → All (LawfulRange v) xs
unfolding bounds
lawful_ranges v [] a b = tt
lawful_ranges v (x ∷ xs) a b = (record { size = top_below x.bound b.0; index = a.0 }, lawful_ranges v xs a.1 b.1)

some_range_lem : (xs : List Range) → get_or (bounds xs) 0 1 ≡ 0 → 1 ≤ length xs
unfolding bounds
some_range_lem [] z = absurd (omega arith)
some_range_lem (x ∷ xs) z = omega arith

-- at most one vector more than ranges
pub formed_vectors : (k : Knowledge) → Formed k → length k.vectors ≤ length k.ranges + 1
formed_vectors k form =
    omega (
      arith,
      indices-length k.ranges,
      met_count 1 (indices k.ranges) (length k.vectors) (order_first k form),
    )

pub lawful_formed : (R : Rules) (k : Knowledge) → Formed k
    → ((p : ℕ) → Among p k.replicas → LawfulId R p)
    → ((i p : ℕ) → i ≤ highest → known k i p ≤ largest_tick)
    → too_many_replicas R.limits k ≡ false → too_many_ranges R.limits k ≡ false → Lawful R k
lawful_formed R k form ids ticks few short =
    let r : length k.replicas ≤ R.limits.replicas = (replicas_fit R.limits k).0 few in
    let g : length k.ranges ≤ R.limits.ranges = (ranges_fit R.limits k).0 short in
    whole R k (record {
      replicas = r;
      ids = among_all (LawfulId R) k.replicas ids;
      distinct = form.sound.distinct;
      some_vector = form.some_vector;
      vectors = omega (arith, formed_vectors k form);
      first = form.empty_first;
      clocks = lawful_vectors (length k.replicas) k.vectors form.sound.keys_below form.elements (formed_ticks k largest_tick form ticks);
      some_range = some_range_lem k.ranges form.first_range;
      ranges = g;
      spans = lawful_ranges (length k.vectors) k.ranges form.sound.indices_below form.sound.items;
      rising = form.sound.rising;
    })

-- The results of the operations

pub lawful_id : (R : Rules) (k : Knowledge) (p : ℕ) → Lawful R k → Among p k.replicas → LawfulId R p
lawful_id R k p l m = all_among (LawfulId R) k.replicas (parts R k l).ids p m

from_known : (R : Rules) (k : Knowledge) (ids : List ℕ) → Formed k → EachUsed k → ((i p : ℕ) → i ≤ highest → 1 ≤ known k i p → Among p ids)
    → ((p : ℕ) → Among p ids → LawfulId R p) → (p : ℕ) → Among p k.replicas → LawfulId R p
from_known R k ids form each f g p m = let w = replica_known k p form each m in g p (f w.0 p w.1.0 w.1.1)

pub lawful_normalise : (R : Rules) (k : Knowledge) → Lawful R k → too_many_ranges R.limits (normalise k) ≡ false → Lawful R (normalise k)
lawful_normalise R k l short =
    lawful_formed R (normalise k) (normal_normalise k).formed
    (from_known R (normalise k) k.replicas (normal_normalise k).formed (normal_normalise k).used (normalise-map k) (λ p m. lawful_id R k p l m))
    (λ i p h. omega (arith, known_normalise k i p h, lawful_ticks R k i p l))
    (normalise_never_11 R.limits k l.replicas) short

pub lawful_merge : (R : Rules) (a b : Knowledge) → Lawful R a → Lawful R b
    → too_many_replicas R.limits (merge a b) ≡ false → too_many_ranges R.limits (merge a b) ≡ false → Lawful R (merge a b)
lawful_merge R a b l m few short =
    lawful_formed R (merge a b) (normal_merge a b).formed
    (from_known R (merge a b) (a.replicas ++ b.replicas) (normal_merge a b).formed (normal_merge a b).used (merge-map a b)
    (λ p o. ⊎_elim (lawful_id R a p l) (lawful_id R b p m) (among_cases p a.replicas b.replicas o)))
    (λ i p h. omega (arith, known_merge a b i p h, lawful_ticks R a i p l, lawful_ticks R b i p m))
    few short

pub lawful_project : (R : Rules) (first last : ℕ) (k : Knowledge) → Lawful R k
    → too_many_ranges R.limits (project first last k) ≡ false → Lawful R (project first last k)
lawful_project R first last k l short =
    lawful_formed R (project first last k) (normal_project first last k).formed
    (from_known R (project first last k) k.replicas (normal_project first last k).formed (normal_project first last k).used (project-map first last k) (λ p m. lawful_id R k p l m))
    (λ i p h.
    elim (span_side first last i) [
      | side_in m n ↦ omega (arith, known_project_inside first last k i p h m n, lawful_ticks R k i p l)
      | side_below m ↦ omega (arith, known_project_below first last k i p h m)
      | side_above m ↦ omega (arith, known_project_above first last k i p h m)
    ])
    (project_never_11 R.limits first last k l.replicas) short

pub lawful_raise : (R : Rules) (q t : ℕ) (k : Knowledge) → Lawful R k → LawfulId R q → t ≤ largest_tick
    → too_many_replicas R.limits (raise q t k) ≡ false → too_many_ranges R.limits (raise q t k) ≡ false → Lawful R (raise q t k)
lawful_raise R q t k l a h few short =
    lawful_formed R (raise q t k) (normal_raise q t k).formed
    (from_known R (raise q t k) (q ∷ k.replicas) (normal_raise q t k).formed (normal_raise q t k).used (raise-map q t k)
    (λ p o. ⊎_elim (λ e. subst (LawfulId R) (sym e) a) (lawful_id R k p l) o))
    (λ i p b.
    elim (exact? eqb eqb_exact p q) [
      | inl e ↦ omega (arith, known_raise_own q t k i p b e)
      | inr n ↦ omega (arith, known_raise_other q t k i p b n, lawful_ticks R k i p l)
    ])
    few short

-- empty knowledge is lawful where one range is allowed
pub lawful_empty : (R : Rules) → 1 ≤ R.limits.ranges → Lawful R empty_knowledge
unfolding empty_knowledge bounds keys
lawful_empty R h = whole R empty_knowledge (record {
  replicas = omega arith;
  ids = tt;
  distinct = tt;
  some_vector = omega arith;
  vectors = omega arith;
  first = refl;
  clocks = (record { count = omega arith; elements = tt; distinct = tt }, tt);
  some_range = omega arith;
  ranges = h;
  spans = (record { size = top_below 0 (omega arith); index = omega arith }, tt);
  rising = (omega arith, tt);
})

-- and the smallest there is
pub empty-length : length (encode empty_knowledge) ≡ 113
unfolding empty_knowledge elements
empty-length = encode-length empty_knowledge

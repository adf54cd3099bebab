-- Knowledges in normal form with the same known ticks are equal: the map is the ids with a tick somewhere, the vector at
-- each item is known by its ticks, the ranges by the vectors at all items, and the numbering by the ranges.
use Prim.Native.Nat.{ℕ, zero, suc, ◌≤◌, ◌<◌}
use mathlib.Core.Path.{◌≡◌, refl, sym, ◌∙◌, ap, ap₂, subst}
use mathlib.Core.Logic.{inl, inr}
use mathlib.Core.Option.{Option, none, some}
use mathlib.Core.List.{List, [], ◌∷◌}
use native.Mathlib.Omega.{arith, none}
use lib.Dec.{eqb}
use lib.ListN.{length, get_or}
use Rattle.layout.specs.declared.VectorIndex.{VectorIndex}
use Rattle.layout.specs.Knowledge.{Element, Range, Knowledge, All, Distinct, Rising, keys, bounds}
use Rattle.ticks.specs.Meaning.{highest, place, tick_at, vector_at, known, indices, Sound, Formed, EachUsed, Normal, vector_found, index_from, vector_of}
use Rattle.ticks.specs.Table.{at}
use Rattle.ticks.specs.Written.{indexed}
use Rattle.ticks.proofs.Lists.{Among, less, same, more, order, among?, all_among, rising_above, rising_unique}
use Rattle.ticks.proofs.Equality.{eqb_exact, place_first, place_found}
use Rattle.ticks.proofs.Steps.{Changing, at-ge, before_steps, steps_unique}
use Rattle.ticks.proofs.Vectors.{ElementsInOrder, vector_unique, tick_none, tick_key}
use Rattle.ticks.proofs.Numbering.{index-nil, index-lt, index-ge, found_some}
use Rattle.ticks.proofs.Written.{among_place, among_get, known_in, known_out}
use Rattle.ticks.proofs.Used.{used_get}
use Rattle.ticks.proofs.Rebuilt.{own_steps, used_index, rebuilt, own-vector_at, FromZero, formed_from-zero}

-- Sound knowledges

pub distinct_get : (ids : List ℕ) (m n : ℕ) → Distinct ids → m < n → n < length ids → get_or ids m 0 ≡ get_or ids n 0 → ⊥
distinct_get [] m n d h k e = omega arith
distinct_get (x ∷ xs) zero zero d h k e = omega arith
distinct_get (x ∷ xs) zero (suc n) d h k e = all_among (λ y. x ≡ y → ⊥) xs d.0 (get_or xs n 0) (among_get xs n (omega arith)) e
distinct_get (x ∷ xs) (suc m) zero d h k e = omega arith
distinct_get (x ∷ xs) (suc m) (suc n) d h k e = distinct_get xs m n d.1 (omega arith) (omega arith) e

pub place_own : (ids : List ℕ) (n : ℕ) → Distinct ids → n < length ids → place (get_or ids n 0) ids ≡ n
place_own ids n d h =
    let p = get_or ids n 0 in
    let le : place p ids ≤ n = place_first eqb eqb_exact p 0 ids n h refl in
    elim (order (place p ids) n) [
      | less k ↦ absurd (distinct_get ids (place p ids) n d k h (place_found eqb eqb_exact p 0 ids (omega arith)))
      | same k ↦ k
      | more k ↦ absurd (omega arith)
    ]

-- the tick under a key is known for the replica with that key
pub key_known : (k : Knowledge) (i key : ℕ) → Sound k → key < length k.replicas → known k i (get_or k.replicas key 0) ≡ tick_at (vector_at k i) key
key_known k i key s h =
    known_in k i (get_or k.replicas key 0) (among_get k.replicas key h)
    ∙ ap (tick_at (vector_at k i)) (place_own k.replicas key s.distinct h)

pub all_get : {A : Type 0} (P : A → Type 0) (d : A) (xs : List A) (n : ℕ) → All P xs → P d → P (get_or xs n d)
all_get P d [] n a p = p
all_get P d (x ∷ xs) zero a p = a.0
all_get P d (x ∷ xs) (suc n) a p = all_get P d xs n a.1 p

-- what holds for every vector and the empty one holds for a vector that was found
pub found_all : (P : List Element → Type 0) (vs : List (List Element)) (found : Option VectorIndex) → All P vs → P [] → P (vector_found vs found)
unfolding vector_found
found_all P vs none a p = p
found_all P vs (some y) a p = all_get P [] vs y.0 a p

-- the vectors of a knowledge that meets the conditions, by their places
pub get_in_order : (k : Knowledge) (y : ℕ) → Formed k → ElementsInOrder (get_or k.vectors y [])
unfolding keys
get_in_order k y o = record {
  rising = all_get (λ es. Rising 0 (keys es)) [] k.vectors y o.elements tt;
  ticks = all_get (All (λ x. 1 ≤ x.tick)) [] k.vectors y o.ticks tt;
}

found_in_order : (k : Knowledge) (found : Option VectorIndex) → Formed k → ElementsInOrder (vector_found k.vectors found)
unfolding vector_found keys
found_in_order k none o = record { rising = tt; ticks = tt }
found_in_order k (some y) o = get_in_order k y.0 o

pub vector_at_in_order : (k : Knowledge) (i : ℕ) → Formed k → ElementsInOrder (vector_at k i)
unfolding vector_at
vector_at_in_order k i o = found_in_order k (index_from none k.ranges i) o

pub vector_at-keys : (k : Knowledge) (i : ℕ) → Sound k → All (λ x. x.key.0 < length k.replicas) (vector_at k i)
unfolding vector_at
vector_at-keys k i s = found_all (All (λ x. x.key.0 < length k.replicas)) k.vectors (index_from none k.ranges i) s.keys_below tt

-- An index used by a range is the index at that range's bound

index_before : (found : Option VectorIndex) (xs : List Range) (lo i : ℕ) → Rising lo (bounds xs) → i < lo → index_from found xs i ≡ found
unfolding bounds
index_before found [] lo i r h = index-nil found i
index_before found (x ∷ xs) lo i r h = index-lt found x xs i (omega (arith, r.0))

index_bound : (lo : ℕ) (found : Option VectorIndex) (xs : List Range) (y : ℕ) → Rising lo (bounds xs) → Among y (indices xs)
    → (b : ℕ) × (Among b (bounds xs) × (index_from found xs b ≡ some (record { 0 = y })))
unfolding bounds indices
index_bound lo found [] y r m = absurd m
index_bound lo found (x ∷ xs) y r (inl e) = (
  x.bound,
  (
    inl refl,
    index-ge found x xs x.bound (omega arith)
        ∙ index_before (some x.index) xs (suc x.bound) x.bound r.1 (omega arith)
        ∙ ap (λ n. some (record { 0 = n })) (sym e),
  ),
)
index_bound lo found (x ∷ xs) y r (inr m) =
    let w = index_bound (suc x.bound) (some x.index) xs y r.1 m in
    let h : suc x.bound ≤ w.0 = rising_above (suc x.bound) w.0 (bounds xs) r.1 w.1.0 in
    (w.0, (inr w.1.0, index-ge found x xs w.0 (omega arith) ∙ w.1.1))

-- a vector that a range uses is the one at that range's bound
pub vector_bound : (k : Knowledge) (y : ℕ) → Sound k → Among y (indices k.ranges)
    → (b : ℕ) × (Among b (bounds k.ranges) × (vector_at k b ≡ vector_of k y))
unfolding vector_at
vector_bound k y s m =
    let w = index_bound 0 none k.ranges y s.rising m in
    (w.0, (w.1.0, ap (vector_found k.vectors) w.1.1 ∙ found_some k.vectors (record { 0 = y })))

no_key : (key : ℕ) (es : List Element) → es ≡ [] → Among key (keys es) → ⊥
unfolding keys
no_key key es e m = subst (λ fs. Among key (keys fs)) e m

-- a replica of the map has a tick of 1 or more at some item
pub replica_known : (k : Knowledge) (p : ℕ) → Formed k → EachUsed k → Among p k.replicas → (i : ℕ) × ((i ≤ highest) × (1 ≤ known k i p))
replica_known k p o each m =
    let key = place p k.replicas in
    let u = used_get key k.vectors (each key (among_place p k.replicas m)) in
    let above : 1 ≤ u.0 =
    elim (order u.0 0) [
      | less h ↦ absurd (omega arith)
      | same h ↦ absurd (no_key key (get_or k.vectors u.0 []) (ap (λ y. get_or k.vectors y []) h ∙ o.empty_first) u.1.1)
      | more h ↦ h
    ] in
    let w = vector_bound k u.0 o.sound (used_index k u.0 o above u.1.0) in
    let t : 1 ≤ tick_at (get_or k.vectors u.0 []) key =
    tick_key (get_or k.vectors u.0 []) key (get_in_order k u.0 o).ticks u.1.1 in (
      w.0,
      (
        all_among (λ b. b ≤ highest) (bounds k.ranges) o.sound.items w.0 w.1.0,
        omega (arith, known_in k w.0 p m, ap (λ v. tick_at v key) w.1.1),
      ),
    )

-- and a replica with such a tick is in the map
pub known_replica : (k : Knowledge) (i p : ℕ) → 1 ≤ known k i p → Among p k.replicas
known_replica k i p h =
    elim (among? p k.replicas) [ inl m ↦ m | inr n ↦ absurd (omega (arith, known_out k i p n)) ]

-- the same known ticks, for every item and replica
pub record SameTicks (a b : Knowledge) : Type 0 where
  pub known : (i p : ℕ) → i ≤ highest → known a i p ≡ known b i p

same_map : (a b : Knowledge) → Normal a → Normal b → SameTicks a b → a.replicas ≡ b.replicas
same_map a b n m f =
    rising_unique 0 a.replicas b.replicas n.rising m.rising
    (λ p h. let w = replica_known a p n.formed n.used h in known_replica b w.0 p (omega (arith, w.1.1, f.known w.0 p w.1.0)))
    (λ p h. let w = replica_known b p m.formed m.used h in known_replica a w.0 p (omega (arith, w.1.1, f.known w.0 p w.1.0)))

-- with one map, the vectors at each item are the same
pub same_vector : (a b : Knowledge) → Formed a → Formed b → b.replicas ≡ a.replicas → SameTicks a b → (i : ℕ) → i ≤ highest → vector_at a i ≡ vector_at b i
same_vector a b o q e f i h =
    vector_unique (vector_at a i) (vector_at b i) (vector_at_in_order a i o) (vector_at_in_order b i q)
    (λ key.
    elim (order key (length a.replicas)) [
      | less k ↦ found key k
      | same k ↦ none key (omega arith)
      | more k ↦ none key (omega arith)
    ])
  where
    found : (key : ℕ) → key < length a.replicas → tick_at (vector_at a i) key ≡ tick_at (vector_at b i) key
    found key k =
        sym (key_known a i key o.sound k) ∙ f.known i (get_or a.replicas key 0) h
        ∙ ap (λ ids. known b i (get_or ids key 0)) (sym e) ∙ key_known b i key q.sound (omega (arith, ap length e))

    none : (key : ℕ) → length a.replicas ≤ key → tick_at (vector_at a i) key ≡ tick_at (vector_at b i) key
    none key k =
        tick_none (length a.replicas) (vector_at a i) key (vector_at-keys a i o.sound) k
        ∙ sym (tick_none (length b.replicas) (vector_at b i) key (vector_at-keys b i q.sound) (omega (arith, ap length e)))

-- with one vector at each item, the ranges are the same
from-zero_unique : (s t : List (ℕ × List Element)) (v w : List Element) → Changing highest 1 v s → Changing highest 1 w t
    → ((i : ℕ) → i ≤ highest → at [] ((0, v) ∷ s) i ≡ at [] ((0, w) ∷ t) i) → (0, v) ∷ s ≡ (0, w) ∷ t
from-zero_unique s t v w c d f =
    let g : (i : ℕ) → i ≤ highest → at v s i ≡ at w t i =
    λ i h. sym (at-ge [] (0, v) s i (omega arith)) ∙ f i h ∙ at-ge [] (0, w) t i (omega arith) in
    let e : v ≡ w = sym (before_steps highest 1 v v s 0 c (omega arith)) ∙ g 0 (omega arith) ∙ before_steps highest 1 w w t 0 d (omega arith) in
    let d' : Changing highest 1 v t = rw e d in
    ap₂ (λ u r. (0, u) ∷ r) e (steps_unique highest 1 v s t c d' (λ i h k. g i k ∙ ap (λ u. at u t i) (sym e)))

pub own_steps_unique : (ss ts : List (ℕ × List Element)) → FromZero ss → FromZero ts → ((i : ℕ) → i ≤ highest → at [] ss i ≡ at [] ts i) → ss ≡ ts
own_steps_unique ss ts x y f =
    x.is
    ∙ from-zero_unique x.rest y.rest x.value y.value x.changing y.changing
    (λ i h. ap (λ s. at [] s i) (sym x.is) ∙ f i h ∙ ap (λ s. at [] s i) y.is)
    ∙ sym y.is

-- over one map
pub formed_unique : (a b : Knowledge) → Formed a → Formed b → b.replicas ≡ a.replicas → SameTicks a b → a ≡ b
formed_unique a b o q e f =
    sym (rebuilt a o)
    ∙ ap₂ indexed (sym e)
    (own_steps_unique (own_steps a.vectors a.ranges) (own_steps b.vectors b.ranges) (formed_from-zero a o) (formed_from-zero b q)
    (λ i h. own-vector_at a i ∙ same_vector a b o q e f i h ∙ sym (own-vector_at b i)))
    ∙ rebuilt b q

-- normal forms with equal ticks are equal
pub normal_unique : (a b : Knowledge) → Normal a → Normal b → ((i p : ℕ) → i ≤ highest → known a i p ≡ known b i p) → a ≡ b
normal_unique a b n m f =
    let s : SameTicks a b = record { known = f } in
    formed_unique a b n.formed m.formed (sym (same_map a b n m s)) s

-- The known tick is document 01's rule: of the range with the greatest bound at or below the item, its vector, and there the
-- replica's element, the tick; 0 where the range, the replica or the element is missing.
use Prim.Native.Nat.{ℕ, zero, suc, ◌≤◌, ◌<◌, ◌^◌}
use mathlib.Core.Path.{◌≡◌, refl, sym, ◌∙◌, ap}
use mathlib.Core.Logic.{◌⊎◌, inl, inr, ⊎_elim}
use mathlib.Core.Option.{Option, none, some}
use mathlib.Core.List.{List, [], ◌∷◌}
use native.Mathlib.Omega.{arith, none}
use lib.ListN.{length, get_or}
use Rattle.layout.specs.declared.VectorIndex.{VectorIndex}
use Rattle.layout.specs.Knowledge.{Rules, largest_tick, Element, Range, Knowledge, All, Distinct, Rising, keys, bounds, Lawful}
use Rattle.layout.proofs.Parts.{LawfulVector, parts}
use Rattle.ticks.specs.Meaning.{place, tick_at, vector_at, known, Sound, vector_of, vector_found, index_from}
use Rattle.ticks.specs.Operations.{largest}
use Rattle.ticks.proofs.Lists.{Among, less, same, more, order, among?, all_among, rising_above}
use Rattle.ticks.proofs.Vectors.{tick-nil, tick_same, tick_other, key_tick}
use Rattle.ticks.proofs.Numbering.{index-nil, index-lt, index-ge, found_some, found_none}
use Rattle.ticks.proofs.Written.{known_in, known_out}
use Rattle.ticks.proofs.Unique.{key_known, known_replica}
use Rattle.ticks.proofs.Largest.{largest_attained}
use Rattle.ticks.proofs.LawfulResults.{lawful_sound, lawful_ticks, lawful_id}

-- x is in the list
abbrev pub In : {A : Type 0} → A → List A → Type 0
In x [] = ⊥
In x (y ∷ ys) = (x ≡ y) ⊎ In x ys

in_bounds : (x : Range) (xs : List Range) → In x xs → Among x.bound (bounds xs)
unfolding bounds
in_bounds x [] m = m
in_bounds x (y ∷ ys) (inl e) = inl (ap (λ z. z.bound) e)
in_bounds x (y ∷ ys) (inr m) = inr (in_bounds x ys m)

-- x is the range with the greatest bound at or below i
pub record GreatestAtOrBelow (i : ℕ) (x : Range) (xs : List Range) : Type 0 where
  pub here : In x xs
  pub below : x.bound ≤ i
  pub greatest : (y : Range) → In y xs → y.bound ≤ i → y.bound ≤ x.bound

index_past : (found : Option VectorIndex) (xs : List Range) (i : ℕ) → ((y : Range) → In y xs → i < y.bound) → index_from found xs i ≡ found
index_past found [] i f = index-nil found i
index_past found (y ∷ ys) i f = index-lt found y ys i (f y (inl refl))

pub index_greatest : (found : Option VectorIndex) (lo : ℕ) (xs : List Range) (i : ℕ) (x : Range) → Rising lo (bounds xs) → GreatestAtOrBelow i x xs
    → index_from found xs i ≡ some x.index
unfolding bounds
index_greatest found lo [] i x r g = absurd g.here
index_greatest found lo (y ∷ ys) i x r g =
    ⊎_elim
    (λ e.
    let h : y.bound ≤ i = omega (arith, g.below, ap (λ z. z.bound) e) in
    index-ge found y ys i h
    ∙ index_past (some y.index) ys i (past e)
    ∙ ap (λ z. some z.index) (sym e))
    (λ m.
    let h : suc y.bound ≤ x.bound = rising_above (suc y.bound) x.bound (bounds ys) r.1 (in_bounds x ys m) in
    index-ge found y ys i (omega (arith, g.below))
    ∙ index_greatest (some y.index) (suc y.bound) ys i x r.1
    (record { here = m; below = g.below; greatest = λ z n. g.greatest z (inr n) }))
    g.here
  where
    beyond : x ≡ y → (z : Range) → In z ys → z.bound ≤ i → ⊥
    beyond e z m h =
        omega (arith, g.greatest z (inr m) h, rising_above (suc y.bound) z.bound (bounds ys) r.1 (in_bounds z ys m), ap (λ w. w.bound) e)

    past : x ≡ y → (z : Range) → In z ys → i < z.bound
    past e z m =
        elim (order i z.bound) [
          | less k ↦ k
          | same k ↦ absurd (beyond e z m (omega arith))
          | more k ↦ absurd (beyond e z m (omega arith))
        ]

pub vector_at-greatest : (k : Knowledge) (i : ℕ) (x : Range) → Sound k → GreatestAtOrBelow i x k.ranges → vector_at k i ≡ vector_of k x.index.0
unfolding vector_at
vector_at-greatest k i x s g =
    ap (vector_found k.vectors) (index_greatest none 0 k.ranges i x s.rising g) ∙ found_some k.vectors x.index

pub vector_at_missing : (k : Knowledge) (i : ℕ) → ((y : Range) → In y k.ranges → i < y.bound) → vector_at k i ≡ []
unfolding vector_at
vector_at_missing k i f = ap (vector_found k.vectors) (index_past none k.ranges i f) ∙ found_none k.vectors

-- where two starts have the same vector, so has what the search finds
found_start : (vs : List (List Element)) (x y : Option VectorIndex) (rs : List Range) (i : ℕ) → vector_found vs x ≡ vector_found vs y
    → vector_found vs (index_from x rs i) ≡ vector_found vs (index_from y rs i)
found_start vs x y [] i e = ap (vector_found vs) (index-nil x i) ∙ e ∙ ap (vector_found vs) (sym (index-nil y i))
found_start vs x y (r ∷ rs) i e =
    elim (order i r.bound) [
      | less h ↦ ap (vector_found vs) (index-lt x r rs i h) ∙ e ∙ ap (vector_found vs) (sym (index-lt y r rs i h))
      | same h ↦ ap (vector_found vs) (index-ge x r rs i (omega arith) ∙ sym (index-ge y r rs i (omega arith)))
      | more h ↦ ap (vector_found vs) (index-ge x r rs i (omega arith) ∙ sym (index-ge y r rs i (omega arith)))
    ]

-- where vector 0 is empty, a search that starts at index 0 finds the same vector as one that starts at none
pub vector_at-zero : (k : Knowledge) (i : ℕ) → vector_of k 0 ≡ [] → vector_found k.vectors (index_from (some (record { 0 = 0 })) k.ranges i) ≡ vector_at k i
unfolding vector_at
vector_at-zero k i e =
    found_start k.vectors (some (record { 0 = 0 })) none k.ranges i (found_some k.vectors (record { 0 = 0 }) ∙ e ∙ sym (found_none k.vectors))

in_keys : (e : Element) (es : List Element) → In e es → Among e.key.0 (keys es)
unfolding keys
in_keys e [] m = m
in_keys e (y ∷ ys) (inl q) = inl (ap (λ z. z.key.0) q)
in_keys e (y ∷ ys) (inr m) = inr (in_keys e ys m)

pub tick_element : (es : List Element) (e : Element) → Distinct (keys es) → In e es → tick_at es e.key.0 ≡ e.tick
unfolding keys
tick_element [] e d m = absurd m
tick_element (y ∷ ys) e d (inl q) = tick_same y ys e.key.0 (ap (λ z. z.key.0) (sym q)) ∙ ap (λ z. z.tick) (sym q)
tick_element (y ∷ ys) e d (inr m) =
    tick_other y ys e.key.0 (all_among (λ z. y.key.0 ≡ z → ⊥) (keys ys) d.0 e.key.0 (in_keys e ys m)) ∙ tick_element ys e d.1 m

lawful_distinct : (r : ℕ) (vs : List (List Element)) (n : ℕ) → All (LawfulVector r) vs → Distinct (keys (get_or vs n []))
unfolding keys
lawful_distinct r [] n a = tt
lawful_distinct r (es ∷ vs) zero a = a.0.distinct
lawful_distinct r (es ∷ vs) (suc n) a = lawful_distinct r vs n a.1

-- The rule

module _ (R : Rules) (k : Knowledge) (l : Lawful R k) where
  -- "take the range with the greatest bound at or below i, its vector, p's element there"
  pub known_element : (i : ℕ) (x : Range) (e : Element) → GreatestAtOrBelow i x k.ranges → In e (get_or k.vectors x.index.0 [])
      → e.key.0 < length k.replicas → known k i (get_or k.replicas e.key.0 0) ≡ e.tick
  known_element i x e g m h =
      key_known k i e.key.0 (lawful_sound R k l) h
      ∙ ap (λ v. tick_at v e.key.0) (vector_at-greatest k i x (lawful_sound R k l) g)
      ∙ tick_element (get_or k.vectors x.index.0 []) e (lawful_distinct (length k.replicas) k.vectors x.index.0 (parts R k l).clocks) m

  -- "0 if any is missing": the range
  pub known_no_range : (i p : ℕ) → ((y : Range) → In y k.ranges → i < y.bound) → known k i p ≡ 0
  known_no_range i p f =
      elim (among? p k.replicas) [
        | inl m ↦ known_in k i p m ∙ ap (λ v. tick_at v (place p k.replicas)) (vector_at_missing k i f) ∙ tick-nil (place p k.replicas)
        | inr n ↦ known_out k i p n
      ]

  -- the replica
  pub known_no_replica : (i p : ℕ) → (Among p k.replicas → ⊥) → known k i p ≡ 0
  known_no_replica i p n = known_out k i p n

  -- the element
  pub known_no_element : (i key : ℕ) (x : Range) → GreatestAtOrBelow i x k.ranges → key < length k.replicas
      → (Among key (keys (get_or k.vectors x.index.0 [])) → ⊥) → known k i (get_or k.replicas key 0) ≡ 0
  known_no_element i key x g h n =
      key_known k i key (lawful_sound R k l) h ∙ ap (λ v. tick_at v key) (vector_at-greatest k i x (lawful_sound R k l) g)
      ∙ (elim (order (tick_at (get_or k.vectors x.index.0 []) key) 0) [
        | less q ↦ absurd (omega arith)
        | same q ↦ q
        | more q ↦ absurd (n (key_tick (get_or k.vectors x.index.0 []) key q))
      ])

  -- a replica with a tick is a replica id of 16 bytes
  pub known_id : (i p : ℕ) → 1 ≤ known k i p → p < 256 ^ 16
  known_id i p h = (lawful_id R k p l (known_replica k i p h)).size

  -- the largest tick is no more than a tick may be
  pub lawful_largest : largest k ≤ largest_tick
  lawful_largest =
      ⊎_elim (λ z. omega arith) (λ w. omega (arith, w.1.1.1, lawful_ticks R k w.0 w.1.0 l)) (largest_attained k (lawful_sound R k l))

-- How many replicas and ranges a result has. Where the conditions of normal form hold and each replica of the map is used, the
-- map is the replicas with a tick somewhere; the bounds are 0 and the items at which ticks change, whatever the map's order. So
-- normalise and project never give 11, and raise never 12 where those conditions hold.
use Prim.Native.Nat.{ℕ, zero, suc, ◌+◌, ◌≤◌}
use mathlib.Core.Path.{◌≡◌, refl, sym, ◌∙◌, ap, subst}
use mathlib.Core.Logic.{inl, inr, ⊎_elim, ◌↔◌}
use mathlib.Core.Bool.{true, false}
use mathlib.Core.List.{List, [], ◌∷◌, ◌++◌}
use native.Mathlib.Omega.{arith}
use lib.Dec.{eqb}
use lib.ListN.{length, get_or, length-append}
use borrow.Author.Tests.{eq-eqb, ne_eqb, le-ltb, ltb-false}
use Rattle.layout.specs.Knowledge.{Limits, Element, Range, Knowledge, Distinct, bounds}
use Rattle.ticks.specs.Meaning.{highest, tick_at, vector_at, known, Formed, EachUsed}
use Rattle.ticks.specs.Table.{at}
use Rattle.ticks.specs.Operations.{normalise, merge, project, raise, too_many_replicas, too_many_ranges}
use Rattle.ticks.proofs.Lists.{Among, less, same, more, order, among?, all_among, among_left, among_right, rising_distinct, rising_above, side_in, side_below, side_above, span_side}
use Rattle.ticks.proofs.Equality.{eqb_exact, exact?}
use Rattle.ticks.proofs.Steps.{step_bounds, Changing, at_lt, at-ge, at_here}
use Rattle.ticks.proofs.Vectors.{vector_unique, tick_none}
use Rattle.ticks.proofs.Written.{changing_rising}
use Rattle.ticks.proofs.Unique.{key_known, vector_at_in_order, vector_at-keys, replica_known, known_replica}
use Rattle.ticks.proofs.Rebuilt.{own_steps, own-vector_at, FromZero, formed_from-zero}
use Rattle.ticks.proofs.Operations.{known_steady, known_normalise, normal_normalise, known_merge, normal_merge, known_project}
use Rattle.ticks.proofs.Operations.{project_steady, known_project_inside, known_project_below, known_project_above, normal_project}
use Rattle.ticks.proofs.Operations.{known_raise_own, known_raise_other, normal_raise}

-- Counting

without : ℕ → List ℕ → List ℕ
without x [] = []
without x (y ∷ ys) = elim (eqb y x) [ true ↦ ys | false ↦ y ∷ without x ys ]

without_same : (x y : ℕ) (ys : List ℕ) → y ≡ x → without x (y ∷ ys) ≡ ys
unfolding without
without_same x y ys e = rw (eq-eqb y x e, without)

without_other : (x y : ℕ) (ys : List ℕ) → (y ≡ x → ⊥) → without x (y ∷ ys) ≡ y ∷ without x ys
unfolding without
without_other x y ys n = rw (ne_eqb y x n, without)

without_length : (x : ℕ) (ys : List ℕ) → Among x ys → length ys ≡ suc (length (without x ys))
without_length x [] m = absurd m
without_length x (y ∷ ys) m =
    elim (exact? eqb eqb_exact y x) [
      | inl e ↦ omega (arith, ap length (without_same x y ys e))
      | inr n ↦
          ⊎_elim (λ e. absurd (n (sym e))) (λ o. omega (arith, ap length (without_other x y ys n), without_length x ys o)) m
    ]

without_keeps : (x z : ℕ) (ys : List ℕ) → (z ≡ x → ⊥) → Among z ys → Among z (without x ys)
without_keeps x z [] n m = absurd m
without_keeps x z (y ∷ ys) n m =
    elim (exact? eqb eqb_exact y x) [
      | inl e ↦ rw (without_same x y ys e) (⊎_elim (λ q. absurd (n (q ∙ e))) (λ o. o) m)
      | inr f ↦ rw (without_other x y ys f) (⊎_elim (λ q. inl q) (λ o. inr (without_keeps x z ys n o)) m)
    ]

-- distinct numbers that are all in a list are no more than it has
pub distinct_count : (xs ys : List ℕ) → Distinct xs → ((x : ℕ) → Among x xs → Among x ys) → length xs ≤ length ys
distinct_count [] ys d f = omega arith
distinct_count (x ∷ xs) ys d f =
    omega (
      arith,
      without_length x ys (f x (inl refl)),
      distinct_count xs (without x ys) d.1
          (λ z m. without_keeps x z ys (λ e. all_among (λ y. x ≡ y → ⊥) xs d.0 z m (sym e)) (f z (inr m))),
    )

-- The map, each replica used

pub replicas_are : (k : Knowledge) (p : ℕ) → Formed k → EachUsed k → Among p k.replicas ↔ ((i : ℕ) × ((i ≤ highest) × (1 ≤ known k i p)))
replicas_are k p o each = (replica_known k p o each, λ w. known_replica k w.0 p w.1.1)

fewer_replicas : (k : Knowledge) (ids : List ℕ) → Formed k → EachUsed k → ((i p : ℕ) → i ≤ highest → 1 ≤ known k i p → Among p ids) → length k.replicas ≤ length ids
fewer_replicas k ids o each f =
    distinct_count k.replicas ids o.sound.distinct (λ p m. let w = replica_known k p o each m in f w.0 p w.1.0 w.1.1)

-- a replica of a result is one of an input
pub normalise-map : (k : Knowledge) (i p : ℕ) → i ≤ highest → 1 ≤ known (normalise k) i p → Among p k.replicas
normalise-map k i p h l = known_replica k i p (omega (arith, known_normalise k i p h))

pub merge-map : (a b : Knowledge) (i p : ℕ) → i ≤ highest → 1 ≤ known (merge a b) i p → Among p (a.replicas ++ b.replicas)
merge-map a b i p h l =
    elim (order (known a i p) 0) [
      | less k ↦ absurd (omega arith)
      | same k ↦ among_right p a.replicas b.replicas (known_replica b i p (omega (arith, known_merge a b i p h)))
      | more k ↦ among_left p a.replicas b.replicas (known_replica a i p k)
    ]

pub project-map : (first last : ℕ) (k : Knowledge) (i p : ℕ) → i ≤ highest → 1 ≤ known (project first last k) i p → Among p k.replicas
project-map first last k i p h l =
    elim (span_side first last i) [
      | side_in m n ↦ known_replica k i p (omega (arith, known_project_inside first last k i p h m n))
      | side_below m ↦ absurd (omega (arith, known_project_below first last k i p h m))
      | side_above m ↦ absurd (omega (arith, known_project_above first last k i p h m))
    ]

pub raise-map : (q t : ℕ) (k : Knowledge) (i p : ℕ) → i ≤ highest → 1 ≤ known (raise q t k) i p → Among p (q ∷ k.replicas)
raise-map q t k i p h l =
    elim (exact? eqb eqb_exact p q) [
      | inl e ↦ inl e
      | inr n ↦ inr (known_replica k i p (omega (arith, known_raise_other q t k i p h n)))
    ]

pub normalise_replicas : (k : Knowledge) → length (normalise k).replicas ≤ length k.replicas
normalise_replicas k = fewer_replicas (normalise k) k.replicas (normal_normalise k).formed (normal_normalise k).used (normalise-map k)

pub merge_replicas : (a b : Knowledge) → length (merge a b).replicas ≤ length a.replicas + length b.replicas
merge_replicas a b =
    omega (arith, fewer_replicas (merge a b) (a.replicas ++ b.replicas) (normal_merge a b).formed (normal_merge a b).used (merge-map a b), length-append a.replicas b.replicas)

pub project_replicas : (first last : ℕ) (k : Knowledge) → length (project first last k).replicas ≤ length k.replicas
project_replicas first last k = fewer_replicas (project first last k) k.replicas (normal_project first last k).formed (normal_project first last k).used (project-map first last k)

pub raise_replicas : (q t : ℕ) (k : Knowledge) → length (raise q t k).replicas ≤ suc (length k.replicas)
raise_replicas q t k = fewer_replicas (raise q t k) (q ∷ k.replicas) (normal_raise q t k).formed (normal_raise q t k).used (raise-map q t k)

-- 11 and 12 as facts
pub replicas_fit : (L : Limits) (k : Knowledge) → (too_many_replicas L k ≡ false) ↔ (length k.replicas ≤ L.replicas)
unfolding too_many_replicas
replicas_fit L k = (ltb-false L.replicas (length k.replicas), le-ltb L.replicas (length k.replicas))

pub ranges_fit : (L : Limits) (k : Knowledge) → (too_many_ranges L k ≡ false) ↔ (length k.ranges ≤ L.ranges)
unfolding too_many_ranges
ranges_fit L k = (ltb-false L.ranges (length k.ranges), le-ltb L.ranges (length k.ranges))

-- normalise and project never give 11
pub normalise_never_11 : (L : Limits) (k : Knowledge) → length k.replicas ≤ L.replicas → too_many_replicas L (normalise k) ≡ false
normalise_never_11 L k h = (replicas_fit L (normalise k)).1 (omega (arith, normalise_replicas k))

pub project_never_11 : (L : Limits) (first last : ℕ) (k : Knowledge) → length k.replicas ≤ L.replicas → too_many_replicas L (project first last k) ≡ false
project_never_11 L first last k h = (replicas_fit L (project first last k)).1 (omega (arith, project_replicas first last k))

-- The bounds

changing_at : {A : Type 0} (hi lo : ℕ) (v : A) (s : List (ℕ × A)) (i : ℕ) → Changing hi lo v s → Among (suc i) (step_bounds s) → at v s (suc i) ≡ at v s i → ⊥
unfolding step_bounds
changing_at hi lo v [] i c m e = m
changing_at hi lo v (x ∷ s) i c (inl q) e =
    c.1.1.0 (sym (at_here hi lo v x s c) ∙ ap (λ n. at v (x ∷ s) n) (sym q) ∙ e ∙ at_lt v x s i (omega arith))
changing_at hi lo v (x ∷ s) i c (inr m) e =
    let h : suc x.0 ≤ suc i = rising_above (suc x.0) (suc i) (step_bounds s) (changing_rising hi (suc x.0) x.1 s c.1.1.1) m in
    changing_at hi (suc x.0) x.1 s i c.1.1.1 m (sym (at-ge v x s (suc i) (omega arith)) ∙ e ∙ at-ge v x s i (omega arith))

own_bounds : (vs : List (List Element)) (xs : List Range) → bounds xs ≡ step_bounds (own_steps vs xs)
unfolding bounds step_bounds own_steps
own_bounds vs [] = refl
own_bounds vs (x ∷ xs) = ap (λ bs. x.bound ∷ bs) (own_bounds vs xs)

-- at two items with the same ticks stands the same vector
pub vector_same : (k : Knowledge) (i j : ℕ) → Formed k → ((p : ℕ) → known k i p ≡ known k j p) → vector_at k i ≡ vector_at k j
vector_same k i j o f =
    vector_unique (vector_at k i) (vector_at k j) (vector_at_in_order k i o) (vector_at_in_order k j o)
    (λ key.
    elim (order key (length k.replicas)) [
      | less h ↦ sym (key_known k i key o.sound h) ∙ f (get_or k.replicas key 0) ∙ key_known k j key o.sound h
      | same h ↦ none key (omega arith)
      | more h ↦ none key (omega arith)
    ])
  where
    none : (key : ℕ) → length k.replicas ≤ key → tick_at (vector_at k i) key ≡ tick_at (vector_at k j) key
    none key h =
        tick_none (length k.replicas) (vector_at k i) key (vector_at-keys k i o.sound) h
        ∙ sym (tick_none (length k.replicas) (vector_at k j) key (vector_at-keys k j o.sound) h)

-- at each bound above 0 some tick changes
pub bound_changes : (k : Knowledge) (i : ℕ) → Formed k → Among (suc i) (bounds k.ranges) → ((p : ℕ) → known k (suc i) p ≡ known k i p) → ⊥
unfolding step_bounds
bound_changes k i form m f =
    ⊎_elim (λ e. omega arith)
    (λ o.
    changing_at highest 1 z.value z.rest i z.changing o
    (sym (here (suc i)) ∙ vector_same k (suc i) i form f ∙ here i))
    among
  where
    z : FromZero (own_steps k.vectors k.ranges)
    z = formed_from-zero k form

    here : (j : ℕ) → vector_at k j ≡ at z.value z.rest j
    here j = sym (own-vector_at k j) ∙ ap (λ s. at [] s j) z.is ∙ at-ge [] (0, z.value) z.rest j (omega arith)

    among : Among (suc i) (step_bounds ((0, z.value) ∷ z.rest))
    among = subst (λ s. Among (suc i) (step_bounds s)) z.is (subst (Among (suc i)) (own_bounds k.vectors k.ranges) m)

-- the bounds are 0 and the items at which some tick changes
pub bounds_are : (k : Knowledge) (i : ℕ) → Formed k → Among (suc i) (bounds k.ranges) ↔ (((p : ℕ) → known k (suc i) p ≡ known k i p) → ⊥)
bounds_are k i form = (
  bound_changes k i form,
  (λ h. ⊎_elim (λ m. m) (λ o. absurd (h (λ p. known_steady k i p o))) (among? (suc i) (bounds k.ranges))),
)

first_bound_lem : (xs : List Range) → get_or (bounds xs) 0 1 ≡ 0 → Among 0 (bounds xs)
unfolding bounds
first_bound_lem [] z = omega arith
first_bound_lem (x ∷ xs) z = inl (sym z)

pub zero-bound : (k : Knowledge) → Formed k → Among 0 (bounds k.ranges)
zero-bound k form = first_bound_lem k.ranges form.first_range

pub bounds-length : (xs : List Range) → length (bounds xs) ≡ length xs
unfolding bounds
bounds-length [] = refl
bounds-length (x ∷ xs) = ap suc (bounds-length xs)

-- ticks that change at members of a list only have no more ranges than it has members, with 0
fewer_ranges : (k : Knowledge) (bs : List ℕ) → Formed k → Among 0 bs
    → ((i : ℕ) → suc i ≤ highest → (Among (suc i) bs → ⊥) → (p : ℕ) → known k (suc i) p ≡ known k i p) → length k.ranges ≤ length bs
fewer_ranges k bs form z f =
    omega (
      arith,
      bounds-length k.ranges,
      distinct_count (bounds k.ranges) bs (rising_distinct 0 (bounds k.ranges) form.sound.rising) inside,
    )
  where
    inside : (b : ℕ) → Among b (bounds k.ranges) → Among b bs
    inside zero m = z
    inside (suc i) m =
        ⊎_elim (λ o. o)
        (λ o. absurd (bound_changes k i form m (f i (all_among (λ b. b ≤ highest) (bounds k.ranges) form.sound.items (suc i) m) o)))
        (among? (suc i) bs)

pub normalise_ranges : (k : Knowledge) → length (normalise k).ranges ≤ suc (length k.ranges)
normalise_ranges k =
    omega (
      arith,
      bounds-length k.ranges,
      fewer_ranges (normalise k) (0 ∷ bounds k.ranges) (normal_normalise k).formed (inl refl)
          (λ i h n p. known_normalise k (suc i) p h ∙ known_steady k i p (λ m. n (inr m)) ∙ sym (known_normalise k i p (omega arith))),
    )

pub merge_ranges : (a b : Knowledge) → length (merge a b).ranges ≤ suc (length a.ranges + length b.ranges)
merge_ranges a b =
    omega (
      arith,
      bounds-length a.ranges,
      bounds-length b.ranges,
      length-append (bounds a.ranges) (bounds b.ranges),
      fewer_ranges (merge a b) (0 ∷ bounds a.ranges ++ bounds b.ranges) (normal_merge a b).formed (inl refl)
          (λ i h n p.
          omega (
            arith,
            known_merge a b (suc i) p h,
            known_merge a b i p (omega arith),
            known_steady a i p (λ m. n (inr (among_left (suc i) (bounds a.ranges) (bounds b.ranges) m))),
            known_steady b i p (λ m. n (inr (among_right (suc i) (bounds a.ranges) (bounds b.ranges) m))),
          )),
    )

-- two more at most: at the first item of the span, and after the last
pub project_ranges : (first last : ℕ) (k : Knowledge) → length (project first last k).ranges ≤ 3 + length k.ranges
project_ranges first last k =
    omega (
      arith,
      bounds-length k.ranges,
      fewer_ranges (project first last k) (0 ∷ first ∷ suc last ∷ bounds k.ranges) (normal_project first last k).formed (inl refl)
          (λ i h n p.
          known_project first last k (suc i) p h
          ∙ project_steady first last k i h (λ m. n (inr m)) p
          ∙ sym (known_project first last k i p (omega arith))),
    )

raised_steady : (q t : ℕ) (k : Knowledge) (i p : ℕ) → suc i ≤ highest → (Among (suc i) (bounds k.ranges) → ⊥) → known (raise q t k) (suc i) p ≡ known (raise q t k) i p
raised_steady q t k i p h n =
    elim (exact? eqb eqb_exact p q) [
      | inl e ↦ known_raise_own q t k (suc i) p h e ∙ sym (known_raise_own q t k i p (omega arith) e)
      | inr e ↦ known_raise_other q t k (suc i) p h e ∙ known_steady k i p n ∙ sym (known_raise_other q t k i p (omega arith) e)
    ]

-- raising a tick everywhere gives no range more
pub raise_ranges : (q t : ℕ) (k : Knowledge) → Formed k → length (raise q t k).ranges ≤ length k.ranges
raise_ranges q t k form =
    omega (
      arith,
      bounds-length k.ranges,
      fewer_ranges (raise q t k) (bounds k.ranges) (normal_raise q t k).formed (zero-bound k form) (λ i h o p. raised_steady q t k i p h o),
    )

pub raise_never_12 : (L : Limits) (q t : ℕ) (k : Knowledge) → Formed k → length k.ranges ≤ L.ranges → too_many_ranges L (raise q t k) ≡ false
raise_never_12 L q t k form h = (ranges_fit L (raise q t k)).1 (omega (arith, raise_ranges q t k form))

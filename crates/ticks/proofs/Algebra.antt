-- What follows from ticks alone: containment, normal forms known by the versions they contain, and the algebra of merge
-- and project.
use Prim.Native.Nat.{ℕ, ◌^◌, ◌≤◌, ◌<◌, max}
use mathlib.Core.Path.{◌≡◌, sym, ◌∙◌, ap}
use mathlib.Core.Logic.{◌⊎◌, inl, inr, ⊎_elim, ◌↔◌}
use mathlib.Core.Bool.{true, false}
use native.Mathlib.Omega.{arith}
use lib.Dec.{leb}
use borrow.Author.Tests.{le-leb, lt-leb}
use Rattle.layout.specs.Knowledge.{Knowledge, All}
use Rattle.ticks.specs.Meaning.{highest, known, contains, Normal, empty_knowledge}
use Rattle.ticks.specs.Operations.{normalise, merge, project}
use Rattle.ticks.specs.Demand2.{SameVersions}
use Rattle.ticks.proofs.Lists.{all_among, less, same, more, order, side_in, side_below, side_above, span_side}
use Rattle.ticks.proofs.Equality.{clash}
use Rattle.ticks.proofs.Unique.{known_replica, SameTicks, normal_unique}
use Rattle.ticks.proofs.Operations.{known_normalise, normal_normalise, normalise_normal, known_merge, normal_merge}
use Rattle.ticks.proofs.Operations.{known_project_inside, known_project_below, known_project_above, normal_project, known_empty}

-- Containment

pub contains_yes : (k : Knowledge) (i p t : ℕ) → 1 ≤ t → t ≤ known k i p → contains k i p t ≡ true
unfolding contains
contains_yes k i p t h l = rw (le-leb 1 t h, contains) (le-leb t (known k i p) l)

pub contains_none : (k : Knowledge) (i p t : ℕ) → t ≡ 0 → contains k i p t ≡ false
unfolding contains
contains_none k i p t h = rw (lt-leb 1 t (omega arith), contains)

pub contains_more : (k : Knowledge) (i p t : ℕ) → known k i p < t → contains k i p t ≡ false
unfolding contains
contains_more k i p t h = rw (le-leb 1 t (omega arith), contains) (lt-leb t (known k i p) h)

-- a version is contained when its tick is 1 or more and at most the known tick
pub contains_exact : (k : Knowledge) (i p t : ℕ) → (contains k i p t ≡ true) ↔ ((1 ≤ t) × (t ≤ known k i p))
contains_exact k i p t = (there, λ h. contains_yes k i p t h.0 h.1)
  where
    there : contains k i p t ≡ true → (1 ≤ t) × (t ≤ known k i p)
    there e =
        elim (order t 0) [
          | less h ↦ absurd (omega arith)
          | same h ↦ clash (contains k i p t) e (contains_none k i p t h)
          | more h ↦
              elim (order (known k i p) t) [
                | less l ↦ clash (contains k i p t) e (contains_more k i p t l)
                | same l ↦ (h, omega arith)
                | more l ↦ (h, omega arith)
              ]
        ]

-- the replica ids of a map are of 16 bytes each
abbrev pub IdsOf16 : Knowledge → Type 0
IdsOf16 k = All (λ id. id < 256 ^ 16) k.replicas

-- then another number has no tick: only for these ids need two knowledges be compared
pub ticks_of_16 : (a b : Knowledge) → IdsOf16 a → IdsOf16 b → ((i p : ℕ) → i ≤ highest → p < 256 ^ 16 → known a i p ≡ known b i p) → SameTicks a b
ticks_of_16 a b x y f = record {
  known = λ i p h.
      elim (order (known a i p) 0) [
        | less k ↦ absurd (omega arith)
        | same k ↦
            elim (order (known b i p) 0) [
              | less l ↦ absurd (omega arith)
              | same l ↦ k ∙ sym l
              | more l ↦ f i p h (all_among (λ id. id < 256 ^ 16) b.replicas y p (known_replica b i p l))
            ]
        | more k ↦ f i p h (all_among (λ id. id < 256 ^ 16) a.replicas x p (known_replica a i p k))
      ];
}

at_most : (a b : Knowledge) (i p : ℕ) → ((t : ℕ) → contains a i p t ≡ contains b i p t) → known a i p ≤ known b i p
at_most a b i p f =
    elim (order (known a i p) 0) [
      | less h ↦ absurd (omega arith)
      | same h ↦ omega arith
      | more h ↦ ((contains_exact b i p (known a i p)).0 (sym (f (known a i p)) ∙ contains_yes a i p (known a i p) h (omega arith))).1
    ]

pub versions_ticks : (a b : Knowledge) → IdsOf16 a → IdsOf16 b → SameVersions a b → SameTicks a b
versions_ticks a b x y s =
    ticks_of_16 a b x y
    (λ i p h small. omega (arith, at_most a b i p (λ t. s.both i p t h small), at_most b a i p (λ t. sym (s.both i p t h small))))

pub ticks_versions : (a b : Knowledge) → SameTicks a b → SameVersions a b
unfolding contains
ticks_versions a b s = record { both = λ i p t h small. ap (λ n. elim (leb 1 t) [ true ↦ leb t n | false ↦ false ]) (s.known i p h) }

-- normal forms that contain the same versions are equal
pub versions_unique : (a b : Knowledge) → IdsOf16 a → IdsOf16 b → Normal a → Normal b → SameVersions a b ↔ (a ≡ b)
versions_unique a b x y n m = (
  (λ s. normal_unique a b n m (versions_ticks a b x y s).known),
  (λ e. record { both = λ i p t h small. ap (λ k. contains k i p t) e }),
)

-- normalising keeps the versions
pub contains_normalise : (k : Knowledge) → SameVersions (normalise k) k
contains_normalise k = ticks_versions (normalise k) k (record { known = λ i p h. known_normalise k i p h })

-- Merge

-- a version is contained in the merged knowledge exactly when either contained it
pub contains_merge : (a b : Knowledge) (i p t : ℕ) → i ≤ highest
    → (contains (merge a b) i p t ≡ true) ↔ ((contains a i p t ≡ true) ⊎ (contains b i p t ≡ true))
contains_merge a b i p t h = (there, ⊎_elim left right)
  where
    there : contains (merge a b) i p t ≡ true → (contains a i p t ≡ true) ⊎ (contains b i p t ≡ true)
    there e =
        let w = (contains_exact (merge a b) i p t).0 e in
        let q : known (merge a b) i p ≡ max (known a i p) (known b i p) = known_merge a b i p h in
        elim (order (known a i p) t) [
          | less l ↦ inr (contains_yes b i p t w.0 (omega (arith, w.1)))
          | same l ↦ inl (contains_yes a i p t w.0 (omega arith))
          | more l ↦ inl (contains_yes a i p t w.0 (omega arith))
        ]

    left : contains a i p t ≡ true → contains (merge a b) i p t ≡ true
    left e = let w = (contains_exact a i p t).0 e in contains_yes (merge a b) i p t w.0 (omega (arith, w.1, known_merge a b i p h))

    right : contains b i p t ≡ true → contains (merge a b) i p t ≡ true
    right e = let w = (contains_exact b i p t).0 e in contains_yes (merge a b) i p t w.0 (omega (arith, w.1, known_merge a b i p h))

pub merge_comm : (a b : Knowledge) → merge a b ≡ merge b a
merge_comm a b =
    normal_unique (merge a b) (merge b a) (normal_merge a b) (normal_merge b a)
    (λ i p h. omega (arith, known_merge a b i p h, known_merge b a i p h))

pub merge_assoc : (a b c : Knowledge) → merge (merge a b) c ≡ merge a (merge b c)
merge_assoc a b c =
    normal_unique (merge (merge a b) c) (merge a (merge b c)) (normal_merge (merge a b) c) (normal_merge a (merge b c))
    (λ i p h. omega (arith, known_merge (merge a b) c i p h, known_merge a b i p h, known_merge a (merge b c) i p h, known_merge b c i p h))

pub merge_self : (k : Knowledge) → merge k k ≡ normalise k
merge_self k =
    normal_unique (merge k k) (normalise k) (normal_merge k k) (normal_normalise k)
    (λ i p h. omega (arith, known_merge k k i p h, known_normalise k i p h))

pub merge_idempotent : (k : Knowledge) → Normal k → merge k k ≡ k
merge_idempotent k n = merge_self k ∙ normalise_normal k n

-- what a normal form knows already changes nothing
pub merge_covered : (a b : Knowledge) → Normal a → ((i p : ℕ) → i ≤ highest → known b i p ≤ known a i p) → merge a b ≡ a
merge_covered a b n f =
    normal_unique (merge a b) a (normal_merge a b) n (λ i p h. omega (arith, known_merge a b i p h, f i p h))

pub merge_empty : (k : Knowledge) → merge k empty_knowledge ≡ normalise k
merge_empty k =
    normal_unique (merge k empty_knowledge) (normalise k) (normal_merge k empty_knowledge) (normal_normalise k)
    (λ i p h. omega (arith, known_merge k empty_knowledge i p h, known_normalise k i p h, known_empty i p))

-- merging again what is merged changes nothing
pub merge_again : (a b : Knowledge) → merge (merge a b) b ≡ merge a b
merge_again a b =
    normal_unique (merge (merge a b) b) (merge a b) (normal_merge (merge a b) b) (normal_merge a b)
    (λ i p h. omega (arith, known_merge (merge a b) b i p h, known_merge a b i p h))

-- merging in either order
pub merge_swap : (a b c : Knowledge) → merge (merge a b) c ≡ merge (merge a c) b
merge_swap a b c =
    normal_unique (merge (merge a b) c) (merge (merge a c) b) (normal_merge (merge a b) c) (normal_merge (merge a c) b)
    (λ i p h. omega (arith, known_merge (merge a b) c i p h, known_merge a b i p h, known_merge (merge a c) b i p h, known_merge a c i p h))

-- Project

pub project_again : (first last : ℕ) (k : Knowledge) → project first last (project first last k) ≡ project first last k
project_again first last k =
    normal_unique (project first last (project first last k)) (project first last k) (normal_project first last (project first last k)) (normal_project first last k)
    (λ i p h.
    elim (span_side first last i) [
      | side_in l m ↦ known_project_inside first last (project first last k) i p h l m
      | side_below l ↦ known_project_below first last (project first last k) i p h l ∙ sym (known_project_below first last k i p h l)
      | side_above l ↦ known_project_above first last (project first last k) i p h l ∙ sym (known_project_above first last k i p h l)
    ])

-- a knowledge in normal form is unchanged by projecting exactly when it knows nothing outside the span
pub project_same : (first last : ℕ) (k : Knowledge) → Normal k
    → ((i p : ℕ) → i ≤ highest → (i < first) ⊎ (last < i) → known k i p ≡ 0) → project first last k ≡ k
project_same first last k n f =
    normal_unique (project first last k) k (normal_project first last k) n
    (λ i p h.
    elim (span_side first last i) [
      | side_in l m ↦ known_project_inside first last k i p h l m
      | side_below l ↦ known_project_below first last k i p h l ∙ sym (f i p h (inl l))
      | side_above l ↦ known_project_above first last k i p h l ∙ sym (f i p h (inr l))
    ])

pub project_outside : (first last : ℕ) (k : Knowledge) (i p : ℕ) → project first last k ≡ k → i ≤ highest → (i < first) ⊎ (last < i) → known k i p ≡ 0
project_outside first last k i p e h o =
    ap (λ l. known l i p) (sym e) ∙ ⊎_elim (known_project_below first last k i p h) (known_project_above first last k i p h) o

-- Operations look at ticks only

pub same_normalise : (a b : Knowledge) → SameTicks a b → normalise a ≡ normalise b
same_normalise a b s =
    normal_unique (normalise a) (normalise b) (normal_normalise a) (normal_normalise b)
    (λ i p h. known_normalise a i p h ∙ s.known i p h ∙ sym (known_normalise b i p h))

pub same_merge : (a b c d : Knowledge) → SameTicks a b → SameTicks c d → merge a c ≡ merge b d
same_merge a b c d s t =
    normal_unique (merge a c) (merge b d) (normal_merge a c) (normal_merge b d)
    (λ i p h. omega (arith, known_merge a c i p h, known_merge b d i p h, s.known i p h, t.known i p h))

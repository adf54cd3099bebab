-- The known ticks of each operation's result, and that the result is in normal form. An operation owes only that its
-- ticks change at its candidate items and are 0 at other ids.
use Prim.Native.Nat.{ℕ, suc, ◌≤◌, ◌<◌, max}
use mathlib.Core.Path.{◌≡◌, refl, sym, ◌∙◌, ap, ap₂, subst}
use mathlib.Core.Logic.{◌⊎◌, inl, inr, ⊎_elim, ◌↔◌}
use mathlib.Core.Bool.{true}
use mathlib.Core.Option.{Option, none, some}
use mathlib.Core.List.{List, [], ◌∷◌, ◌++◌}
use native.Mathlib.Omega.{arith, none}
use lib.Dec.{eqb}
use borrow.Author.Tests.{eq-eqb, ne_eqb}
use Rattle.layout.specs.declared.VectorIndex.{VectorIndex}
use Rattle.layout.specs.Knowledge.{Range, Knowledge, bounds}
use Rattle.ticks.specs.Meaning.{highest, place_by, tick_at, vector_at, known, Normal, empty_knowledge, vector_found, index_from}
use Rattle.ticks.specs.Table.{get, eq_list, eq_pair, insert, sorted, in_span, within, sample, build, canonical, row_ids, step_ids, used_ids}
use Rattle.ticks.specs.Written.{vector_from, vector_steps_from, vector_steps, eq_element, grown, vectors_of, ranges_of, indexed, knowledge_of, normal_of, eq_knowledge, is_normal}
use Rattle.ticks.specs.Operations.{normalise, larger, merge, known_inside, project, known_raised, raise}
use Rattle.ticks.proofs.Lists.{Among, less, same, more, order, among?, among_left, among_right, in_span_lem, span_below, span_above, side_in, side_below, side_above, span_side}
use Rattle.ticks.proofs.Equality.{eqb_exact, exact?, eq_knowledge-sound, eq_knowledge_self}
use Rattle.ticks.proofs.Canonical.{SteadyTicks}
use Rattle.ticks.proofs.Numbering.{index-nil, index-lt, index-ge}
use Rattle.ticks.proofs.Written.{known_in, known_out}
use Rattle.ticks.proofs.Used.{normal-normal_of, known-normal_of}
use Rattle.ticks.proofs.Unique.{normal_unique}

-- Known ticks change at bounds only

index_steady : (found : Option VectorIndex) (xs : List Range) (i : ℕ) → (Among (suc i) (bounds xs) → ⊥) → index_from found xs (suc i) ≡ index_from found xs i
unfolding bounds
index_steady found [] i n = index-nil found (suc i) ∙ sym (index-nil found i)
index_steady found (x ∷ xs) i n =
    elim (order (suc i) x.bound) [
      | less k ↦ index-lt found x xs (suc i) k ∙ sym (index-lt found x xs i (omega arith))
      | same k ↦ absurd (n (inl k))
      | more k ↦
          index-ge found x xs (suc i) (omega arith) ∙ index_steady (some x.index) xs i (λ m. n (inr m))
          ∙ sym (index-ge found x xs i (omega arith))
    ]

vector_at-steady : (k : Knowledge) (i : ℕ) → (Among (suc i) (bounds k.ranges) → ⊥) → vector_at k (suc i) ≡ vector_at k i
unfolding vector_at
vector_at-steady k i n = ap (vector_found k.vectors) (index_steady none k.ranges i n)

pub known_steady : (k : Knowledge) (i p : ℕ) → (Among (suc i) (bounds k.ranges) → ⊥) → known k (suc i) p ≡ known k i p
known_steady k i p n =
    elim (among? p k.replicas) [
      | inl m ↦ known_in k (suc i) p m ∙ ap (λ v. tick_at v (place_by eqb p k.replicas)) (vector_at-steady k i n) ∙ sym (known_in k i p m)
      | inr m ↦ known_out k (suc i) p m ∙ sym (known_out k i p m)
    ]

-- a replica is in the map or has no tick
pub in_map : (k : Knowledge) (i p : ℕ) → Among p k.replicas ⊎ (known k i p ≡ 0)
in_map k i p = elim (among? p k.replicas) [ inl m ↦ inl m | inr n ↦ inr (known_out k i p n) ]

-- Normalise

pub known_normalise : (k : Knowledge) (i p : ℕ) → i ≤ highest → known (normalise k) i p ≡ known k i p
unfolding normalise
known_normalise k i p h =
    known-normal_of (bounds k.ranges) k.replicas (known k) (λ j l n q. known_steady k j q n) i p h (in_map k i p)

pub normal_normalise : (k : Knowledge) → Normal (normalise k)
unfolding normalise
normal_normalise k = normal-normal_of (bounds k.ranges) k.replicas (known k)

-- a knowledge in normal form is what is written for its own ticks
pub normalise_normal : (k : Knowledge) → Normal k → normalise k ≡ k
normalise_normal k n = normal_unique (normalise k) k (normal_normalise k) n (λ i p h. known_normalise k i p h)

-- the test of normal form is the list of conditions
pub normal_test : (k : Knowledge) → (is_normal k ≡ true) ↔ Normal k
unfolding is_normal normalise
normal_test k = (
  (λ e. subst Normal (eq_knowledge-sound (normalise k) k e) (normal_normalise k)),
  (λ n. ap (λ l. eq_knowledge l k) (normalise_normal k n) ∙ eq_knowledge_self k),
)

-- Merge

merge_steady : (a b : Knowledge) → SteadyTicks (bounds a.ranges ++ bounds b.ranges) (a.replicas ++ b.replicas) (larger a b)
unfolding larger
merge_steady a b i h n p =
    ap₂ max (known_steady a i p (λ m. n (among_left (suc i) (bounds a.ranges) (bounds b.ranges) m)))
    (known_steady b i p (λ m. n (among_right (suc i) (bounds a.ranges) (bounds b.ranges) m)))

merge-map : (a b : Knowledge) (i p : ℕ) → Among p (a.replicas ++ b.replicas) ⊎ (larger a b i p ≡ 0)
unfolding larger
merge-map a b i p =
    ⊎_elim (λ m. inl (among_left p a.replicas b.replicas m))
    (λ y. ⊎_elim (λ m. inl (among_right p a.replicas b.replicas m)) (λ z. inr (omega arith)) (in_map b i p)) (in_map a i p)

pub known_merge : (a b : Knowledge) (i p : ℕ) → i ≤ highest → known (merge a b) i p ≡ max (known a i p) (known b i p)
unfolding merge larger
known_merge a b i p h =
    known-normal_of (bounds a.ranges ++ bounds b.ranges) (a.replicas ++ b.replicas) (larger a b) (merge_steady a b) i p h (merge-map a b i p)

pub normal_merge : (a b : Knowledge) → Normal (merge a b)
unfolding merge
normal_merge a b = normal-normal_of (bounds a.ranges ++ bounds b.ranges) (a.replicas ++ b.replicas) (larger a b)

-- Project

pub inside_yes : (first last : ℕ) (k : Knowledge) (i p : ℕ) → first ≤ i → i ≤ last → known_inside first last k i p ≡ known k i p
unfolding known_inside
inside_yes first last k i p h l = rw ((in_span_lem first last i).1 (h, l), known_inside)

pub inside_low : (first last : ℕ) (k : Knowledge) (i p : ℕ) → i < first → known_inside first last k i p ≡ 0
unfolding known_inside
inside_low first last k i p h = rw (span_below first last i h, known_inside)

pub inside_high : (first last : ℕ) (k : Knowledge) (i p : ℕ) → last < i → known_inside first last k i p ≡ 0
unfolding known_inside
inside_high first last k i p h = rw (span_above first last i h, known_inside)

pub project_steady : (first last : ℕ) (k : Knowledge) → SteadyTicks (first ∷ suc last ∷ bounds k.ranges) k.replicas (known_inside first last k)
project_steady first last k i h n p =
    elim (span_side first last (suc i)) [
      | side_in l m ↦
          let o : first ≤ i = elim (order first (suc i)) [ less j ↦ omega arith | same j ↦ absurd (n (inl (sym j))) | more j ↦ absurd (omega arith) ] in
          inside_yes first last k (suc i) p l m ∙ known_steady k i p (λ q. n (inr (inr q))) ∙ sym (inside_yes first last k i p o (omega arith))
      | side_below l ↦ inside_low first last k (suc i) p l ∙ sym (inside_low first last k i p (omega arith))
      | side_above l ↦
          let o : last < i = elim (order last i) [ less j ↦ j | same j ↦ absurd (n (inr (inl (ap suc (sym j))))) | more j ↦ absurd (omega arith) ] in
          inside_high first last k (suc i) p l ∙ sym (inside_high first last k i p o)
    ]

project-map : (first last : ℕ) (k : Knowledge) (i p : ℕ) → Among p k.replicas ⊎ (known_inside first last k i p ≡ 0)
project-map first last k i p =
    elim (span_side first last i) [
      | side_in l m ↦ ⊎_elim (λ q. inl q) (λ z. inr (inside_yes first last k i p l m ∙ z)) (in_map k i p)
      | side_below l ↦ inr (inside_low first last k i p l)
      | side_above l ↦ inr (inside_high first last k i p l)
    ]

pub known_project : (first last : ℕ) (k : Knowledge) (i p : ℕ) → i ≤ highest → known (project first last k) i p ≡ known_inside first last k i p
unfolding project
known_project first last k i p h =
    known-normal_of (first ∷ suc last ∷ bounds k.ranges) k.replicas (known_inside first last k) (project_steady first last k) i p h
    (project-map first last k i p)

-- inside the span the known ticks, outside 0
pub known_project_inside : (first last : ℕ) (k : Knowledge) (i p : ℕ) → i ≤ highest → first ≤ i → i ≤ last → known (project first last k) i p ≡ known k i p
known_project_inside first last k i p h l m = known_project first last k i p h ∙ inside_yes first last k i p l m

pub known_project_below : (first last : ℕ) (k : Knowledge) (i p : ℕ) → i ≤ highest → i < first → known (project first last k) i p ≡ 0
known_project_below first last k i p h l = known_project first last k i p h ∙ inside_low first last k i p l

pub known_project_above : (first last : ℕ) (k : Knowledge) (i p : ℕ) → i ≤ highest → last < i → known (project first last k) i p ≡ 0
known_project_above first last k i p h l = known_project first last k i p h ∙ inside_high first last k i p l

pub normal_project : (first last : ℕ) (k : Knowledge) → Normal (project first last k)
unfolding project
normal_project first last k = normal-normal_of (first ∷ suc last ∷ bounds k.ranges) k.replicas (known_inside first last k)

-- Raise

pub raised_own : (p t : ℕ) (k : Knowledge) (i q : ℕ) → q ≡ p → known_raised p t k i q ≡ t
unfolding known_raised
raised_own p t k i q e = rw (eq-eqb q p e, known_raised)

pub raised_other : (p t : ℕ) (k : Knowledge) (i q : ℕ) → (q ≡ p → ⊥) → known_raised p t k i q ≡ known k i q
unfolding known_raised
raised_other p t k i q n = rw (ne_eqb q p n, known_raised)

raise_steady : (p t : ℕ) (k : Knowledge) → SteadyTicks (bounds k.ranges) (p ∷ k.replicas) (known_raised p t k)
raise_steady p t k i h n q =
    elim (exact? eqb eqb_exact q p) [
      | inl e ↦ raised_own p t k (suc i) q e ∙ sym (raised_own p t k i q e)
      | inr e ↦ raised_other p t k (suc i) q e ∙ known_steady k i q n ∙ sym (raised_other p t k i q e)
    ]

raise-map : (p t : ℕ) (k : Knowledge) (i q : ℕ) → Among q (p ∷ k.replicas) ⊎ (known_raised p t k i q ≡ 0)
raise-map p t k i q =
    elim (exact? eqb eqb_exact q p) [
      | inl e ↦ inl (inl e)
      | inr e ↦ ⊎_elim (λ m. inl (inr m)) (λ z. inr (raised_other p t k i q e ∙ z)) (in_map k i q)
    ]

pub known_raise : (p t : ℕ) (k : Knowledge) (i q : ℕ) → i ≤ highest → known (raise p t k) i q ≡ known_raised p t k i q
unfolding raise
known_raise p t k i q h =
    known-normal_of (bounds k.ranges) (p ∷ k.replicas) (known_raised p t k) (raise_steady p t k) i q h (raise-map p t k i q)

-- the raised replica's tick is the new one, and every other is as it was
pub known_raise_own : (p t : ℕ) (k : Knowledge) (i q : ℕ) → i ≤ highest → q ≡ p → known (raise p t k) i q ≡ t
known_raise_own p t k i q h e = known_raise p t k i q h ∙ raised_own p t k i q e

pub known_raise_other : (p t : ℕ) (k : Knowledge) (i q : ℕ) → i ≤ highest → (q ≡ p → ⊥) → known (raise p t k) i q ≡ known k i q
known_raise_other p t k i q h n = known_raise p t k i q h ∙ raised_other p t k i q n

pub normal_raise : (p t : ℕ) (k : Knowledge) → Normal (raise p t k)
unfolding raise
normal_raise p t k = normal-normal_of (bounds k.ranges) (p ∷ k.replicas) (known_raised p t k)

-- Empty knowledge

pub known_empty : (i p : ℕ) → known empty_knowledge i p ≡ 0
unfolding empty_knowledge
known_empty i p = known_out empty_knowledge i p (λ m. m)

normalise_empty : normalise empty_knowledge ≡ empty_knowledge
unfolding empty_knowledge highest place_by tick_at index_from vector_found vector_at known get eq_list eq_pair insert sorted in_span within sample
    build canonical row_ids step_ids used_ids vector_from vector_steps_from vector_steps eq_element grown vectors_of ranges_of indexed knowledge_of
    normal_of normalise bounds
normalise_empty = refl

pub normal_empty : Normal empty_knowledge
normal_empty = subst Normal normalise_empty (normal_normalise empty_knowledge)

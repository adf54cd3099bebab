-- What is written for ranges with their own vectors, and for a table over a replica map: the known ticks are the table's,
-- and the conditions of normal form hold.
use Prim.Native.Nat.{ℕ, zero, suc, ◌≤◌, ◌<◌}
use mathlib.Core.Path.{◌≡◌, refl, sym, ◌∙◌, ap}
use mathlib.Core.Logic.{inl, inr, ⊎_elim}
use mathlib.Core.Option.{none}
use mathlib.Core.List.{List, [], ◌∷◌}
use native.Mathlib.Omega.{arith, none}
use lib.Dec.{eqb}
use lib.ListN.{length, get_or}
use borrow.Author.Tests.{lt-ltb, le-ltb}
use Rattle.layout.specs.Knowledge.{Element, Range, Knowledge, All, Distinct, Rising, keys, bounds}
use Rattle.ticks.specs.Meaning.{highest, place, tick_at, vector_at, known, Sound, indices, Formed}
use Rattle.ticks.specs.Table.{at}
use Rattle.ticks.specs.Written.{vector_number, grown, vectors_of, ranges_of, indexed}
use Rattle.ticks.proofs.Lists.{Among, less, same, more, order}
use Rattle.ticks.proofs.Equality.{eqb_exact, exact?, place_same, place_other}
use Rattle.ticks.proofs.Steps.{step_bounds, Changing}
use Rattle.ticks.proofs.Vectors.{ElementsInOrder}
use Rattle.ticks.proofs.Numbering.{Apart, vectors-cons, vectors-length, vectors_keep, vectors_number, vectors_apart, vectors_all}
use Rattle.ticks.proofs.Numbering.{ranges-cons, ranges_bounds, ranges_first, ranges_at_lem, indices-length, ranges_differ, found_none}
use Rattle.ticks.proofs.FirstUse.{FirstUse, first_below, first_used, first_order}

-- Places in a replica map

pub among_place : (p : ℕ) (ids : List ℕ) → Among p ids → place p ids < length ids
among_place p [] m = absurd m
among_place p (q ∷ ids) m =
    elim (exact? eqb eqb_exact q p) [
      | inl e ↦ omega (arith, place_same eqb eqb_exact p q ids e)
      | inr n ↦ ⊎_elim (λ e. absurd (n (sym e))) (λ o. omega (arith, place_other eqb eqb_exact p q ids n, among_place p ids o)) m
    ]

pub place_among : (p : ℕ) (ids : List ℕ) → place p ids < length ids → Among p ids
place_among p [] h = absurd (omega arith)
place_among p (q ∷ ids) h =
    elim (exact? eqb eqb_exact q p) [
      | inl e ↦ inl (sym e)
      | inr n ↦ inr (place_among p ids (omega (arith, place_other eqb eqb_exact p q ids n)))
    ]

pub among_get : (ids : List ℕ) (n : ℕ) → n < length ids → Among (get_or ids n 0) ids
among_get [] n h = absurd (omega arith)
among_get (q ∷ ids) zero h = inl refl
among_get (q ∷ ids) (suc n) h = inr (among_get ids n (omega arith))

-- The known tick: of a replica in the map, that of its key in the vector at the item; else 0

pub known_in : (k : Knowledge) (i p : ℕ) → Among p k.replicas → known k i p ≡ tick_at (vector_at k i) (place p k.replicas)
unfolding known
known_in k i p m = rw (lt-ltb (place p k.replicas) (length k.replicas) (among_place p k.replicas m), known)

pub known_out : (k : Knowledge) (i p : ℕ) → (Among p k.replicas → ⊥) → known k i p ≡ 0
unfolding known
known_out k i p n =
    elim (order (place p k.replicas) (length k.replicas)) [
      | less h ↦ absurd (n (place_among p k.replicas h))
      | same h ↦ rw (le-ltb (place p k.replicas) (length k.replicas) (omega arith), known)
      | more h ↦ rw (le-ltb (place p k.replicas) (length k.replicas) (omega arith), known)
    ]

-- Ranges with their own vectors

pub vector_at-indexed : (ids : List ℕ) (s : List (ℕ × List Element)) (i : ℕ) → vector_at (indexed ids s) i ≡ at [] s i
unfolding vector_at indexed
vector_at-indexed ids s i =
    ranges_at_lem (vectors_of ([] ∷ []) s) ([] ∷ []) s none i refl ∙ ap (λ v. at v s i) (found_none (vectors_of ([] ∷ []) s))

all_indices : (v : ℕ) (xs : List Range) → All (λ x. x < v) (indices xs) → All (λ x. x.index.0 < v) xs
unfolding indices
all_indices v [] a = tt
all_indices v (x ∷ xs) a = (a.0, all_indices v xs a.1)

pub changing_rising : {A : Type 0} (hi lo : ℕ) (v : A) (s : List (ℕ × A)) → Changing hi lo v s → Rising lo (step_bounds s)
unfolding step_bounds
changing_rising hi lo v [] c = tt
changing_rising hi lo v (e ∷ s) c = (c.0, changing_rising hi (suc e.0) e.1 s c.1.1.1)

pub changing_top : {A : Type 0} (hi lo : ℕ) (v : A) (s : List (ℕ × A)) → Changing hi lo v s → All (λ b. b ≤ hi) (step_bounds s)
unfolding step_bounds
changing_top hi lo v [] c = tt
changing_top hi lo v (e ∷ s) c = (c.1.0, changing_top hi (suc e.0) e.1 s c.1.1.1)

-- what a vector over a map of r replicas must be
pub record VectorOver (r : ℕ) (es : List Element) : Type 0 where
  pub keys : All (λ x. x.key.0 < r) es
  pub order : ElementsInOrder es

start_apart : Apart ([] ∷ [])
start_apart = record { apart = λ y z h k e. omega arith }

over_keys : (r : ℕ) (s : List (ℕ × List Element)) → All (λ e. VectorOver r e.1) s → All (λ e. All (λ x. x.key.0 < r) e.1) s
over_keys r [] a = tt
over_keys r (e ∷ s) a = (a.0.keys, over_keys r s a.1)

over_rising : (r : ℕ) (s : List (ℕ × List Element)) → All (λ e. VectorOver r e.1) s → All (λ e. Rising 0 (keys e.1)) s
over_rising r [] a = tt
over_rising r (e ∷ s) a = (a.0.order.rising, over_rising r s a.1)

over_ticks : (r : ℕ) (s : List (ℕ × List Element)) → All (λ e. VectorOver r e.1) s → All (λ e. All (λ x. 1 ≤ x.tick) e.1) s
over_ticks r [] a = tt
over_ticks r (e ∷ s) a = (a.0.order.ticks, over_ticks r s a.1)

module _ (ids : List ℕ) (distinct : Distinct ids) (w : List Element) (s : List (ℕ × List Element))
    (over : VectorOver (length ids) w) (overs : All (λ e. VectorOver (length ids) e.1) s) (changing : Changing highest 1 w s) where
  indexed_sound : Sound (indexed ids ((0, w) ∷ s))
  unfolding indexed step_bounds
  indexed_sound = record {
    distinct = distinct;
    keys_below = vectors_all (All (λ x. x.key.0 < length ids)) ([] ∷ []) ((0, w) ∷ s) (tt, tt) (over.keys, over_keys (length ids) s overs);
    indices_below =
        all_indices (length (vectors_of ([] ∷ []) ((0, w) ∷ s))) (ranges_of ([] ∷ []) ((0, w) ∷ s))
        (first_below 1 (indices (ranges_of ([] ∷ []) ((0, w) ∷ s))) (length (vectors_of ([] ∷ []) ((0, w) ∷ s))) (ranges_first ([] ∷ []) ((0, w) ∷ s)));
    rising = rw ranges_bounds (omega arith, changing_rising highest 1 w s changing);
    items = rw ranges_bounds (omega arith, changing_top highest 1 w s changing);
  }

  indexed_differ : (n : ℕ) → suc n < length (ranges_of ([] ∷ []) ((0, w) ∷ s))
      → get_or (vectors_of ([] ∷ []) ((0, w) ∷ s)) (get_or (indices (ranges_of ([] ∷ []) ((0, w) ∷ s))) n 0) []
      ≡ get_or (vectors_of ([] ∷ []) ((0, w) ∷ s)) (get_or (indices (ranges_of ([] ∷ []) ((0, w) ∷ s))) (suc n) 0) [] → ⊥
  unfolding indices
  indexed_differ =
      rw (ranges-cons ([] ∷ []) (0, w) s)
      (λ n h.
      ranges_differ highest 1 (vectors_of ([] ∷ []) ((0, w) ∷ s)) (grown ([] ∷ []) w) w (vector_number w ([] ∷ [])) s (sym (vectors-cons ([] ∷ []) (0, w) s))
      (vectors_number ([] ∷ []) (0, w) s) changing n (omega arith))

  pub formed_indexed : Formed (indexed ids ((0, w) ∷ s))
  unfolding indexed keys bounds
  formed_indexed =
      let vs = vectors_of ([] ∷ []) ((0, w) ∷ s) in
      let rs = ranges_of ([] ∷ []) ((0, w) ∷ s) in
      let xs = indices rs in
      let first : FirstUse 1 xs (length vs) = ranges_first ([] ∷ []) ((0, w) ∷ s) in
      let e : get_or vs 0 [] ≡ [] = vectors_keep ([] ∷ []) ((0, w) ∷ s) 0 (omega arith) in
      let a : Apart vs = vectors_apart ([] ∷ []) ((0, w) ∷ s) start_apart in
      record {
        sound = indexed_sound;
        first_range = rw ranges-cons refl;
        neighbours = indexed_differ;
        some_vector = omega (arith, vectors-length ([] ∷ []) ((0, w) ∷ s));
        empty_first = e;
        in_order = λ y z h k l. first_order 1 xs (length vs) y z first h k l;
        distinct = λ y z h k l q. a.apart y z k l q;
        not_empty = λ y h k q. a.apart 0 y h k (e ∙ sym q);
        used = λ y h k. omega (arith, indices-length rs, among_place y xs (first_used 1 xs (length vs) y first h k));
        elements = vectors_all (λ es. Rising 0 (keys es)) ([] ∷ []) ((0, w) ∷ s) (tt, tt) (over.order.rising, over_rising (length ids) s overs);
        ticks = vectors_all (All (λ x. 1 ≤ x.tick)) ([] ∷ []) ((0, w) ∷ s) (tt, tt) (over.order.ticks, over_ticks (length ids) s overs);
      }

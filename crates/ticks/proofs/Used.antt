-- Each replica of the map of a normal form is used by some element: the one construction gives normal forms.
use Prim.Native.Nat.{ℕ, zero, suc, ◌+◌, ◌≤◌, ◌<◌}
use mathlib.Core.Path.{◌≡◌, ◌∙◌, ap}
use mathlib.Core.Logic.{◌⊎◌, inl, inr, ⊎_elim}
use mathlib.Core.List.{List, [], ◌∷◌}
use native.Mathlib.Omega.{arith}
use lib.Dec.{eqb}
use lib.ListN.{length, get_or}
use Rattle.layout.specs.Knowledge.{Element, keys}
use Rattle.ticks.specs.Meaning.{highest, place, tick_at, known, Unused, Normal}
use Rattle.ticks.specs.Table.{Row, Table, get, canonical, row_ids, step_ids, used_ids}
use Rattle.ticks.specs.Written.{vector_from, vector_steps_from, vector_steps, vector_number, grown, vectors_of, indexed, knowledge_of, normal_of}
use Rattle.ticks.proofs.Lists.{less, same, more, order, Among, sorted_only, rising_distinct}
use Rattle.ticks.proofs.Equality.{eqb_exact, place-le}
use Rattle.ticks.proofs.Canonical.{RisingRows, CanonicalTable, canonical_table, canonical_ticks, SteadyTicks}
use Rattle.ticks.proofs.Vectors.{keys_length, vector_tick, key_tick}
use Rattle.ticks.proofs.Numbering.{grown-length, vectors-cons, vectors-length, vectors_number}
use Rattle.ticks.proofs.Written.{among_place, place_among, among_get}
use Rattle.ticks.proofs.NormalForm.{vector_steps-cons, row_ids_only, formed_knowledge, known_knowledge, used_over, used_rising}

pub used_at : (key n : ℕ) (vs : List (List Element)) → n < length vs → Among key (keys (get_or vs n [])) → Unused key vs → ⊥
used_at key n [] h m a = omega arith
used_at key zero (v ∷ vs) h m a = omega (arith, keys_length v, among_place key (keys v) m, a.0)
used_at key (suc n) (v ∷ vs) h m a = used_at key n vs (omega arith) m a.1

-- the vector that uses a key, by its place
pub used_get : (key : ℕ) (vs : List (List Element)) → (Unused key vs → ⊥) → (n : ℕ) × ((n < length vs) × Among key (keys (get_or vs n [])))
used_get key [] u = absurd (u tt)
used_get key (v ∷ vs) u =
    elim (order (place key (keys v)) (length v)) [
      | less h ↦ (0, (omega arith, place_among key (keys v) (omega (arith, keys_length v))))
      | same h ↦
          let w = used_get key vs (λ a. u (h, a)) in
          (suc w.0, (omega (arith, w.1.0), w.1.1))
      | more h ↦ absurd (omega (arith, keys_length v, place-le eqb eqb_exact key (keys v)))
    ]

-- some range's own vector uses the key
abbrev UsedStep : ℕ → List (ℕ × List Element) → Type 0
UsedStep key [] = ⊥
UsedStep key (e ∷ s) = Among key (keys e.1) ⊎ UsedStep key s

vector_steps_used : (key : ℕ) (seen : List (List Element)) (s : List (ℕ × List Element)) → UsedStep key s → Unused key (vectors_of seen s) → ⊥
vector_steps_used key seen [] u = absurd u
vector_steps_used key seen (e ∷ s) (inl m) =
    used_at key (vector_number e.1 seen) (vectors_of seen (e ∷ s))
    (omega (arith, ap length (vectors-cons seen e s), grown-length seen e.1, vectors-length (grown seen e.1) s))
    (rw (vectors_number seen e s) m)
vector_steps_used key seen (e ∷ s) (inr u) = rw vectors-cons (vector_steps_used key (grown seen e.1) s u)

vector_used : (ids : List ℕ) (row : Row) (key : ℕ) → key < length ids → 1 ≤ get row (get_or ids key 0) → Among key (keys (vector_from 0 ids row))
vector_used ids row key h k =
    let e : 0 + key ≡ key = omega arith in
    key_tick (vector_from 0 ids row) key (omega (arith, ap (tick_at (vector_from 0 ids row)) e, vector_tick 0 ids row key h))

rest_used : (ids : List ℕ) (s : List (ℕ × Row)) (key : ℕ) → key < length ids → RisingRows s → Among (get_or ids key 0) (step_ids s) → UsedStep key (vector_steps_from ids s)
unfolding step_ids
rest_used ids [] key h rs m = absurd m
rest_used ids (e ∷ s) key h rs m =
    rw vector_steps-cons
    (⊎_elim (λ k. inl (vector_used ids e.1 key h k)) (λ o. inr (rest_used ids s key h rs.1 o))
    (row_ids_only 0 e.1 (step_ids s) (get_or ids key 0) rs.0 m))

ids_of_lem : (t : Table) (p : ℕ) → Among p (used_ids t) → Among p (row_ids t.first (step_ids t.rest))
unfolding used_ids
ids_of_lem t p m = sorted_only p (row_ids t.first (step_ids t.rest)) m

table_used : (t : Table) (key : ℕ) → CanonicalTable t → key < length (used_ids t) → UsedStep key (vector_steps (used_ids t) t)
unfolding vector_steps
table_used t key c h =
    ⊎_elim (λ k. inl (vector_used (used_ids t) t.first key h k)) (λ o. inr (rest_used (used_ids t) t.rest key h c.rows o))
    (row_ids_only 0 t.first (step_ids t.rest) (get_or (used_ids t) key 0) c.first_row (ids_of_lem t (get_or (used_ids t) key 0) (among_get (used_ids t) key h)))

pub normal_table : (t : Table) → CanonicalTable t → Normal (knowledge_of (used_ids t) t)
unfolding knowledge_of indexed
normal_table t c = record {
  formed = formed_knowledge (used_ids t) t (rising_distinct 0 (used_ids t) (used_rising t)) c (used_over t);
  rising = used_rising t;
  used = λ key h. vector_steps_used key ([] ∷ []) (vector_steps (used_ids t) t) (table_used t key c h);
}

module _ (items ids : List ℕ) (f : ℕ → ℕ → ℕ) where
  -- the normal form of ticks is in normal form
  pub normal-normal_of : Normal (normal_of items ids f)
  unfolding normal_of
  normal-normal_of = normal_table (canonical items ids f) (canonical_table items ids f)

  -- and its known ticks are f, where f changes at the candidate items only and is 0 at other ids
  pub known-normal_of : SteadyTicks items ids f → (i p : ℕ) → i ≤ highest → Among p ids ⊎ (f i p ≡ 0) → known (normal_of items ids f) i p ≡ f i p
  unfolding normal_of
  known-normal_of steady i p h m =
      known_knowledge (used_ids (canonical items ids f)) (canonical items ids f) i p (used_over (canonical items ids f))
      ∙ canonical_ticks items ids f steady i p h m

-- The normal form of ticks f: its known ticks are f, and it meets document 01's list of conditions. First for any
-- canonical table over a replica map that has every id used, then for the one construction.
use Prim.Native.Nat.{ℕ, suc, ◌+◌, ◌≤◌, ◌<◌}
use mathlib.Core.Path.{◌≡◌, refl, sym, ◌∙◌, ap, ap₂}
use mathlib.Core.Logic.{◌⊎◌, inl, inr, ⊎_elim}
use mathlib.Core.List.{List, [], ◌∷◌}
use native.Mathlib.Omega.{arith}
use lib.Dec.{eqb}
use lib.ListN.{length}
use Rattle.layout.specs.Knowledge.{All, Distinct, Rising}
use Rattle.ticks.specs.Meaning.{highest, place, tick_at, vector_at, known, Formed}
use Rattle.ticks.specs.Table.{Row, Table, get, at, sorted, row_ids, step_ids, used_ids}
use Rattle.ticks.specs.Written.{vector_from, vector_steps_from, vector_steps, indexed, knowledge_of}
use Rattle.ticks.proofs.Lists.{Among, less, same, more, order, among?, sorted_in, sorted_rising}
use Rattle.ticks.proofs.Equality.{eqb_exact, exact?, place_found}
use Rattle.ticks.proofs.Steps.{Changing, at-nil, at_lt, at-ge}
use Rattle.ticks.proofs.Rows.{RisingRow, row_unique, get-nil, get_same, get_other}
use Rattle.ticks.proofs.Canonical.{table_tick, RisingRows, CanonicalTable}
use Rattle.ticks.proofs.Vectors.{vector_in_order, vector_keys, vector_tick}
use Rattle.ticks.proofs.Written.{among_place, known_in, known_out, vector_at-indexed, VectorOver, formed_indexed}

-- each id with a tick in the row is in the map
abbrev pub RowOver : List ℕ → Row → Type 0
RowOver ids row = (p : ℕ) → Among p ids ⊎ (get row p ≡ 0)

abbrev pub RowsOver : List ℕ → List (ℕ × Row) → Type 0
RowsOver ids [] = Unit {0}
RowsOver ids (e ∷ s) = RowOver ids e.1 × RowsOver ids s

-- the tick of a replica of the map in the vector of a row
pub vector_get : (ids : List ℕ) (row : Row) (p : ℕ) → Among p ids → tick_at (vector_from 0 ids row) (place p ids) ≡ get row p
vector_get ids row p m =
    let h : place p ids < length ids = among_place p ids m in
    let e : place p ids ≡ 0 + place p ids = omega arith in
    ap (tick_at (vector_from 0 ids row)) e ∙ vector_tick 0 ids row (place p ids) h
    ∙ ap (get row) (place_found eqb eqb_exact p 0 ids h)

pub vector_injective : (ids : List ℕ) (v w : Row) → RisingRow 0 v → RisingRow 0 w → RowOver ids v → RowOver ids w
    → vector_from 0 ids v ≡ vector_from 0 ids w → v ≡ w
vector_injective ids v w r s a b e =
    let found : (p : ℕ) → Among p ids → get v p ≡ get w p =
    λ p m. sym (vector_get ids v p m) ∙ ap (λ es. tick_at es (place p ids)) e ∙ vector_get ids w p m in
    row_unique 0 v w r s (λ p. ⊎_elim (found p) (λ y. ⊎_elim (found p) (λ z. y ∙ sym z) (b p)) (a p))

pub vector_steps-nil : (ids : List ℕ) → vector_steps_from ids [] ≡ []
unfolding vector_steps_from
vector_steps-nil ids = refl

pub vector_steps-cons : (ids : List ℕ) (e : ℕ × Row) (s : List (ℕ × Row)) → vector_steps_from ids (e ∷ s) ≡ (e.0, vector_from 0 ids e.1) ∷ vector_steps_from ids s
unfolding vector_steps_from
vector_steps-cons ids e s = refl

vector_steps_changing : (hi lo : ℕ) (ids : List ℕ) (v : Row) (s : List (ℕ × Row)) → RisingRow 0 v → RisingRows s → RowOver ids v → RowsOver ids s
    → Changing hi lo v s → Changing hi lo (vector_from 0 ids v) (vector_steps_from ids s)
vector_steps_changing hi lo ids v [] r rs o os c = rw vector_steps-nil tt
vector_steps_changing hi lo ids v (e ∷ s) r rs o os c =
    rw vector_steps-cons (
      c.0,
      (
        c.1.0,
        (
          (λ q. c.1.1.0 (vector_injective ids e.1 v rs.0 r os.0 o q)),
          vector_steps_changing hi (suc e.0) ids e.1 s rs.0 rs.1 os.0 os.1 c.1.1.1,
        ),
      ),
    )

vector_over : (ids : List ℕ) (row : Row) → VectorOver (length ids) (vector_from 0 ids row)
vector_over ids row = record { keys = vector_keys (length ids) 0 ids row (omega arith); order = vector_in_order ids row }

vector_steps_over : (ids : List ℕ) (s : List (ℕ × Row)) → All (λ e. VectorOver (length ids) e.1) (vector_steps_from ids s)
vector_steps_over ids [] = rw vector_steps-nil tt
vector_steps_over ids (e ∷ s) = rw vector_steps-cons (vector_over ids e.1, vector_steps_over ids s)

vector_steps_at : (ids : List ℕ) (v : Row) (s : List (ℕ × Row)) (i : ℕ) → at (vector_from 0 ids v) (vector_steps_from ids s) i ≡ vector_from 0 ids (at v s i)
vector_steps_at ids v [] i =
    ap (λ s. at (vector_from 0 ids v) s i) (vector_steps-nil ids) ∙ at-nil (vector_from 0 ids v) i ∙ ap (vector_from 0 ids) (sym (at-nil v i))
vector_steps_at ids v (e ∷ s) i =
    ap (λ s. at (vector_from 0 ids v) s i) (vector_steps-cons ids e s)
    ∙ (elim (order i e.0) [
      | less k ↦ at_lt (vector_from 0 ids v) (e.0, vector_from 0 ids e.1) (vector_steps_from ids s) i k ∙ ap (vector_from 0 ids) (sym (at_lt v e s i k))
      | same k ↦ onward (omega arith) (vector_steps_at ids e.1 s i)
      | more k ↦ onward (omega arith) (vector_steps_at ids e.1 s i)
    ])
  where
    onward : e.0 ≤ i → at (vector_from 0 ids e.1) (vector_steps_from ids s) i ≡ vector_from 0 ids (at e.1 s i)
        → at (vector_from 0 ids v) ((e.0, vector_from 0 ids e.1) ∷ vector_steps_from ids s) i ≡ vector_from 0 ids (at v (e ∷ s) i)
    onward k ih =
        at-ge (vector_from 0 ids v) (e.0, vector_from 0 ids e.1) (vector_steps_from ids s) i k ∙ ih ∙ ap (vector_from 0 ids) (sym (at-ge v e s i k))

-- A table over a replica map in any order

-- the map has every id used in the table
pub record TableOver (ids : List ℕ) (t : Table) : Type 0 where
  pub first_row : RowOver ids t.first
  pub rows : RowsOver ids t.rest

pub formed_knowledge : (ids : List ℕ) (t : Table) → Distinct ids → CanonicalTable t → TableOver ids t → Formed (knowledge_of ids t)
unfolding knowledge_of vector_steps
formed_knowledge ids t d c o =
    formed_indexed ids d (vector_from 0 ids t.first) (vector_steps_from ids t.rest) (vector_over ids t.first) (vector_steps_over ids t.rest)
    (vector_steps_changing highest 1 ids t.first t.rest c.first_row c.rows o.first_row o.rows c.changing)

pub knowledge_replicas : (ids : List ℕ) (t : Table) → (knowledge_of ids t).replicas ≡ ids
unfolding knowledge_of indexed
knowledge_replicas ids t = refl

pub vector_at-knowledge : (ids : List ℕ) (t : Table) (i : ℕ) → vector_at (knowledge_of ids t) i ≡ vector_from 0 ids (at t.first t.rest i)
unfolding knowledge_of vector_steps
vector_at-knowledge ids t i =
    vector_at-indexed ids ((0, vector_from 0 ids t.first) ∷ vector_steps_from ids t.rest) i
    ∙ at-ge [] (0, vector_from 0 ids t.first) (vector_steps_from ids t.rest) i (omega arith)
    ∙ vector_steps_at ids t.first t.rest i

-- of a replica in the map the known tick is the table's; of another it is 0
pub known_knowledge_in : (ids : List ℕ) (t : Table) (i p : ℕ) → Among p ids → known (knowledge_of ids t) i p ≡ table_tick t i p
unfolding table_tick
known_knowledge_in ids t i p m =
    known_in (knowledge_of ids t) i p (rw (knowledge_replicas ids t) m)
    ∙ ap₂ tick_at (vector_at-knowledge ids t i) (ap (place p) (knowledge_replicas ids t))
    ∙ vector_get ids (at t.first t.rest i) p m

pub known_knowledge_out : (ids : List ℕ) (t : Table) (i p : ℕ) → (Among p ids → ⊥) → known (knowledge_of ids t) i p ≡ 0
known_knowledge_out ids t i p n = known_out (knowledge_of ids t) i p (λ m. n (rw (knowledge_replicas ids t) at m))

rows_over_at : (ids : List ℕ) (v : Row) (s : List (ℕ × Row)) (i : ℕ) → RowOver ids v → RowsOver ids s → RowOver ids (at v s i)
rows_over_at ids v [] i o os p = rw at-nil (o p)
rows_over_at ids v (e ∷ s) i o os p =
    elim (order i e.0) [
      | less k ↦ rw (at_lt v e s i k) (o p)
      | same k ↦ rw (at-ge v e s i (omega arith)) (rows_over_at ids e.1 s i os.0 os.1 p)
      | more k ↦ rw (at-ge v e s i (omega arith)) (rows_over_at ids e.1 s i os.0 os.1 p)
    ]

pub known_knowledge : (ids : List ℕ) (t : Table) (i p : ℕ) → TableOver ids t → known (knowledge_of ids t) i p ≡ table_tick t i p
unfolding table_tick
known_knowledge ids t i p o =
    elim (among? p ids) [
      | inl m ↦ known_knowledge_in ids t i p m
      | inr n ↦
          known_knowledge_out ids t i p n
          ∙ ⊎_elim (λ m. absurd (n m)) (λ z. sym z) (rows_over_at ids t.first t.rest i o.first_row o.rows p)
    ]

-- The replicas used

row_ids_keep : (row : Row) (ids : List ℕ) (p : ℕ) → Among p ids → Among p (row_ids row ids)
unfolding row_ids
row_ids_keep [] ids p m = m
row_ids_keep (e ∷ row) ids p m = inr (row_ids_keep row ids p m)

row_ids_in : (row : Row) (ids : List ℕ) (p : ℕ) → Among p (row_ids row ids) ⊎ (get row p ≡ 0)
unfolding row_ids
row_ids_in [] ids p = inr (get-nil p)
row_ids_in (e ∷ row) ids p =
    elim (exact? eqb eqb_exact e.0 p) [
      | inl q ↦ inl (inl (sym q))
      | inr n ↦ ⊎_elim (λ m. inl (inr m)) (λ z. inr (get_other e row p n ∙ z)) (row_ids_in row ids p)
    ]

pub row_ids_only : (lo : ℕ) (row : Row) (ids : List ℕ) (p : ℕ) → RisingRow lo row → Among p (row_ids row ids) → (1 ≤ get row p) ⊎ Among p ids
unfolding row_ids
row_ids_only lo [] ids p r m = inr m
row_ids_only lo (e ∷ row) ids p r m =
    elim (exact? eqb eqb_exact e.0 p) [
      | inl q ↦ inl (omega (arith, get_same e row p q, r.1.0))
      | inr n ↦
          ⊎_elim (λ q. absurd (n (sym q)))
          (λ o. ⊎_elim (λ h. inl (omega (arith, get_other e row p n))) (λ a. inr a) (row_ids_only (suc e.0) row ids p r.1.1 o)) m
    ]

step_ids_over : (s : List (ℕ × Row)) (ids : List ℕ) → ((p : ℕ) → Among p (step_ids s) → Among p ids) → RowsOver ids s
unfolding step_ids
step_ids_over [] ids f = tt
step_ids_over (e ∷ s) ids f = (
  (λ p. ⊎_elim (λ m. inl (f p m)) (λ z. inr z) (row_ids_in e.1 (step_ids s) p)),
  step_ids_over s ids (λ p m. f p (row_ids_keep e.1 (step_ids s) p m)),
)

pub used_over : (t : Table) → TableOver (used_ids t) t
unfolding used_ids
used_over t = record {
  first_row = λ p. ⊎_elim (λ m. inl (sorted_in p (row_ids t.first (step_ids t.rest)) m)) (λ z. inr z) (row_ids_in t.first (step_ids t.rest) p);
  rows =
      step_ids_over t.rest (sorted (row_ids t.first (step_ids t.rest)))
      (λ p m. sorted_in p (row_ids t.first (step_ids t.rest)) (row_ids_keep t.first (step_ids t.rest) p m));
}

pub used_rising : (t : Table) → Rising 0 (used_ids t)
unfolding used_ids
used_rising t = sorted_rising 0 (row_ids t.first (step_ids t.rest)) (λ x m. omega arith)

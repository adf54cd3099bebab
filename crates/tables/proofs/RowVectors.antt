-- A row as a clock vector over the columns of a plan: its elements are by rising key with ticks of 1 or more, under each key stands the
-- tick of its column, and two rows have the same vector exactly where they agree in all those columns.
use Prim.Native.Nat.{ℕ, suc, ◌+◌, ◌<◌}
use mathlib.Core.Path.{◌≡◌, refl, sym, ◌∙◌, ap, ap₂}
use mathlib.Core.Logic.{inl, inr, ⊎_elim}
use mathlib.Core.List.{List, [], ◌∷◌}
use native.Mathlib.Omega.{arith}
use lib.Dec.{eqb}
use lib.ListN.{length, get_or}
use borrow.Author.Tests.{eq-eqb, ne_eqb}
use Rattle.ticks.specs.Meaning.{place, tick_at}
use Rattle.ticks.specs.Table.{Row, get}
use Rattle.ticks.specs.Written.{element_with, vector_from}
use Rattle.ticks.proofs.Lists.{Among}
use Rattle.ticks.proofs.Equality.{eqb_exact, exact?, place_found}
use Rattle.ticks.proofs.Rows.{get_same, get_other}
use Rattle.ticks.proofs.Vectors.{vector_in_order, vector_keys, vector_tick}
use Rattle.ticks.proofs.Written.{VectorOver, among_place, among_get}
use Rattle.tables.specs.MethodPlan.{elements_from}
use Rattle.tables.proofs.Clauses.{elements-nil, elements_none, elements_some}

-- the ticks of columns, as pairs
unfoldable pub pairs_of : (ℕ → ℕ) → List ℕ → Row
pairs_of g [] = []
pairs_of g (c ∷ cs) = (c, g c) ∷ pairs_of g cs

pairs_get : (g : ℕ → ℕ) (cols : List ℕ) (c : ℕ) → Among c cols → get (pairs_of g cols) c ≡ g c
unfolding pairs_of
pairs_get g [] c m = absurd m
pairs_get g (d ∷ cols) c m =
    elim (exact? eqb eqb_exact d c) [
      | inl e ↦ get_same (d, g d) (pairs_of g cols) c e ∙ ap g e
      | inr n ↦ get_other (d, g d) (pairs_of g cols) c n ∙ ⊎_elim (λ q. absurd (n (sym q))) (λ o. pairs_get g cols c o) m
    ]

vector_none : (key p : ℕ) (ids : List ℕ) (row : Row) → get row p ≡ 0 → vector_from key (p ∷ ids) row ≡ vector_from (suc key) ids row
unfolding vector_from
vector_none key p ids row h = rw (eq-eqb (get row p) 0 h, vector_from)

vector_some : (key p : ℕ) (ids : List ℕ) (row : Row) → (get row p ≡ 0 → ⊥)
    → vector_from key (p ∷ ids) row ≡ element_with key (get row p) ∷ vector_from (suc key) ids row
unfolding vector_from
vector_some key p ids row h = rw (ne_eqb (get row p) 0 h, vector_from)

vector-nil : (key : ℕ) (row : Row) → vector_from key [] row ≡ []
unfolding vector_from
vector-nil key row = refl

-- the elements are the vector of the pairs, over the columns as ids
elements_pairs : (g : ℕ → ℕ) (row : Row) (key : ℕ) (cs : List ℕ) → ((c : ℕ) → Among c cs → get row c ≡ g c)
    → elements_from g key cs ≡ vector_from key cs row
elements_pairs g row key [] f = elements-nil g key ∙ sym (vector-nil key row)
elements_pairs g row key (c ∷ cs) f =
    let e : key + 1 ≡ suc key = omega arith in
    let q : get row c ≡ g c = f c (inl refl) in
    let ih : elements_from g (key + 1) cs ≡ vector_from (suc key) cs row =
    ap (λ m. elements_from g m cs) e ∙ elements_pairs g row (suc key) cs (λ d m. f d (inr m)) in
    elim (exact? eqb eqb_exact (g c) 0) [
      | inl z ↦ elements_none g key c cs z ∙ ih ∙ sym (vector_none key c cs row (q ∙ z))
      | inr z ↦
          elements_some g key c cs z ∙ ap₂ (λ t es. element_with key t ∷ es) (sym q) ih
          ∙ sym (vector_some key c cs row (λ y. z (sym q ∙ y)))
    ]

module _ (g : ℕ → ℕ) (cols : List ℕ) where
  pub elements_vector : elements_from g 0 cols ≡ vector_from 0 cols (pairs_of g cols)
  elements_vector = elements_pairs g (pairs_of g cols) 0 cols (λ c m. pairs_get g cols c m)

  pub elements_over : VectorOver (length cols) (elements_from g 0 cols)
  elements_over =
      rw elements_vector
      (record { keys = vector_keys (length cols) 0 cols (pairs_of g cols) (omega arith); order = vector_in_order cols (pairs_of g cols) })

  -- under each key stands the tick of its column
  pub elements_tick : (n : ℕ) → n < length cols → tick_at (elements_from g 0 cols) n ≡ g (get_or cols n 0)
  elements_tick n h =
      let e : n ≡ 0 + n = omega arith in
      ap₂ tick_at elements_vector e ∙ vector_tick 0 cols (pairs_of g cols) n h ∙ pairs_get g cols (get_or cols n 0) (among_get cols n h)

module _ (g h : ℕ → ℕ) (cols : List ℕ) where
  pub elements_cong : ((c : ℕ) → Among c cols → g c ≡ h c) → elements_from g 0 cols ≡ elements_from h 0 cols
  elements_cong f =
      elements_pairs g (pairs_of h cols) 0 cols (λ c m. pairs_get h cols c m ∙ sym (f c m)) ∙ sym (elements_vector h cols)

  pub elements_agree : (c : ℕ) → elements_from g 0 cols ≡ elements_from h 0 cols → Among c cols → g c ≡ h c
  elements_agree c e m =
      let l : place c cols < length cols = among_place c cols m in
      let q : get_or cols (place c cols) 0 ≡ c = place_found eqb eqb_exact c 0 cols l in
      ap g (sym q) ∙ sym (elements_tick g cols (place c cols) l) ∙ ap (λ es. tick_at es (place c cols)) e
      ∙ elements_tick h cols (place c cols) l ∙ ap h q

-- a row without a tick in these columns has the empty vector
pub elements_empty : (g : ℕ → ℕ) (key : ℕ) (cols : List ℕ) → ((c : ℕ) → Among c cols → g c ≡ 0) → elements_from g key cols ≡ []
elements_empty g key [] f = elements-nil g key
elements_empty g key (c ∷ cs) f = elements_none g key c cs (f c (inl refl)) ∙ elements_empty g (key + 1) cs (λ d m. f d (inr m))

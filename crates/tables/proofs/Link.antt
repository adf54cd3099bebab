-- The plan of a table that samples ticks f is in normal form, and its known ticks are f: the steps that are kept change, each column in
-- use has its id once, by rising id; the vector at an item is that of the last row whose bound is not above it, and f does not change
-- from that bound up to the item. Normal forms with equal ticks are equal, so the plan is the result of the operation with these ticks.
use Prim.Native.Nat.{ℕ, zero, suc, ◌+◌, ◌≤◌, ◌<◌}
use mathlib.Core.Path.{◌≡◌, refl, sym, ◌∙◌, ap, ap₂, subst}
use mathlib.Core.Logic.{◌⊎◌, inl, inr, ⊎_elim}
use mathlib.Core.Bool.{true}
use mathlib.Core.List.{List, [], ◌∷◌}
use native.Mathlib.Omega.{arith}
use lib.Dec.{eqb}
use lib.ListN.{length, get_or}
use Rattle.layout.specs.Knowledge.{Element, Knowledge, Rising, keys}
use Rattle.ticks.specs.Meaning.{highest, place, tick_at, vector_at, known, Formed, Unused, Normal}
use Rattle.ticks.specs.Table.{at}
use Rattle.ticks.specs.Operations.{normalise, larger, merge, known_inside, project, known_raised, raise}
use Rattle.ticks.proofs.Lists.{Among, among?, rising_distinct}
use Rattle.ticks.proofs.Equality.{eqb_exact, exact?, clash, place_found}
use Rattle.ticks.proofs.Steps.{Changing, at-ge}
use Rattle.ticks.proofs.Vectors.{keys_length, key_tick}
use Rattle.ticks.proofs.Written.{among_place, among_get, known_in, known_out, vector_at-indexed, VectorOver, formed_indexed}
use Rattle.ticks.proofs.Unique.{normal_unique}
use Rattle.ticks.proofs.Operations.{known_normalise, normal_normalise, known_merge, normal_merge, known_project, normal_project}
use Rattle.ticks.proofs.Operations.{known_raise, normal_raise}
use Rattle.tables.specs.MethodPlan.{rows_from, firsts_of, used_in, ids_of, elements_from, vectors_in, page_of, page, Sampled}
use Rattle.tables.proofs.Clauses.{used-nil, used_later, vectors_in_cons}
use Rattle.tables.proofs.PageSizes.{ids-length}
use Rattle.tables.proofs.Columns.{ids_among, columns_of_rising}
use Rattle.tables.proofs.RowVectors.{elements_over, elements_tick}
use Rattle.tables.proofs.Kept.{kept_all, Climbs, kept_changing, RowAt, kept_at}
use Rattle.tables.proofs.LinkSteps.{planned, planned_below, planned_used, planned_out, row_vector, later_steps, page_steps}

-- the id of a column that has a key
pub ids_get : (P : ℕ → ℕ) (cols : List ℕ) (n : ℕ) → n < length cols → get_or (ids_of P cols) n 0 ≡ P (get_or cols n 0)
unfolding ids_of
ids_get P [] n h = absurd (omega arith)
ids_get P (c ∷ cs) zero h = refl
ids_get P (c ∷ cs) (suc n) h = ids_get P cs n (omega arith)

-- is there a column with the id p
column? : (P : ℕ → ℕ) (p r : ℕ) → ((c : ℕ) × ((c < r) × (P c ≡ p))) ⊎ ((c : ℕ) → c < r → P c ≡ p → ⊥)
column? P p zero = inr (λ c h. absurd (omega arith))
column? P p (suc r) =
    elim (exact? eqb eqb_exact (P r) p) [
      | inl e ↦ inl (r, (omega arith, e))
      | inr d ↦
          ⊎_elim (λ w. inl (w.0, (omega (arith, w.1.0), w.1.1)))
          (λ none. inr (λ c h q. ⊎_elim (λ e. d (ap P (sym e) ∙ q)) (λ n. none c (omega (arith, n)) q) (exact? eqb eqb_exact c r))) (column? P p r)
    ]

-- a key whose column is used by one of the rows is used by one of their vectors
vectors_used : (T : ℕ → ℕ → ℕ) (cols : List ℕ) (key : ℕ) (ks : List ℕ) → key < length cols → used_in T ks (get_or cols key 0) ≡ true
    → Unused key (vectors_in T cols ks) → ⊥
vectors_used T cols key [] h u a = clash (used_in T [] (get_or cols key 0)) u (used-nil T (get_or cols key 0))
vectors_used T cols key (k ∷ ks) h u a =
    let b : Unused key (elements_from (T k) 0 cols ∷ vectors_in T cols ks) = rw vectors_in_cons at a in
    elim (exact? eqb eqb_exact (T k (get_or cols key 0)) 0) [
      | inl z ↦ vectors_used T cols key ks h (sym (used_later T k ks (get_or cols key 0) z) ∙ u) b.1
      | inr z ↦
          let m : Among key (keys (elements_from (T k) 0 cols)) =
          key_tick (elements_from (T k) 0 cols) key (omega (arith, z, elements_tick (T k) cols key h)) in
          absurd (omega (arith, b.0, among_place key (keys (elements_from (T k) 0 cols)) m, keys_length (elements_from (T k) 0 cols)))
    ]

page-map : (P B : ℕ → ℕ) (T : ℕ → ℕ → ℕ) (r n : ℕ) → (page P B T r n).replicas ≡ ids_of P (planned P T r n)
unfolding page page_of planned
page-map P B T r n = refl

module _ (P B : ℕ → ℕ) (T : ℕ → ℕ → ℕ) (r m : ℕ) (f : ℕ → ℕ → ℕ) (s : Sampled P B T r (suc m) f) where
  abbrev cols : List ℕ
  cols = planned P T r (suc m)

  abbrev ids : List ℕ
  ids = ids_of P cols

  abbrev vector : ℕ → List Element
  vector k = row_vector P T r (suc m) k

  abbrev later : List (ℕ × List Element)
  later = later_steps P B T r m

  abbrev plan : Knowledge
  plan = page P B T r (suc m)

  -- Normal form

  later_climb : Climbs B vector 2 m
  later_climb = record {
    rising = λ j h l. let e : suc j ≡ j + 1 = omega arith in subst (λ n. B j < B n) e (s.rising j (omega arith) (omega arith));
    items = λ j h l. s.items j (omega arith) (omega arith);
  }

  later_changing : Changing highest 1 (vector 1) later
  later_changing = kept_changing B vector m 2 1 (vector 1) later_climb (λ h. omega (arith, s.rising 1 (omega arith) (omega arith)))

  map-rising : Rising 0 ids
  unfolding planned
  map-rising = columns_of_rising P T (firsts_of T r (suc m)) r s.distinct

  row_over : (k : ℕ) → VectorOver (length ids) (vector k)
  row_over k = rw (ids-length P cols) (elements_over (T k) cols)

  page_formed : Formed plan
  page_formed =
      subst Formed (sym (page_steps P B T r m f s))
      (formed_indexed ids (rising_distinct 0 ids map-rising) (vector 1) later
      (row_over 1) (kept_all B vector (VectorOver (length ids)) (vector 1) (rows_from 2 m) row_over) later_changing)

  key_used : (key : ℕ) → key < length ids → Unused key (vectors_in T cols (firsts_of T r (suc m))) → ⊥
  key_used key h =
      let l : key < length cols = omega (arith, ids-length P cols) in
      vectors_used T cols key (firsts_of T r (suc m)) l
      (planned_used P T r (suc m) (get_or cols key 0) (among_get cols key l))

  normal-suc : Normal plan
  unfolding page page_of planned
  normal-suc = record { formed = page_formed; rising = map-rising; used = key_used }

  -- Known ticks

  row_at : (i : ℕ) → RowAt B vector 1 m i (vector_at plan i)
  row_at i =
      let e : vector_at plan i ≡ at (vector 1) later i =
      ap (λ k. vector_at k i) (page_steps P B T r m f s) ∙ vector_at-indexed ids ((0, vector 1) ∷ later) i
      ∙ at-ge [] (0, vector 1) later i (omega arith) in
      subst (RowAt B vector 1 m i) (sym e) (kept_at B vector m 1 i (vector 1) later_climb refl (omega (arith, s.first_bound)))

  module _ (i : ℕ) (h : i ≤ highest) (k : ℕ) (from : 1 ≤ k) (upto : k ≤ suc m) (above : B k ≤ i) (below : k < suc m → i < B (suc k)) where
    -- the tick in the row that the item is in
    cell_known : (c : ℕ) → c < r → T k c ≡ f i (P c)
    cell_known c l = s.cells k c from upto l ∙ sym (s.steady k i (P c) from upto above h below)

    known_mapped : (p : ℕ) → vector_at plan i ≡ vector k → Among p ids
        → known plan i p ≡ f i p
    known_mapped p e a =
        let l : place p ids < length ids = among_place p ids a in
        let n : place p ids < length cols = omega (arith, ids-length P cols) in
        let c = get_or cols (place p ids) 0 in
        known_in plan i p (rw (page-map P B T r (suc m)) a)
        ∙ ap₂ (λ v ns. tick_at v (place p ns)) e (page-map P B T r (suc m))
        ∙ elements_tick (T k) cols (place p ids) n
        ∙ cell_known c (planned_below P T r (suc m) c (among_get cols (place p ids) n))
        ∙ ap (f i) (sym (ids_get P cols (place p ids) n) ∙ place_found eqb eqb_exact p 0 ids l)

    unmapped_zero : (p : ℕ) → (Among p ids → ⊥) → f i p ≡ 0
    unmapped_zero p out =
        ⊎_elim
        (λ w.
        ap (f i) (sym w.1.1) ∙ sym (cell_known w.0 w.1.0)
        ∙ planned_out P T r (suc m) k w.0 upto w.1.0
        (λ a. out (subst (λ q. Among q ids) w.1.1 (ids_among P w.0 cols a))))
        (λ none. s.others i p none) (column? P p r)

    known_row : (p : ℕ) → vector_at plan i ≡ vector k → known plan i p ≡ f i p
    known_row p e =
        elim (among? p ids) [
          | inl a ↦ known_mapped p e a
          | inr out ↦ known_out plan i p (λ a. out (rw (page-map P B T r (suc m)) at a)) ∙ sym (unmapped_zero p out)
        ]

  known-suc : (i p : ℕ) → i ≤ highest → known plan i p ≡ f i p
  known-suc i p h =
      let a : RowAt B vector 1 m i (vector_at plan i) = row_at i in
      let e : a.row + 1 ≡ suc a.row = omega arith in
      known_row i h a.row a.from (omega (arith, a.upto)) a.above (λ l. subst (λ n. i < B n) e (a.below (omega arith))) p a.is

module _ (P B : ℕ → ℕ) (T : ℕ → ℕ → ℕ) (r : ℕ) where
  -- a table that samples ticks has a plan in normal form, with these ticks
  pub page_normal : (n : ℕ) (f : ℕ → ℕ → ℕ) → Sampled P B T r n f → Normal (page P B T r n)
  page_normal zero f s = absurd (omega (arith, s.some_row))
  page_normal (suc m) f s = normal-suc P B T r m f s

  pub page_known : (n : ℕ) (f : ℕ → ℕ → ℕ) → Sampled P B T r n f → (i p : ℕ) → i ≤ highest → known (page P B T r n) i p ≡ f i p
  page_known zero f s = absurd (omega (arith, s.some_row))
  page_known (suc m) f s = known-suc P B T r m f s

  module _ (n : ℕ) where
    -- what an operation owes is that its table samples its ticks
    page_is : (f : ℕ → ℕ → ℕ) (k : Knowledge) → Sampled P B T r n f → Normal k → ((i p : ℕ) → i ≤ highest → known k i p ≡ f i p) → page P B T r n ≡ k
    page_is f k s o e = normal_unique (page P B T r n) k (page_normal n f s) o (λ i p h. page_known n f s i p h ∙ sym (e i p h))

    pub page_normalise : (k : Knowledge) → Sampled P B T r n (known k) → page P B T r n ≡ normalise k
    page_normalise k s = page_is (known k) (normalise k) s (normal_normalise k) (known_normalise k)

    pub page_merge : (a b : Knowledge) → Sampled P B T r n (larger a b) → page P B T r n ≡ merge a b
    unfolding larger
    page_merge a b s = page_is (larger a b) (merge a b) s (normal_merge a b) (known_merge a b)

    pub page_project : (first last : ℕ) (k : Knowledge) → Sampled P B T r n (known_inside first last k) → page P B T r n ≡ project first last k
    page_project first last k s =
        page_is (known_inside first last k) (project first last k) s (normal_project first last k) (known_project first last k)

    pub page_raise : (p t : ℕ) (k : Knowledge) → Sampled P B T r n (known_raised p t k) → page P B T r n ≡ raise p t k
    page_raise p t k s = page_is (known_raised p t k) (raise p t k) s (normal_raise p t k) (known_raise p t k)

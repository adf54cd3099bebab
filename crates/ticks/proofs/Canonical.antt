-- The two laws of the one construction. Its ticks are f, where f changes at candidate bounds only and is 0 at other
-- ids; what it gives is a canonical table, with no premise.
use Prim.Native.Nat.{ℕ, suc, ◌≤◌, ◌<◌, ◌^◌}
use mathlib.Core.Path.{◌≡◌, refl, sym, ◌∙◌, ap, ap₂, fun_ext}
use mathlib.Core.Logic.{◌⊎◌, inl, inr, ⊎_elim}
use mathlib.Core.List.{List, [], ◌∷◌}
use native.Mathlib.Omega.{arith}
use Rattle.layout.specs.Knowledge.{All, Rising}
use Rattle.ticks.specs.Meaning.{highest}
use Rattle.ticks.specs.Table.{Row, Table, get, at, eq_row, sorted, within, sample, build, canonical}
use Rattle.ticks.proofs.Lists.{Among, less, same, more, order, among_all, sorted_in, sorted_only, sorted_rising, within_in, within_only, rising_above}
use Rattle.ticks.proofs.Equality.{exact?, exact_yes, exact_no, eq_row_exact}
use Rattle.ticks.proofs.Steps.{Changing, at-nil, at_lt, at-ge, changing_weaken, before_steps, Steady, steady_flat}
use Rattle.ticks.proofs.Rows.{RisingRow, get_sample, sample_row}

pub highest-suc : suc highest ≡ 256 ^ 24
unfolding highest
highest-suc = refl

-- Building

build-nil : (v : Row) (f : ℕ → Row) → build v [] f ≡ []
unfolding build
build-nil v f = refl

build_same : (v : Row) (b : ℕ) (bs : List ℕ) (f : ℕ → Row) → f b ≡ v → build v (b ∷ bs) f ≡ build v bs f
unfolding build
build_same v b bs f e = rw (exact_yes eq_row eq_row_exact (f b) v e, build)

build_new : (v : Row) (b : ℕ) (bs : List ℕ) (f : ℕ → Row) → (f b ≡ v → ⊥) → build v (b ∷ bs) f ≡ (b, f b) ∷ build (f b) bs f
unfolding build
build_new v b bs f n = rw (exact_no eq_row eq_row_exact (f b) v n, build)

-- what is built changes at each bound
pub build_changing : (hi lo : ℕ) (v : Row) (bs : List ℕ) (f : ℕ → Row) → Rising lo bs → All (λ b. b ≤ hi) bs → Changing hi lo v (build v bs f)
build_changing hi lo v [] f r a = rw build-nil tt
build_changing hi lo v (b ∷ bs) f r a =
    elim (exact? eq_row eq_row_exact (f b) v) [
      | inl e ↦
          rw (build_same v b bs f e)
          (changing_weaken hi (suc b) lo v (build v bs f) (omega (arith, r.0)) (build_changing hi (suc b) v bs f r.1 a.1))
      | inr n ↦ rw (build_new v b bs f n) (r.0, (a.0, (n, build_changing hi (suc b) (f b) bs f r.1 a.1)))
    ]

-- and its values are f's, where f changes at the bounds only
pub build_at : (hi lo : ℕ) (v : Row) (bs : List ℕ) (f : ℕ → Row) → Rising (suc lo) bs → All (λ b. b ≤ hi) bs → v ≡ f lo
    → Steady hi lo bs f → (i : ℕ) → lo ≤ i → i ≤ hi → at v (build v bs f) i ≡ f i
build_at hi lo v [] f r a e st i h k =
    ap (λ s. at v s i) (build-nil v f) ∙ at-nil v i ∙ e ∙ sym (steady_flat hi lo [] f st i h k (λ j x y m. m))
build_at hi lo v (b ∷ bs) f r a e st i h k =
    elim (order i b) [
      | less l ↦
          elim (exact? eq_row eq_row_exact (f b) v) [
            | inl q ↦
                ap (λ s. at v s i) (build_same v b bs f q)
                ∙ before_steps hi (suc b) v v (build v bs f) i (build_changing hi (suc b) v bs f r.1 a.1) (omega arith)
                ∙ e ∙ sym (flat l)
            | inr q ↦ ap (λ s. at v s i) (build_new v b bs f q) ∙ at_lt v (b, f b) (build (f b) bs f) i l ∙ e ∙ sym (flat l)
          ]
      | same l ↦ onward (omega arith) (build_at hi b v bs f r.1 a.1) (build_at hi b (f b) bs f r.1 a.1 refl later i (omega arith) k)
      | more l ↦ onward (omega arith) (build_at hi b v bs f r.1 a.1) (build_at hi b (f b) bs f r.1 a.1 refl later i (omega arith) k)
    ]
  where
    flat : i < b → f i ≡ f lo
    flat l = steady_flat hi lo (b ∷ bs) f st i h k (λ j x y m. absurd (omega (arith, rising_above b j (b ∷ bs) (omega arith, r.1) m)))

    later : Steady hi b bs f
    later j x y n = st j (omega (arith, r.0)) y (⊎_elim (λ q. omega arith) n)

    onward : b ≤ i
        → (v ≡ f b → Steady hi b bs f → (i : ℕ) → b ≤ i → i ≤ hi → at v (build v bs f) i ≡ f i)
        → at (f b) (build (f b) bs f) i ≡ f i → at v (build v (b ∷ bs) f) i ≡ f i
    onward l ih ih' =
        elim (exact? eq_row eq_row_exact (f b) v) [
          | inl q ↦ ap (λ s. at v s i) (build_same v b bs f q) ∙ ih (sym q) later i l k
          | inr q ↦ ap (λ s. at v s i) (build_new v b bs f q) ∙ at-ge v (b, f b) (build (f b) bs f) i l ∙ ih'
        ]

-- Tables

-- the tick of a table for an item and a replica
unfoldable pub table_tick : Table → ℕ → ℕ → ℕ
table_tick t i p = get (at t.first t.rest i) p

-- every row of some steps is rising
abbrev pub RisingRows : List (ℕ × Row) → Type 0
RisingRows [] = Unit {0}
RisingRows (e ∷ s) = RisingRow 0 e.1 × RisingRows s

-- rows rising, with ticks of 1 or more; bounds from 1 to the top item id, rising, each row unlike the one before
pub record CanonicalTable (t : Table) : Type 0 where
  pub first_row : RisingRow 0 t.first
  pub rows : RisingRows t.rest
  pub changing : Changing highest 1 t.first t.rest

-- the candidates for bounds
unfoldable pub cuts : List ℕ → List ℕ
cuts bounds = sorted (within 1 highest bounds)

pub cuts_rising : (bounds : List ℕ) → Rising 1 (cuts bounds)
unfolding cuts
cuts_rising bounds = sorted_rising 1 (within 1 highest bounds) (λ x m. (within_only 1 highest x bounds m).above)

pub cuts_top : (bounds : List ℕ) → All (λ b. b ≤ highest) (cuts bounds)
unfolding cuts
cuts_top bounds = among_all (λ b. b ≤ highest) (sorted (within 1 highest bounds)) (λ x m. (within_only 1 highest x bounds (sorted_only x (within 1 highest bounds) m)).below)

pub cuts_in : (bounds : List ℕ) (x : ℕ) → 1 ≤ x → x ≤ highest → Among x bounds → Among x (cuts bounds)
unfolding cuts
cuts_in bounds x h k m = sorted_in x (within 1 highest bounds) (within_in 1 highest x bounds h k m)

module _ (bounds ids : List ℕ) (f : ℕ → ℕ → ℕ) where
  -- the row at an item
  unfoldable pub row_at : ℕ → Row
  row_at i = sample (sorted ids) (f i)

  pub canonical_first : (canonical bounds ids f).first ≡ row_at 0
  unfolding canonical row_at
  canonical_first = refl

  pub canonical_rest : (canonical bounds ids f).rest ≡ build (row_at 0) (cuts bounds) row_at
  unfolding canonical row_at cuts
  canonical_rest = refl

  pub row_rising : (i : ℕ) → RisingRow 0 (row_at i)
  unfolding row_at
  row_rising i = sample_row 0 (sorted ids) (f i) (sorted_rising 0 ids (λ x m. omega arith))

  build_rows : (v : Row) (bs : List ℕ) → RisingRows (build v bs row_at)
  build_rows v [] = rw build-nil tt
  build_rows v (b ∷ bs) =
      elim (exact? eq_row eq_row_exact (row_at b) v) [
        | inl e ↦ rw (build_same v b bs row_at e) (build_rows v bs)
        | inr n ↦ rw (build_new v b bs row_at n) (row_rising b, build_rows (row_at b) bs)
      ]

  pub canonical_table : CanonicalTable (canonical bounds ids f)
  canonical_table = record {
    first_row = rw canonical_first (row_rising 0);
    rows = rw canonical_rest (build_rows (row_at 0) (cuts bounds));
    changing = rw (canonical_first, canonical_rest) (build_changing highest 1 (row_at 0) (cuts bounds) row_at (cuts_rising bounds) (cuts_top bounds));
  }

  -- f changes at the candidate bounds only
  abbrev pub SteadyTicks : Type 0
  SteadyTicks = (i : ℕ) → suc i ≤ highest → (Among (suc i) bounds → ⊥) → (p : ℕ) → f (suc i) p ≡ f i p

  module _ (steady : SteadyTicks) where
    rows_steady : Steady highest 0 (cuts bounds) row_at
    unfolding row_at
    rows_steady i h k n =
        ap (sample (sorted ids)) (fun_ext (λ p. steady i k (λ m. n (cuts_in bounds (suc i) (omega arith) k m)) p))

    pub canonical_row : (i : ℕ) → i ≤ highest → at (canonical bounds ids f).first (canonical bounds ids f).rest i ≡ row_at i
    canonical_row i h =
        ap₂ (λ v s. at v s i) canonical_first canonical_rest
        ∙ build_at highest 0 (row_at 0) (cuts bounds) row_at (cuts_rising bounds) (cuts_top bounds) refl rows_steady i (omega arith) h

    -- the ticks of the table are f
    pub canonical_ticks : (i p : ℕ) → i ≤ highest → Among p ids ⊎ (f i p ≡ 0) → table_tick (canonical bounds ids f) i p ≡ f i p
    unfolding table_tick row_at
    canonical_ticks i p h m =
        ap (λ v. get v p) (canonical_row i h) ∙ get_sample (sorted ids) (f i) p (⊎_elim (λ a. inl (sorted_in p ids a)) (λ z. inr z) m)

-- Rows: a rising row with ticks of 1 or more is known by its ticks, and a sampled row has the ticks sampled.
use Prim.Native.Nat.{ℕ, suc, ◌≤◌, ◌<◌}
use mathlib.Core.Path.{◌≡◌, refl, sym, ◌∙◌, ap, ap₂}
use mathlib.Core.Logic.{◌⊎◌, inl, inr, ⊎_elim}
use mathlib.Core.List.{List, [], ◌∷◌}
use native.Mathlib.Omega.{arith}
use lib.Dec.{eqb}
use borrow.Author.Tests.{eq-eqb, ne_eqb}
use Rattle.layout.specs.Knowledge.{Rising}
use Rattle.ticks.specs.Table.{Row, get, sample}
use Rattle.ticks.proofs.Lists.{Among, less, same, more, order}
use Rattle.ticks.proofs.Equality.{eqb_exact, exact?}

-- ids rising from lo on, ticks 1 or more
abbrev pub RisingRow : ℕ → Row → Type 0
RisingRow lo [] = Unit {0}
RisingRow lo (e ∷ row) = (lo ≤ e.0) × ((1 ≤ e.1) × RisingRow (suc e.0) row)

pub get-nil : (p : ℕ) → get [] p ≡ 0
unfolding get
get-nil p = refl

pub get_same : (e : ℕ × ℕ) (row : Row) (p : ℕ) → e.0 ≡ p → get (e ∷ row) p ≡ e.1
unfolding get
get_same e row p h = rw (eq-eqb e.0 p h, get)

pub get_other : (e : ℕ × ℕ) (row : Row) (p : ℕ) → (e.0 ≡ p → ⊥) → get (e ∷ row) p ≡ get row p
unfolding get
get_other e row p h = rw (ne_eqb e.0 p h, get)

pub get_before : (lo : ℕ) (row : Row) (p : ℕ) → RisingRow lo row → p < lo → get row p ≡ 0
get_before lo [] p r h = get-nil p
get_before lo (e ∷ row) p r h =
    get_other e row p (λ q. omega (arith, r.0)) ∙ get_before (suc e.0) row p r.1.1 (omega (arith, r.0))

pub row_unique : (lo : ℕ) (v w : Row) → RisingRow lo v → RisingRow lo w → ((p : ℕ) → get v p ≡ get w p) → v ≡ w
row_unique lo [] [] r s f = refl
row_unique lo [] (e ∷ w) r s f = absurd (omega (arith, s.1.0, f e.0, get-nil e.0, get_same e w e.0 refl))
row_unique lo (e ∷ v) [] r s f = absurd (omega (arith, r.1.0, f e.0, get-nil e.0, get_same e v e.0 refl))
row_unique lo (e ∷ v) (g ∷ w) r s f =
    elim (order e.0 g.0) [
      | less k ↦ absurd (omega (arith, r.1.0, f e.0, get_same e v e.0 refl, get_before g.0 (g ∷ w) e.0 (omega arith, s.1) k))
      | more k ↦ absurd (omega (arith, s.1.0, f g.0, get_same g w g.0 refl, get_before e.0 (e ∷ v) g.0 (omega arith, r.1) k))
      | same k ↦
          let q : e.1 ≡ g.1 = sym (get_same e v e.0 refl) ∙ f e.0 ∙ get_same g w e.0 (sym k) in
          ap₂ (λ z zs. z ∷ zs) (λ i. (k i, q i))
          (row_unique (suc e.0) v w r.1.1 (rw k s.1.1)
          (λ p.
          elim (exact? eqb eqb_exact e.0 p) [
            | inl j ↦
                get_before (suc e.0) v p r.1.1 (omega arith)
                ∙ sym (get_before (suc g.0) w p s.1.1 (omega arith))
            | inr j ↦ sym (get_other e v p j) ∙ f p ∙ get_other g w p (λ l. j (k ∙ l))
          ]))
    ]

pub sample-nil : (g : ℕ → ℕ) → sample [] g ≡ []
unfolding sample
sample-nil g = refl

pub sample-zero : (p : ℕ) (ps : List ℕ) (g : ℕ → ℕ) → g p ≡ 0 → sample (p ∷ ps) g ≡ sample ps g
unfolding sample
sample-zero p ps g h = rw (eq-eqb (g p) 0 h, sample)

pub sample_some : (p : ℕ) (ps : List ℕ) (g : ℕ → ℕ) → (g p ≡ 0 → ⊥) → sample (p ∷ ps) g ≡ (p, g p) ∷ sample ps g
unfolding sample
sample_some p ps g h = rw (ne_eqb (g p) 0 h, sample)

-- the ticks of a sampled row are those sampled, of an id among the candidates or with no tick
pub get_sample : (ps : List ℕ) (g : ℕ → ℕ) (p : ℕ) → Among p ps ⊎ (g p ≡ 0) → get (sample ps g) p ≡ g p
get_sample [] g p (inl m) = absurd m
get_sample [] g p (inr z) = ap (λ v. get v p) (sample-nil g) ∙ get-nil p ∙ sym z
get_sample (q ∷ ps) g p m =
    elim (exact? eqb eqb_exact (g q) 0) [
      | inl z ↦
          ap (λ v. get v p) (sample-zero q ps g z)
          ∙ get_sample ps g p (⊎_elim (⊎_elim (λ e. inr (ap g e ∙ z)) (λ n. inl n)) (λ y. inr y) m)
      | inr z ↦
          ap (λ v. get v p) (sample_some q ps g z)
          ∙ (elim (exact? eqb eqb_exact q p) [
            | inl e ↦ get_same (q, g q) (sample ps g) p e ∙ ap g e
            | inr e ↦
                get_other (q, g q) (sample ps g) p e
                ∙ get_sample ps g p (⊎_elim (⊎_elim (λ f. absurd (e (sym f))) (λ n. inl n)) (λ y. inr y) m)
          ])
    ]

pub sample_row : (lo : ℕ) (ps : List ℕ) (g : ℕ → ℕ) → Rising lo ps → RisingRow lo (sample ps g)
sample_row lo [] g r = rw sample-nil tt
sample_row lo (p ∷ ps) g r =
    elim (exact? eqb eqb_exact (g p) 0) [
      | inl z ↦ rw (sample-zero p ps g z) (row_weaken (suc p) lo (sample ps g) (omega (arith, r.0)) (sample_row (suc p) ps g r.1))
      | inr z ↦ rw (sample_some p ps g z) (r.0, (omega (arith, z), sample_row (suc p) ps g r.1))
    ]
  where
    row_weaken : (lo lo' : ℕ) (row : Row) → lo' ≤ lo → RisingRow lo row → RisingRow lo' row
    row_weaken lo lo' [] h r = tt
    row_weaken lo lo' (e ∷ row) h r = (omega (arith, r.0), r.1)

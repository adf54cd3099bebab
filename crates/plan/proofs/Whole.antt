-- The plan from its parts, and the tables that get one.
use Rattle.std.proofs.Common.{◌≡◌, ℕ, ◌+◌, ◌<◌, ◌≤◌, true, leb, ltb, List, length, take, sym, ap, ◌∙◌, ap₂, arith, lt-ltb, le-leb, leb-true, ltb-true}
use Rattle.std.proofs.lemmas.Bool.{and_parts}
use Rattle.tables.specs.declared.Sizes.{Sizes}
use Rattle.tables.specs.MethodWords.{stride, most_rows}
use Rattle.tables.specs.MethodPlan.{firsts_of, numbers_of, columns_of, element_count, range_count, sizes_of, Plans}
use Rattle.plan.specs.Method.{Front, Numbered, fits, no_sizes}
use Rattle.plan.proofs.Fronts.{numbers_front, front_length, front_over, front_as}

abbrev counts : ℕ → ℕ → ℕ → ℕ → Sizes
counts m v e g = record { replicas = m; vectors = v; elements = e; ranges = g }

-- The plan from its parts

module _ (P : ℕ → ℕ) (T : ℕ → ℕ → ℕ) (r n : ℕ) (c f x c' f' x' : List ℕ) (m v e g : ℕ) (h : Numbered T r n f x f' x' v)
    (q : Front (columns_of P T r (take v f')) c c' m) (k : e ≡ element_count T (take m c') (take v f'))
    (l : g ≡ range_count (length (take n x') + 1) (take n x')) where
  distinct : take v f' ≡ firsts_of T r n
  distinct = sym (numbers_front f' v (omega (arith, h.firsts.size, h.firsts.room))) ∙ h.firsts.is

  numbered : take n x' ≡ numbers_of T r n
  numbered = sym (numbers_front x' n (omega (arith, h.numbers.size, h.numbers.room))) ∙ h.numbers.is

  chosen : Front (columns_of P T r (firsts_of T r n)) c c' m
  chosen =
      front_as (columns_of P T r (take v f')) (columns_of P T r (firsts_of T r n)) c c' m q (ap (columns_of P T r) distinct)

  planned : counts m v e g ≡ sizes_of T (columns_of P T r (firsts_of T r n)) (firsts_of T r n) (numbers_of T r n)
  unfolding sizes_of
  planned =
      ap₂ (λ x y. counts x y e g)
      (sym (front_length (columns_of P T r (firsts_of T r n)) c c' m chosen))
      (sym (front_length (firsts_of T r n) f f' v h.firsts))
      ∙ ap₂ (counts (length (columns_of P T r (firsts_of T r n))) (length (firsts_of T r n)))
      (k
      ∙ ap₂ (element_count T) (sym (numbers_front c' m (omega (arith, chosen.size, chosen.room))) ∙ chosen.is) distinct)
      (l ∙ ap (λ ns. range_count (length ns + 1) ns) numbered)

  pub plans : Plans P T r n c f x c' f' x' (record { replicas = m; vectors = v; elements = e; ranges = g })
  plans = record {
    sizes = planned;
    columns = front_over (columns_of P T r (firsts_of T r n)) c c' m chosen;
    firsts = front_over (firsts_of T r n) f f' v h.firsts;
    numbers = front_over (numbers_of T r n) x x' n h.numbers;
  }

-- The tables that get a plan

pub record Fits (r n c f x : ℕ) : Type 0 where
  pub columns : r ≤ stride
  pub rows : n < most_rows
  pub to_columns : r ≤ c
  pub to_firsts : n < f
  pub to_numbers : n ≤ x

-- what the test tells where it holds, and where it does
pub fits_tells : (r n c f x : ℕ) → fits r n c f x ≡ true → Fits r n c f x
unfolding fits
fits_tells r n c f x e =
    let a = and_parts (leb r stride) _ e in
    let b = and_parts (ltb n most_rows) _ a.1 in
    let d = and_parts (leb r c) _ b.1 in
    let g = and_parts (ltb n f) _ d.1 in
    record {
      columns = leb-true r stride a.0;
      rows = ltb-true n most_rows b.0;
      to_columns = leb-true r c d.0;
      to_firsts = ltb-true n f g.0;
      to_numbers = leb-true n x g.1;
    }

pub fits_holds : (r n c f x : ℕ) → Fits r n c f x → fits r n c f x ≡ true
unfolding fits
fits_holds r n c f x h =
    rw (le-leb r stride h.columns, lt-ltb n most_rows h.rows, le-leb r c h.to_columns, lt-ltb n f h.to_firsts, le-leb n x h.to_numbers, fits)

-- no plan

pub no_sizes_lem : (z : Sizes) → z.replicas ≡ 0 → z.vectors ≡ 0 → z.elements ≡ 0 → z.ranges ≡ 0 → z ≡ no_sizes
unfolding no_sizes
no_sizes_lem z a b c d = ap₂ (λ m v. counts m v z.elements z.ranges) a b ∙ ap₂ (counts 0 0) c d

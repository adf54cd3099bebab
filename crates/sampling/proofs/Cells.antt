-- The cells of a row that the elements of a clock vector raise. Two elements of a vector have different keys, and two keys of a
-- map different columns, since no two columns have the same id; so each cell is raised at most once, by the element of its
-- column's replica, and where there is none the known tick is 0, which raises nothing. Other rows have other places.
use Prim.Native.Nat.{ℕ, zero, suc, max, ◌+◌, ◌-◌, ◌*◌, ◌≤◌, ◌<◌}
use mathlib.Core.Path.{◌≡◌, refl, sym, ap, ap₂, ◌∙◌}
use mathlib.Core.Logic.{inl, inr}
use mathlib.Core.List.{List, [], ◌∷◌}
use native.Mathlib.Omega.{arith}
use lib.ListN.{length, get_or, set, length-set}
use lib.Seq.{get_or-set_same, get_or-set_other}
use lib.Dec.{eqb}
use Rattle.codec.specs.Number.{be_at}
use Rattle.layout.specs.Knowledge.{Rules, Element, Knowledge, All, Distinct, Lawful, keys}
use Rattle.layout.specs.Decode.{elements_at}
use Rattle.ticks.specs.Meaning.{known, place, tick_at, vector_at}
use Rattle.ticks.proofs.Equality.{exact?, eqb_exact, place_found}
use Rattle.ticks.proofs.Unique.{place_own}
use Rattle.ticks.proofs.Vectors.{tick-nil, tick_same, tick_other}
use Rattle.ticks.proofs.ForCode.{each_in, in_all, keys_below_lem, keys_once_lem, known_place}
use Rattle.tables.specs.MethodWords.{stride, cell}
use Rattle.loading.specs.Method.{Unlike, Columns}
use Rattle.lookup.specs.Method.{There, element_at, elements_here}
use Rattle.lookup.proofs.Loops.{here_is, elements-zero, elements-cons}
use Rattle.sampling.specs.MethodCells.{raised_to, raised_in, raised_by}

-- a key of a clock vector has a column of a row
abbrev pub InRow : List ℕ → Element → Type 0
InRow keys x = (x.key.0 < length keys) × (get_or keys x.key.0 0 < stride)

-- One cell

raised_size : (t : List ℕ) (i x : ℕ) → length (raised_to t i x) ≡ length t
unfolding raised_to
raised_size t i x = length-set t i (max (get_or t i 0) x)

raised_same : (t : List ℕ) (i x j : ℕ) → i ≡ j → j < length t → get_or (raised_to t i x) j 0 ≡ max (get_or t j 0) x
unfolding raised_to
raised_same t i x j e h =
    rw e (get_or-set_same t j (max (get_or t j 0) x) 0 h)

raised_other : (t : List ℕ) (i x j : ℕ) → (j ≡ i → ⊥) → get_or (raised_to t i x) j 0 ≡ get_or t j 0
unfolding raised_to
raised_other t i x j n = get_or-set_other t i j (max (get_or t i 0) x) 0 n

-- The elements of a vector

by_nil : (cols t : List ℕ) (k : ℕ) → raised_by cols [] t k ≡ t
unfolding raised_by
by_nil cols t k = refl

by_cons : (cols : List ℕ) (x : Element) (xs : List Element) (t : List ℕ) (k : ℕ)
    → raised_by cols (x ∷ xs) t k ≡ raised_by cols xs (raised_to t (stride * k + get_or cols x.key.0 0) x.tick) k
unfolding raised_by raised_in
by_cons cols x xs t k = refl

by_one : (cols : List ℕ) (x : Element) (xs : List Element) (t : List ℕ) (k : ℕ)
    → raised_by cols (x ∷ xs) t k ≡ raised_by cols xs (raised_in cols t k x.key.0 x.tick) k
unfolding raised_by
by_one cols x xs t k = refl

pub by_size : (cols : List ℕ) (es : List Element) (t : List ℕ) (k : ℕ) → length (raised_by cols es t k) ≡ length t
by_size cols [] t k = ap length (by_nil cols t k)
by_size cols (x ∷ xs) t k =
    let i = stride * k + get_or cols x.key.0 0 in
    ap length (by_cons cols x xs t k) ∙ by_size cols xs (raised_to t i x.tick) k ∙ raised_size t i x.tick

-- an element stands in column c just where its key is the given one
record Meets (cols : List ℕ) (key c : ℕ) (x : Element) : Type 0 where
  there : get_or cols x.key.0 0 ≡ c → x.key.0 ≡ key
  back : x.key.0 ≡ key → get_or cols x.key.0 0 ≡ c

-- a key that no element has
none_left : (key : ℕ) (xs : List Element) → All (λ y. key ≡ y → ⊥) (keys xs) → tick_at xs key ≡ 0
unfolding keys
none_left key [] a = tick-nil key
none_left key (x ∷ xs) a = tick_other x xs key (λ e. a.0 (sym e)) ∙ none_left key xs a.1

by_cell : (cols : List ℕ) (es : List Element) (t : List ℕ) (k c key : ℕ) → Distinct (keys es) → All (Meets cols key c) es
    → stride * k + c < length t
    → get_or (raised_by cols es t k) (stride * k + c) 0 ≡ max (get_or t (stride * k + c) 0) (tick_at es key)
unfolding keys
by_cell cols [] t k c key d a h =
    let p = stride * k + c in
    ap (λ (u : List ℕ). get_or u p 0) (by_nil cols t k) ∙ omega (arith, tick-nil key)
by_cell cols (x ∷ xs) t k c key d a h =
    let p = stride * k + c in
    let i = stride * k + get_or cols x.key.0 0 in
    let u = raised_to t i x.tick in
    let rest : get_or (raised_by cols (x ∷ xs) t k) p 0 ≡ max (get_or u p 0) (tick_at xs key) =
    ap (λ (w : List ℕ). get_or w p 0) (by_cons cols x xs t k)
    ∙ by_cell cols xs u k c key d.1 a.1 (omega (arith, raised_size t i x.tick)) in
    elim (exact? eqb eqb_exact x.key.0 key) [
      | inl e ↦
          let q : i ≡ p = omega (arith, a.0.back e) in
          let z : tick_at xs key ≡ 0 = ap (tick_at xs) (sym e) ∙ none_left x.key.0 xs d.0 in
          omega (arith, rest, raised_same t i x.tick p q h, z, tick_same x xs key e)
      | inr n ↦
          let q : p ≡ i → ⊥ = λ f. n (a.0.there (omega (arith, f))) in
          omega (arith, rest, raised_other t i x.tick p q, tick_other x xs key n)
    ]

-- a place that no element has
by_other : (cols : List ℕ) (es : List Element) (t : List ℕ) (k p : ℕ)
    → All (λ x. p ≡ stride * k + get_or cols x.key.0 0 → ⊥) es → get_or (raised_by cols es t k) p 0 ≡ get_or t p 0
by_other cols [] t k p a = ap (λ (u : List ℕ). get_or u p 0) (by_nil cols t k)
by_other cols (x ∷ xs) t k p a =
    let i = stride * k + get_or cols x.key.0 0 in
    ap (λ (u : List ℕ). get_or u p 0) (by_cons cols x xs t k) ∙ by_other cols xs (raised_to t i x.tick) k p a.1
    ∙ raised_other t i x.tick p a.0

-- another row
pub by_row : (cols : List ℕ) (es : List Element) (t : List ℕ) (k j c : ℕ) → All (InRow cols) es → (j ≡ k → ⊥) → c < stride
    → cell (raised_by cols es t k) j c ≡ cell t j c
unfolding cell
by_row cols es t k j c a n l =
    by_other cols es t k (stride * j + c)
    (each_in (λ x. stride * j + c ≡ stride * k + get_or cols x.key.0 0 → ⊥) es
    (λ x m e.
    let q : get_or cols x.key.0 0 < stride = (in_all (InRow cols) es a x m).1 in
    n (omega arith)))

-- The row of an item

module _ (R : Rules) (a : Knowledge) (lawful : Lawful R a) (i : ℕ) (P : ℕ → ℕ) (n : ℕ) (cols : List ℕ)
    (columns : Columns P n a.replicas cols) (unlike : Unlike P n) (most : n ≤ stride) where
  -- the key of a column's replica
  meets : (c : ℕ) → c < n → (x : Element) → x.key.0 < length a.replicas → Meets cols (place (P c) a.replicas) c x
  meets c l x h =
      let key = x.key.0 in
      let own : P (get_or cols key 0) ≡ get_or a.replicas key 0 = columns.is key h in
      record {
        there = λ e. sym (ap (λ p. place p a.replicas) (ap P (sym e) ∙ own) ∙ place_own a.replicas key lawful.distinct h);
        back = λ e.
            unlike.is (get_or cols key 0) c (columns.below key h) l
            (own ∙ ap (λ (m : ℕ). get_or a.replicas m 0) e
            ∙ place_found eqb eqb_exact (P c) 0 a.replicas (omega (arith, e)));
      }

  pub row_cell : (t : List ℕ) (k c : ℕ) → stride * (k + 1) ≤ length t → c < n
      → cell (raised_by cols (vector_at a i) t k) k c ≡ max (cell t k c) (known a i (P c))
  unfolding cell
  row_cell t k c h l =
      let es = vector_at a i in
      let below = keys_below_lem R a lawful i in
      by_cell cols es t k c (place (P c) a.replicas) (keys_once_lem R a lawful i)
      (each_in (Meets cols (place (P c) a.replicas) c) es
      (λ x m. meets c l x (in_all (λ y. y.key.0 < length a.replicas) es below x m)))
      (omega arith)
      ∙ ap (max (get_or t (stride * k + c) 0)) (sym (known_place R a lawful i (P c)))

-- the elements of an item's vector have columns in a row
pub row_columns : (R : Rules) (a : Knowledge) → Lawful R a → (i : ℕ) (cols : List ℕ) → length a.replicas ≤ length cols
    → ((j : ℕ) → j < length a.replicas → get_or cols j 0 < stride) → All (InRow cols) (vector_at a i)
row_columns R a lawful i cols h f =
    each_in (InRow cols) (vector_at a i)
    (λ x m.
    let l : x.key.0 < length a.replicas =
    in_all (λ y. y.key.0 < length a.replicas) (vector_at a i) (keys_below_lem R a lawful i) x m in
    (omega arith, f x.key.0 l))

-- One cell, as code raises it

set_past : (t : List ℕ) (i x : ℕ) → length t ≤ i → set t i x ≡ t
set_past [] i x h = refl
set_past (y ∷ t) zero x h = absurd (omega arith)
set_past (y ∷ t) (suc i) x h = ap (λ (u : List ℕ). y ∷ u) (set_past t i x (omega arith))

get_past : (l : List ℕ) (i : ℕ) → length l ≤ i → get_or l i 0 ≡ 0
get_past [] i h = refl
get_past (y ∷ l) zero h = absurd (omega arith)
get_past (y ∷ l) (suc i) h = get_past l i (omega arith)

-- the column of a key is 0 past the end of the keys
pub column_none : (keys : List ℕ) (key : ℕ) → length keys ≤ key → 0 ≡ get_or keys key 0
column_none keys key h = sym (get_past keys key h)

module _ (keys t : List ℕ) (k key tick c : ℕ) (e : c ≡ get_or keys key 0) where
  pub raised_past : length t ≤ stride * k + c → t ≡ raised_in keys t k key tick
  unfolding raised_in raised_to
  raised_past h =
      let i = stride * k + get_or keys key 0 in
      sym (set_past t i (max (get_or t i 0) tick) (omega arith))

  pub raised_is : (y : ℕ) → y ≡ max (get_or t (stride * k + c) 0) tick → set t (stride * k + c) y ≡ raised_in keys t k key tick
  unfolding raised_in raised_to
  raised_is y f = rw (f, e)

-- The loop over the elements of a vector

-- the whole row is what the elements after the first i raise
pub record Rest (whole s : List ℕ) (vector n i : ℕ) (cols t : List ℕ) (k : ℕ) : Type 0 where
  pub is : whole ≡ raised_by cols (elements_at s (n - i) (vector + 8 + 12 * i)) t k
  pub there : i < n → vector + 8 + 12 * n ≤ length s

pub rest_starts : (s : List ℕ) (n vector : ℕ) (cols t : List ℕ) (k : ℕ) → There s vector n
    → Rest (raised_by cols (elements_here s vector) t k) s vector n 0 cols t k
rest_starts s n vector cols t k h =
    let z : n ≡ n - 0 = omega arith in
    let p : vector + 8 ≡ vector + 8 + 12 * 0 = omega arith in
    let e : elements_here s vector ≡ elements_at s (n - 0) (vector + 8 + 12 * 0) =
    here_is s vector n h ∙ ap₂ (λ m a. elements_at s m a) z p in
    record { is = ap (λ es. raised_by cols es t k) e; there = λ l. omega (arith, h.room (omega arith)) }

module _ (whole s : List ℕ) (vector n i : ℕ) (cols t : List ℕ) (k : ℕ) (h : Rest whole s vector n i cols t k) where
  pub rest_ends : n ≤ i → t ≡ whole
  rest_ends l =
      sym (h.is ∙ ap (λ es. raised_by cols es t k) (elements-zero s (n - i) (vector + 8 + 12 * i) (omega arith)) ∙ by_nil cols t k)

  module _ (l : i < n) where
    pub rest_room : vector + 8 + 12 * i + 12 ≤ length s
    rest_room = omega (arith, h.there l)

    first : elements_at s (n - i) (vector + 8 + 12 * i)
        ≡ element_at s (vector + 8 + 12 * i) ∷ elements_at s (n - (i + 1)) (vector + 8 + 12 * (i + 1))
    first =
        let z : n - i - 1 ≡ n - (i + 1) = omega arith in
        let p : vector + 8 + 12 * i + 12 ≡ vector + 8 + 12 * (i + 1) = omega arith in
        elements-cons s (n - i) (vector + 8 + 12 * i) (omega arith)
        ∙ ap₂ (λ m q. element_at s (vector + 8 + 12 * i) ∷ elements_at s m q) z p

    pub rest_next : (key tick : ℕ) (u : List ℕ) → key ≡ be_at s 4 (vector + 8 + 12 * i) → tick ≡ be_at s 8 (vector + 8 + 12 * i + 4)
        → u ≡ raised_in cols t k key tick → Rest whole s vector n (i + 1) cols u k
    rest_next key tick u e g d =
        let es = elements_at s (n - (i + 1)) (vector + 8 + 12 * (i + 1)) in
        record {
          is = h.is ∙ ap (λ es. raised_by cols es t k) first ∙ by_one cols (element_at s (vector + 8 + 12 * i)) es t k
              ∙ ap (λ w. raised_by cols es w k) (sym (d ∙ ap₂ (raised_in cols t k) e g));
          there = λ m. h.there l;
        }

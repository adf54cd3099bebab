-- What the tests of the method say: each is passed exactly where its condition holds. They walk the lists of ids, elements,
-- vectors and ranges from the front, so each law is an induction over its list. A key has a mark at the end exactly where some
-- vector uses it, since marks are set and never taken away.
use Rattle.std.proofs.Common.{◌≡◌, ℕ, zero, suc, ◌+◌, ◌<◌, ◌≤◌, max, Bool, true, false, eqb, ltb, leb, List, [], ◌∷◌, length, get_or, set, sym, refl, ap, ◌∙◌, inl, inr, arith, length-set, get_or-set_other, get_or-set_same, ltb-true, lt-ltb, eq-eqb, ne_eqb, eqb-true, le-leb, leb-true}
use borrow.Author.Tests.{eqb-false}
use Rattle.codec.specs.Number.{be_at}
use Rattle.layout.specs.Knowledge.{Element, Range, All, Rising, keys}
use Rattle.layout.specs.Decode.{ids_at}
use Rattle.ticks.specs.Meaning.{place, indices, Unused}
use Rattle.ticks.specs.Written.{eq_vector}
use Rattle.ticks.proofs.Lists.{Among, less, same, more, order}
use Rattle.ticks.proofs.Equality.{clash, exact?, exact_yes, exact_no, eqb_exact, eq_vector_exact}
use Rattle.ticks.proofs.FirstUse.{FirstUse}
use Rattle.ticks.proofs.Vectors.{keys_length}
use Rattle.ticks.proofs.Written.{among_place}
use Rattle.ticks.proofs.Used.{used_get}
use Rattle.normal_form.specs.MethodNormal.{ids_rise, in_order, marked, marked_by, keys_marked, each_in_order, unlike, apart, used_in_order}

-- Two tests in a row: the first must hold, or must not

pub both : (s t : Bool) → elim s [ true ↦ t | false ↦ false ] ≡ true → (s ≡ true) × (t ≡ true)
both true t e = (refl, e)
both false t e = clash false e refl

pub both_yes : (s t : Bool) → s ≡ true → t ≡ true → elim s [ true ↦ t | false ↦ false ] ≡ true
both_yes true t e f = f
both_yes false t e f = clash false e refl

unless : (s t : Bool) → elim s [ true ↦ false | false ↦ t ] ≡ true → (s ≡ false) × (t ≡ true)
unless true t e = clash false e refl
unless false t e = (refl, e)

unless_yes : (s t : Bool) → s ≡ false → t ≡ true → elim s [ true ↦ false | false ↦ t ] ≡ true
unless_yes true t e f = clash true refl e
unless_yes false t e f = f

-- The replica ids

pub ids_rise_lem : (s : List ℕ) (n at lo : ℕ) → lo ≤ be_at s 16 at → ids_rise s n at ≡ true → Rising lo (ids_at s (suc n) at)
unfolding ids_at ids_rise
ids_rise_lem s zero at lo h e = (h, tt)
ids_rise_lem s (suc n) at lo h e =
    let p = both (ltb (be_at s 16 at) (be_at s 16 (at + 16))) (ids_rise s n (at + 16)) e in
    let l : be_at s 16 at < be_at s 16 (at + 16) = ltb-true (be_at s 16 at) (be_at s 16 (at + 16)) p.0 in
    (h, ids_rise_lem s n (at + 16) (suc (be_at s 16 at)) (omega arith) p.1)

pub rise_ids : (s : List ℕ) (n at lo : ℕ) → Rising lo (ids_at s (suc n) at) → ids_rise s n at ≡ true
unfolding ids_at ids_rise
rise_ids s zero at lo r = refl
rise_ids s (suc n) at lo r =
    both_yes (ltb (be_at s 16 at) (be_at s 16 (at + 16))) (ids_rise s n (at + 16))
    (lt-ltb (be_at s 16 at) (be_at s 16 (at + 16)) (omega (arith, r.1.0)))
    (rise_ids s n (at + 16) (suc (be_at s 16 at)) r.1)

-- The elements of a vector

module _ (r : ℕ) where
  order_rising : (lo : ℕ) (es : List Element) → in_order r lo es ≡ true → Rising lo (keys es)
  unfolding in_order keys
  order_rising lo [] e = tt
  order_rising lo (x ∷ xs) e =
      let p = both (leb lo x.key.0) _ e in
      let q = both (ltb x.key.0 r) _ p.1 in
      let t = both (leb 1 x.tick) (in_order r (suc x.key.0) xs) q.1 in
      (leb-true lo x.key.0 p.0, order_rising (suc x.key.0) xs t.1)

  order_ticks : (lo : ℕ) (es : List Element) → in_order r lo es ≡ true → All (λ x. 1 ≤ x.tick) es
  unfolding in_order
  order_ticks lo [] e = tt
  order_ticks lo (x ∷ xs) e =
      let p = both (leb lo x.key.0) _ e in
      let q = both (ltb x.key.0 r) _ p.1 in
      let t = both (leb 1 x.tick) (in_order r (suc x.key.0) xs) q.1 in
      (leb-true 1 x.tick t.0, order_ticks (suc x.key.0) xs t.1)

  in_order_lem : (lo : ℕ) (es : List Element) → Rising lo (keys es) → All (λ x. 1 ≤ x.tick) es → All (λ x. x.key.0 < r) es
      → in_order r lo es ≡ true
  unfolding in_order keys
  in_order_lem lo [] u a b = refl
  in_order_lem lo (x ∷ xs) u a b =
      both_yes (leb lo x.key.0) _ (le-leb lo x.key.0 u.0)
      (both_yes (ltb x.key.0 r) _ (lt-ltb x.key.0 r b.0)
      (both_yes (leb 1 x.tick) _ (le-leb 1 x.tick a.0) (in_order_lem (suc x.key.0) xs u.1 a.1 b.1)))

  -- each vector, not empty and in order
  pub record InOrder (vs : List (List Element)) : Type 0 where
    pub elements : All (λ es. Rising 0 (keys es)) vs
    pub ticks : All (All (λ x. 1 ≤ x.tick)) vs
    pub not_empty : All (λ es. 1 ≤ length es) vs

  pub each_order : (vs : List (List Element)) → each_in_order r vs ≡ true → InOrder vs
  unfolding each_in_order
  each_order [] e = record { elements = tt; ticks = tt; not_empty = tt }
  each_order (es ∷ vs) e =
      let p = both (leb 1 (length es)) _ e in
      let q = both (in_order r 0 es) (each_in_order r vs) p.1 in
      let i = each_order vs q.1 in
      record {
        elements = (order_rising 0 es q.0, i.elements);
        ticks = (order_ticks 0 es q.0, i.ticks);
        not_empty = (leb-true 1 (length es) p.0, i.not_empty);
      }

  pub order_each : (vs : List (List Element)) → InOrder vs → All (All (λ x. x.key.0 < r)) vs → each_in_order r vs ≡ true
  unfolding each_in_order
  order_each [] i b = refl
  order_each (es ∷ vs) i b =
      both_yes (leb 1 (length es)) _ (le-leb 1 (length es) i.not_empty.0)
      (both_yes (in_order r 0 es) (each_in_order r vs) (in_order_lem 0 es i.elements.0 i.ticks.0 b.0)
      (order_each vs (record { elements = i.elements.1; ticks = i.ticks.1; not_empty = i.not_empty.1 }) b.1))

-- Marks

pub marked-length : (marks : List Bool) (es : List Element) → length (marked marks es) ≡ length marks
unfolding marked
marked-length marks [] = refl
marked-length marks (x ∷ xs) = marked-length (set marks x.key.0 true) xs ∙ length-set marks x.key.0 true

-- a key that is not used keeps what it had
marked_other : (marks : List Bool) (es : List Element) (y : ℕ) → (Among y (keys es) → ⊥)
    → get_or (marked marks es) y false ≡ get_or marks y false
unfolding marked keys
marked_other marks [] y n = refl
marked_other marks (x ∷ xs) y n =
    marked_other (set marks x.key.0 true) xs y (λ m. n (inr m))
    ∙ get_or-set_other marks x.key.0 y true false (λ e. n (inl e))

no_key : (es : List Element) (y : ℕ) → place y (keys es) ≡ length es → Among y (keys es) → ⊥
no_key es y e m = omega (arith, among_place y (keys es) m, keys_length es)

unused_mark : (marks : List Bool) (vs : List (List Element)) (y : ℕ) → Unused y vs → get_or (marked_by marks vs) y false ≡ get_or marks y false
unfolding marked_by
unused_mark marks [] y u = refl
unused_mark marks (es ∷ vs) y u =
    unused_mark (marked marks es) vs y u.1 ∙ marked_other marks es y (no_key es y u.0)

-- a mark stays, and a key that is used gets one
mark_stays : (marks : List Bool) (k y : ℕ) → y < length marks → get_or marks y false ≡ true → get_or (set marks k true) y false ≡ true
mark_stays marks k y h m =
    elim (exact? eqb eqb_exact y k) [
      | inl e ↦
          ap (λ (z : ℕ). get_or (set marks k true) z false) e
          ∙ get_or-set_same marks k true false (omega arith)
      | inr n ↦ get_or-set_other marks k y true false n ∙ m
    ]

marked_stays : (marks : List Bool) (es : List Element) (y : ℕ) → y < length marks → get_or marks y false ≡ true
    → get_or (marked marks es) y false ≡ true
unfolding marked
marked_stays marks [] y h m = m
marked_stays marks (x ∷ xs) y h m =
    marked_stays (set marks x.key.0 true) xs y (omega (arith, length-set marks x.key.0 true))
    (mark_stays marks x.key.0 y h m)

marked_new : (marks : List Bool) (es : List Element) (y : ℕ) → y < length marks → Among y (keys es) → get_or (marked marks es) y false ≡ true
unfolding marked keys
marked_new marks [] y h m = absurd m
marked_new marks (x ∷ xs) y h (inl e) =
    marked_stays (set marks x.key.0 true) xs y (omega (arith, length-set marks x.key.0 true))
    (ap (λ (z : ℕ). get_or (set marks x.key.0 true) z false) e
    ∙ get_or-set_same marks x.key.0 true false (omega (arith, e)))
marked_new marks (x ∷ xs) y h (inr m) =
    marked_new (set marks x.key.0 true) xs y (omega (arith, length-set marks x.key.0 true)) m

all_stays : (marks : List Bool) (vs : List (List Element)) (y : ℕ) → y < length marks → get_or marks y false ≡ true
    → get_or (marked_by marks vs) y false ≡ true
unfolding marked_by
all_stays marks [] y h m = m
all_stays marks (es ∷ vs) y h m =
    all_stays (marked marks es) vs y (omega (arith, marked-length marks es)) (marked_stays marks es y h m)

used_marked : (marks : List Bool) (vs : List (List Element)) (y n : ℕ) → y < length marks → n < length vs
    → Among y (keys (get_or vs n [])) → get_or (marked_by marks vs) y false ≡ true
unfolding marked_by
used_marked marks [] y n h l m = absurd (omega arith)
used_marked marks (es ∷ vs) y zero h l m =
    all_stays (marked marks es) vs y (omega (arith, marked-length marks es)) (marked_new marks es y h m)
used_marked marks (es ∷ vs) y (suc n) h l m =
    used_marked (marked marks es) vs y n (omega (arith, marked-length marks es)) (omega arith) m

pub used_mark : (marks : List Bool) (vs : List (List Element)) (y : ℕ) → y < length marks → (Unused y vs → ⊥)
    → get_or (marked_by marks vs) y false ≡ true
used_mark marks vs y h u = let w = used_get y vs u in used_marked marks vs y w.0 h w.1.0 w.1.1

-- where there was no mark, a key with one is used
pub mark_used : (marks : List Bool) (vs : List (List Element)) (y : ℕ) → get_or marks y false ≡ false → get_or (marked_by marks vs) y false ≡ true
    → Unused y vs → ⊥
mark_used marks vs y z m u = clash (get_or (marked_by marks vs) y false) m (unused_mark marks vs y u ∙ z)

pub keys_marked_lem : (marks : List Bool) (n k : ℕ) → keys_marked marks n k ≡ true → (y : ℕ) → k ≤ y → y < k + n → get_or marks y false ≡ true
unfolding keys_marked
keys_marked_lem marks zero k e y h l = absurd (omega arith)
keys_marked_lem marks (suc n) k e y h l =
    let p = both (get_or marks k false) (keys_marked marks n (suc k)) e in
    elim (order k y) [
      | less j ↦ keys_marked_lem marks n (suc k) p.1 y (omega arith) (omega arith)
      | same j ↦ sym (ap (λ (z : ℕ). get_or marks z false) j) ∙ p.0
      | more j ↦ absurd (omega arith)
    ]

pub marked_keys : (marks : List Bool) (n k : ℕ) → ((y : ℕ) → k ≤ y → y < k + n → get_or marks y false ≡ true) → keys_marked marks n k ≡ true
unfolding keys_marked
marked_keys marks zero k f = refl
marked_keys marks (suc n) k f =
    both_yes (get_or marks k false) (keys_marked marks n (suc k))
    (f k (omega arith) (omega arith))
    (marked_keys marks n (suc k) (λ y h l. f y (omega arith) (omega arith)))

-- Distinct vectors

module _ (f : ℕ → List Element) where
  unlike_each : (k n j : ℕ) → unlike f k n j ≡ true → (i : ℕ) → j ≤ i → i < j + n → f i ≡ f k → ⊥
  unfolding unlike
  unlike_each k zero j e i h l q = omega arith
  unlike_each k (suc n) j e i h l q =
      let p = unless (eq_vector (f j) (f k)) (unlike f k n (suc j)) e in
      elim (order j i) [
        | less o ↦ unlike_each k n (suc j) p.1 i (omega arith) (omega arith) q
        | same o ↦ clash (eq_vector (f j) (f k)) (exact_yes eq_vector eq_vector_exact (f j) (f k) (ap f o ∙ q)) p.0
        | more o ↦ omega arith
      ]

  each_unlike : (k n j : ℕ) → ((i : ℕ) → j ≤ i → i < j + n → f i ≡ f k → ⊥) → unlike f k n j ≡ true
  unfolding unlike
  each_unlike k zero j g = refl
  each_unlike k (suc n) j g =
      unless_yes (eq_vector (f j) (f k)) (unlike f k n (suc j))
      (exact_no eq_vector eq_vector_exact (f j) (f k) (g j (omega arith) (omega arith)))
      (each_unlike k n (suc j) (λ i h l. g i (omega arith) (omega arith)))

  pub apart_each : (n k : ℕ) → apart f n k ≡ true → (y z : ℕ) → y < z → k ≤ z → z < k + n → f y ≡ f z → ⊥
  unfolding apart
  apart_each zero k e y z o h l q = omega arith
  apart_each (suc n) k e y z o h l q =
      let p = both (unlike f k k 0) (apart f n (suc k)) e in
      elim (order k z) [
        | less m ↦ apart_each n (suc k) p.1 y z o (omega arith) (omega arith) q
        | same m ↦ unlike_each k k 0 p.0 y (omega arith) (omega arith) (q ∙ sym (ap f m))
        | more m ↦ omega arith
      ]

  pub each_apart : (n k : ℕ) → ((y z : ℕ) → y < z → k ≤ z → z < k + n → f y ≡ f z → ⊥) → apart f n k ≡ true
  unfolding apart
  each_apart zero k g = refl
  each_apart (suc n) k g =
      both_yes (unlike f k k 0) (apart f n (suc k))
      (each_unlike k k 0 (λ i h l. g i k (omega arith) (omega arith) (omega arith)))
      (each_apart n (suc k) (λ y z o h l. g y z o (omega arith) (omega arith)))

-- The ranges

-- each differs from the one before
abbrev pub Differs : ℕ → List ℕ → Type 0
Differs before [] = Unit {0}
Differs before (x ∷ xs) = (x ≡ before → ⊥) × Differs x xs

module _ (v : ℕ) where
  pub used_first : (m before : ℕ) (xs : List Range) → used_in_order v m before xs ≡ true
      → FirstUse m (indices xs) v × Differs before (indices xs)
  unfolding used_in_order indices
  used_first m before [] e = (eqb-true m v e, tt)
  used_first m before (x ∷ xs) e =
      let p = unless (eqb x.index.0 before) _ e in
      let q = both (leb x.index.0 m) _ p.1 in
      let i = used_first (max m (suc x.index.0)) x.index.0 xs q.1 in
      ((leb-true x.index.0 m q.0, i.0), (eqb-false x.index.0 before p.0, i.1))

  pub first_used_in_order : (m before : ℕ) (xs : List Range) → FirstUse m (indices xs) v → Differs before (indices xs)
      → used_in_order v m before xs ≡ true
  unfolding used_in_order indices
  first_used_in_order m before [] f d = eq-eqb m v f
  first_used_in_order m before (x ∷ xs) f d =
      unless_yes (eqb x.index.0 before) _ (ne_eqb x.index.0 before d.0)
      (both_yes (leb x.index.0 m) _ (le-leb x.index.0 m f.0)
      (first_used_in_order (max m (suc x.index.0)) x.index.0 xs f.1 d.1))

-- The tests of equality are exact, and the place of an element in a list is where it first stands.
use Prim.Native.Nat.{ℕ, zero, suc, ◌≤◌, ◌<◌}
use mathlib.Core.Path.{◌≡◌, refl, sym, ◌∙◌, ap₂}
use mathlib.Core.Logic.{◌⊎◌, inl, inr}
use mathlib.Core.Bool.{Bool, true, false}
use mathlib.Core.List.{List, [], ◌∷◌}
use native.Mathlib.Omega.{arith}
use lib.Dec.{eqb}
use lib.ListN.{length, get_or}
use borrow.Author.Tests.{eq-eqb, eqb-true}
use Rattle.layout.specs.Knowledge.{Element, Range, Knowledge}
use Rattle.ticks.specs.Meaning.{place_by}
use Rattle.ticks.specs.Table.{eq_list, eq_pair, eq_row}
use Rattle.ticks.specs.Written.{eq_element, eq_vector, eq_range, eq_knowledge}

-- a test of equality is exact
pub record Exact {A : Type 0} (eq : A → A → Bool) : Type 0 where
  pub sound : (x y : A) → eq x y ≡ true → x ≡ y
  pub self : (x : A) → eq x x ≡ true

pub clash : {C : Type 0} (t : Bool) → t ≡ true → t ≡ false → C
clash t e f = let z : ◌≡◌ {A = ℕ} 0 1 = cc in absurd (omega arith)

module _ {A : Type 0} (eq : A → A → Bool) (ex : Exact eq) where
  pub exact_yes : (x y : A) → x ≡ y → eq x y ≡ true
  exact_yes x y e = rw e (ex.self y)

  pub exact_no : (x y : A) → (x ≡ y → ⊥) → eq x y ≡ false
  exact_no x y n = go (eq x y) refl
    where
      go : (t : Bool) → eq x y ≡ t → t ≡ false
      go true e = absurd (n (ex.sound x y e))
      go false e = refl

  pub exact? : (x y : A) → (x ≡ y) ⊎ (x ≡ y → ⊥)
  exact? x y = go (eq x y) refl
    where
      go : (t : Bool) → eq x y ≡ t → (x ≡ y) ⊎ (x ≡ y → ⊥)
      go true e = inl (ex.sound x y e)
      go false e = inr (λ q. clash (eq x y) (exact_yes x y q) e)

  eq_list-cons : (x y : A) (xs ys : List A) → eq x y ≡ true → eq_list eq (x ∷ xs) (y ∷ ys) ≡ eq_list eq xs ys
  unfolding eq_list
  eq_list-cons x y xs ys e = rw (e, eq_list)

  eq_list_differ : (x y : A) (xs ys : List A) → eq x y ≡ false → eq_list eq (x ∷ xs) (y ∷ ys) ≡ false
  unfolding eq_list
  eq_list_differ x y xs ys e = rw (e, eq_list)

  eq_list-sound : (xs ys : List A) → eq_list eq xs ys ≡ true → xs ≡ ys
  unfolding eq_list
  eq_list-sound [] [] e = refl
  eq_list-sound [] (y ∷ ys) e = clash false e refl
  eq_list-sound (x ∷ xs) [] e = clash false e refl
  eq_list-sound (x ∷ xs) (y ∷ ys) e = go (eq x y) refl (eq_list-sound xs ys)
    where
      go : (t : Bool) → eq x y ≡ t → (eq_list eq xs ys ≡ true → xs ≡ ys) → x ∷ xs ≡ y ∷ ys
      go true f k = ap₂ (λ z zs. z ∷ zs) (ex.sound x y f) (k (sym (eq_list-cons x y xs ys f) ∙ e))
      go false f k = clash (eq_list eq (x ∷ xs) (y ∷ ys)) e (eq_list_differ x y xs ys f)

  eq_list_self : (xs : List A) → eq_list eq xs xs ≡ true
  unfolding eq_list
  eq_list_self [] = refl
  eq_list_self (x ∷ xs) = eq_list-cons x x xs xs (ex.self x) ∙ eq_list_self xs

  pub eq_list_exact : Exact (eq_list eq)
  eq_list_exact = record { sound = eq_list-sound; self = eq_list_self }

  -- The place of an element

  pub place_same : (x y : A) (ys : List A) → y ≡ x → place_by eq x (y ∷ ys) ≡ 0
  unfolding place_by
  place_same x y ys e = rw (exact_yes y x e, place_by)

  pub place_other : (x y : A) (ys : List A) → (y ≡ x → ⊥) → place_by eq x (y ∷ ys) ≡ suc (place_by eq x ys)
  unfolding place_by
  place_other x y ys n = rw (exact_no y x n, place_by)

  pub place-nil : (x : A) → place_by eq x [] ≡ 0
  unfolding place_by
  place-nil x = refl

  pub place-le : (x : A) (ys : List A) → place_by eq x ys ≤ length ys
  place-le x [] = rw place-nil (omega arith)
  place-le x (y ∷ ys) =
      elim (exact? y x) [
        | inl e ↦ omega (arith, place_same x y ys e)
        | inr n ↦ omega (arith, place_other x y ys n, place-le x ys)
      ]

  -- the element stands at its place
  pub place_found : (x d : A) (ys : List A) → place_by eq x ys < length ys → get_or ys (place_by eq x ys) d ≡ x
  place_found x d [] h = absurd (omega arith)
  place_found x d (y ∷ ys) h =
      elim (exact? y x) [
        | inl e ↦ rw (place_same x y ys e) e
        | inr n ↦ rw (place_other x y ys n) (place_found x d ys (omega (arith, place_other x y ys n)))
      ]

  -- and nowhere before
  pub place_first : (x d : A) (ys : List A) (n : ℕ) → n < length ys → get_or ys n d ≡ x → place_by eq x ys ≤ n
  place_first x d [] n h e = absurd (omega arith)
  place_first x d (y ∷ ys) zero h e = omega (arith, place_same x y ys e)
  place_first x d (y ∷ ys) (suc n) h e =
      elim (exact? y x) [
        | inl f ↦ omega (arith, place_same x y ys f)
        | inr f ↦ omega (arith, place_other x y ys f, place_first x d ys n (omega arith) e)
      ]

-- The tests of this crate

pub eqb_exact : Exact eqb
eqb_exact = record { sound = eqb-true; self = λ x. eq-eqb x x refl }

-- both tests are passed
both : (s t : Bool) → elim s [ true ↦ t | false ↦ false ] ≡ true → (s ≡ true) × (t ≡ true)
both true t e = (refl, e)
both false t e = clash false e refl

both_yes : (s t : Bool) → s ≡ true → t ≡ true → elim s [ true ↦ t | false ↦ false ] ≡ true
both_yes true t e f = f
both_yes false t e f = clash false e refl

eq_pair-sound : (x y : ℕ × ℕ) → eq_pair x y ≡ true → x ≡ y
unfolding eq_pair
eq_pair-sound x y e =
    let h : (eqb x.0 y.0 ≡ true) × (eqb x.1 y.1 ≡ true) = both (eqb x.0 y.0) (eqb x.1 y.1) e in
    λ i. (eqb-true x.0 y.0 h.0 i, eqb-true x.1 y.1 h.1 i)

eq_pair_self : (x : ℕ × ℕ) → eq_pair x x ≡ true
unfolding eq_pair
eq_pair_self x = both_yes (eqb x.0 x.0) (eqb x.1 x.1) (eq-eqb x.0 x.0 refl) (eq-eqb x.1 x.1 refl)

pub eq_pair_exact : Exact eq_pair
eq_pair_exact = record { sound = eq_pair-sound; self = eq_pair_self }

pub eq_row_exact : Exact eq_row
eq_row_exact = eq_list_exact eq_pair eq_pair_exact

eq_element-sound : (x y : Element) → eq_element x y ≡ true → x ≡ y
unfolding eq_element
eq_element-sound x y e =
    let h : (eqb x.key.0 y.key.0 ≡ true) × (eqb x.tick y.tick ≡ true) = both (eqb x.key.0 y.key.0) (eqb x.tick y.tick) e in
    λ i. record { key = record { 0 = eqb-true x.key.0 y.key.0 h.0 i }; tick = eqb-true x.tick y.tick h.1 i }

eq_element_self : (x : Element) → eq_element x x ≡ true
unfolding eq_element
eq_element_self x = both_yes (eqb x.key.0 x.key.0) (eqb x.tick x.tick) (eq-eqb x.key.0 x.key.0 refl) (eq-eqb x.tick x.tick refl)

pub eq_vector_exact : Exact eq_vector
eq_vector_exact = eq_list_exact eq_element (record { sound = eq_element-sound; self = eq_element_self })

eq_range-sound : (x y : Range) → eq_range x y ≡ true → x ≡ y
unfolding eq_range
eq_range-sound x y e =
    let h : (eqb x.bound y.bound ≡ true) × (eqb x.index.0 y.index.0 ≡ true) = both (eqb x.bound y.bound) (eqb x.index.0 y.index.0) e in
    λ i. record { bound = eqb-true x.bound y.bound h.0 i; index = record { 0 = eqb-true x.index.0 y.index.0 h.1 i } }

eq_range_self : (x : Range) → eq_range x x ≡ true
unfolding eq_range
eq_range_self x = both_yes (eqb x.bound x.bound) (eqb x.index.0 x.index.0) (eq-eqb x.bound x.bound refl) (eq-eqb x.index.0 x.index.0 refl)

ids_exact : Exact (eq_list eqb)
ids_exact = eq_list_exact eqb eqb_exact

vectors_exact : Exact (eq_list eq_vector)
vectors_exact = eq_list_exact eq_vector eq_vector_exact

ranges_exact : Exact (eq_list eq_range)
ranges_exact = eq_list_exact eq_range (record { sound = eq_range-sound; self = eq_range_self })

pub eq_knowledge-sound : (a b : Knowledge) → eq_knowledge a b ≡ true → a ≡ b
unfolding eq_knowledge
eq_knowledge-sound a b e =
    let s = eq_list eqb a.replicas b.replicas in
    let t = eq_list eq_vector a.vectors b.vectors in
    let u = eq_list eq_range a.ranges b.ranges in
    let h = both s (elim t [ true ↦ u | false ↦ false ]) e in
    let k = both t u h.1 in
    λ i. record {
      replicas = ids_exact.sound a.replicas b.replicas h.0 i;
      vectors = vectors_exact.sound a.vectors b.vectors k.0 i;
      ranges = ranges_exact.sound a.ranges b.ranges k.1 i;
    }

pub eq_knowledge_self : (a : Knowledge) → eq_knowledge a a ≡ true
unfolding eq_knowledge
eq_knowledge_self a = rw (ids_exact.self a.replicas, vectors_exact.self a.vectors, eq_knowledge) (ranges_exact.self a.ranges)

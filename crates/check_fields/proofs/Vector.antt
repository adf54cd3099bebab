-- A clock vector: the field and the count before its elements, then the elements. Where it has no fault, it ends
-- inside the bytes, and each of its elements takes twelve of them.
use mathlib.Core.Path.{◌≡◌, refl, sym, ap, ◌∙◌}
use mathlib.Core.Bool.{Bool, true, false}
use mathlib.Core.List.{List}
use Prim.Native.Nat.{ℕ, ◌+◌, ◌-◌, ◌*◌, ◌<◌, ◌≤◌}
use native.Mathlib.Nat.{zero-add}
use native.Mathlib.Omega.{arith}
use borrow.Author.Tests.{leb-true, leb-false, eqb-true, eqb-false, eq-eqb, ne_eqb}
use lib.Dec.{leb, eqb}
use lib.ListN.{length}
use Rattle.codec.specs.Number.{be_at}
use Rattle.layout.specs.Got.{Got}
use Rattle.layout.specs.Got.{Num, Fault}
use Rattle.layout.specs.Knowledge.{before_elements}
use Rattle.layout.specs.Read.{◌▷◌, repeat, number, same, fields, limit, empty, element, first_vector, vector}
use Rattle.layout.specs.Parse.{vector_list}
use Rattle.check_fields.proofs.Steps.{number_there, number_short, limit_low, limit_high, limit_in}
use Rattle.check_fields.proofs.Repeat.{repeat_went}
use Rattle.check_fields.proofs.Element.{element_went}

-- the count, as the tests decide
module _ (s : List ℕ) (at : ℕ) where
  pub count_short : length s < at + 4 → Fault 1 ≡ (fields s before_elements 0 at ▷ number s 4)
  unfolding before_elements fields
  count_short h = sym (rw (number_short s 4 0 at h))

  pub count_unlike : at + 4 ≤ length s → (be_at s 4 at ≡ 1 → ⊥) → Fault 2 ≡ (fields s before_elements 0 at ▷ number s 4)
  unfolding before_elements fields same
  count_unlike h ne = sym (rw (number_there s 4 0 at h, ne_eqb (be_at s 4 at) 1 ne, ◌▷◌, same))

  pub count_cut : at + 4 ≤ length s → be_at s 4 at ≡ 1 → length s < at + 8 → Fault 1 ≡ (fields s before_elements 0 at ▷ number s 4)
  unfolding before_elements fields same
  count_cut h e l =
      sym (rw (number_there s 4 0 at h, eq-eqb (be_at s 4 at) 1 e, ◌▷◌, same) (number_short s 4 (be_at s 4 at) (at + 4) (omega arith)))

  pub count_there : at + 8 ≤ length s → be_at s 4 at ≡ 1 → Num (be_at s 4 (at + 4)) (at + 8) ≡ (fields s before_elements 0 at ▷ number s 4)
  unfolding before_elements fields same
  count_there h e =
      let p : at + 8 ≡ at + 4 + 4 = omega arith in
      ap (λ (b : ℕ). Num (be_at s 4 (at + 4)) b) p
      ∙ sym
      (rw (number_there s 4 0 at (omega arith), eq-eqb (be_at s 4 at) 1 e, ◌▷◌, same)
      (number_there s 4 (be_at s 4 at) (at + 4) (omega arith)))

pub record Counted (s : List ℕ) (at n b : ℕ) : Type 0 where
  pub place : b ≡ at + 8
  pub inside : b ≤ length s

pub count_went :
    (s : List ℕ) (at n b : ℕ) → (fields s before_elements 0 at ▷ number s 4) ≡ Num n b → Counted s at n b
count_went s at n b e = by_case (leb (at + 4) (length s)) refl (eqb (be_at s 4 at) 1) refl (leb (at + 8) (length s)) refl
  where
    by_case :
        (h : Bool)
        → leb (at + 4) (length s) ≡ h
        → (f : Bool)
        → eqb (be_at s 4 at) 1 ≡ f
        → (l : Bool)
        → leb (at + 8) (length s) ≡ l
        → Counted s at n b
    by_case false h f f' l l' =
        let z : ◌≡◌ {A = ℕ} 0 1 = cc (count_short s at (leb-false _ _ h)) in
        absurd (omega arith)
    by_case true h false f l l' =
        let z : ◌≡◌ {A = ℕ} 0 1 = cc (count_unlike s at (leb-true _ _ h) (eqb-false _ _ f)) in
        absurd (omega arith)
    by_case true h true f false l =
        let z : ◌≡◌ {A = ℕ} 0 1 = cc (count_cut s at (leb-true _ _ h) (eqb-true _ _ f) (leb-false _ _ l)) in
        absurd (omega arith)
    by_case true h true f true l =
        let i : at + 8 ≤ length s = leb-true _ _ l in
        let p : b ≡ at + 8 = cc (count_there s at i (eqb-true _ _ f)) in
        record { place = p; inside = omega arith }

-- the limit hands the count on as it is
pub limit_went : (lo hi : ℕ) (g h : Got) → h ≡ (g ▷ limit lo hi) → (n b : ℕ) → h ≡ Num n b → (g ≡ Num n b) × (lo ≤ n) × (n ≤ hi)
limit_went lo hi (Fault j) h e n b f = let z : ◌≡◌ {A = ℕ} 0 1 = cc in absurd (omega arith)
limit_went lo hi (Num x at) h e n b f = by_case (leb lo x) refl (leb x hi) refl
  where
    by_case : (l : Bool) → leb lo x ≡ l → (m : Bool) → leb x hi ≡ m → (Num x at ≡ Num n b) × (lo ≤ n) × (n ≤ hi)
    by_case false l m m' =
        let z : ◌≡◌ {A = ℕ} 0 1 = cc (limit_low lo hi (Num x at) x at refl (leb-false _ _ l)) in
        absurd (omega arith)
    by_case true l false m =
        let z : ◌≡◌ {A = ℕ} 0 1 = cc (limit_high lo hi (Num x at) x at refl (leb-true _ _ l) (leb-false _ _ m)) in
        absurd (omega arith)
    by_case true l true m =
        let u : lo ≤ x = leb-true _ _ l in
        let v : x ≤ hi = leb-true _ _ m in
        let q = limit_in lo hi (Num x at) x at refl u v in
        let i : x ≡ n = cc q in
        (cc q, omega arith, omega arith)

-- ---- the whole vector

alone : (h : Got) → (h ▷ λ m next. Num (0 + m) next) ≡ h
alone (Num x b) = ap (λ (y : ℕ). Num y b) (zero-add x)
alone (Fault n) = refl

module _ (s : List ℕ) (r e at : ℕ) (f g : Got) (c : f ≡ (fields s before_elements 0 at ▷ number s 4)) (d : g ≡ (f ▷ limit 0 r)) where
  vector_after : vector s r e at ≡ (g ▷ λ n start. repeat (element s r start) n 0 start ▷ λ m next. Num (e + m) next)
  unfolding vector fields before_elements number
  vector_after = ap (λ (h : Got). h ▷ λ n start. repeat (element s r start) n 0 start ▷ λ m next. Num (e + m) next) (sym (d ∙ ap (λ (h : Got). h ▷ limit 0 r) c))

  pub vector_count_fault : (j : ℕ) → g ≡ Fault j → g ≡ vector s r e at
  vector_count_fault j t = sym (vector_after ∙ (rw t) ∙ sym t)

  module _ (n start : ℕ) (t : g ≡ Num n start) where
    pub vector_start : Counted s at n start
    vector_start = let l = limit_went 0 r f g d n start t in count_went s at n start (sym c ∙ l.0)

    module _ (h : Got) (u : h ≡ repeat (element s r start) n 0 start) where
      vector_elements : vector s r e at ≡ (h ▷ λ m next. Num (e + m) next)
      vector_elements = vector_after ∙ (rw t) ∙ ap (λ (k : Got). k ▷ λ m next. Num (e + m) next) (sym u)

      pub vector_alone : e ≡ 0 → h ≡ vector s r e at
      vector_alone z = sym (vector_elements ∙ ap (λ (y : ℕ). h ▷ λ m next. Num (y + m) next) z ∙ alone h)

      pub vector_element_fault : (j : ℕ) → h ≡ Fault j → h ≡ vector s r e at
      vector_element_fault j o = sym (vector_elements ∙ (rw o) ∙ sym o)

      module _ (m b : ℕ) (o : h ≡ Num m b) where
        pub vector_good : Num (e + m) b ≡ vector s r e at
        vector_good = sym (vector_elements ∙ rw o)

        pub vector_end : (m ≡ 0 + n) × (b ≡ start + 12 * n) × (b ≤ length s)
        vector_end = repeat_went s 12 (element s r start) (element_went s r start) n 0 start m b vector_start.inside (sym u ∙ o)

-- a vector counted alone, and after e elements
vector_open : (s : List ℕ) (r e at : ℕ) → vector s r e at
    ≡ (fields s before_elements 0 at ▷ number s 4 ▷ limit 0 r ▷ λ n start. repeat (element s r start) n 0 start ▷ λ m next. Num (e + m) next)
vector_open s r e at = vector_after s r e at (fields s before_elements 0 at ▷ number s 4) (fields s before_elements 0 at ▷ number s 4 ▷ limit 0 r) refl refl

shifted : (e : ℕ) (g : Got) (f : ℕ → ℕ → Got) → (g ▷ λ n start. f n start ▷ λ m next. Num (e + m) next)
    ≡ (g ▷ λ n start. f n start ▷ λ m next. Num (0 + m) next) ▷ λ m next. Num (e + m) next
shifted e (Fault k) f = refl
shifted e (Num n start) f = inner (f n start)
  where
    inner : (h : Got) → (h ▷ λ m next. Num (e + m) next) ≡ ((h ▷ λ m next. Num (0 + m) next) ▷ λ m next. Num (e + m) next)
    inner h = ap (λ (k : Got). k ▷ λ m next. Num (e + m) next) (sym (alone h))

pub vector_shift : (s : List ℕ) (r e at : ℕ) → vector s r e at ≡ (vector s r 0 at ▷ λ m next. Num (e + m) next)
vector_shift s r e at =
    vector_open s r e at
    ∙ shifted e (fields s before_elements 0 at ▷ number s 4 ▷ limit 0 r) (λ n start. repeat (element s r start) n 0 start)
    ∙ ap (λ (k : Got). k ▷ λ m next. Num (e + m) next) (sym (vector_open s r 0 at))

-- where the elements before are no more than the bytes before, so they are with the vector's own
pub vector_below : (s : List ℕ) (r e at : ℕ) (g : Got) → g ≡ vector s r e at → (y b : ℕ) → g ≡ Num y b → e ≤ at → y ≤ b
vector_below s r e at g i y b j l = by_count (f ▷ limit 0 r) refl
  where
    f : Got
    f = fields s before_elements 0 at ▷ number s 4

    by_elements : (n start : ℕ) → (f ▷ limit 0 r) ≡ Num n start → (h : Got) → repeat (element s r start) n 0 start ≡ h → y ≤ b
    by_elements n start t (Fault k) u =
        let z : ◌≡◌ {A = ℕ} 0 1 = cc (vector_element_fault s r e at f (f ▷ limit 0 r) refl refl n start t (Fault k) (sym u) k refl) in
        absurd (omega arith)
    by_elements n start t (Num m d) u =
        let w = vector_start s r e at f (f ▷ limit 0 r) refl refl n start t in
        let v = vector_end s r e at f (f ▷ limit 0 r) refl refl n start t (Num m d) (sym u) m d refl in
        let q = vector_good s r e at f (f ▷ limit 0 r) refl refl n start t (Num m d) (sym u) m d refl in
        let p : y ≡ e + m = cc q in
        let o : b ≡ d = cc q in
        omega arith

    by_count : (h : Got) → (f ▷ limit 0 r) ≡ h → y ≤ b
    by_count (Fault k) t =
        let z : ◌≡◌ {A = ℕ} 0 1 = cc (vector_count_fault s r e at f (f ▷ limit 0 r) refl refl k t) in
        absurd (omega arith)
    by_count (Num n start) t = by_elements n start t (repeat (element s r start) n 0 start) refl

-- ---- the first vector, and those after it

module _ (s : List ℕ) (r v at : ℕ) (g : Got) (i : g ≡ first_vector s 0 at) where
  pub first_fault_lem : (j : ℕ) → g ≡ Fault j → g ≡ vector_list s r v at
  unfolding vector_list
  first_fault_lem j t = t ∙ sym (ap (λ (h : Got). h ▷ repeat (vector s r) (v - 1)) (sym i ∙ t))

  pub first_empty : (x b : ℕ) → g ≡ Num x b → x ≡ 0
  unfolding first_vector empty
  first_empty x b t = by_case (fields s before_elements 0 at ▷ number s 4) refl
    where
      by_case : (f : Got) → (fields s before_elements 0 at ▷ number s 4) ≡ f → x ≡ 0
      by_case (Fault k) u =
          let q : (fields s before_elements 0 at ▷ number s 4 ▷ empty) ≡ Fault k = ap (λ (h : Got). h ▷ empty) u in
          let z : ◌≡◌ {A = ℕ} 0 1 = cc in
          absurd (omega arith)
      by_case (Num n d) u = by_zero (eqb n 0) refl
        where
          by_zero : (e : Bool) → eqb n 0 ≡ e → x ≡ 0
          by_zero true e =
              let q : (fields s before_elements 0 at ▷ number s 4 ▷ empty) ≡ Num 0 d = ap (λ (h : Got). h ▷ empty) u ∙ rw (e, empty) in
              cc
          by_zero false e =
              let q : (fields s before_elements 0 at ▷ number s 4 ▷ empty) ≡ Fault 4 = ap (λ (h : Got). h ▷ empty) u ∙ rw (e, empty) in
              let z : ◌≡◌ {A = ℕ} 0 1 = cc in
              absurd (omega arith)

  pub first_on : (x b : ℕ) → g ≡ Num x b → (h : Got) → h ≡ repeat (vector s r) (v - 1) 0 b → h ≡ vector_list s r v at
  unfolding vector_list
  first_on x b t h u =
      u
      ∙ ap (λ (y : ℕ). repeat (vector s r) (v - 1) y b) (sym (first_empty x b t))
      ∙ sym (ap (λ (k : Got). k ▷ repeat (vector s r) (v - 1)) (sym i ∙ t))

-- ---- a vector without a fault

pub vector_known :
    (s : List ℕ) (r e at n next : ℕ)
    → at + 8 ≤ length s
    → be_at s 4 at ≡ 1
    → n ≡ be_at s 4 (at + 4)
    → n ≤ r
    → repeat (element s r (at + 8)) n 0 (at + 8) ≡ Num n (at + 8 + 12 * n)
    → next ≡ at + 8 + 12 * n
    → Num (e + n) next ≡ vector s r e at
vector_known s r e at n next h f g l i p =
    ap (λ (b : ℕ). Num (e + n) b) p
    ∙ vector_good
    s
    r
    e
    at
    (Num (be_at s 4 (at + 4)) (at + 8))
    (Num n (at + 8))
    (count_there s at h f)
    (ap (λ (x : ℕ). Num x (at + 8)) g ∙ limit_in 0 r (Num (be_at s 4 (at + 4)) (at + 8)) (be_at s 4 (at + 4)) (at + 8) refl (omega arith) (omega arith))
    n
    (at + 8)
    refl
    (Num n (at + 8 + 12 * n))
    (sym i)
    n
    (at + 8 + 12 * n)
    refl

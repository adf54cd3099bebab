-- Lists with their counts: a list begins where its count ends, inside the bytes, and the first fault is the answer. A clock vector that
-- stands as a whole is what reading it gives, and vectors are counted on from those before.
use mathlib.Core.Path.{◌≡◌, refl, sym, ap, ◌∙◌}
use mathlib.Core.Bool.{Bool, true, false}
use mathlib.Core.List.{List}
use Prim.Native.Nat.{ℕ, ◌+◌, ◌*◌, ◌≤◌}
use native.Mathlib.Nat.{zero-add}
use native.Mathlib.Omega.{arith}
use borrow.Author.Tests.{leb-true, leb-false}
use lib.Dec.{leb}
use lib.ListN.{length}
use Rattle.codec.specs.Number.{be_at}
use Rattle.layout.specs.Got.{Got}
use Rattle.layout.specs.Got.{Num, Fault}
use Rattle.layout.specs.Knowledge.{basic, opening, before_ranges}
use Rattle.layout.specs.Read.{◌▷◌, repeat, number, fields, limit, replica_id, element, vector}
use Rattle.layout.specs.Parse.{replica_map, range_list}
use Rattle.check_parts.specs.Method.{ranges_from}
use Rattle.check_fields.proofs.Steps.{number_there, number_short}
use Rattle.check_fields.proofs.Vector.{limit_went, vector_known, vector_shift}

-- after a number the place is inside the bytes
number_inside : (s : List ℕ) (n : ℕ) (g h : Got) → h ≡ (g ▷ number s n) → (x b : ℕ) → h ≡ Num x b → b ≤ length s
number_inside s n (Fault j) h e x b t = let z : ◌≡◌ {A = ℕ} 0 1 = cc in absurd (omega arith)
number_inside s n (Num y at) h e x b t = by_case (leb (at + n) (length s)) refl
  where
    by_case : (r : Bool) → leb (at + n) (length s) ≡ r → b ≤ length s
    by_case false l = let z : ◌≡◌ {A = ℕ} 0 1 = cc (number_short s n y at (leb-false _ _ l)) in absurd (omega arith)
    by_case true l =
        let k : at + n ≤ length s = leb-true _ _ l in
        let p : b ≡ at + n = cc (number_there s n y at k) in
        omega arith

pub limited_inside :
    (s : List ℕ) (n lo hi : ℕ) (f g h : Got)
    → g ≡ (f ▷ number s n)
    → h ≡ (g ▷ limit lo hi)
    → (x b : ℕ)
    → h ≡ Num x b
    → b ≤ length s
limited_inside s n lo hi f g h d e x b t = number_inside s n f g d x b (limit_went lo hi g h e x b t).0

-- ---- the replica map

module _ (s : List ℕ) (most : ℕ) (g h : Got) (e : g ≡ (fields s opening 0 0 ▷ number s 4)) (i : h ≡ (g ▷ limit 0 most)) where
  map-after : replica_map most basic.judge s ≡ (h ▷ λ r start. repeat (replica_id basic.judge s start) r 0 start)
  unfolding replica_map
  map-after =
      ap (λ (k : Got). k ▷ λ r start. repeat (replica_id basic.judge s start) r 0 start) (sym (i ∙ ap (λ (k : Got). k ▷ limit 0 most) e))

  pub map_fault : (j : ℕ) → h ≡ Fault j → h ≡ replica_map most basic.judge s
  map_fault j t = sym (map-after ∙ (rw t) ∙ sym t)

  pub map_on : (r start : ℕ) → h ≡ Num r start → (k : Got) → k ≡ repeat (replica_id basic.judge s start) r 0 start → k ≡ replica_map most basic.judge s
  map_on r start t k u = sym (map-after ∙ (rw t) ∙ sym u)

-- ---- the ranges

module _ (s : List ℕ) (most v at : ℕ) (g h : Got) (e : g ≡ (fields s before_ranges 0 at ▷ number s 4)) (i : h ≡ (g ▷ limit 1 most)) where
  ranges_after_lem : range_list most s v at ≡ (h ▷ ranges_from s v)
  unfolding range_list ranges_from
  ranges_after_lem = ap (λ (k : Got). k ▷ ranges_from s v) (sym (i ∙ ap (λ (k : Got). k ▷ limit 1 most) e))

  pub range_list_fault : (j : ℕ) → h ≡ Fault j → h ≡ range_list most s v at
  range_list_fault j t = sym (ranges_after_lem ∙ (rw t) ∙ sym t)

  pub range_list_on : (m start : ℕ) → h ≡ Num m start → (k : Got) → k ≡ ranges_from s v m start → k ≡ range_list most s v at
  range_list_on m start t k u = sym (ranges_after_lem ∙ (rw t) ∙ sym u)

-- ---- clock vectors

pub vector_stands :
    (s : List ℕ) (r at n : ℕ)
    → at + 8 ≤ length s
    → be_at s 4 at ≡ 1
    → n ≡ be_at s 4 (at + 4)
    → n ≤ r
    → repeat (element s r (at + 8)) n 0 (at + 8) ≡ Num n (at + 8 + 12 * n)
    → Num n (at + 8 + 12 * n) ≡ vector s r 0 at
vector_stands s r at n h f g l i =
    ap (λ (x : ℕ). Num x (at + 8 + 12 * n)) (sym (zero-add n)) ∙ vector_known s r 0 at n (at + 8 + 12 * n) h f g l i refl

module _ (s : List ℕ) (r e at : ℕ) (g : Got) (i : g ≡ vector s r 0 at) where
  pub vector_more : (n b : ℕ) → g ≡ Num n b → Num (e + n) b ≡ vector s r e at
  vector_more n b t = sym (vector_shift s r e at ∙ ap (λ (k : Got). k ▷ λ m next. Num (e + m) next) (sym i ∙ t))

  pub vector_faulty : (j : ℕ) → g ≡ Fault j → g ≡ vector s r e at
  vector_faulty j t = t ∙ sym (vector_shift s r e at ∙ ap (λ (k : Got). k ▷ λ m next. Num (e + m) next) (sym i ∙ t))

-- Clock vectors: a vector with rising keys and ticks of 1 or more is known by its ticks, and the vector written for a row
-- over a replica map has, under the key of each replica of the map, the row's tick.
use Prim.Native.Nat.{ℕ, zero, suc, ◌+◌, ◌≤◌, ◌<◌}
use mathlib.Core.Path.{◌≡◌, refl, sym, ◌∙◌, ap}
use mathlib.Core.Logic.{inl, inr, ⊎_elim}
use mathlib.Core.Bool.{true, false}
use mathlib.Core.List.{List, [], ◌∷◌}
use native.Mathlib.Omega.{arith}
use lib.Dec.{eqb}
use lib.ListN.{length, get_or}
use borrow.Author.Tests.{eq-eqb, ne_eqb}
use Rattle.layout.specs.Knowledge.{Element, All, Rising, keys}
use Rattle.ticks.specs.Meaning.{tick_at}
use Rattle.ticks.specs.Table.{Row, get}
use Rattle.ticks.specs.Written.{element_with, vector_from}
use Rattle.ticks.proofs.Lists.{Among}
use Rattle.ticks.proofs.Equality.{eqb_exact, exact?}
use Rattle.ticks.proofs.Rows.{RisingRow, get_before, row_unique}

-- elements by rising key, ticks 1 or more
pub record ElementsInOrder (es : List Element) : Type 0 where
  pub rising : Rising 0 (keys es)
  pub ticks : All (λ x. 1 ≤ x.tick) es

pub keys_length : (es : List Element) → length (keys es) ≡ length es
unfolding keys
keys_length [] = refl
keys_length (x ∷ xs) = ap suc (keys_length xs)

-- a vector as a row of keys and ticks
unfoldable pub as_row : List Element → Row
as_row [] = []
as_row (x ∷ xs) = (x.key.0, x.tick) ∷ as_row xs

from_row : Row → List Element
from_row [] = []
from_row (e ∷ row) = element_with e.0 e.1 ∷ from_row row

from_as : (es : List Element) → from_row (as_row es) ≡ es
unfolding from_row as_row
from_as [] = refl
from_as (x ∷ xs) = ap (λ ys. x ∷ ys) (from_as xs)

pub tick_row : (es : List Element) (key : ℕ) → tick_at es key ≡ get (as_row es) key
unfolding tick_at get as_row
tick_row [] key = refl
tick_row (x ∷ xs) key = ap (λ n. elim (eqb x.key.0 key) [ true ↦ x.tick | false ↦ n ]) (tick_row xs key)

pub as_row_lem : (lo : ℕ) (es : List Element) → Rising lo (keys es) → All (λ x. 1 ≤ x.tick) es → RisingRow lo (as_row es)
unfolding as_row keys
as_row_lem lo [] r a = tt
as_row_lem lo (x ∷ xs) r a = (r.0, (a.0, as_row_lem (suc x.key.0) xs r.1 a.1))

pub in_order_lem : (es : List Element) → ElementsInOrder es → RisingRow 0 (as_row es)
in_order_lem es o = as_row_lem 0 es o.rising o.ticks

row_keys : (lo : ℕ) (es : List Element) → RisingRow lo (as_row es) → Rising lo (keys es)
unfolding as_row keys
row_keys lo [] r = tt
row_keys lo (x ∷ xs) r = (r.0, row_keys (suc x.key.0) xs r.1.1)

row_ticks : (lo : ℕ) (es : List Element) → RisingRow lo (as_row es) → All (λ x. 1 ≤ x.tick) es
unfolding as_row
row_ticks lo [] r = tt
row_ticks lo (x ∷ xs) r = (r.1.0, row_ticks (suc x.key.0) xs r.1.1)

-- a vector in order is known by its ticks
pub vector_unique : (v w : List Element) → ElementsInOrder v → ElementsInOrder w → ((key : ℕ) → tick_at v key ≡ tick_at w key) → v ≡ w
vector_unique v w o q f =
    sym (from_as v)
    ∙ ap from_row (row_unique 0 (as_row v) (as_row w) (in_order_lem v o) (in_order_lem w q) (λ key. sym (tick_row v key) ∙ f key ∙ tick_row w key))
    ∙ from_as w

pub tick-nil : (key : ℕ) → tick_at [] key ≡ 0
unfolding tick_at
tick-nil key = refl

pub tick_same : (x : Element) (xs : List Element) (key : ℕ) → x.key.0 ≡ key → tick_at (x ∷ xs) key ≡ x.tick
unfolding tick_at
tick_same x xs key e = rw (eq-eqb x.key.0 key e, tick_at)

pub tick_other : (x : Element) (xs : List Element) (key : ℕ) → (x.key.0 ≡ key → ⊥) → tick_at (x ∷ xs) key ≡ tick_at xs key
unfolding tick_at
tick_other x xs key n = rw (ne_eqb x.key.0 key n, tick_at)

-- with all keys below r, no tick stands under another key
pub tick_none : (r : ℕ) (es : List Element) (key : ℕ) → All (λ x. x.key.0 < r) es → r ≤ key → tick_at es key ≡ 0
tick_none r [] key a h = tick-nil key
tick_none r (x ∷ xs) key a h = tick_other x xs key (λ e. omega (arith, a.0)) ∙ tick_none r xs key a.1 h

-- a key of a vector in order has a tick of 1 or more, and a key with such a tick is one of the vector's
pub tick_key : (es : List Element) (key : ℕ) → All (λ x. 1 ≤ x.tick) es → Among key (keys es) → 1 ≤ tick_at es key
unfolding keys
tick_key [] key a m = absurd m
tick_key (x ∷ xs) key a m =
    elim (exact? eqb eqb_exact x.key.0 key) [
      | inl e ↦ omega (arith, a.0, tick_same x xs key e)
      | inr n ↦
          ⊎_elim (λ q. absurd (n (sym q))) (λ o. omega (arith, tick_other x xs key n, tick_key xs key a.1 o)) m
    ]

pub key_tick : (es : List Element) (key : ℕ) → 1 ≤ tick_at es key → Among key (keys es)
unfolding keys
key_tick [] key h = absurd (omega (arith, tick-nil key))
key_tick (x ∷ xs) key h =
    elim (exact? eqb eqb_exact x.key.0 key) [
      | inl e ↦ inl (sym e)
      | inr n ↦ inr (key_tick xs key (omega (arith, tick_other x xs key n)))
    ]

-- The vector of a row

vector-nil : (key : ℕ) (row : Row) → vector_from key [] row ≡ []
unfolding vector_from
vector-nil key row = refl

vector-zero : (key p : ℕ) (ids : List ℕ) (row : Row) → get row p ≡ 0 → vector_from key (p ∷ ids) row ≡ vector_from (suc key) ids row
unfolding vector_from
vector-zero key p ids row h = rw (eq-eqb (get row p) 0 h, vector_from)

vector_some : (key p : ℕ) (ids : List ℕ) (row : Row) → (get row p ≡ 0 → ⊥)
    → vector_from key (p ∷ ids) row ≡ element_with key (get row p) ∷ vector_from (suc key) ids row
unfolding vector_from
vector_some key p ids row h = rw (ne_eqb (get row p) 0 h, vector_from)

row_weaken : (lo lo' : ℕ) (row : Row) → lo' ≤ lo → RisingRow lo row → RisingRow lo' row
row_weaken lo lo' [] h r = tt
row_weaken lo lo' (e ∷ row) h r = (omega (arith, r.0), r.1)

vector_row : (key : ℕ) (ids : List ℕ) (row : Row) → RisingRow key (as_row (vector_from key ids row))
unfolding as_row
vector_row key [] row = rw vector-nil tt
vector_row key (p ∷ ids) row =
    elim (exact? eqb eqb_exact (get row p) 0) [
      | inl z ↦
          rw (vector-zero key p ids row z)
          (row_weaken (suc key) key (as_row (vector_from (suc key) ids row)) (omega arith) (vector_row (suc key) ids row))
      | inr z ↦ rw (vector_some key p ids row z) (omega arith, (omega (arith, z), vector_row (suc key) ids row))
    ]

pub vector_in_order : (ids : List ℕ) (row : Row) → ElementsInOrder (vector_from 0 ids row)
vector_in_order ids row =
    record { rising = row_keys 0 (vector_from 0 ids row) (vector_row 0 ids row); ticks = row_ticks 0 (vector_from 0 ids row) (vector_row 0 ids row) }

pub vector_keys : (n key : ℕ) (ids : List ℕ) (row : Row) → key + length ids ≤ n → All (λ x. x.key.0 < n) (vector_from key ids row)
vector_keys n key [] row h = rw vector-nil tt
vector_keys n key (p ∷ ids) row h =
    elim (exact? eqb eqb_exact (get row p) 0) [
      | inl z ↦ rw (vector-zero key p ids row z) (vector_keys n (suc key) ids row (omega arith))
      | inr z ↦ rw (vector_some key p ids row z) (omega arith, vector_keys n (suc key) ids row (omega arith))
    ]

-- under the key of each replica of the map stands the row's tick
pub vector_tick : (key : ℕ) (ids : List ℕ) (row : Row) (n : ℕ) → n < length ids → tick_at (vector_from key ids row) (key + n) ≡ get row (get_or ids n 0)
vector_tick key [] row n h = absurd (omega arith)
vector_tick key (p ∷ ids) row zero h =
    elim (exact? eqb eqb_exact (get row p) 0) [
      | inl z ↦
          ap (λ v. tick_at v (key + 0)) (vector-zero key p ids row z) ∙ tick_row (vector_from (suc key) ids row) (key + 0)
          ∙ get_before (suc key) (as_row (vector_from (suc key) ids row)) (key + 0) (vector_row (suc key) ids row) (omega arith) ∙ sym z
      | inr z ↦
          ap (λ v. tick_at v (key + 0)) (vector_some key p ids row z)
          ∙ tick_same (element_with key (get row p)) (vector_from (suc key) ids row) (key + 0) (omega arith)
    ]
vector_tick key (p ∷ ids) row (suc n) h =
    let e : key + suc n ≡ suc key + n = omega arith in
    let ih : tick_at (vector_from (suc key) ids row) (key + suc n) ≡ get row (get_or ids n 0) =
    ap (tick_at (vector_from (suc key) ids row)) e ∙ vector_tick (suc key) ids row n (omega arith) in
    elim (exact? eqb eqb_exact (get row p) 0) [
      | inl z ↦ ap (λ v. tick_at v (key + suc n)) (vector-zero key p ids row z) ∙ ih
      | inr z ↦
          ap (λ v. tick_at v (key + suc n)) (vector_some key p ids row z)
          ∙ tick_other (element_with key (get row p)) (vector_from (suc key) ids row) (key + suc n) (λ q. omega arith) ∙ ih
    ]

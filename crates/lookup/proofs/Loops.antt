-- The loops of lookup. The laws of each have the same form: the whole answer is the answer from here on, counting what is
-- left; the loop ends where the answer is found or nothing is left, and else one thing less is left. Beside them, what the
-- functions with no loop return.
use Prim.Native.Nat.{ℕ, zero, suc, ◌+◌, ◌-◌, ◌*◌, ◌^◌, ◌≤◌, ◌<◌}
use mathlib.Core.Path.{◌≡◌, refl, sym, ap, ap₂, ◌∙◌}
use mathlib.Core.Bool.{Bool, true, false}
use mathlib.Core.List.{List, [], ◌∷◌}
use native.Mathlib.Omega.{arith}
use lib.Dec.{eqb, ltb}
use lib.ListN.{length}
use borrow.Author.Tests.{le-leb, lt-leb, lt-ltb, le-ltb, eq-eqb, ne_eqb}
use Rattle.codec.specs.Number.{Bytes, be_at}
use Rattle.codec.specs.Words.{words2, words3}
use Rattle.layout.specs.declared.ReplicaKey.{ReplicaKey}
use Rattle.layout.specs.declared.VectorIndex.{VectorIndex}
use Rattle.layout.specs.Decode.{ids_at, elements_at}
use Rattle.layout.specs.MethodPlaces.{ids_place, vectors_place, count_at}
use Rattle.ticks.specs.Meaning.{place, place_by, tick_at}
use Rattle.ticks.specs.MethodLookup.{key_of}
use Rattle.lookup.specs.declared.Cursor.{Cursor}
use Rattle.lookup.specs.Method.{key_at, stepped, vector_from, past, passed, settled, advanced}
use Rattle.lookup.specs.Method.{elements_there, There, element_at, elements_here, tick_here, tick_of, tick_from}

-- The key of an id

ids_step : (s : List ℕ) (n at p : ℕ) → 0 < n
    → place p (ids_at s n at) ≡ elim (eqb (be_at s 16 at) p) [
      | true ↦ 0
      | false ↦ suc (place p (ids_at s (n - 1) (at + 16)))
    ]
unfolding place_by ids_at
ids_step s zero at p h = absurd (omega arith)
ids_step s (suc n) at p h =
    let e : n ≡ suc n - 1 = omega arith in
    ap (λ m. elim (eqb (be_at s 16 at) p) [ true ↦ 0 | false ↦ suc (place p (ids_at s m (at + 16))) ]) e

pub ids_all : (s : List ℕ) (r at p : ℕ) → place p (ids_at s r at) ≡ 0 + place p (ids_at s (r - 0) at)
ids_all s r at p = let e : r - 0 ≡ r = omega arith in rw e (omega arith)

module _ (s : List ℕ) (whole r k at p : ℕ) (inv : whole ≡ k + place p (ids_at s (r - k) at)) where
  pub ids_found : (b : Bool) → b ≡ eqb (be_at s 16 at) p → k < r → b ≡ true → k ≡ whole
  ids_found b e h f =
      let x : eqb (be_at s 16 at) p ≡ true = sym e ∙ f in
      let y = rw x at (ids_step s (r - k) at p (omega arith)) in
      omega arith

  pub ids_next : (b : Bool) → b ≡ eqb (be_at s 16 at) p → k < r → b ≡ false
      → whole ≡ (k + 1) + place p (ids_at s (r - (k + 1)) (at + 16))
  ids_next b e h f =
      let x : eqb (be_at s 16 at) p ≡ false = sym e ∙ f in
      let z : r - k - 1 ≡ r - (k + 1) = omega arith in
      let y = rw (x, z) at (ids_step s (r - k) at p (omega arith)) in
      omega arith

  pub ids_none : r ≤ k → k ≡ whole
  unfolding place_by ids_at
  ids_none h =
      let z : r - k ≡ 0 = omega arith in
      let y = rw z at inv in
      omega arith

module _ (s : List ℕ) (r p : ℕ) where
  pub key_short : length s < ids_place + 16 * r → record { 0 = r } ≡ key_at s r p
  unfolding key_at
  key_short h = sym (rw (lt-leb (ids_place + 16 * r) (length s) h, key_at))

  pub key_there : (k : ReplicaKey) → ids_place + 16 * r ≤ length s → k.0 ≡ place p (ids_at s r ids_place) → k ≡ key_at s r p
  unfolding key_at key_of
  key_there k h e = sym (rw (le-leb (ids_place + 16 * r) (length s) h, key_at, ← e) refl)

-- The place of a vector

pub stepped-zero : (s : List ℕ) (at : ℕ) → stepped s 0 at ≡ at
unfolding stepped
stepped-zero s at = refl

pub stepped_on : (s : List ℕ) (n at : ℕ) → at + 8 ≤ length s
    → stepped s (suc n) at ≡ stepped s n (at + 8 + 12 * count_at s at)
unfolding stepped
stepped_on s n at h = rw (le-leb (at + 8) (length s) h, stepped)

pub stepped_stop : (s : List ℕ) (n at : ℕ) → length s < at + 8 → stepped s n at ≡ at
unfolding stepped
stepped_stop s zero at h = refl
stepped_stop s (suc n) at h = rw (lt-leb (at + 8) (length s) h, stepped)

pub stepped_all : (s : List ℕ) (n at : ℕ) → stepped s n at ≡ stepped s (n - 0) at
stepped_all s n at = let e : n ≡ n - 0 = omega arith in ap (λ m. stepped s m at) e

module _ (s : List ℕ) (whole n i at : ℕ) (inv : whole ≡ stepped s (n - i) at) where
  pub step_stop : length s < at + 8 → at ≡ whole
  step_stop h = sym (inv ∙ stepped_stop s (n - i) at h)

  pub step_on : (k : ℕ) → k ≡ count_at s at → i < n → at + 8 ≤ length s → whole ≡ stepped s (n - (i + 1)) (at + 8 + 12 * k)
  step_on k e l h =
      let z : n - i ≡ suc (n - (i + 1)) = omega arith in
      inv ∙ ap (λ m. stepped s m at) z ∙ stepped_on s (n - (i + 1)) at h ∙ ap
      (λ m. stepped s (n - (i + 1)) (at + 8 + 12 * m)) (sym e)

  pub step_end : n ≤ i → at ≡ whole
  step_end h =
      let z : n - i ≡ 0 = omega arith in
      sym (inv ∙ ap (λ m. stepped s m at) z ∙ stepped-zero s at)

module _ (s : List ℕ) (r : ℕ) (from : VectorIndex) (at : ℕ) (to : VectorIndex) where
  pub from_here : (p : ℕ) → from.0 ≤ to.0 → p ≡ stepped s (to.0 - from.0) at → p ≡ vector_from s r from at to
  unfolding vector_from
  from_here p h e = e ∙ sym (rw (le-leb from.0 to.0 h, vector_from))

  pub from_first_lem : (p : ℕ) → to.0 < from.0 → p ≡ stepped s to.0 (vectors_place r) → p ≡ vector_from s r from at to
  unfolding vector_from
  from_first_lem p h e = e ∙ sym (rw (lt-leb from.0 to.0 h, vector_from))

-- The range of an item

abbrev pub cursor : ℕ → ℕ → VectorIndex → ℕ → Cursor
cursor left next index vector = record { left = left; next = next; index = index; vector = vector }

module _ (s : List ℕ) (i : ℕ) (whole : Cursor) (left next : ℕ) (index : VectorIndex) (vector : ℕ)
    (inv : whole ≡ passed s i left (cursor left next index vector)) where
  pub pass_stop : (b : Bool) → b ≡ ltb i (be_at s 24 next) → b ≡ true → cursor left next index vector ≡ whole
  unfolding passed
  pass_stop b e f = sym (inv ∙ stops left)
    where
      stops : (n : ℕ) → passed s i n (cursor left next index vector) ≡ cursor left next index vector
      stops zero = refl
      stops (suc n) = rw (sym e ∙ f, passed)

  pub pass_on : (b : Bool) (k : ℕ) → b ≡ ltb i (be_at s 24 next) → k ≡ be_at s 4 (next + 24) → 0 < left → b ≡ false
      → whole ≡ passed s i (left - 1) (cursor (left - 1) (next + 28) (record { 0 = k }) vector)
  unfolding passed past
  pass_on b k e g h f =
      let z : left ≡ suc (left - 1) = omega arith in
      inv ∙ ap (λ n. passed s i n (cursor left next index vector)) z ∙ rw (sym e ∙ f, passed, g) refl

  pub pass_end : left ≤ 0 → cursor left next index vector ≡ whole
  unfolding passed
  pass_end h =
      let z : left ≡ 0 = omega arith in
      sym (inv ∙ ap (λ n. passed s i n (cursor left next index vector)) z)

module _ (s : List ℕ) (r : ℕ) (c : Cursor) (i : ℕ) where
  pub advance_not : length s < c.next + 28 * c.left → c ≡ advanced s r c i
  unfolding advanced
  advance_not h = sym (rw (lt-leb (c.next + 28 * c.left) (length s) h, advanced))

  pub advance_is : (d : Cursor) (p : ℕ) → c.next + 28 * c.left ≤ length s → d ≡ passed s i c.left c
      → p ≡ vector_from s r c.index c.vector d.index → cursor d.left d.next d.index p ≡ advanced s r c i
  unfolding advanced settled
  advance_is d p h e f =
      sym (rw (le-leb (c.next + 28 * c.left) (length s) h, advanced, ← e, ← f) refl)

-- The tick of a key

module _ (s : List ℕ) (at : ℕ) where
  pub there_none : length s < at + 8 → There s at 0
  unfolding elements_there
  there_none h = record { is = sym (rw (lt-leb (at + 8) (length s) h, elements_there)); room = λ l. absurd (omega arith) }

  pub there_short : (n : ℕ) → n ≡ count_at s at → at + 8 ≤ length s → length s < at + 8 + 12 * n → There s at 0
  unfolding elements_there
  there_short n e h l =
      let m : length s < at + 8 + 12 * count_at s at = omega arith in
      record {
        is = sym (rw (le-leb (at + 8) (length s) h, elements_there, lt-leb (at + 8 + 12 * count_at s at) (length s) m));
        room = λ l. absurd (omega arith);
      }

  pub there_all : (n : ℕ) → n ≡ count_at s at → at + 8 + 12 * n ≤ length s → There s at n
  unfolding elements_there
  there_all n e l =
      let h : at + 8 ≤ length s = omega arith in
      let m : at + 8 + 12 * count_at s at ≤ length s = omega arith in
      record {
        is = e ∙ sym (rw (le-leb (at + 8) (length s) h, elements_there, le-leb (at + 8 + 12 * count_at s at) (length s) m));
        room = λ k. l;
      }

  -- the elements there, which were counted
  pub here_is : (n : ℕ) → There s at n → elements_here s at ≡ elements_at s n (at + 8)
  unfolding elements_here
  here_is n t = ap (λ m. elements_at s m (at + 8)) (sym t.is)

-- no elements, and the first one and the others
pub elements-zero : (s : List ℕ) (n at : ℕ) → n ≡ 0 → elements_at s n at ≡ []
unfolding elements_at
elements-zero s n at e = ap (λ m. elements_at s m at) e

pub elements-cons : (s : List ℕ) (n at : ℕ) → 0 < n → elements_at s n at ≡ element_at s at ∷ elements_at s (n - 1) (at + 12)
unfolding elements_at
elements-cons s zero at h = absurd (omega arith)
elements-cons s (suc n) at h = let e : n ≡ suc n - 1 = omega arith in ap (λ m. element_at s at ∷ elements_at s m (at + 12)) e

elements_step : (s : List ℕ) (n at key : ℕ) → 0 < n
    → tick_at (elements_at s n at) key ≡ elim (eqb (be_at s 4 at) key)
    [ true ↦ be_at s 8 (at + 4) | false ↦ tick_at (elements_at s (n - 1) (at + 12)) key ]
unfolding tick_at elements_at
elements_step s zero at key h = absurd (omega arith)
elements_step s (suc n) at key h =
    let e : n ≡ suc n - 1 = omega arith in
    ap (λ m. elim (eqb (be_at s 4 at) key) [ true ↦ be_at s 8 (at + 4) | false ↦ tick_at (elements_at s m (at + 12)) key ]) e

pub elements_all : (s : List ℕ) (n at key : ℕ) → tick_at (elements_at s n at) key ≡ tick_at (elements_at s (n - 0) at) key
elements_all s n at key = let e : n ≡ n - 0 = omega arith in ap (λ m. tick_at (elements_at s m at) key) e

module _ (s : List ℕ) (whole n i at key : ℕ) (inv : whole ≡ tick_at (elements_at s (n - i) at) key) where
  pub elements_found : (k t : ℕ) → k ≡ be_at s 4 at → t ≡ be_at s 8 (at + 4) → i < n → k ≡ key → t ≡ whole
  elements_found k t e f h d =
      f ∙ sym (inv ∙ elements_step s (n - i) at key (omega arith) ∙ rw (eq-eqb (be_at s 4 at) key (sym e ∙ d)) refl)

  pub elements_next : (k : ℕ) → k ≡ be_at s 4 at → i < n → (k ≡ key → ⊥)
      → whole ≡ tick_at (elements_at s (n - (i + 1)) (at + 12)) key
  elements_next k e h d =
      let z : n - i - 1 ≡ n - (i + 1) = omega arith in
      inv ∙ elements_step s (n - i) at key (omega arith) ∙ rw (ne_eqb (be_at s 4 at) key (λ x. d (e ∙ x)), z) refl

  pub elements_none : n ≤ i → 0 ≡ whole
  unfolding tick_at elements_at
  elements_none h =
      let z : n - i ≡ 0 = omega arith in
      sym (inv ∙ ap (λ m. tick_at (elements_at s m at) key) z)

-- where the elements that are there were searched, the tick is found
pub tick_is : (s : List ℕ) (at n : ℕ) (key : ReplicaKey) (t : ℕ) → There s at n
    → t ≡ tick_at (elements_at s n (at + 8)) key.0 → t ≡ tick_here s at key
unfolding tick_here elements_here
tick_is s at n key t h e = e ∙ ap (λ m. tick_at (elements_at s m (at + 8)) key.0) h.is

pub tick_nothing : (s : List ℕ) (at n : ℕ) (key : ReplicaKey) → There s at n → n ≡ 0 → 0 ≡ tick_here s at key
unfolding tick_at elements_at
tick_nothing s at n key h e = tick_is s at n key 0 h (rw e refl)

-- with the element whose index is the key looked at first
module _ (s : List ℕ) (at n : ℕ) (key : ReplicaKey) (h : n ≡ elements_there s at) where
  pub tick_beyond : (t : ℕ) → n ≤ key.0 → t ≡ tick_here s at key → t ≡ tick_of s at key
  unfolding tick_of
  tick_beyond t l e =
      let m : elements_there s at ≤ key.0 = omega arith in
      e ∙ sym (rw (le-ltb key.0 (elements_there s at) m, tick_of) refl)

  module _ (k : ℕ) (l : key.0 < n) (is : k ≡ be_at s 4 (at + 8 + 12 * key.0)) where
    inside : key.0 < elements_there s at
    inside = omega arith

    pub tick_guessed : (t : ℕ) → k ≡ key.0 → t ≡ be_at s 8 (at + 8 + 12 * key.0 + 4) → t ≡ tick_of s at key
    unfolding tick_of
    tick_guessed t d e =
        e ∙ sym (rw (
          lt-ltb key.0 (elements_there s at) inside,
          tick_of,
          eq-eqb (be_at s 4 (at + 8 + 12 * key.0)) key.0 (sym is ∙ d),
        ) refl)

    pub tick_other : (t : ℕ) → (k ≡ key.0 → ⊥) → t ≡ tick_here s at key → t ≡ tick_of s at key
    unfolding tick_of
    tick_other t d e =
        e ∙ sym (rw (
          lt-ltb key.0 (elements_there s at) inside,
          tick_of,
          ne_eqb (be_at s 4 (at + 8 + 12 * key.0)) key.0 (λ x. d (is ∙ x)),
        ) refl)

pub tick_from_lem : (s : List ℕ) (r : ℕ) (c d : Cursor) (i p : ℕ) (key : ReplicaKey) (t : ℕ) → d ≡ advanced s r c i
    → key ≡ key_at s r p → t ≡ tick_of s d.vector key → t ≡ tick_from s r c i p
unfolding tick_from
tick_from_lem s r c d i p key t e f g = g ∙ ap₂ (λ (x : Cursor) (k : ReplicaKey). tick_of s x.vector k) e f

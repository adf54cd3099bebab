-- The order of versions, and the greatest version of an item that ticks contain. Versions are ordered by tick and then
-- replica id; the order is total. `Greatest P i vs o` says, without any computation, that o is the greatest of the
-- versions of item i in vs with the property P, or that there is none. The machine's `greatest` meets it for the
-- property of being contained in the ticks. Where no two versions have the same replica and tick, only one option
-- meets it, so what holds of `greatest` is shown by naming an option and showing that it meets the statement.
use Prim.Native.Nat.{ℕ, ◌≤◌, ◌<◌}
use mathlib.Core.Path.{◌≡◌, refl, sym, ap}
use mathlib.Core.Logic.{◌⊎◌, inl, inr, ⊎_elim}
use mathlib.Core.Bool.{Bool, true, false}
use mathlib.Core.List.{List, [], ◌∷◌, ◌++◌}
use mathlib.Core.Option.{Option, none, some}
use native.Mathlib.Omega.{arith}
use lib.Dec.{leb, ltb, eqb}
use borrow.Author.Tests.{lt-ltb, le-leb, eq-eqb, ne_eqb, ltb-true, ltb-false, leb-true, eqb-true, eqb-false}
use Rattle.replication.specs.Machine.{Ticks, holds, later, better, greatest}
use Rattle.replication.specs.Record.{Rec}

-- ---- members of a list

abbrev pub Mem : {A : Type 0} → A → List A → Type 0
Mem x [] = ⊥
Mem x (y ∷ ys) = (x ≡ y) ⊎ Mem x ys

pub mem_added : {A : Type 0} (x y : A) (xs : List A) → Mem x (xs ++ (y ∷ [])) → Mem x xs ⊎ (x ≡ y)
mem_added x y [] (inl e) = inr e
mem_added x y [] (inr m) = absurd m
mem_added x y (z ∷ xs) (inl e) = inl (inl e)
mem_added x y (z ∷ xs) (inr m) = ⊎_elim (λ a. inl (inr a)) (λ e. inr e) (mem_added x y xs m)

-- ---- versions that ticks contain

abbrev pub Contained : Ticks → Rec → Type 0
Contained k r = (1 ≤ r.change_tick) × (r.change_tick ≤ k r.item r.change_replica)

pub contained_holds : (k : Ticks) (r : Rec) → Contained k r → holds k r ≡ true
unfolding holds
contained_holds k r c =
    rw (le-leb 1 r.change_tick c.0, holds) (le-leb r.change_tick (k r.item r.change_replica) c.1)

pub holds_contained : (k : Ticks) (r : Rec) → holds k r ≡ true → Contained k r
unfolding holds
holds_contained k r h = go (leb 1 r.change_tick) refl h
  where
    go : (t : Bool) → leb 1 r.change_tick ≡ t → ◌≡◌ {A = Bool} (elim t [ true ↦ leb r.change_tick (k r.item r.change_replica) | false ↦ false ]) true → Contained k r
    go true e h = (leb-true 1 r.change_tick e, leb-true r.change_tick (k r.item r.change_replica) h)
    go false e h = let z : ◌≡◌ {A = ℕ} 0 1 = cc in absurd (omega arith)

pub not_holds : (k : Ticks) (r : Rec) → (Contained k r → ⊥) → holds k r ≡ false
not_holds k r n = go (holds k r) refl
  where
    go : (t : Bool) → holds k r ≡ t → t ≡ false
    go true e = absurd (n (holds_contained k r e))
    go false e = refl

pub not_contained : (k : Ticks) (r : Rec) → holds k r ≡ false → Contained k r → ⊥
not_contained k r e c = let h : holds k r ≡ true = contained_holds k r c in let z : ◌≡◌ {A = ℕ} 0 1 = cc in omega arith

pub not_holds_above : (k : Ticks) (r : Rec) → holds k r ≡ false → 1 ≤ r.change_tick → k r.item r.change_replica < r.change_tick
not_holds_above k r e h = go (ltb (k r.item r.change_replica) r.change_tick) refl
  where
    go : (t : Bool) → ltb (k r.item r.change_replica) r.change_tick ≡ t → k r.item r.change_replica < r.change_tick
    go true l = ltb-true (k r.item r.change_replica) r.change_tick l
    go false l = absurd (not_contained k r e (h, ltb-false (k r.item r.change_replica) r.change_tick l))

-- ---- the order of versions

pub record AtMost (v w : Rec) : Type 0 where
  pub tick : v.change_tick ≤ w.change_tick
  pub rep : v.change_tick ≡ w.change_tick → v.change_replica ≤ w.change_replica

pub at_most_refl : (v : Rec) → AtMost v v
at_most_refl v = omega arith

pub at_most_trans : (u v w : Rec) → AtMost u v → AtMost v w → AtMost u w
at_most_trans u v w a b =
    record {
      tick = omega arith;
      rep = λ e. omega (arith, a.rep (omega arith), b.rep (omega arith));
    }

pub at_most_below : (v w : Rec) → v.change_tick < w.change_tick → AtMost v w
at_most_below v w h = record { tick = omega arith; rep = λ e. absurd (omega arith) }

-- of two versions each at most the other, replica and tick are the same
pub at_most_both : (v w : Rec) → AtMost v w → AtMost w v → (v.change_replica ≡ w.change_replica) × (v.change_tick ≡ w.change_tick)
at_most_both v w a b =
    let e : v.change_tick ≡ w.change_tick = omega arith in
    (omega (arith, a.rep e, b.rep (sym e)), e)

pub later_true : (a b : Rec) → later a b ≡ true → AtMost a b
unfolding later
later_true a b h = go (eqb a.change_tick b.change_tick) refl h
  where
    go : (t : Bool) → eqb a.change_tick b.change_tick ≡ t → ◌≡◌ {A = Bool}
        (elim t [ true ↦ ltb a.change_replica b.change_replica | false ↦ ltb a.change_tick b.change_tick ]) true → AtMost a b
    go true e h = omega (arith, eqb-true a.change_tick b.change_tick e, ltb-true a.change_replica b.change_replica h)
    go false e h = at_most_below a b (ltb-true a.change_tick b.change_tick h)

pub later_false : (a b : Rec) → later a b ≡ false → AtMost b a
unfolding later
later_false a b h = go (eqb a.change_tick b.change_tick) refl h
  where
    go : (t : Bool) → eqb a.change_tick b.change_tick ≡ t → ◌≡◌ {A = Bool}
        (elim t [ true ↦ ltb a.change_replica b.change_replica | false ↦ ltb a.change_tick b.change_tick ]) false → AtMost b a
    go true e h = omega (arith, eqb-true a.change_tick b.change_tick e, ltb-false a.change_replica b.change_replica h)
    go false e h = let n : a.change_tick ≡ b.change_tick → ⊥ = eqb-false a.change_tick b.change_tick e in
        at_most_below b a (omega (arith, ltb-false a.change_tick b.change_tick h))

pub later_below : (a b : Rec) → a.change_tick < b.change_tick → later a b ≡ true
unfolding later
later_below a b h = rw (ne_eqb a.change_tick b.change_tick (omega arith), later) (lt-ltb a.change_tick b.change_tick h)

pub at_most_total : (v w : Rec) → AtMost v w ⊎ AtMost w v
at_most_total v w = go (later v w) refl
  where
    go : (t : Bool) → later v w ≡ t → AtMost v w ⊎ AtMost w v
    go true e = inl (later_true v w e)
    go false e = inr (later_false v w e)

-- ---- the greatest version of an item with a property

pub record Top (P : Rec → Type 0) (i : ℕ) (vs : List Rec) (r : Rec) : Type 0 where
  pub mem : Mem r vs
  pub item : r.item ≡ i
  pub has : P r
  pub above : (v : Rec) → Mem v vs → v.item ≡ i → P v → AtMost v r

abbrev pub Greatest : (P : Rec → Type 0) (i : ℕ) (vs : List Rec) (o : Option Rec) → Type 0
Greatest P i vs none = (v : Rec) → Mem v vs → v.item ≡ i → P v → ⊥
Greatest P i vs (some r) = Top P i vs r

-- no two versions have the same replica and tick
abbrev pub Apart : List Rec → Type 0
Apart vs = (v w : Rec) → Mem v vs → Mem w vs → v.change_replica ≡ w.change_replica → v.change_tick ≡ w.change_tick → v ≡ w

pub greatest_unique : (P : Rec → Type 0) (i : ℕ) (vs : List Rec) (a b : Option Rec) → Apart vs → Greatest P i vs a → Greatest P i vs b → a ≡ b
greatest_unique P i vs none none d g h = refl
greatest_unique P i vs none (some y) d g h = absurd (g y h.mem h.item h.has)
greatest_unique P i vs (some x) none d g h = absurd (h x g.mem g.item g.has)
greatest_unique P i vs (some x) (some y) d g h =
    let e = at_most_both x y (h.above x g.mem g.item g.has) (g.above y h.mem h.item h.has) in
    ap some (d x y g.mem h.mem e.0 e.1)

-- two properties that the same versions of the item have
pub greatest_same : (P Q : Rec → Type 0) (i : ℕ) (vs : List Rec) (o : Option Rec) → ((v : Rec) → Mem v vs → v.item ≡ i → P v → Q v)
    → ((v : Rec) → Mem v vs → v.item ≡ i → Q v → P v) → Greatest P i vs o → Greatest Q i vs o
greatest_same P Q i vs none to from g = λ v m e h. g v m e (from v m e h)
greatest_same P Q i vs (some r) to from g =
    record {
      mem = g.mem;
      item = g.item;
      has = to r g.mem g.item g.has;
      above = λ v m e h. g.above v m e (from v m e h);
    }

-- ---- the machine's greatest meets it

-- how a version takes part: not of the item, not contained, or both
pub data Considered (k : Ticks) (i : ℕ) (r : Rec) : Type 0 where
  skips : (r.item ≡ i → ⊥) → Considered k i r
  lacks : holds k r ≡ false → Considered k i r
  takes : r.item ≡ i → holds k r ≡ true → Considered k i r

pub considered : (k : Ticks) (i : ℕ) (r : Rec) → Considered k i r
considered k i r = go (eqb r.item i) refl
  where
    held : (t : Bool) → r.item ≡ i → holds k r ≡ t → Considered k i r
    held true e h = takes e h
    held false e h = lacks h

    go : (t : Bool) → eqb r.item i ≡ t → Considered k i r
    go true e = held (holds k r) (eqb-true r.item i e) refl
    go false e = skips (eqb-false r.item i e)

pub greatest-nil : (k : Ticks) (i : ℕ) → greatest [] k i ≡ none
unfolding greatest
greatest-nil k i = refl

pub greatest_skips : (r : Rec) (rs : List Rec) (k : Ticks) (i : ℕ) → (r.item ≡ i → ⊥) → greatest (r ∷ rs) k i ≡ greatest rs k i
unfolding greatest
greatest_skips r rs k i n = rw (ne_eqb r.item i n, greatest)

pub greatest_takes : (r : Rec) (rs : List Rec) (k : Ticks) (i : ℕ) → r.item ≡ i → holds k r ≡ true → greatest (r ∷ rs) k i ≡ some (better r (greatest rs k i))
unfolding greatest
greatest_takes r rs k i e h = rw (eq-eqb r.item i e, h, greatest)

pub greatest_lacks : (r : Rec) (rs : List Rec) (k : Ticks) (i : ℕ) → holds k r ≡ false → greatest (r ∷ rs) k i ≡ greatest rs k i
unfolding greatest
greatest_lacks r rs k i h = go (eqb r.item i) refl
  where
    go : (t : Bool) → eqb r.item i ≡ t → greatest (r ∷ rs) k i ≡ greatest rs k i
    go true e = rw (e, h, greatest)
    go false e = rw (e, greatest)

pub better_none : (r : Rec) → better r none ≡ r
unfolding better
better_none r = refl

pub better_later : (r b : Rec) → later r b ≡ true → better r (some b) ≡ b
unfolding better
better_later r b e = rw (e, better)

pub better_keeps : (r b : Rec) → later r b ≡ false → better r (some b) ≡ r
unfolding better
better_keeps r b e = rw (e, better)

greatest_past : (P : Rec → Type 0) (i : ℕ) (r : Rec) (rs : List Rec) (o : Option Rec) → (r.item ≡ i → P r → ⊥) → Greatest P i rs o → Greatest P i (r ∷ rs) o
greatest_past P i r rs none n g =
    λ v m e h. ⊎_elim (λ (q : v ≡ r). n (rw q at e) (rw q at h)) (λ (l : Mem v rs). g v l e h) m
greatest_past P i r rs (some x) n g =
    record {
      mem = inr g.mem;
      item = g.item;
      has = g.has;
      above = λ v m e h. ⊎_elim (λ (q : v ≡ r). absurd (n (rw q at e) (rw q at h))) (λ (l : Mem v rs). g.above v l e h) m;
    }

greatest_with : (P : Rec → Type 0) (i : ℕ) (r : Rec) (rs : List Rec) (o : Option Rec) → r.item ≡ i → P r → Greatest P i rs o → Top P i (r ∷ rs) (better r o)
greatest_with P i r rs none e h g =
    rw better_none
    (record {
      mem = inl refl;
      item = e;
      has = h;
      above = λ v m d l. ⊎_elim (λ (q : v ≡ r). rw q (at_most_refl r)) (λ (n : Mem v rs). absurd (g v n d l)) m;
    })
greatest_with P i r rs (some b) e h g = go (later r b) refl
  where
    go : (t : Bool) → later r b ≡ t → Top P i (r ∷ rs) (better r (some b))
    go true l =
        rw (better_later r b l)
        (record {
          mem = inr g.mem;
          item = g.item;
          has = g.has;
          above = λ v m d p. ⊎_elim (λ (q : v ≡ r). rw q (later_true r b l)) (λ (n : Mem v rs). g.above v n d p) m;
        })
    go false l =
        rw (better_keeps r b l)
        (record {
          mem = inl refl;
          item = e;
          has = h;
          above = λ v m d p. ⊎_elim (λ (q : v ≡ r). rw q (at_most_refl r)) (λ (n : Mem v rs). at_most_trans v b r (g.above v n d p) (later_false r b l)) m;
        })

pub greatest_is : (vs : List Rec) (k : Ticks) (i : ℕ) → Greatest (λ r. holds k r ≡ true) i vs (greatest vs k i)
greatest_is [] k i = rw greatest-nil (λ v m e h. m)
greatest_is (r ∷ rs) k i =
    elim (considered k i r) [
      | skips n ↦ rw (greatest_skips r rs k i n) (greatest_past (λ v. holds k v ≡ true) i r rs (greatest rs k i) (λ e h. n e) (greatest_is rs k i))
      | lacks n ↦
          rw (greatest_lacks r rs k i n)
          (greatest_past (λ v. holds k v ≡ true) i r rs (greatest rs k i) (λ e h. not_contained k r n (holds_contained k r h)) (greatest_is rs k i))
      | takes e h ↦ rw (greatest_takes r rs k i e h) (greatest_with (λ v. holds k v ≡ true) i r rs (greatest rs k i) e h (greatest_is rs k i))
    ]

-- what an answer of `greatest` says
pub greatest_top : (vs : List Rec) (k : Ticks) (i : ℕ) (r : Rec) → greatest vs k i ≡ some r → Top (λ v. holds k v ≡ true) i vs r
greatest_top vs k i r e = rw e at (greatest_is vs k i)

pub greatest_mem : (vs : List Rec) (k : Ticks) (i : ℕ) (r : Rec) → greatest vs k i ≡ some r → Mem r vs
greatest_mem vs k i r e = (greatest_top vs k i r e).mem

pub greatest_item : (vs : List Rec) (k : Ticks) (i : ℕ) (r : Rec) → greatest vs k i ≡ some r → r.item ≡ i
greatest_item vs k i r e = (greatest_top vs k i r e).item

pub greatest_holds : (vs : List Rec) (k : Ticks) (i : ℕ) (r : Rec) → greatest vs k i ≡ some r → holds k r ≡ true
greatest_holds vs k i r e = (greatest_top vs k i r e).has

pub greatest_none : (vs : List Rec) (k : Ticks) (i : ℕ) (v : Rec) → greatest vs k i ≡ none → Mem v vs → v.item ≡ i → holds k v ≡ true → ⊥
greatest_none vs k i v e m d h = absent v m d h
  where
    absent : Greatest (λ w. holds k w ≡ true) i vs none
    absent = rw e at (greatest_is vs k i)

-- What one step of the machine changes, tick by tick. An edit or delete changes only the maker's tick for itself, alike
-- for all items, and adds one version at the end; a make adds one batch at the end; an apply changes only the ticks of
-- the replica that applies, inside the batch's span, to the larger of the two.
use Prim.Native.Nat.{ℕ, zero, suc, ◌+◌, ◌≤◌, ◌<◌, max}
use mathlib.Core.Path.{◌≡◌, refl, ◌∙◌, ap}
use mathlib.Core.Logic.{inl, inr}
use mathlib.Core.Bool.{Bool, true, false}
use mathlib.Core.List.{List, [], ◌∷◌, ◌++◌}
use mathlib.Core.Option.{Option, none, some}
use native.Mathlib.Omega.{arith}
use lib.Dec.{ltb, eqb}
use borrow.Author.Tests.{lt-ltb, le-ltb, eq-eqb, ne_eqb, ltb-true, ltb-false, eqb-true, eqb-false}
use Rattle.replication.specs.Machine.{Ticks, Remembered, State, largest_known, greatest, record_of, with_ticks, own_tick, changes, learns, applies, remembered_at}
use Rattle.replication.proofs.Machine.Best.{Mem}
use Rattle.replication.specs.Record.{Content, Rec}

-- ---- the pieces

pub with_same : (who q : ℕ) (k : Ticks) (f : ℕ → Ticks) → who ≡ q → with_ticks who k f q ≡ k
unfolding with_ticks
with_same who q k f e = rw (eq-eqb who q e, with_ticks)

pub with_other : (who q : ℕ) (k : Ticks) (f : ℕ → Ticks) → (who ≡ q → ⊥) → with_ticks who k f q ≡ f q
unfolding with_ticks
with_other who q k f n = rw (ne_eqb who q n, with_ticks)

pub own_same : (who t : ℕ) (k : Ticks) (i p : ℕ) → who ≡ p → own_tick who t k i p ≡ t
unfolding own_tick
own_same who t k i p e = rw (eq-eqb who p e, own_tick)

pub own_other : (who t : ℕ) (k : Ticks) (i p : ℕ) → (who ≡ p → ⊥) → own_tick who t k i p ≡ k i p
unfolding own_tick
own_other who t k i p n = rw (ne_eqb who p n, own_tick)

pub learns_below : (b : Remembered) (k : Ticks) (i p : ℕ) → i < b.first → learns b k i p ≡ k i p
unfolding learns
learns_below b k i p h = rw (lt-ltb i b.first h, learns)

pub learns_above : (b : Remembered) (k : Ticks) (i p : ℕ) → b.last < i → learns b k i p ≡ k i p
unfolding learns
learns_above b k i p h = go (ltb i b.first) refl
  where
    go : (t : Bool) → ltb i b.first ≡ t → learns b k i p ≡ k i p
    go true e = rw (e, learns)
    go false e = rw (e, lt-ltb b.last i h, learns)

pub learns_inside : (b : Remembered) (k : Ticks) (i p : ℕ) → b.first ≤ i → i ≤ b.last → learns b k i p ≡ max (k i p) (b.ticks i p)
unfolding learns
learns_inside b k i p h l = rw (le-ltb i b.first h, le-ltb b.last i l, learns)

pub numbered_mem : (n : ℕ) (bs : List Remembered) (b : Remembered) → remembered_at n bs ≡ some b → Mem b bs
unfolding remembered_at
numbered_mem zero [] b e = let z : ◌≡◌ {A = ℕ} 0 1 = cc in absurd (omega arith)
numbered_mem (suc n) [] b e = let z : ◌≡◌ {A = ℕ} 0 1 = cc in absurd (omega arith)
numbered_mem zero (x ∷ xs) b e = inl (cc)
numbered_mem (suc n) (x ∷ xs) b e = inr (numbered_mem n xs b e)

-- ---- the new version of an edit or delete

-- the tick of a replica's next edit or delete
abbrev pub next_of : ℕ → State → ℕ
next_of who m = 1 + largest_known (m.ticks who)

unfoldable pub new_version : Content → ℕ → ℕ → State → Rec
new_version content who item m = record_of content item who (next_of who m) (greatest m.versions (m.ticks who) item)

record_item : (content : Content) (item who t : ℕ) (o : Option Rec) → (record_of content item who t o).item ≡ item
unfolding record_of
record_item content item who t none = refl
record_item content item who t (some g) = refl

record_replica : (content : Content) (item who t : ℕ) (o : Option Rec) → (record_of content item who t o).change_replica ≡ who
unfolding record_of
record_replica content item who t none = refl
record_replica content item who t (some g) = refl

record_tick : (content : Content) (item who t : ℕ) (o : Option Rec) → (record_of content item who t o).change_tick ≡ t
unfolding record_of
record_tick content item who t none = refl
record_tick content item who t (some g) = refl

module _ (content : Content) (who item : ℕ) (m : State) where
  pub new_item_lem : (new_version content who item m).item ≡ item
  unfolding new_version
  new_item_lem = record_item content item who (next_of who m) (greatest m.versions (m.ticks who) item)

  pub new_replica : (new_version content who item m).change_replica ≡ who
  unfolding new_version
  new_replica = record_replica content item who (next_of who m) (greatest m.versions (m.ticks who) item)

  pub new_tick_lem : (new_version content who item m).change_tick ≡ next_of who m
  unfolding new_version
  new_tick_lem = record_tick content item who (next_of who m) (greatest m.versions (m.ticks who) item)

  -- its create version is the version itself where the maker contains no version of the item, and else that of the
  -- greatest one
  pub new_created : greatest m.versions (m.ticks who) item ≡ none → ((new_version content who item m).create_replica ≡ who) × ((new_version content who item m).create_tick ≡ next_of who m)
  unfolding new_version record_of
  new_created e = rw e (refl, refl)

  pub new_inherits : (g : Rec) → greatest m.versions (m.ticks who) item ≡ some g
      → ((new_version content who item m).create_replica ≡ g.create_replica) × ((new_version content who item m).create_tick ≡ g.create_tick)
  unfolding new_version record_of
  new_inherits g e = rw e (refl, refl)

  pub changes_versions : (changes content who item m).versions ≡ m.versions ++ (new_version content who item m ∷ [])
  unfolding changes new_version
  changes_versions = refl

  pub changes_batches : (changes content who item m).batches ≡ m.batches
  unfolding changes
  changes_batches = refl

  pub changes_ticks : (changes content who item m).ticks ≡ with_ticks who (own_tick who (next_of who m) (m.ticks who)) m.ticks
  unfolding changes
  changes_ticks = refl

  -- the one tick of a replica that an edit or delete changes: its own, for every item
  pub changes_own : (q i p : ℕ) → who ≡ q → who ≡ p → (changes content who item m).ticks q i p ≡ next_of who m
  changes_own q i p e d =
      ap (λ (f : ℕ → Ticks). f q i p) changes_ticks ∙ ap (λ (k : Ticks). k i p)
      (with_same who q (own_tick who (next_of who m) (m.ticks who)) m.ticks e) ∙ own_same who (next_of who m) (m.ticks who) i p d

  pub changes_elsewhere : (q : ℕ) → (who ≡ q → ⊥) → (changes content who item m).ticks q ≡ m.ticks q
  changes_elsewhere q n =
      ap (λ (f : ℕ → Ticks). f q) changes_ticks ∙ with_other who q (own_tick who (next_of who m) (m.ticks who)) m.ticks n

  pub changes_same : (q i p : ℕ) → (who ≡ q → who ≡ p → ⊥) → (changes content who item m).ticks q i p ≡ m.ticks q i p
  changes_same q i p n = go (eqb who q) refl
    where
      go : (t : Bool) → eqb who q ≡ t → (changes content who item m).ticks q i p ≡ m.ticks q i p
      go true e =
          let d : who ≡ q = eqb-true who q e in
          ap (λ (f : ℕ → Ticks). f q i p) changes_ticks ∙ ap (λ (k : Ticks). k i p)
          (with_same who q (own_tick who (next_of who m) (m.ticks who)) m.ticks d)
          ∙ own_other who (next_of who m) (m.ticks who) i p (n d) ∙ ap (λ (x : ℕ). m.ticks x i p) d
      go false e = ap (λ (k : Ticks). k i p) (changes_elsewhere q (eqb-false who q e))

-- is a tick the maker's own
pub data Whose (who q p : ℕ) : Type 0 where
  own : who ≡ q → who ≡ p → Whose who q p
  other : (who ≡ q → who ≡ p → ⊥) → Whose who q p

pub whose : (who q p : ℕ) → Whose who q p
whose who q p = go (eqb who q) (eqb who p) refl refl
  where
    go : (s t : Bool) → eqb who q ≡ s → eqb who p ≡ t → Whose who q p
    go true true e d = own (eqb-true who q e) (eqb-true who p d)
    go true false e d = other (λ x y. eqb-false who p d y)
    go false true e d = other (λ x y. eqb-false who q e x)
    go false false e d = other (λ x y. eqb-false who q e x)

-- ---- a make

-- what a make of a replica remembers
abbrev pub taken_by : ℕ → ℕ → ℕ → State → Remembered
taken_by who first last m = record { first = first; last = last; ticks = m.ticks who }

-- ---- an apply

-- how the ticks of a replica for an item come out of an apply: as they were, or the larger of them and the batch's
pub data Learned (who : ℕ) (b : Remembered) (q i : ℕ) : Type 0 where
  unchanged : ((m : State) (p : ℕ) → (applies who (some b) m).ticks q i p ≡ m.ticks q i p) → Learned who b q i
  raised : who ≡ q → b.first ≤ i → i ≤ b.last → ((m : State) (p : ℕ) → (applies who (some b) m).ticks q i p ≡ max (m.ticks q i p) (b.ticks i p)) → Learned who b q i

module _ (who : ℕ) (b : Remembered) (m : State) where
  pub applies_versions : (applies who (some b) m).versions ≡ m.versions
  unfolding applies
  applies_versions = refl

  pub applies_batches : (applies who (some b) m).batches ≡ m.batches
  unfolding applies
  applies_batches = refl

  applies_ticks : (applies who (some b) m).ticks ≡ with_ticks who (learns b (m.ticks who)) m.ticks
  unfolding applies
  applies_ticks = refl

  pub applies_elsewhere : (q : ℕ) → (who ≡ q → ⊥) → (applies who (some b) m).ticks q ≡ m.ticks q
  applies_elsewhere q n = ap (λ (f : ℕ → Ticks). f q) applies_ticks ∙ with_other who q (learns b (m.ticks who)) m.ticks n

  applies_here : (q : ℕ) → who ≡ q → (applies who (some b) m).ticks q ≡ learns b (m.ticks q)
  applies_here q e =
      ap (λ (f : ℕ → Ticks). f q) applies_ticks ∙ with_same who q (learns b (m.ticks who)) m.ticks e ∙ ap (λ (x : ℕ). learns b (m.ticks x)) e

  pub applies_inside : (q i p : ℕ) → who ≡ q → b.first ≤ i → i ≤ b.last → (applies who (some b) m).ticks q i p ≡ max (m.ticks q i p) (b.ticks i p)
  applies_inside q i p e h l = ap (λ (k : Ticks). k i p) (applies_here q e) ∙ learns_inside b (m.ticks q) i p h l

  pub applies_below : (q i p : ℕ) → i < b.first → (applies who (some b) m).ticks q i p ≡ m.ticks q i p
  applies_below q i p h = go (eqb who q) refl
    where
      go : (t : Bool) → eqb who q ≡ t → (applies who (some b) m).ticks q i p ≡ m.ticks q i p
      go true e = ap (λ (k : Ticks). k i p) (applies_here q (eqb-true who q e)) ∙ learns_below b (m.ticks q) i p h
      go false e = ap (λ (k : Ticks). k i p) (applies_elsewhere q (eqb-false who q e))

  pub applies_above : (q i p : ℕ) → b.last < i → (applies who (some b) m).ticks q i p ≡ m.ticks q i p
  applies_above q i p h = go (eqb who q) refl
    where
      go : (t : Bool) → eqb who q ≡ t → (applies who (some b) m).ticks q i p ≡ m.ticks q i p
      go true e = ap (λ (k : Ticks). k i p) (applies_here q (eqb-true who q e)) ∙ learns_above b (m.ticks q) i p h
      go false e = ap (λ (k : Ticks). k i p) (applies_elsewhere q (eqb-false who q e))

pub learned : (who : ℕ) (b : Remembered) (q i : ℕ) → Learned who b q i
learned who b q i = go (eqb who q) (ltb i b.first) (ltb b.last i) refl refl refl
  where
    go : (s t u : Bool) → eqb who q ≡ s → ltb i b.first ≡ t → ltb b.last i ≡ u → Learned who b q i
    go true true u e f g = unchanged (λ m p. applies_below who b m q i p (ltb-true i b.first f))
    go true false true e f g = unchanged (λ m p. applies_above who b m q i p (ltb-true b.last i g))
    go true false false e f g =
        let d : who ≡ q = eqb-true who q e in
        let h : b.first ≤ i = ltb-false i b.first f in
        let l : i ≤ b.last = ltb-false b.last i g in
        raised d h l (λ m p. applies_inside who b m q i p d h l)
    go false t u e f g = unchanged (λ m p. ap (λ (k : Ticks). k i p) (applies_elsewhere who b m q (eqb-false who q e)))

-- two batches in either order, and one twice
pub applies_commute : (who : ℕ) (a b : Remembered) (m : State) (q i p : ℕ) → (applies who (some b) (applies who (some a) m)).ticks q i p ≡ (applies who (some a) (applies who (some b) m)).ticks q i p
applies_commute who a b m q i p =
    elim (learned who a q i) [
      | unchanged f ↦
          elim (learned who b q i) [
            | unchanged g ↦ omega (arith, f m p, f (applies who (some b) m) p, g m p, g (applies who (some a) m) p)
            | raised e h l g ↦ omega (arith, f m p, f (applies who (some b) m) p, g m p, g (applies who (some a) m) p)
          ]
      | raised d j k f ↦
          elim (learned who b q i) [
            | unchanged g ↦ omega (arith, f m p, f (applies who (some b) m) p, g m p, g (applies who (some a) m) p)
            | raised e h l g ↦ omega (arith, f m p, f (applies who (some b) m) p, g m p, g (applies who (some a) m) p)
          ]
    ]

pub applies_twice : (who : ℕ) (a : Remembered) (m : State) (q i p : ℕ) → (applies who (some a) (applies who (some a) m)).ticks q i p ≡ (applies who (some a) m).ticks q i p
applies_twice who a m q i p =
    elim (learned who a q i) [
      | unchanged f ↦ f (applies who (some a) m) p
      | raised d j k f ↦ omega (arith, f m p, f (applies who (some a) m) p)
    ]

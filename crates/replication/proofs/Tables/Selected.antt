-- The records that a make carries: those of the table that meet a test, in the table's order. So the selected table
-- rises where the table does, what it finds for an item is what the table finds, where that meets the test, and each of
-- its records meets the test. A record that is left out is found no more, as its item stands only once in the table.
use Prim.Native.Nat.{ℕ, suc, ◌≤◌}
use mathlib.Core.Path.{◌≡◌, refl, sym, ◌∙◌, subst}
use mathlib.Core.Bool.{Bool, true, false}
use mathlib.Core.List.{List, [], ◌∷◌}
use mathlib.Core.Option.{Option, none, some}
use native.Mathlib.Omega.{arith}
use lib.ListN.{length}
use Rattle.layout.specs.Knowledge.{All, Rising, Knowledge}
use Rattle.replication.specs.Formats.{items, find}
use Rattle.replication.specs.Reading.{both}
use Rattle.replication.specs.OpenBatch.{lacks_change}
use Rattle.ticks.specs.Table.{in_span}
use Rattle.replication.specs.Operate.{selected}
use Rattle.replication.proofs.Tables.Rising.{rising-cons, rising_low, rising_rest, rising_down, find-nil, find_here, find_there, here, there, finds, find_below, both_parts}
use Rattle.replication.specs.Record.{Rec}

-- of what is found, what a make carries
unfoldable pub kept : ℕ → ℕ → Knowledge → Option Rec → Option Rec
kept f l n none = none
kept f l n (some r) = elim (both (in_span f l r.item) (lacks_change n r)) [ true ↦ some r | false ↦ none ]

pub kept_none : (f l : ℕ) (n : Knowledge) → kept f l n none ≡ none
unfolding kept
kept_none f l n = refl

pub kept_in : (f l : ℕ) (n : Knowledge) (r : Rec) → both (in_span f l r.item) (lacks_change n r) ≡ true → kept f l n (some r) ≡ some r
unfolding kept
kept_in f l n r e = rw (e, kept)

pub kept_out : (f l : ℕ) (n : Knowledge) (r : Rec) → both (in_span f l r.item) (lacks_change n r) ≡ false → kept f l n (some r) ≡ none
unfolding kept
kept_out f l n r e = rw (e, kept)

pub selected-nil : (f l : ℕ) (n : Knowledge) → selected f l n [] ≡ []
unfolding selected
selected-nil f l n = refl

pub selected_in :
    (f l : ℕ)
    (n : Knowledge)
    (x : Rec)
    (xs : List Rec)
    → both (in_span f l x.item) (lacks_change n x) ≡ true
    → selected f l n (x ∷ xs) ≡ x ∷ selected f l n xs
unfolding selected
selected_in f l n x xs e = rw (e, selected)

pub selected_out :
    (f l : ℕ)
    (n : Knowledge)
    (x : Rec)
    (xs : List Rec)
    → both (in_span f l x.item) (lacks_change n x) ≡ false
    → selected f l n (x ∷ xs) ≡ selected f l n xs
unfolding selected
selected_out f l n x xs e = rw (e, selected)

-- a record of a table is selected, or is not
pub data Selects (f l : ℕ) (n : Knowledge) (x : Rec) (xs : List Rec) : Type 0 where
  takes :
      both (in_span f l x.item) (lacks_change n x) ≡ true → selected f l n (x ∷ xs) ≡ x ∷ selected f l n xs → Selects f l n x xs
  leaves :
      both (in_span f l x.item) (lacks_change n x) ≡ false → selected f l n (x ∷ xs) ≡ selected f l n xs → Selects f l n x xs

pub selects : (f l : ℕ) (n : Knowledge) (x : Rec) (xs : List Rec) → Selects f l n x xs
selects f l n x xs = go (both (in_span f l x.item) (lacks_change n x)) refl
  where
    go : (t : Bool) → both (in_span f l x.item) (lacks_change n x) ≡ t → Selects f l n x xs
    go true e = takes e (selected_in f l n x xs e)
    go false e = leaves e (selected_out f l n x xs e)

pub selected_rising :
    (f l : ℕ) (n : Knowledge) (lo : ℕ) (xs : List Rec) → Rising lo (items xs) → Rising lo (items (selected f l n xs))
selected_rising f l n lo [] p = rw (selected-nil f l n) p
selected_rising f l n lo (x ∷ xs) p =
    let h : lo ≤ x.item = rising_low lo x xs p in
    let rest = selected_rising f l n (suc x.item) xs (rising_rest lo x xs p) in
    elim (selects f l n x xs) [
      | takes t e ↦ rw e (rising-cons lo x (selected f l n xs) h rest)
      | leaves t e ↦ rw e (rising_down lo (suc x.item) (selected f l n xs) (omega arith) rest)
    ]

pub find_selected :
    (f l : ℕ)
    (n : Knowledge)
    (lo i : ℕ)
    (xs : List Rec)
    → Rising lo (items xs)
    → find i (selected f l n xs) ≡ kept f l n (find i xs)
find_selected f l n lo i [] p = cc (selected-nil f l n, find-nil i, kept_none f l n)
find_selected f l n lo i (x ∷ xs) p =
    elim (finds i x xs) [
      | here k g ↦ first k g (selects f l n x xs)
      | there k g ↦ further k g (selects f l n x xs) (find_selected f l n (suc x.item) i xs q)
    ]
  where
    q : Rising (suc x.item) (items xs)
    q = rising_rest lo x xs p

    first : x.item ≡ i → find i (x ∷ xs) ≡ some x → Selects f l n x xs → find i (selected f l n (x ∷ xs)) ≡ kept f l n (find i (x ∷ xs))
    first k g (takes t e) = cc (find_here i x (selected f l n xs) k, kept_in f l n x t)
    first k g (leaves t e) =
        cc (
          find_below (suc x.item) i (selected f l n xs) (selected_rising f l n (suc x.item) xs q) (omega arith),
          kept_out f l n x t,
        )

    further :
        (x.item ≡ i → ⊥)
        → find i (x ∷ xs) ≡ find i xs
        → Selects f l n x xs
        → find i (selected f l n xs) ≡ kept f l n (find i xs)
        → find i (selected f l n (x ∷ xs)) ≡ kept f l n (find i (x ∷ xs))
    further k g (takes t e) ih = cc (find_there i x (selected f l n xs) k)
    further k g (leaves t e) ih = cc

pub selected-length : (f l : ℕ) (n : Knowledge) (xs : List Rec) → length (selected f l n xs) ≤ length xs
selected-length f l n [] = rw (selected-nil f l n) (omega arith)
selected-length f l n (x ∷ xs) =
    elim (selects f l n x xs) [
      | takes t e ↦ rw e (omega (arith, selected-length f l n xs))
      | leaves t e ↦ rw e (omega (arith, selected-length f l n xs))
    ]

pub all_selected : (P : Rec → Type 0) (f l : ℕ) (n : Knowledge) (xs : List Rec) → All P xs → All P (selected f l n xs)
all_selected P f l n [] a = rw (selected-nil f l n) tt
all_selected P f l n (x ∷ xs) a =
    elim (selects f l n x xs) [
      | takes t e ↦ rw e (a.0, all_selected P f l n xs a.1)
      | leaves t e ↦ rw e (all_selected P f l n xs a.1)
    ]

-- each record that is selected meets the test
pub selected_meets :
    (f l : ℕ) (n : Knowledge) (xs : List Rec) → All (λ r. both (in_span f l r.item) (lacks_change n r) ≡ true) (selected f l n xs)
selected_meets f l n [] = rw (selected-nil f l n) tt
selected_meets f l n (x ∷ xs) =
    elim (selects f l n x xs) [
      | takes t e ↦ rw e (t, selected_meets f l n xs)
      | leaves t e ↦ rw e (selected_meets f l n xs)
    ]

-- a record that a batch carries
pub kept_some : (f l : ℕ) (n : Knowledge) (o : Option Rec) (r : Rec) → kept f l n o ≡ some r → (o ≡ some r) × ((in_span f l r.item ≡ true) × (lacks_change n r ≡ true))
kept_some f l n none r e =
    let h : none ≡ some r = sym (kept_none f l n) ∙ e in
    let z : ◌≡◌ {A = ℕ} 0 1 = cc in
    absurd (omega arith)
kept_some f l n (some x) r e = go (both (in_span f l x.item) (lacks_change n x)) refl
  where
    go : (t : Bool) → both (in_span f l x.item) (lacks_change n x) ≡ t → (some x ≡ some r) × ((in_span f l r.item ≡ true) × (lacks_change n r ≡ true))
    go true h =
        let same : some x ≡ some r = sym (kept_in f l n x h) ∙ e in
        let eq : x ≡ r = cc in
        (same, subst (λ y. (in_span f l y.item ≡ true) × (lacks_change n y ≡ true)) eq (both_parts (in_span f l x.item) (lacks_change n x) h))
    go false h =
        let bad : none ≡ some r = sym (kept_out f l n x h) ∙ e in
        let z : ◌≡◌ {A = ℕ} 0 1 = cc in
        absurd (omega arith)

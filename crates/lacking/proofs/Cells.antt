-- Rows of ticks, and what lacks at an item. A row is cleared and then filled from the last element to the first, so that
-- the first element of a key stays. The elements of the other knowledge's vector are compared one after the other: the whole
-- answer is the answer from here on. Beside these, what the functions with no loop return.
use Prim.Native.Nat.{ℕ, ◌+◌, ◌-◌, ◌*◌, ◌≤◌, ◌<◌}
use mathlib.Core.Path.{◌≡◌, refl, sym, ap, ap₂, ◌∙◌}
use mathlib.Core.Logic.{inl, inr}
use mathlib.Core.Bool.{Bool, true, false}
use mathlib.Core.Option.{Option, none, some}
use mathlib.Core.List.{List, [], ◌∷◌}
use native.Mathlib.Omega.{arith}
use lib.Dec.{eqb, ltb}
use lib.ListN.{length, get_or, set, length-set, get_or-eq_default}
use lib.Seq.{get_or-set_same, get_or-set_other}
use borrow.Author.Tests.{lt-ltb, le-ltb}
use Rattle.codec.specs.Number.{be_at}
use Rattle.codec.specs.Total.{read_at}
use Rattle.codec.specs.Words.{words2}
use Rattle.codec.specs.declared.Item.{Item}
use Rattle.codec.specs.declared.Replica.{Replica}
use Rattle.codec.specs.Ids.{item_of, replica_of}
use Rattle.layout.specs.declared.ReplicaKey.{ReplicaKey}
use Rattle.layout.specs.Decode.{elements_at}
use Rattle.layout.specs.MethodPlaces.{ids_place}
use Rattle.ticks.specs.Meaning.{tick_at}
use Rattle.ticks.specs.MethodRows.{lesser, least_with, least_of}
use Rattle.ticks.proofs.Vectors.{tick-nil, tick_same, tick_other}
use Rattle.ticks.proofs.Equality.{exact?, eqb_exact}
use Rattle.ticks.proofs.ForRows.{least_with_not, least_with_lacking}
use Rattle.lookup.specs.declared.Cursor.{Cursor}
use Rattle.std.specs.Prelude as Std
use Rattle.std.specs.Prelude.{Some, None}
use Rattle.lookup.specs.Method.{key_at, There, element_at, elements_here}
use Rattle.lacking.specs.Method.{Keyed, stop_at, bound_of, nearer_of, Zeros, RowOf, RowWritten, id_from, level_of, least_id}
use Rattle.lookup.proofs.Loops.{elements-zero, elements-cons, here_is}

-- past the end of a list of numbers there is 0
pub beyond : (l : List ℕ) (c : ℕ) → length l ≤ c → get_or l c 0 ≡ 0
beyond l c h = get_or-eq_default l 0 h

-- Filling

row_zeros : (row : List ℕ) → Zeros row → RowOf [] row
row_zeros row z = record { is = λ c h. z.is c ∙ sym (tick-nil c) }

module _ (s : List ℕ) (vector n : ℕ) (row : List ℕ) (t : There s vector n) where
  pub row_whole : (row₀ : List ℕ) (left at : ℕ) → RowOf (elements_at s (n - left) at) row → at ≡ vector + 8 + 12 * left → left ≡ 0
      → length row ≡ length row₀
      → RowWritten s vector row₀ row
  row_whole row₀ left at r p z e =
      let m : n - left ≡ n = omega arith in
      let q : at ≡ vector + 8 = omega arith in
      record { is = rw (here_is s vector n t ∙ ap₂ (λ x y. elements_at s x y) (sym m) (sym q)) r; size = e }

pub row_begins : (s : List ℕ) (n at : ℕ) (row : List ℕ) → Zeros row → RowOf (elements_at s (n - n) at) row
row_begins s n at row z = rw (elements-zero s (n - n) at (omega arith)) (row_zeros row z)

-- one element more, the one at `prev`
module _ (s : List ℕ) (n left at prev : ℕ) (row : List ℕ) (key : ℕ) (r : RowOf (elements_at s (n - left) at) row)
    (l : left ≤ n) (p : 0 < left) (q : prev + 12 ≡ at) (f : key ≡ be_at s 4 prev) where
  more_elements : elements_at s (n - (left - 1)) prev ≡ element_at s prev ∷ elements_at s (n - left) at
  more_elements =
      let m : n - (left - 1) - 1 ≡ n - left = omega arith in
      elements-cons s (n - (left - 1)) prev (omega arith) ∙ ap₂ (λ x y. element_at s prev ∷ elements_at s x y) m q

  pub row-set : (tick : ℕ) → tick ≡ be_at s 8 (prev + 4) → key < length row
      → RowOf (elements_at s (n - (left - 1)) prev) (set row key tick)
  row-set tick g k = rw more_elements (record { is = each })
    where
      each : (c : ℕ) → c < length (set row key tick)
          → get_or (set row key tick) c 0 ≡ tick_at (element_at s prev ∷ elements_at s (n - left) at) c
      each c h =
          elim (exact? eqb eqb_exact c key) [
            | inl e ↦
                ap (λ (d : ℕ). get_or (set row key tick) d 0) e ∙ get_or-set_same row key tick 0 k ∙ g
                ∙ sym (tick_same (element_at s prev) (elements_at s (n - left) at) c (sym f ∙ sym e))
            | inr m ↦
                get_or-set_other row key c tick 0 m ∙ r.is c (omega (arith, length-set row key tick))
                ∙ sym (tick_other (element_at s prev) (elements_at s (n - left) at) c (λ e. m (sym (f ∙ e))))
          ]

  pub row_skip : length row ≤ key → RowOf (elements_at s (n - (left - 1)) prev) row
  row_skip k =
      rw more_elements
      (record {
        is = λ c h. r.is c h ∙ sym (tick_other (element_at s prev) (elements_at s (n - left) at) c (λ e. absurd (omega (arith, f, e))));
      })

-- The keys of another map

pub keyed_more : (s : List ℕ) (r : ℕ) (t : List ℕ) (k : ℕ) (keys : List ℕ) (x : ℕ) (key : ReplicaKey) → Keyed s r t k keys
    → k < length keys → x ≡ be_at t 16 (ids_place + 16 * k) → key ≡ key_at s r x → Keyed s r t (k + 1) (set keys k key.0)
keyed_more s r t k keys x key h l id e = record { is = each; size = omega (arith, length-set keys k key.0) }
  where
    each : (j : ℕ) → j < k + 1 → get_or (set keys k key.0) j 0 ≡ (key_at s r (be_at t 16 (ids_place + 16 * j))).0
    each j m =
        elim (exact? eqb eqb_exact j k) [
          | inl d ↦
              ap (λ (n : ℕ). get_or (set keys k key.0) n 0) d ∙ get_or-set_same keys k key.0 0 l
              ∙ ap (λ (z : ReplicaKey). z.0) (e ∙ ap (key_at s r) id) ∙ ap (λ n. (key_at s r (be_at t 16 (ids_place + 16 * n))).0) (sym d)
          | inr n ↦ get_or-set_other keys k j key.0 0 n ∙ h.is j (omega (arith, n))
        ]

-- Levels

module _ (keys row : List ℕ) (key : ℕ) where
  pub level_none : length keys ≤ key → 0 ≡ level_of keys row key
  unfolding level_of
  level_none h = sym (rw (le-ltb key (length keys) h, level_of))

  pub level_is : key < length keys → get_or row (get_or keys key 0) 0 ≡ level_of keys row key
  unfolding level_of
  level_is h = sym (rw (lt-ltb key (length keys) h, level_of))

  pub level_short : key < length keys → length row ≤ get_or keys key 0 → 0 ≡ level_of keys row key
  level_short h l = sym (beyond row (get_or keys key 0) l) ∙ level_is h

-- The least id

module _ (best : Std.Option Replica) (p : Replica) where
  pub lesser_nothing : best ≡ None → least_id (Some p) ≡ lesser (least_id best) (replica_of p)
  unfolding least_id lesser
  lesser_nothing e = sym (rw e refl)

  module _ (q : Replica) (e : best ≡ Some q) (b : Bool) (f : b ≡ ltb (replica_of p) (replica_of q)) where
    pub lesser_new : b ≡ true → least_id (Some p) ≡ lesser (least_id best) (replica_of p)
    unfolding least_id lesser
    lesser_new t = sym (rw (e, least_id, lesser, sym f ∙ t) refl)

    pub lesser_old : b ≡ false → least_id (Some q) ≡ lesser (least_id best) (replica_of p)
    unfolding least_id lesser
    lesser_old t = rw e (sym (rw (least_id, lesser, sym f ∙ t) refl))

module _ (t : List ℕ) (at : ℕ) (keys row : List ℕ) (best : Std.Option Replica) (n tick l : ℕ) (e : n ≡ be_at t 4 at) (f : tick ≡ be_at t 8 (at + 4))
    (g : l ≡ level_of keys row n) where
  pub with_not_above : tick ≤ l → least_id best ≡ least_with (level_of keys row) (id_from t) (least_id best) (element_at t at)
  with_not_above h =
      sym (least_with_not (level_of keys row) (id_from t) (least_id best) (element_at t at) (omega (arith, e, f, g, ap (level_of keys row) e)))

  pub with_above : l < tick → (x y : ℕ) → x ≡ read_at t 8 (ids_place + 16 * n) → y ≡ read_at t 8 (ids_place + 16 * n + 8)
      → (r : Std.Option Replica)
      → least_id r ≡ lesser (least_id best) (words2 x y) → least_id r ≡ least_with (level_of keys row) (id_from t) (least_id best) (element_at t at)
  unfolding id_from
  with_above h x y i j r k =
      k ∙ ap (lesser (least_id best)) (ap₂ words2 i j ∙ ap (id_from t) e)
      ∙ sym (least_with_lacking (level_of keys row) (id_from t) (least_id best) (element_at t at) (omega (arith, e, f, g, ap (level_of keys row) e)))

module _ (level id : ℕ → ℕ) (t : List ℕ) where
  pub least_begins : (vector n at : ℕ) → There t vector n → at ≡ vector + 8
      → least_of level id none (elements_here t vector) ≡ least_of level id (least_id None) (elements_at t (n - 0) at)
  unfolding least_id
  least_begins vector n at h f =
      let e : n ≡ n - 0 = omega arith in
      ap (least_of level id none) (here_is t vector n h ∙ ap₂ (λ m x. elements_at t m x) e (sym f))

  module _ (whole : Option ℕ) (n i at : ℕ) (best : Std.Option Replica) (inv : whole ≡ least_of level id (least_id best) (elements_at t (n - i) at)) where
    pub least_next : (r : Std.Option Replica) (next : ℕ) → least_id r ≡ least_with level id (least_id best) (element_at t at) → i < n
        → next ≡ at + 12 → whole ≡ least_of level id (least_id r) (elements_at t (n - (i + 1)) next)
    unfolding least_of
    least_next r next e h f =
        let m : n - i - 1 ≡ n - (i + 1) = omega arith in
        inv
        ∙ ap (least_of level id (least_id best))
        (elements-cons t (n - i) at (omega arith) ∙ ap₂ (λ x y. element_at t at ∷ elements_at t x y) m (sym f))
        ∙ ap (λ w. least_of level id w (elements_at t (n - (i + 1)) next)) (sym e)

    pub least_end : n ≤ i → least_id best ≡ whole
    unfolding least_of
    least_end h = sym (inv ∙ ap (least_of level id (least_id best)) (elements-zero t (n - i) at (omega arith)))

pub least_none_above : (whole : Option ℕ) → whole ≡ none → least_id None ≡ whole
unfolding least_id
least_none_above whole e = sym e

module _ (keys row : List ℕ) (id : ℕ → ℕ) (t : List ℕ) where
  pub none_above_begins : (vector n at : ℕ) → There t vector n → at ≡ vector + 8
      → least_of (level_of keys row) id none (elements_here t vector) ≡ least_of (level_of keys row) id none (elements_at t (n - 0) at)
  unfolding least_id
  none_above_begins vector n at h f = least_begins (level_of keys row) id t vector n at h f

  module _ (whole : Option ℕ) (n i at : ℕ) (inv : whole ≡ least_of (level_of keys row) id none (elements_at t (n - i) at)) where
    pub none_above_next : (k tick l next : ℕ) → k ≡ be_at t 4 at → tick ≡ be_at t 8 (at + 4) → l ≡ level_of keys row k → tick ≤ l → i < n
        → next ≡ at + 12 → whole ≡ least_of (level_of keys row) id none (elements_at t (n - (i + 1)) next)
    unfolding least_id
    none_above_next k tick l next e f g h j o =
        least_next (level_of keys row) id t whole n i at None inv None next
        (sym (least_with_not (level_of keys row) id none (element_at t at) (omega (arith, e, f, g, ap (level_of keys row) e)))) j o

    pub none_above_all : n ≤ i → whole ≡ none
    unfolding least_id
    none_above_all h = sym (least_end (level_of keys row) id t whole n i at None inv h)

-- Stops

module _ (s : List ℕ) (c : Cursor) (hi : ℕ) where
  pub bound_none : c.left ≡ 0 → stop_at None ≡ bound_of s c hi
  unfolding stop_at bound_of
  bound_none h = let l : c.left ≤ 0 = omega arith in sym (rw (le-ltb 0 c.left l, bound_of))

  module _ (i : Item) (b : Bool) (left : 0 < c.left) (is : item_of i ≡ be_at s 24 c.next) (e : b ≡ ltb hi (item_of i)) where
    pub bound_above : b ≡ true → stop_at None ≡ bound_of s c hi
    unfolding stop_at bound_of
    bound_above t =
        let k : ltb hi (be_at s 24 c.next) ≡ true = ap (ltb hi) (sym is) ∙ sym e ∙ t in
        sym (rw (lt-ltb 0 c.left left, bound_of, k))

    pub bound_inside : b ≡ false → stop_at (Some i) ≡ bound_of s c hi
    unfolding stop_at bound_of
    bound_inside t =
        let k : ltb hi (be_at s 24 c.next) ≡ false = ap (ltb hi) (sym is) ∙ sym e ∙ t in
        sym (rw (lt-ltb 0 c.left left, bound_of, k) (ap some (sym is)))

module _ (a b : Std.Option Item) where
  pub nearer_second : a ≡ None → stop_at b ≡ nearer_of (stop_at a) (stop_at b)
  unfolding stop_at nearer_of
  nearer_second e = rw e refl

  module _ (i : Item) (e : a ≡ Some i) where
    pub nearer_first : b ≡ None → stop_at (Some i) ≡ nearer_of (stop_at a) (stop_at b)
    unfolding stop_at nearer_of
    nearer_first f = rw (e, f) refl

    module _ (j : Item) (f : b ≡ Some j) (t : Bool) (g : t ≡ ltb (item_of j) (item_of i)) where
      pub nearer_less : t ≡ true → stop_at (Some j) ≡ nearer_of (stop_at a) (stop_at b)
      unfolding stop_at nearer_of
      nearer_less h = rw (e, f) (sym (rw (stop_at, nearer_of, sym g ∙ h) refl))

      pub nearer_not : t ≡ false → stop_at (Some i) ≡ nearer_of (stop_at a) (stop_at b)
      unfolding stop_at nearer_of
      nearer_not h = rw (e, f) (sym (rw (stop_at, nearer_of, sym g ∙ h) refl))

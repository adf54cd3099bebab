-- Rows at the bounds of two rising lists. In each turn the smaller of the two next bounds is passed, so that every bound that
-- is left is at or above all that were passed. A bound above the last row's gets the next row; any other is at most that
-- row's bound, and is equal to it where it is not the first row, so that no row is missing for it. Hence there is no bound
-- strictly between two rows that follow each other (`behind_grows`), and those that are left at the end are above the last item.
-- So the rows that code puts are stops at the bounds (`stopped_stops`).
use Prim.Native.Nat.{ℕ, zero, suc, ◌+◌, ◌-◌, ◌*◌, ◌≤◌, ◌<◌}
use mathlib.Core.Path.{◌≡◌, refl, sym, ap, ap₂, ◌∙◌, subst}
use mathlib.Core.Logic.{◌⊎◌, inl, inr}
use mathlib.Core.Bool.{Bool, true, false}
use mathlib.Core.List.{List, [], ◌∷◌}
use native.Mathlib.Omega.{arith}
use lib.Dec.{ltb}
use lib.ListN.{length, take, drop, get_or, set, length-set}
use lib.Seq.{get_or-set_same, get_or-set_other}
use borrow.Author.Tests.{ltb-true, ltb-false, lt-ltb, le-ltb, le-leb, lt-leb}
use Rattle.codec.specs.Number.{be_at}
use Rattle.codec.specs.Words.{words3}
use Rattle.codec.proofs.Order.{words3_be}
use Rattle.layout.specs.Knowledge.{Rising, bounds}
use Rattle.layout.specs.Decode.{ranges_at}
use Rattle.layout.proofs.Places.{ranges-length}
use Rattle.ticks.proofs.Lists.{less, same, more, order}
use Rattle.ticks.proofs.Counts.{bounds-length}
use Rattle.tables.specs.MethodWords.{bound_at}
use Rattle.loading.specs.Method.{Stops}
use Rattle.codec.specs.declared.Item.{Item}
use Rattle.sampling.specs.declared.Turn.{Turn}
use Rattle.codec.specs.Ids.{item_of, item_read}
use Rattle.sampling.specs.MethodRows.{bound_of, bound_in, turn_of, turn, put_bound, RowList, rows_of, row_more, grown, stopped_from, stopped}
use Rattle.sampling.proofs.Columns.{Kept, Put}
use Rattle.sampling.proofs.Parts.{part_read}

-- B gives the bound of a row before a step, C after it; X and Y are lists of bounds

-- the bounds of a ranges from a place on
abbrev pub bounds_at : List ℕ → ℕ → ℕ → List ℕ
bounds_at s a at = bounds (ranges_at s a at)

-- bound n of the ranges from a place on
abbrev pub bound_from : List ℕ → ℕ → ℕ → ℕ
bound_from s at n = item_of (bound_in s at n)

-- the a bounds X rise
record Rises (X : ℕ → ℕ) (a : ℕ) : Type 0 where
  is : (m n : ℕ) → m < n → n < a → X m < X n

-- of the a bounds X, of which i are passed, those up to j are v and are passed now; those that are left are at or above v
record Passes (X : ℕ → ℕ) (a i j v : ℕ) : Type 0 where
  some : i ≤ j
  most : j ≤ a
  at : (n : ℕ) → i ≤ n → n < j → X n ≡ v
  after : (n : ℕ) → j ≤ n → n < a → v ≤ X n

-- of two lists of bounds X and Y the next one, v, is passed in one of them
record Turns (X : ℕ → ℕ) (a i i' : ℕ) (Y : ℕ → ℕ) (b j j' v : ℕ) : Type 0 where
  first : Passes X a i i' v
  second : Passes Y b j j' v
  one : i' + j' ≡ suc (i + j)

-- the rows from B to C: a row after the last one, where v is above its bound
record Grows (B C : ℕ → ℕ) (top top' v : ℕ) : Type 0 where
  kept : Kept B C (suc top)
  is : ((top' ≡ top) × (v ≤ B top)) ⊎ ((top' ≡ suc top) × (B top < v) × (C top' ≡ v))

-- Bounds in bytes

rising_above : (lo : ℕ) (xs : List ℕ) (n : ℕ) → Rising lo xs → n < length xs → lo ≤ get_or xs n 0
rising_above lo [] n r h = absurd (omega arith)
rising_above lo (x ∷ xs) zero r h = r.0
rising_above lo (x ∷ xs) (suc n) r h = omega (arith, r.0, rising_above (suc x) xs n r.1 (omega arith))

rising_get : (lo : ℕ) (xs : List ℕ) (m n : ℕ) → Rising lo xs → m < n → n < length xs → get_or xs m 0 < get_or xs n 0
rising_get lo [] m n r h l = absurd (omega arith)
rising_get lo (x ∷ xs) m zero r h l = absurd (omega arith)
rising_get lo (x ∷ xs) zero (suc n) r h l = rising_above (suc x) xs n r.1 (omega arith)
rising_get lo (x ∷ xs) (suc m) (suc n) r h l = rising_get (suc x) xs m n r.1 (omega arith) (omega arith)

pub bounds_size : (s : List ℕ) (a at : ℕ) → length (bounds_at s a at) ≡ a
bounds_size s a at = bounds-length (ranges_at s a at) ∙ ranges-length s a at

first : (s : List ℕ) (a at : ℕ) → get_or (bounds_at s (suc a) at) 0 0 ≡ be_at s 24 at
unfolding ranges_at bounds
first s a at = refl

later : (s : List ℕ) (a at n : ℕ) → get_or (bounds_at s (suc a) at) (suc n) 0 ≡ get_or (bounds_at s a (at + 28)) n 0
unfolding ranges_at bounds
later s a at n = refl

bound_is : (s : List ℕ) (at n : ℕ) → bound_from s at n ≡ be_at s 24 (at + 28 * n)
unfolding bound_in
bound_is s at n = sym (words3_be s (at + 28 * n))

bound_get : (s : List ℕ) (a at n : ℕ) → n < a → get_or (bounds_at s a at) n 0 ≡ bound_from s at n
bound_get s a at n h = get s a at n h ∙ sym (bound_is s at n)
  where
    get : (s : List ℕ) (a at n : ℕ) → n < a → get_or (bounds_at s a at) n 0 ≡ be_at s 24 (at + 28 * n)
    get s zero at n h = absurd (omega arith)
    get s (suc a) at zero h = let z : at ≡ at + 28 * zero = omega arith in first s a at ∙ ap (be_at s 24) z
    get s (suc a) at (suc n) h =
        let z : at + 28 + 28 * n ≡ at + 28 * suc n = omega arith in
        later s a at n ∙ get s a (at + 28) n (omega arith) ∙ ap (be_at s 24) z

rises : (s : List ℕ) (a at : ℕ) → Rising 0 (bounds_at s a at) → Rises (bound_from s at) a
rises s a at r = record {
  is = λ m n h l. omega (
    arith,
    rising_get 0 (bounds_at s a at) m n r h (omega (arith, bounds_size s a at)),
    bound_get s a at m (omega arith),
    bound_get s a at n l,
  );
}

pub bound_read : (s : List ℕ) (at n x y z : ℕ) → x ≡ be_at s 8 (at + 28 * n) → y ≡ be_at s 8 (at + 28 * n + 8)
    → z ≡ be_at s 8 (at + 28 * n + 16) → bound_of x y z ≡ bound_in s at n
unfolding bound_in
bound_read s at n x y z e f g = rw (e, f, g) refl

-- the item of such a part
pub bound_is_read : (s : List ℕ) (at n : ℕ) (i : Item) → i ≡ item_read (take (at + 28 * n + 24 - (at + 28 * n)) (drop (at + 28 * n) s))
    → at + 28 * n + 24 ≤ length s → i ≡ bound_in s at n
unfolding item_read
bound_is_read s at n i e l =
    let p = at + 28 * n in
    e
    ∙ bound_read s at n _ _ _ (part_read s p 24 8 0 (omega arith) l ∙ ap (be_at s 8) (omega arith)) (part_read s p 24 8 8 (omega arith) l)
    (part_read s p 24 8 16 (omega arith) l)

-- One turn

module _ (X : ℕ → ℕ) (a i v : ℕ) (r : Rises X a) where
  passes_one : i < a → X i ≡ v → Passes X a i (i + 1) v
  passes_one h e = record {
    some = omega arith;
    most = omega arith;
    at = λ n l m. let z : n ≡ i = omega arith in ap X z ∙ e;
    after = λ n l m. omega (arith, r.is i n (omega arith) m);
  }

  passes_none : i ≤ a → (i < a → v ≤ X i) → Passes X a i i v
  passes_none l h = record {
    some = omega arith;
    most = l;
    at = λ n k m. absurd (omega arith);
    after = λ n k m. elim (order n i) [
      | less q ↦ absurd (omega arith)
      | same q ↦ omega (arith, ap X q, h (omega arith))
      | more q ↦ omega (arith, h (omega arith), r.is i n q m)
    ];
  }

module _ (X : ℕ → ℕ) (a i : ℕ) (Y : ℕ → ℕ) (b j v : ℕ) (r : Rises X a) (q : Rises Y b) (h : i ≤ a) (l : j ≤ b) where
  turns_first : i < a → v ≡ X i → (j < b → v ≤ Y j) → Turns X a i (i + 1) Y b j j v
  turns_first k e f = record { first = passes_one X a i v r k (sym e); second = passes_none Y b j v q l f; one = omega arith }

  turns_second : j < b → v ≡ Y j → (i < a → v ≤ X i) → Turns X a i i Y b j (j + 1) v
  turns_second k e f = record { first = passes_none X a i v r h f; second = passes_one Y b j v q k (sym e); one = omega arith }

-- as code takes it
module _ (s : List ℕ) (a at i : ℕ) (t : List ℕ) (b bt j : ℕ) where
  pub turn_first : b ≤ j → (x : Item) → x ≡ bound_in s at i → turn_of x (i + 1) j ≡ turn s a at i t b bt j
  unfolding turn
  turn_first h x e = rw (le-leb b j h, e, turn)

  module _ (l : j < b) where
    pub turn_second : a ≤ i → (y : Item) → y ≡ bound_in t bt j → turn_of y i (j + 1) ≡ turn s a at i t b bt j
    unfolding turn
    turn_second h y e = rw (lt-leb b j l, le-leb a i h, e, turn)

    module _ (h : i < a) (x y : Item) (e : x ≡ bound_in s at i) (f : y ≡ bound_in t bt j) (q : Bool) (is : q ≡ ltb (item_of y) (item_of x)) where
      compared : ltb (item_of (bound_in t bt j)) (item_of (bound_in s at i)) ≡ q
      compared = ap₂ (λ u v. ltb (item_of u) (item_of v)) (sym f) (sym e) ∙ sym is

      pub turn_lower : q ≡ true → turn_of y i (j + 1) ≡ turn s a at i t b bt j
      unfolding turn
      turn_lower g = rw (lt-leb b j l, lt-leb a i h, compared ∙ g, f, turn)

      pub turn_upper : q ≡ false → turn_of x (i + 1) j ≡ turn s a at i t b bt j
      unfolding turn
      turn_upper g = rw (lt-leb b j l, lt-leb a i h, compared ∙ g, e, turn)

  abbrev Fine : Turn → Type 0
  Fine y = Turns (bound_from s at) a i y.first (bound_from t bt) b j y.second (item_of y.bound)

  turn_turns : Rises (bound_from s at) a → Rises (bound_from t bt) b → i ≤ a → j ≤ b → i + j < a + b → Fine (turn s a at i t b bt j)
  turn_turns r q h l m = elim (order j b) [
    | less c ↦ elim (order i a) [
      | less d ↦ elim (order (bound_from t bt j) (bound_from s at i)) [
        | less e ↦ subst Fine (turn_lower c d _ _ refl refl true (sym (lt-ltb (bound_from t bt j) (bound_from s at i) e)) refl) (second c (λ n. omega arith))
        | same e ↦ upper c d (omega arith)
        | more e ↦ upper c d (omega arith)
      ]
      | same d ↦ subst Fine (turn_second c (omega arith) _ refl) (second c (λ n. absurd (omega arith)))
      | more d ↦ absurd (omega arith)
    ]
    | same c ↦ subst Fine (turn_first (omega arith) _ refl) (first_list (omega arith) (λ n. absurd (omega arith)))
    | more c ↦ absurd (omega arith)
  ]
    where
      first_list : i < a → (j < b → bound_from s at i ≤ bound_from t bt j) → Fine (turn_of (bound_in s at i) (i + 1) j)
      first_list k e = turns_first (bound_from s at) a i (bound_from t bt) b j (bound_from s at i) r q h l k refl e

      second : j < b → (i < a → bound_from t bt j ≤ bound_from s at i) → Fine (turn_of (bound_in t bt j) i (j + 1))
      second k e = turns_second (bound_from s at) a i (bound_from t bt) b j (bound_from t bt j) r q h l k refl e

      upper : j < b → i < a → bound_from s at i ≤ bound_from t bt j → Fine (turn s a at i t b bt j)
      upper c d e =
          subst Fine (turn_upper c d _ _ refl refl false (sym (le-ltb (bound_from t bt j) (bound_from s at i) e)) refl) (first_list d (λ n. e))

-- A row's bound

put_first : (l : List ℕ) (i x y z : ℕ) → i + 2 < length l → get_or (set (set (set l i x) (i + 1) y) (i + 2) z) i 0 ≡ x
put_first l i x y z h =
    let m : i ≡ i + 1 → ⊥ = λ e. absurd (omega arith) in
    let n : i ≡ i + 2 → ⊥ = λ e. absurd (omega arith) in
    get_or-set_other (set (set l i x) (i + 1) y) (i + 2) i z 0 n ∙ get_or-set_other (set l i x) (i + 1) i y 0 m
    ∙ get_or-set_same l i x 0 (omega arith)

put_second : (l : List ℕ) (i x y z : ℕ) → i + 2 < length l → get_or (set (set (set l i x) (i + 1) y) (i + 2) z) (i + 1) 0 ≡ y
put_second l i x y z h =
    let n : i + 1 ≡ i + 2 → ⊥ = λ e. absurd (omega arith) in
    get_or-set_other (set (set l i x) (i + 1) y) (i + 2) (i + 1) z 0 n
    ∙ get_or-set_same (set l i x) (i + 1) y 0 (omega (arith, length-set l i x))

put_third : (l : List ℕ) (i x y z : ℕ) → i + 2 < length l → get_or (set (set (set l i x) (i + 1) y) (i + 2) z) (i + 2) 0 ≡ z
put_third l i x y z h =
    get_or-set_same (set (set l i x) (i + 1) y) (i + 2) z 0
    (omega (arith, length-set l i x, length-set (set l i x) (i + 1) y))

put_away : (l : List ℕ) (i x y z j : ℕ) → (j ≡ i → ⊥) → (j ≡ i + 1 → ⊥) → (j ≡ i + 2 → ⊥)
    → get_or (set (set (set l i x) (i + 1) y) (i + 2) z) j 0 ≡ get_or l j 0
put_away l i x y z j m n o =
    get_or-set_other (set (set l i x) (i + 1) y) (i + 2) j z 0 o ∙ get_or-set_other (set l i x) (i + 1) j y 0 n
    ∙ get_or-set_other l i j x 0 m

words3_same : (x y z a b c : ℕ) → x ≡ a → y ≡ b → z ≡ c → words3 x y z ≡ words3 a b c
words3_same x y z a b c e f g = rw (e, f, g) refl

put_put : (l : List ℕ) (k x y z : ℕ) → 3 * k + 2 < length l
    → Put (bound_at l) (bound_at (set (set (set l (3 * k) x) (3 * k + 1) y) (3 * k + 2) z)) k (words3 x y z)
unfolding bound_at
put_put l k x y z h = record {
  is = words3_same _ _ _ _ _ _ (put_first l (3 * k) x y z h) (put_second l (3 * k) x y z h) (put_third l (3 * k) x y z h);
  others = λ d n. words3_same _ _ _ _ _ _ (away (3 * d) (λ e. absurd (n (omega (arith, e)))) (λ e. absurd (omega (arith, e)))
      (λ e. absurd (omega (arith, e))))
      (away (3 * d + 1) (λ e. absurd (omega (arith, e))) (λ e. absurd (n (omega (arith, e)))) (λ e. absurd (omega (arith, e))))
      (away (3 * d + 2) (λ e. absurd (omega (arith, e))) (λ e. absurd (omega (arith, e))) (λ e. absurd (n (omega (arith, e)))));
}
  where
    away : (j : ℕ) → (j ≡ 3 * k → ⊥) → (j ≡ 3 * k + 1 → ⊥) → (j ≡ 3 * k + 2 → ⊥)
        → get_or (set (set (set l (3 * k) x) (3 * k + 1) y) (3 * k + 2) z) j 0 ≡ get_or l j 0
    away j = put_away l (3 * k) x y z j

pub bound_put : (l : List ℕ) (k : ℕ) (b : Item) → 3 * k + 2 < length l → Put (bound_at l) (bound_at (put_bound l k b)) k (item_of b)
unfolding put_bound
bound_put l k b h = put_put l k b.high b.middle b.low h

pub put_is : (l : List ℕ) (k : ℕ) (b : Item)
    → set (set (set l (3 * k) b.high) (3 * k + 1) b.middle) (3 * k + 2) b.low ≡ put_bound l k b
unfolding put_bound
put_is l k b = refl

pub put_size : (l : List ℕ) (k : ℕ) (b : Item) → length (put_bound l k b) ≡ length l
unfolding put_bound
put_size l k b =
    length-set (set (set l (3 * k) b.high) (3 * k + 1) b.middle) (3 * k + 2) b.low
    ∙ length-set (set l (3 * k) b.high) (3 * k + 1) b.middle ∙ length-set l (3 * k) b.high

pub bound_words_lem : (l : List ℕ) (k x y z : ℕ) → x ≡ get_or l (3 * k) 0 → y ≡ get_or l (3 * k + 1) 0 → z ≡ get_or l (3 * k + 2) 0
    → words3 x y z ≡ bound_at l k
unfolding bound_at
bound_words_lem l k x y z e f g = words3_same x y z _ _ _ e f g

-- One row more, or none

-- as code adds it
module _ (l : List ℕ) (top : ℕ) (b : Item) where
  pub grown_not : item_of b ≤ bound_at l top → rows_of l top ≡ grown (rows_of l top) b
  unfolding grown
  grown_not h = rw (le-ltb (bound_at l top) (item_of b) h, grown)

  pub grown_on : bound_at l top < item_of b → row_more (rows_of l top) b ≡ grown (rows_of l top) b
  unfolding grown
  grown_on h = rw (lt-ltb (bound_at l top) (item_of b) h, grown)

  module _ (last : Item) (e : item_of last ≡ bound_at l top) (q : Bool) (is : q ≡ ltb (item_of last) (item_of b)) where
    pub row_same : q ≡ false → rows_of l top ≡ grown (rows_of l top) b
    row_same h = grown_not (omega (arith, e, ltb-false (item_of last) (item_of b) (sym is ∙ h)))

    pub row_more_lem : q ≡ true → (u : List ℕ) → u ≡ put_bound l (top + 1) b → rows_of u (top + 1) ≡ grown (rows_of l top) b
    row_more_lem h u p =
        ap (λ (w : List ℕ). rows_of w (top + 1)) p
        ∙ grown_on (omega (arith, e, ltb-true (item_of last) (item_of b) (sym is ∙ h)))

  -- what it comes to where there is room
  record GrownFacts (x : RowList) : Type 0 where
    grows : Grows (bound_at l) (bound_at x.bounds) top x.top (item_of b)
    size : length x.bounds ≡ length l

  grown_facts : 3 * top + 5 < length l → GrownFacts (grown (rows_of l top) b)
  grown_facts h = elim (order (bound_at l top) (item_of b)) [
    | less e ↦ subst GrownFacts (grown_on e) (on e (bound_put l (top + 1) b (omega arith)))
    | same e ↦ stay (omega arith)
    | more e ↦ stay (omega arith)
  ]
    where
      stay : item_of b ≤ bound_at l top → GrownFacts (grown (rows_of l top) b)
      stay e =
          subst GrownFacts (grown_not e)
          (record { grows = record { kept = record { is = λ k m. refl }; is = inl (refl, e) }; size = refl })

      on : bound_at l top < item_of b → Put (bound_at l) (bound_at (put_bound l (top + 1) b)) (top + 1) (item_of b) → GrownFacts (row_more (rows_of l top) b)
      on e w = record {
        grows = record {
          kept = record { is = λ k m. w.others k (λ f. absurd (omega arith)) };
          is = inr (omega arith, e, w.is);
        };
        size = put_size l (top + 1) b;
      }

-- The rows so far

record Rows (B : ℕ → ℕ) (from top first last : ℕ) : Type 0 where
  some : from ≤ top
  starts : B from ≡ first
  rising : (k : ℕ) → from ≤ k → k < top → B k < B (suc k)
  inside : (k : ℕ) → from ≤ k → k ≤ top → B k ≤ last

-- and where they stand among a bounds X of which i are passed
record Behind (B : ℕ → ℕ) (from top : ℕ) (X : ℕ → ℕ) (a i : ℕ) : Type 0 where
  passed : (n : ℕ) → n < i → X n ≤ B top
  between : (k n : ℕ) → from ≤ k → k < top → n < i → B k < X n → X n < B (suc k) → ⊥
  ahead : from < top → (n : ℕ) → i ≤ n → n < a → B top ≤ X n

rows_begin : (B C : ℕ → ℕ) (from first last : ℕ) → Put B C from first → first ≤ last → Rows C from from first last
rows_begin B C from first last w h = record {
  some = omega arith;
  starts = w.is;
  rising = λ k l m. absurd (omega arith);
  inside = λ k l m. let z : k ≡ from = omega arith in omega (arith, ap C z, w.is);
}

behind_begin : (B : ℕ → ℕ) (from : ℕ) (X : ℕ → ℕ) (a : ℕ) → Behind B from from X a 0
behind_begin B from X a = record {
  passed = λ n h. absurd (omega arith);
  between = λ k n h l m. absurd (omega arith);
  ahead = λ h. absurd (omega arith);
}

-- rows that rise: the last one is the highest
rows_last : (B : ℕ → ℕ) (from top first last : ℕ) → Rows B from top first last → (d k : ℕ) → k + d ≡ top → from ≤ k
    → B k ≤ B top
rows_last B from top first last r zero k e h = let z : k ≡ top = omega arith in omega (arith, ap B z)
rows_last B from top first last r (suc d) k e h =
    omega (arith, r.rising k h (omega arith), rows_last B from top first last r d (suc k) (omega arith) (omega arith))

module _ (B C : ℕ → ℕ) (from top top' first last v : ℕ) (r : Rows B from top first last) (g : Grows B C top top' v) where
  before : (k : ℕ) → k ≤ top → C k ≡ B k
  before k h = g.kept.is k (omega arith)

  rows_grow : v ≤ last → Rows C from top' first last
  rows_grow h = elim g.is [ inl e ↦ stay e.0 | inr e ↦ more_row e.0 e.1 e.2 ]
    where
      stay : top' ≡ top → Rows C from top' first last
      stay e = record {
        some = omega (arith, r.some);
        starts = before from r.some ∙ r.starts;
        rising = λ k l m. omega (arith, r.rising k l (omega arith), before k (omega arith), before (suc k) (omega arith));
        inside = λ k l m. omega (arith, r.inside k l (omega arith), before k (omega arith));
      }

      more_row : top' ≡ suc top → B top < v → C top' ≡ v → Rows C from top' first last
      more_row e l f = record {
        some = omega (arith, r.some);
        starts = before from r.some ∙ r.starts;
        rising = λ k m n. elim (order k top) [
          | less q ↦ omega (arith, r.rising k m q, before k (omega arith), before (suc k) (omega arith))
          | same q ↦
              let z : suc k ≡ top' = omega arith in
              omega (arith, ap C z, f, l, before k (omega arith), ap B q)
          | more q ↦ absurd (omega arith)
        ];
        inside = λ k m n. elim (order k top') [
          | less q ↦ omega (arith, r.inside k m (omega arith), before k (omega arith))
          | same q ↦ omega (arith, ap C q, f, h)
          | more q ↦ absurd (omega arith)
        ];
      }

  module _ (X : ℕ → ℕ) (a i j : ℕ) (b : Behind B from top X a i) (p : Passes X a i j v) where
    -- no row, and v is at most the last row's bound
    stays : top' ≡ top → v ≤ B top → Behind C from top' X a j
    stays e h = record { passed = passed; between = between; ahead = ahead }
      where
        at_top : C top' ≡ B top
        at_top = ap C e ∙ before top (omega arith)

        passed : (n : ℕ) → n < j → X n ≤ C top'
        passed n l =
            elim (order n i) [
              | less q ↦ omega (arith, b.passed n q, at_top)
              | same q ↦ omega (arith, p.at n (omega arith) l, at_top)
              | more q ↦ omega (arith, p.at n (omega arith) l, at_top)
            ]

        here : (k n : ℕ) → from ≤ k → k < top → i ≤ n → n < j → X n < B (suc k) → ⊥
        here k n l m o q s =
            omega (
              arith,
              b.ahead (omega arith) n o (omega (arith, p.most)),
              rows_last B from top first last r (top - suc k) (suc k) (omega arith) (omega arith),
            )

        between : (k n : ℕ) → from ≤ k → k < top' → n < j → C k < X n → X n < C (suc k) → ⊥
        between k n l m o q s =
            let x : B k < X n = omega (arith, before k (omega arith)) in
            let y : X n < B (suc k) = omega (arith, before (suc k) (omega arith)) in
            elim (order n i) [
              | less z ↦ b.between k n l (omega arith) z x y
              | same z ↦ here k n l (omega arith) (omega arith) o y
              | more z ↦ here k n l (omega arith) (omega arith) o y
            ]

        ahead : from < top' → (n : ℕ) → j ≤ n → n < a → C top' ≤ X n
        ahead l n m o = omega (arith, at_top, b.ahead (omega arith) n (omega (arith, p.some)) o)

    -- one row more, at v
    goes : top' ≡ suc top → B top < v → C top' ≡ v → Behind C from top' X a j
    goes e h f = record { passed = passed; between = between; ahead = λ l n m o. omega (arith, f, p.after n m o) }
      where
        passed : (n : ℕ) → n < j → X n ≤ C top'
        passed n l =
            elim (order n i) [
              | less q ↦ omega (arith, b.passed n q, f, h)
              | same q ↦ omega (arith, p.at n (omega arith) l, f)
              | more q ↦ omega (arith, p.at n (omega arith) l, f)
            ]

        -- a bound that was passed before is at most the row's before
        earlier : (k n : ℕ) → from ≤ k → k < top' → n < i → C k < X n → X n < C (suc k) → ⊥
        earlier k n l m o q s =
            elim (order k top) [
              | less z ↦ b.between k n l z o (omega (arith, before k (omega arith))) (omega (arith, before (suc k) (omega arith)))
              | same z ↦ omega (arith, b.passed n o, before k (omega arith), ap B z)
              | more z ↦ omega arith
            ]

        -- no row is above v
        top_row : (k : ℕ) → from ≤ k → k < top' → v < C (suc k) → ⊥
        top_row k l m q =
            elim (order k top) [
              | less z ↦
                  omega (
                    arith,
                    before (suc k) (omega arith),
                    rows_last B from top first last r (top - suc k) (suc k) (omega arith) (omega arith),
                  )
              | same z ↦
                  let y : suc k ≡ top' = omega arith in
                  omega (arith, ap C y, f)
              | more z ↦ omega arith
            ]

        between : (k n : ℕ) → from ≤ k → k < top' → n < j → C k < X n → X n < C (suc k) → ⊥
        between k n l m o q s =
            elim (order n i) [
              | less z ↦ earlier k n l m z q s
              | same z ↦ top_row k l m (omega (arith, p.at n (omega arith) o))
              | more z ↦ top_row k l m (omega (arith, p.at n (omega arith) o))
            ]

    behind_grows : Behind C from top' X a j
    behind_grows = elim g.is [ inl e ↦ stays e.0 e.1 | inr e ↦ goes e.0 e.1 e.2 ]

-- all that is known of the rows, with i and j bounds passed
record Stopping (B C : ℕ → ℕ) (from top first last : ℕ) (X : ℕ → ℕ) (a i : ℕ) (Y : ℕ → ℕ) (b j : ℕ) : Type 0 where
  kept : Kept B C from
  most : top ≤ from + i + j
  rows : Rows C from top first last
  firsts : Behind C from top X a i
  seconds : Behind C from top Y b j

-- the first row is put, and no bound is passed
stopping_begin : (A B : ℕ → ℕ) (from first last : ℕ) (X : ℕ → ℕ) (a : ℕ) (Y : ℕ → ℕ) (b : ℕ) → Put A B from first
    → first ≤ last → Stopping B B from from first last X a 0 Y b 0
stopping_begin A B from first last X a Y b w h = record {
  kept = record { is = λ k l. refl };
  most = omega arith;
  rows = rows_begin A B from first last w h;
  firsts = behind_begin B from X a;
  seconds = behind_begin B from Y b;
}

module _ (B C : ℕ → ℕ) (from top first last : ℕ) (X : ℕ → ℕ) (a i : ℕ) (Y : ℕ → ℕ) (b j : ℕ)
    (h : Stopping B C from top first last X a i Y b j) where
  stopping_next : (D : ℕ → ℕ) (top' i' j' v : ℕ) → Turns X a i i' Y b j j' v → Grows C D top top' v → v ≤ last
      → Stopping B D from top' first last X a i' Y b j'
  stopping_next D top' i' j' v t g l = record {
    kept = record { is = λ k m. g.kept.is k (omega (arith, h.rows.some)) ∙ h.kept.is k m };
    most = elim g.is [
      | inl e ↦ omega (arith, e.0, h.most, t.one)
      | inr e ↦ omega (arith, e.0, h.most, t.one)
    ];
    rows = rows_grow C D from top top' first last v h.rows g l;
    firsts = behind_grows C D from top top' first last v h.rows g X a i i' h.firsts t.first;
    seconds = behind_grows C D from top top' first last v h.rows g Y b j j' h.seconds t.second;
  }

-- the bounds that are left are above the last item
record Beyond (X : ℕ → ℕ) (a i last : ℕ) : Type 0 where
  is : (n : ℕ) → i ≤ n → n < a → last < X n

beyond_end : (X : ℕ → ℕ) (a i last : ℕ) → a ≤ i → Beyond X a i last
beyond_end X a i last h = record { is = λ n l m. absurd (omega arith) }

beyond_last : (X : ℕ → ℕ) (a i j v last : ℕ) → Passes X a i j v → last < v → Beyond X a i last
beyond_last X a i j v last p h = record {
  is = λ n l m. elim (order n j) [
    | less q ↦ omega (arith, p.at n l q)
    | same q ↦ omega (arith, p.after n (omega arith) m)
    | more q ↦ omega (arith, p.after n (omega arith) m)
  ];
}

no_bound : (C : ℕ → ℕ) (from top last : ℕ) (s : List ℕ) (a at i : ℕ) → Behind C from top (bound_from s at) a i
    → Beyond (bound_from s at) a i last → (k n : ℕ) → from ≤ k → k ≤ top → n < length (bounds_at s a at)
    → C k < get_or (bounds_at s a at) n 0 → get_or (bounds_at s a at) n 0 ≤ last
    → (k < top → get_or (bounds_at s a at) n 0 < C (suc k)) → ⊥
no_bound C from top last s a at i b y k n h l m o p q =
    let z : n < a = omega (arith, bounds_size s a at) in
    let e : get_or (bounds_at s a at) n 0 ≡ bound_from s at n = bound_get s a at n z in
    elim (order n i) [
      | less f ↦ elim (order k top) [
        | less g ↦ b.between k n h g f (omega arith) (omega (arith, q g))
        | same g ↦ omega (arith, b.passed n f, ap C g)
        | more g ↦ omega arith
      ]
      | same f ↦ omega (arith, y.is n (omega arith) z)
      | more f ↦ omega (arith, y.is n (omega arith) z)
    ]

module _ (B C : ℕ → ℕ) (from top first last : ℕ) (s : List ℕ) (a at i : ℕ) (t : List ℕ) (b bt j : ℕ)
    (h : Stopping B C from top first last (bound_from s at) a i (bound_from t bt) b j) (m : i ≤ a) (n : j ≤ b) where
  all_stops : Beyond (bound_from s at) a i last → Beyond (bound_from t bt) b j last
      → Stops C from top first last (bounds_at s a at) (bounds_at t b bt)
  all_stops x y = record {
    some = h.rows.some;
    most = omega (arith, h.most, bounds_size s a at, bounds_size t b bt);
    starts = h.rows.starts;
    rising = h.rows.rising;
    inside = h.rows.inside;
    firsts = no_bound C from top last s a at i h.firsts x;
    seconds = no_bound C from top last t b bt j h.seconds y;
  }

  -- no bound is left
  stopped_all : a ≤ i → b ≤ j → Stops C from top first last (bounds_at s a at) (bounds_at t b bt)
  stopped_all k l = all_stops (beyond_end (bound_from s at) a i last k) (beyond_end (bound_from t bt) b j last l)

  -- the next bound is above the last item
  stopped_last : (i' j' v : ℕ) → Turns (bound_from s at) a i i' (bound_from t bt) b j j' v → (q : Bool) → q ≡ ltb last v → q ≡ true
      → Stops C from top first last (bounds_at s a at) (bounds_at t b bt)
  stopped_last i' j' v u q is f =
      let l : last < v = ltb-true last v (sym is ∙ f) in
      all_stops (beyond_last (bound_from s at) a i i' v last u.first l) (beyond_last (bound_from t bt) b j j' v last u.second l)

-- Rows at all bounds, as code puts them

module _ (s : List ℕ) (a at : ℕ) (t : List ℕ) (b bt last : ℕ) where
  stop_none : (i j : ℕ) (x : RowList) → stopped_from s a at t b bt last 0 i j x ≡ x
  unfolding stopped_from
  stop_none i j x = refl

  stop_here : (n i j : ℕ) (x : RowList) → last < item_of (turn s a at i t b bt j).bound → stopped_from s a at t b bt last (suc n) i j x ≡ x
  unfolding stopped_from
  stop_here n i j x h = rw (lt-ltb last (item_of (turn s a at i t b bt j).bound) h, stopped_from)

  stop_more : (n i j : ℕ) (x : RowList) (y : Turn) → y ≡ turn s a at i t b bt j → item_of y.bound ≤ last
      → stopped_from s a at t b bt last (suc n) i j x ≡ stopped_from s a at t b bt last n y.first y.second (grown x y.bound)
  unfolding stopped_from
  stop_more n i j x y e h = rw (e, le-ltb last (item_of (turn s a at i t b bt j).bound) (rw (← e) h), stopped_from)

  -- the loop: the whole is what is left
  pub stop_starts : (x : RowList) → stopped_from s a at t b bt last (a + b) 0 0 x ≡ stopped_from s a at t b bt last (a + b - (0 + 0)) 0 0 x
  stop_starts x = let z : a + b ≡ a + b - (0 + 0) = omega arith in ap (λ n. stopped_from s a at t b bt last n 0 0 x) z

  module _ (i j : ℕ) (bounds' : List ℕ) (top : ℕ) (whole : RowList)
      (inv : whole ≡ stopped_from s a at t b bt last (a + b - (i + j)) i j (rows_of bounds' top)) where
    pub stop_ends : a + b ≤ i + j → rows_of bounds' top ≡ whole
    stop_ends h =
        let z : a + b - (i + j) ≡ 0 = omega arith in
        sym (inv ∙ ap (λ n. stopped_from s a at t b bt last n i j (rows_of bounds' top)) z ∙ stop_none i j (rows_of bounds' top))

    module _ (l : i + j < a + b) (y : Turn) (e : y ≡ turn s a at i t b bt j) (q : Bool) (is : q ≡ ltb last (item_of y.bound)) where
      one_more : a + b - (i + j) ≡ suc (a + b - (i + j + 1))
      one_more = omega arith

      pub stop_last : q ≡ true → rows_of bounds' top ≡ whole
      stop_last h =
          let above : last < item_of y.bound = ltb-true last (item_of y.bound) (sym is ∙ h) in
          sym (inv ∙ ap (λ n. stopped_from s a at t b bt last n i j (rows_of bounds' top)) one_more
          ∙ stop_here (a + b - (i + j + 1)) i j (rows_of bounds' top) (subst (λ w. last < item_of w.bound) e above))

      pub stop_next : q ≡ false → y.first + y.second ≡ i + j + 1 → (u : List ℕ) (top' : ℕ) → rows_of u top' ≡ grown (rows_of bounds' top) y.bound
          → whole ≡ stopped_from s a at t b bt last (a + b - (y.first + y.second)) y.first y.second (rows_of u top')
      stop_next h c u top' g =
          let z : a + b - (i + j + 1) ≡ a + b - (y.first + y.second) = omega arith in
          inv ∙ ap (λ n. stopped_from s a at t b bt last n i j (rows_of bounds' top)) one_more
          ∙ stop_more (a + b - (i + j + 1)) i j (rows_of bounds' top) y e (ltb-false last (item_of y.bound) (sym is ∙ h))
          ∙ ap₂ (λ n w. stopped_from s a at t b bt last n y.first y.second w) z (sym g)

pub stop_whole : (s : List ℕ) (a at : ℕ) (t : List ℕ) (b bt : ℕ) (first last : Item) (l u : List ℕ) (from : ℕ) → u ≡ put_bound l from first
    → stopped_from s a at t b bt (item_of last) (a + b) 0 0 (rows_of u from) ≡ stopped s a at t b bt first last l from
unfolding stopped
stop_whole s a at t b bt first last l u from e =
    ap (λ (w : List ℕ). stopped_from s a at t b bt (item_of last) (a + b) 0 0 (rows_of w from)) e

-- what they come to where there is room
pub record StopFacts (s : List ℕ) (a at : ℕ) (t : List ℕ) (b bt first last : ℕ) (l : List ℕ) (from : ℕ) (x : RowList) : Type 0 where
  pub stops : Stops (bound_at x.bounds) from x.top first last (bounds_at s a at) (bounds_at t b bt)
  pub kept : Kept (bound_at l) (bound_at x.bounds) from
  pub size : length x.bounds ≡ length l
  pub most : x.top ≤ from + a + b

module _ (s : List ℕ) (a at : ℕ) (t : List ℕ) (b bt first last : ℕ) (l : List ℕ) (from : ℕ)
    (r : Rises (bound_from s at) a) (q : Rises (bound_from t bt) b) (room : 3 * (from + a + b + 1) ≤ length l) (B : ℕ → ℕ)
    (before : Kept (bound_at l) B from) where
  stop_facts : (n i j : ℕ) (x : RowList) → i ≤ a → j ≤ b → i + j + n ≡ a + b → length x.bounds ≡ length l
      → Stopping B (bound_at x.bounds) from x.top first last (bound_from s at) a i (bound_from t bt) b j
      → StopFacts s a at t b bt first last l from (stopped_from s a at t b bt last n i j x)
  stop_facts zero i j x c d e z h =
      subst (StopFacts s a at t b bt first last l from) (sym (stop_none s a at t b bt last i j x))
      (record {
        stops = stopped_all B (bound_at x.bounds) from x.top first last s a at i t b bt j h c d (omega arith) (omega arith);
        kept = record { is = λ k m. h.kept.is k m ∙ before.is k m };
        size = z;
        most = omega (arith, h.most);
      })
  stop_facts (suc n) i j x c d e z h =
      let y = turn s a at i t b bt j in
      let u = turn_turns s a at i t b bt j r q c d (omega arith) in
      elim (order last (item_of y.bound)) [
        | less o ↦
            subst (StopFacts s a at t b bt first last l from) (sym (stop_here s a at t b bt last n i j x o))
            (record {
              stops = stopped_last B (bound_at x.bounds) from x.top first last s a at i t b bt j h c d y.first y.second
                  (item_of y.bound) u true (sym (lt-ltb last (item_of y.bound) o)) refl;
              kept = record { is = λ k m. h.kept.is k m ∙ before.is k m };
              size = z;
              most = omega (arith, h.most);
            })
        | same o ↦ on y refl u (omega arith) (stop_facts n y.first y.second (grown x y.bound))
        | more o ↦ on y refl u (omega arith) (stop_facts n y.first y.second (grown x y.bound))
      ]
    where
      on : (y : Turn) → y ≡ turn s a at i t b bt j
          → Turns (bound_from s at) a i y.first (bound_from t bt) b j y.second (item_of y.bound) → item_of y.bound ≤ last
          → (y.first ≤ a → y.second ≤ b → y.first + y.second + n ≡ a + b → length (grown x y.bound).bounds ≡ length l
          → Stopping B (bound_at (grown x y.bound).bounds) from (grown x y.bound).top first last (bound_from s at) a y.first
          (bound_from t bt) b y.second
          → StopFacts s a at t b bt first last l from (stopped_from s a at t b bt last n y.first y.second (grown x y.bound)))
          → StopFacts s a at t b bt first last l from (stopped_from s a at t b bt last (suc n) i j x)
      on y f u o rest =
          let g = grown_facts x.bounds x.top y.bound (omega (arith, h.most)) in
          let w = grown x y.bound in
          subst (StopFacts s a at t b bt first last l from) (sym (stop_more s a at t b bt last n i j x y f o))
          (rest u.first.most u.second.most (omega (arith, u.one)) (g.size ∙ z)
          (stopping_next B (bound_at x.bounds) from x.top first last (bound_from s at) a i (bound_from t bt) b j h (bound_at w.bounds) w.top
          y.first y.second (item_of y.bound) u g.grows o))

pub stopped_stops : (s : List ℕ) (a at : ℕ) (t : List ℕ) (b bt : ℕ) (first last : Item) (l : List ℕ) (from : ℕ)
    → Rising 0 (bounds_at s a at) → Rising 0 (bounds_at t b bt) → item_of first ≤ item_of last → 3 * (from + a + b + 1) ≤ length l
    → StopFacts s a at t b bt (item_of first) (item_of last) l from (stopped s a at t b bt first last l from)
unfolding stopped
stopped_stops s a at t b bt first last l from r q h room =
    let w = bound_put l from first (omega arith) in
    let u = put_bound l from first in
    stop_facts s a at t b bt (item_of first) (item_of last) l from (rises s a at r) (rises t b bt q) room (bound_at u)
    (record { is = λ k m. w.others k (λ e. absurd (omega arith)) }) (a + b) 0 0 (rows_of u from) (omega arith) (omega arith) (omega arith)
    (put_size l from first)
    (stopping_begin (bound_at l) (bound_at u) from (item_of first) (item_of last) (bound_from s at) a (bound_from t bt) b w h)

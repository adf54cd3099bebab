-- What the functions of cover return, for any bytes whose ranges are all there. The elements of the second's vector are compared one
-- after the other: the whole answer is the answer from here on. The next stop is told by which cursor goes on to it. Where one goes on,
-- a range is left that it passes (`turn_first`, `turn_second`), so as many steps as ranges are left are enough (`Clears`).
-- What the answer means is in Covering.antt.
use Prim.Native.Nat.{ℕ, zero, suc, ◌+◌, ◌-◌, ◌*◌, ◌≤◌, ◌<◌}
use mathlib.Core.Path.{◌≡◌, refl, sym, ap, ap₂, subst, ◌∙◌}
use mathlib.Core.Bool.{Bool, true, false}
use mathlib.Core.Logic.{◌⊎◌, inl, inr, ⊎_elim}
use mathlib.Core.Option.{Option, none, some}
use Rattle.std.specs.Prelude as Std
use Rattle.std.specs.Prelude.{Some, None, cond}
use Rattle.std.specs.Ordering.{nat_cmp, is_le, is_ge}
use Rattle.std.specs.declared.cmp.Ordering.{Ordering}
use Rattle.std.specs.declared.cmp.Ordering.TheVariants.{Less, Equal, Greater}
use mathlib.Core.List.{List, [], ◌∷◌}
use native.Mathlib.Omega.{arith}
use lib.Dec.{eqb, ltb, leb}
use lib.ListN.{length, get_or}
use borrow.Author.Tests.{lt-ltb, le-ltb, le-leb, lt-leb, eq-eqb, ne_eqb}
use Rattle.codec.specs.Number.{be_at}
use Rattle.layout.specs.declared.ReplicaKey.{ReplicaKey}
use Rattle.layout.specs.Knowledge.{Element}
use Rattle.layout.specs.Decode.{elements_at}
use Rattle.layout.specs.MethodPlaces.{ids_place}
use Rattle.ticks.proofs.Lists.{less, same, more, order}
use Rattle.ticks.proofs.Equality.{clash}
use Rattle.lookup.specs.declared.Cursor.{Cursor}
use Rattle.lookup.specs.Method.{key_at, There, element_at, elements_here, tick_of, vector_from, past, settled, advanced}
use Rattle.lookup.proofs.Loops.{cursor, elements-zero, elements-cons, here_is}
use Rattle.lookup.proofs.Leaf.{advanced_room}
use Rattle.lacking.specs.Method.{Keyed, bound_of, laid_out}
use Rattle.lacking.proofs.Walking.{Bound, ends, comes, bound_by}
use Rattle.cover.specs.Method.{level_in, level_by, none_above, fine_at, turn_of, step_if, clear_by, clear_from, covers_by}

-- What lacks at an item

abbrev keyed_as : ℕ → ReplicaKey
keyed_as n = record { 0 = n }

module _ (keys s : List ℕ) (vector key : ℕ) where
  pub level_none : length keys ≤ key → 0 ≡ level_in keys s vector key
  unfolding level_in
  level_none h = sym (rw (le-ltb key (length keys) h, level_in))

  pub level_is : (t : ℕ) (other : ReplicaKey) → key < length keys → other ≡ record { 0 = get_or keys key 0 } → t ≡ tick_of s vector other
      → t ≡ level_in keys s vector key
  unfolding level_in
  level_is t other h e f = f ∙ ap (tick_of s vector) e ∙ sym (rw (lt-ltb key (length keys) h, level_in))

  pub level_read : (t n : ℕ) → key < length keys → n ≡ get_or keys key 0 → t ≡ tick_of s vector (keyed_as n) → t ≡ level_in keys s vector key
  level_read t n h e f = level_is t (keyed_as n) h (ap keyed_as e) f

-- levels that are alike for every key tell the same
none_same : (f g : ℕ → ℕ) → ((key : ℕ) → f key ≡ g key) → (es : List Element) → none_above f es ≡ none_above g es
unfolding none_above
none_same f g e [] = refl
none_same f g e (x ∷ xs) =
    ap₂ (λ (l : ℕ) (b : Bool). elim (leb x.tick l) [ true ↦ b | false ↦ false ]) (e x.key.0) (none_same f g e xs)

module _ (s : List ℕ) (r : ℕ) (t : List ℕ) (m : ℕ) (keys : List ℕ) (vector : ℕ) (keyed : Keyed s r t m keys) (exact : m ≡ length keys) where
  level_inside : (key : ℕ) → key < m → level_in keys s vector key ≡ level_by s r t m vector key
  unfolding level_by
  level_inside key h =
      let id = be_at t 16 (ids_place + 16 * key) in
      sym (level_is keys s vector key (tick_of s vector (key_at s r id)) (key_at s r id) (omega (arith, exact)) (same_key id (keyed.is key h)) refl)
      ∙ sym (rw (lt-ltb key m h, level_by) refl)
    where
      same_key : (id : ℕ) → get_or keys key 0 ≡ (key_at s r id).0 → key_at s r id ≡ record { 0 = get_or keys key 0 }
      same_key id e = ap keyed_as (sym e)

  level_outside : (key : ℕ) → m ≤ key → level_in keys s vector key ≡ level_by s r t m vector key
  unfolding level_by
  level_outside key h = sym (level_none keys s vector key (omega (arith, exact))) ∙ sym (rw (le-ltb key m h, level_by) refl)

  levels : (key : ℕ) → level_in keys s vector key ≡ level_by s r t m vector key
  levels key =
      elim (order key m) [
        | less h ↦ level_inside key h
        | same h ↦ level_outside key (omega arith)
        | more h ↦ level_outside key (omega arith)
      ]

  pub fine_is : (other : ℕ) → none_above (level_in keys s vector) (elements_here t other) ≡ fine_at s r t m vector other
  unfolding fine_at
  fine_is other = none_same (level_in keys s vector) (level_by s r t m vector) levels (elements_here t other)

module _ (level : ℕ → ℕ) (t : List ℕ) where
  pub none_empty : (vector n : ℕ) → There t vector n → n ≡ 0 → true ≡ none_above level (elements_here t vector)
  unfolding none_above
  none_empty vector n h e = sym (rw (here_is t vector n h ∙ elements-zero t n (vector + 8) e) refl)

  pub none_begins : (vector n at : ℕ) → There t vector n → at ≡ vector + 8
      → none_above level (elements_here t vector) ≡ none_above level (elements_at t (n - 0) at)
  none_begins vector n at h f =
      let e : n ≡ n - 0 = omega arith in
      ap (none_above level) (here_is t vector n h ∙ ap₂ (λ m x. elements_at t m x) e (sym f))

  module _ (whole : Bool) (n i at : ℕ) (inv : whole ≡ none_above level (elements_at t (n - i) at)) where
    pub none_end : n ≤ i → true ≡ whole
    unfolding none_above
    none_end h = sym (inv ∙ ap (none_above level) (elements-zero t (n - i) at (omega arith)))

    module _ (k tick l : ℕ) (e : k ≡ be_at t 4 at) (f : tick ≡ be_at t 8 (at + 4)) (g : l ≡ level k) (j : i < n) where
      opened : whole ≡ none_above level (element_at t at ∷ elements_at t (n - (i + 1)) (at + 12))
      opened =
          let m : n - i - 1 ≡ n - (i + 1) = omega arith in
          inv ∙ ap (none_above level) (elements-cons t (n - i) at (omega arith) ∙ ap (λ x. element_at t at ∷ elements_at t x (at + 12)) m)

      level_here : l ≡ level (be_at t 4 at)
      level_here = g ∙ ap level e

      pub none_next : (next : ℕ) → tick ≤ l → next ≡ at + 12 → whole ≡ none_above level (elements_at t (n - (i + 1)) next)
      unfolding none_above
      none_next next h o =
          let k : be_at t 8 (at + 4) ≤ level (be_at t 4 at) = omega (arith, level_here) in
          opened ∙ rw (le-leb (be_at t 8 (at + 4)) (level (be_at t 4 at)) k, none_above) refl
          ∙ ap (λ x. none_above level (elements_at t (n - (i + 1)) x)) (sym o)

      pub none_stop : l < tick → false ≡ whole
      unfolding none_above
      none_stop h =
          let k : level (be_at t 4 at) < be_at t 8 (at + 4) = omega (arith, level_here) in
          sym (opened ∙ rw (lt-leb (be_at t 8 (at + 4)) (level (be_at t 4 at)) k, none_above) refl)

-- The next stop

module _ (a b : ℕ) where
  by_tests : (t u : Bool) → ltb a b ≡ t → eqb a b ≡ u → cond t Less (cond u Equal Greater) ≡ nat_cmp a b
  by_tests t u e f = ap₂ (λ (v w : Bool). cond v Less (cond w Equal Greater)) (sym e) (sym f)

  order_first : a < b → Less ≡ nat_cmp a b
  order_first h = by_tests true (eqb a b) (lt-ltb a b h) refl

  order_second : b < a → Greater ≡ nat_cmp a b
  order_second h = by_tests false false (le-ltb a b (omega arith)) (ne_eqb a b (λ e. absurd (omega arith)))

  order_both : a ≡ b → Equal ≡ nat_cmp a b
  order_both h = by_tests false true (le-ltb a b (omega arith)) (eq-eqb a b h)

module _ (o p : Option ℕ) where
  pub turn_neither : o ≡ none → p ≡ none → None ≡ turn_of o p
  unfolding turn_of
  turn_neither e f = sym (rw (e, f) refl)

  pub turn_second_only : (b : ℕ) → o ≡ none → p ≡ some b → Some Greater ≡ turn_of o p
  unfolding turn_of
  turn_second_only b e f = sym (rw (e, f) refl)

  pub turn_first_only : (a : ℕ) → o ≡ some a → p ≡ none → Some Less ≡ turn_of o p
  unfolding turn_of
  turn_first_only a e f = sym (rw (e, f) refl)

  pub turn_both : (a b : ℕ) (d : Ordering) → o ≡ some a → p ≡ some b → d ≡ nat_cmp a b → Some d ≡ turn_of o p
  unfolding turn_of
  turn_both a b d e f g = ap (λ (x : Ordering). Some x) g ∙ sym (rw (e, f) refl)

-- Steps

module _ (s : List ℕ) (r : ℕ) (c : Cursor) where
  pub step_goes : (n vector : ℕ) → n ≡ be_at s 4 (c.next + 24) → vector ≡ vector_from s r c.index c.vector (record { 0 = n })
      → cursor (c.left - 1) (c.next + 28) (record { 0 = n }) vector ≡ step_if s r true c
  unfolding step_if settled past
  step_goes n vector f g =
      ap (λ p. cursor (c.left - 1) (c.next + 28) (record { 0 = n }) p) g
      ∙ ap (λ k. cursor (c.left - 1) (c.next + 28) (record { 0 = k }) (vector_from s r c.index c.vector (record { 0 = k }))) f

  -- where the cursor goes on, and where it stays
  pub step_on : (go : Bool) (d : Cursor) → go ≡ true → d ≡ step_if s r true c → d ≡ step_if s r go c
  step_on go d e f = f ∙ ap (λ (b : Bool). step_if s r b c) (sym e)

  pub step_stays : (go : Bool) → go ≡ false → c ≡ step_if s r go c
  unfolding step_if
  step_stays go e = sym (rw e refl)

  pub step_room : (go : Bool) → (go ≡ true → 0 < c.left) → c.next + 28 * c.left ≤ length s
      → (step_if s r go c).next + 28 * (step_if s r go c).left ≤ length s
  unfolding step_if settled past
  step_room true h l = let k = h refl in omega (arith, k)
  step_room false h l = l

  pub step_left : (go : Bool) → (go ≡ true → 0 < c.left) → (step_if s r go c).left ≤ c.left
  unfolding step_if settled past
  step_left true h = omega arith
  step_left false h = omega arith

  pub step_fewer : (go : Bool) → go ≡ true → 0 < c.left → (step_if s r go c).left < c.left
  unfolding step_if settled past
  step_fewer go e h = rw e (omega arith)

-- a cursor goes on to a stop that is its next bound, and stays where its next bound is above the stop
pub record On (s : List ℕ) (c : Cursor) (stop : ℕ) (go : Bool) : Type 0 where
  pub goes : go ≡ true → (0 < c.left) × (be_at s 24 c.next ≡ stop)
  pub stays : go ≡ false → 0 < c.left → suc stop ≤ be_at s 24 c.next

on_goes : (s : List ℕ) (c : Cursor) (stop : ℕ) → 0 < c.left → be_at s 24 c.next ≡ stop → On s c stop true
on_goes s c stop h e = record { goes = λ f. (h, e); stays = λ f. clash true refl f }

on_stays : (s : List ℕ) (c : Cursor) (stop : ℕ) → (0 < c.left → suc stop ≤ be_at s 24 c.next) → On s c stop false
on_stays s c stop h = record { goes = λ f. clash false f refl; stays = λ f. h }

-- what a turn says: neither has a bound up to the last item, or there is a stop, and those go on whose bound it is
pub data Turned (s : List ℕ) (x : Cursor) (t : List ℕ) (y : Cursor) (hi : ℕ) (o : Std.Option Ordering) : Type 0 where
  neither : o ≡ None → (0 < x.left → suc hi ≤ be_at s 24 x.next) → (0 < y.left → suc hi ≤ be_at t 24 y.next) → Turned s x t y hi o
  stops : (d : Ordering) (stop : ℕ) → o ≡ Some d → stop ≤ hi → On s x stop (is_le d) → On t y stop (is_ge d) → Turned s x t y hi o

-- the order of two bounds says that one goes on at least
pub one_goes : (d : Ordering) → (is_le d ≡ true) ⊎ (is_ge d ≡ true)
one_goes Less = inl refl
one_goes Equal = inl refl
one_goes Greater = inr refl

module _ (s : List ℕ) (x : Cursor) (t : List ℕ) (y : Cursor) (hi : ℕ) where
  pub turned : Turned s x t y hi (turn_of (bound_of s x hi) (bound_of t y hi))
  turned = go (bound_by s x hi) (bound_by t y hi)
    where
      p : ℕ
      p = be_at s 24 x.next

      q : ℕ
      q = be_at t 24 y.next

      go : Bound s x hi → Bound t y hi → Turned s x t y hi (turn_of (bound_of s x hi) (bound_of t y hi))
      go (ends f g) (ends h k) = neither (sym (turn_neither (bound_of s x hi) (bound_of t y hi) f h)) g k
      go (ends f g) (comes h k l) =
          stops Greater q (sym (turn_second_only (bound_of s x hi) (bound_of t y hi) q f h))
          l (on_stays s x q (λ n. omega (arith, g n))) (on_goes t y q k refl)
      go (comes f g l) (ends h k) =
          stops Less p (sym (turn_first_only (bound_of s x hi) (bound_of t y hi) p f h))
          l (on_goes s x p g refl) (on_stays t y p (λ n. omega (arith, k n)))
      go (comes f g l) (comes h k j) =
          let both : (d : Ordering) → d ≡ nat_cmp p q → turn_of (bound_of s x hi) (bound_of t y hi) ≡ Some d =
          λ d e. sym (turn_both (bound_of s x hi) (bound_of t y hi) p q d f h e) in
          elim (order p q) [
            | less n ↦
                stops Less p (both Less (order_first p q n)) l (on_goes s x p g refl) (on_stays t y p (λ _. n))
            | same n ↦
                stops Equal p (both Equal (order_both p q n)) l (on_goes s x p g refl) (on_goes t y p k (sym n))
            | more n ↦
                stops Greater q (both Greater (order_second p q n)) j (on_stays s x q (λ _. n)) (on_goes t y q k refl)
          ]

  -- those that go on at a stop pass a range there
  pub record Stops (d : Ordering) : Type 0 where
    pub first : is_le d ≡ true → 0 < x.left
    pub second : is_ge d ≡ true → 0 < y.left

  pub stops_at : (d : Ordering) → turn_of (bound_of s x hi) (bound_of t y hi) ≡ Some d → Stops d
  stops_at d e = go turned
    where
      go : Turned s x t y hi (turn_of (bound_of s x hi) (bound_of t y hi)) → Stops d
      go (neither f g h) = let z : ◌≡◌ {A = ℕ} 0 1 = cc in absurd (omega arith)
      go (stops k stop f h a b) =
          let same-turn : k ≡ d = cc in
          subst (λ (j : Ordering). Stops j) same-turn (record { first = λ l. (a.goes l).0; second = λ l. (b.goes l).0 })

-- The steps of the walk

module _ (s : List ℕ) (r : ℕ) (t : List ℕ) (m hi : ℕ) (x y : Cursor) where
  pub clear_not : (n : ℕ) → fine_at s r t m x.vector y.vector ≡ false → clear_by s r t m hi n x y ≡ false
  unfolding clear_by
  clear_not zero e = e
  clear_not (suc n) e = rw (e, clear_by) refl

  module _ (fine : fine_at s r t m x.vector y.vector ≡ true) where
    pub clear_ends : (n : ℕ) → turn_of (bound_of s x hi) (bound_of t y hi) ≡ None → clear_by s r t m hi n x y ≡ true
    unfolding clear_by
    clear_ends zero e = fine
    clear_ends (suc n) e = rw (fine, clear_by, e) refl

    pub clear_goes : (n : ℕ) (d : Ordering) → turn_of (bound_of s x hi) (bound_of t y hi) ≡ Some d
        → clear_by s r t m hi (suc n) x y ≡ clear_by s r t m hi n (step_if s r (is_le d) x) (step_if t m (is_ge d) y)
    unfolding clear_by
    clear_goes n d e = rw (fine, clear_by, e) refl

-- The loop

pub record Clears (s : List ℕ) (r : ℕ) (t : List ℕ) (m hi : ℕ) (keys : List ℕ) (x y : Cursor) (whole : Bool) : Type 0 where
  pub steps : ℕ
  pub enough : x.left + y.left ≤ steps
  pub is : whole ≡ clear_by s r t m hi steps x y
  pub first : x.next + 28 * x.left ≤ length s
  pub second : y.next + 28 * y.left ≤ length t
  pub keyed : Keyed s r t m keys
  pub exact : m ≡ length keys

module _ (s : List ℕ) (r : ℕ) (from : Cursor) (t : List ℕ) (m : ℕ) (begin : Cursor) (lo hi : ℕ) (x y : Cursor)
    (ex : x ≡ advanced s r from lo) (ey : y ≡ advanced t m begin lo) where
  pub clears_starts : (keys : List ℕ) → from.next + 28 * from.left ≤ length s → begin.next + 28 * begin.left ≤ length t
      → Keyed s r t m keys → m ≡ length keys → Clears s r t m hi keys x y (clear_by s r t m hi (x.left + y.left) x y)
  clears_starts keys a b k e = record {
    steps = x.left + y.left;
    enough = omega arith;
    is = refl;
    first = rw ex (advanced_room s r from lo a);
    second = rw ey (advanced_room t m begin lo b);
    keyed = k;
    exact = e;
  }

  pub clears_whole : (a : Bool) → a ≡ clear_by s r t m hi (x.left + y.left) x y → a ≡ clear_from s r from t m begin lo hi
  unfolding clear_from
  clears_whole a e = e ∙ ap₂ (λ (u v : Cursor). clear_by s r t m hi (u.left + v.left) u v) ex ey

module _ (s : List ℕ) (r : ℕ) (t : List ℕ) (m hi : ℕ) (keys : List ℕ) (x y : Cursor) (whole : Bool)
    (w : Clears s r t m hi keys x y whole) (b : Bool)
    (told : b ≡ none_above (level_in keys s x.vector) (elements_here t y.vector)) where
  fine : b ≡ fine_at s r t m x.vector y.vector
  fine = told ∙ fine_is s r t m keys x.vector w.keyed w.exact y.vector

  pub clears_not : b ≡ false → false ≡ whole
  clears_not e = sym (w.is ∙ clear_not s r t m hi x y w.steps (sym fine ∙ e))

  module _ (yes : b ≡ true) (o : Std.Option Ordering) (is : o ≡ turn_of (bound_of s x hi) (bound_of t y hi)) where
    pub clears_ends : o ≡ None → true ≡ whole
    clears_ends e = sym (w.is ∙ clear_ends s r t m hi x y (sym fine ∙ yes) w.steps (sym is ∙ e))

    module _ (d : Ordering) (on : o ≡ Some d) where
      stop : Stops s x t y hi d
      stop = stops_at s x t y hi d (sym is ∙ on)

      pub first_goes : (go : Bool) → go ≡ is_le d → go ≡ true → 0 < x.left
      first_goes go e f = stop.first (sym e ∙ f)

      pub second_goes : (go : Bool) → go ≡ is_ge d → go ≡ true → 0 < y.left
      second_goes go e f = stop.second (sym e ∙ f)

      module _ (u v : Cursor) (eu : u ≡ step_if s r (is_le d) x) (ev : v ≡ step_if t m (is_ge d) y) where
        pub clears_less : u.left + v.left < x.left + y.left
        clears_less =
            let a = step_left s r x (is_le d) stop.first in
            let c = step_left t m y (is_ge d) stop.second in
            let eu' = ap (λ (c : Cursor). c.left) eu in
            let ev' = ap (λ (c : Cursor). c.left) ev in
            ⊎_elim
            (λ l. omega (arith, c, eu', ev', step_fewer s r x (is_le d) l (stop.first l)))
            (λ l. omega (arith, a, eu', ev', step_fewer t m y (is_ge d) l (stop.second l)))
            (one_goes d)

        pub clears_on : Clears s r t m hi keys u v whole
        clears_on =
            let n = w.steps in
            let c : n ≡ suc (n - 1) = omega (arith, clears_less, w.enough) in
            record {
              steps = n - 1;
              enough = omega (arith, clears_less, w.enough);
              is = w.is ∙ ap (λ k. clear_by s r t m hi k x y) c ∙ clear_goes s r t m hi x y (sym fine ∙ yes) (n - 1) d (sym is ∙ on)
                  ∙ ap₂ (λ (d g : Cursor). clear_by s r t m hi (n - 1) d g) (sym eu) (sym ev);
              first = rw eu (step_room s r x (is_le d) stop.first w.first);
              second = rw ev (step_room t m y (is_ge d) stop.second w.second);
              keyed = w.keyed;
              exact = w.exact;
            }

-- The whole

module _ (s : List ℕ) (r : ℕ) (from : Cursor) (t : List ℕ) (m : ℕ) (begin : Cursor) (lo hi : ℕ) (a : Bool)
    (ea : a ≡ laid_out s r from) where
  pub covers_first : a ≡ false → true ≡ covers_by s r from t m begin lo hi
  unfolding covers_by
  covers_first f = sym (rw (sym ea ∙ f, covers_by) refl)

  module _ (fa : a ≡ true) (b : Bool) (eb : b ≡ laid_out t m begin) where
    pub covers_second : b ≡ false → true ≡ covers_by s r from t m begin lo hi
    unfolding covers_by
    covers_second f = sym (rw (sym ea ∙ fa, covers_by, sym eb ∙ f) refl)

    pub covers_whole : (c : Bool) → b ≡ true → c ≡ clear_from s r from t m begin lo hi → c ≡ covers_by s r from t m begin lo hi
    unfolding covers_by
    covers_whole c f e = e ∙ sym (rw (sym ea ∙ fa, covers_by, sym eb ∙ f) refl)

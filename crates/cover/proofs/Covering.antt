-- For bytes that the check accepts, the walk tells whether the first knowledge covers the second (`covers_is`). At an item to which both
-- cursors have come, the levels are the first knowledge's ticks of the second's replicas, so no element is above them exactly where
-- nothing lacks. Ranges rise, so past the one whose bound is the stop the next bound is above the stop: one range is passed at a
-- stop (`stands_step`). Up to the next stop nothing changes.
use Prim.Native.Nat.{ℕ, zero, suc, ◌+◌, ◌-◌, ◌*◌, ◌≤◌, ◌<◌}
use mathlib.Core.Path.{◌≡◌, refl, sym, ap, subst, ◌∙◌}
use mathlib.Core.Bool.{Bool, true, false}
use mathlib.Core.Logic.{⊎_elim}
use mathlib.Core.Option.{Option, none, some}
use Rattle.std.specs.Prelude as Std
use Rattle.std.specs.Prelude.{Some, None}
use Rattle.std.specs.Ordering.{is_le, is_ge}
use Rattle.std.specs.declared.cmp.Ordering.{Ordering}
use mathlib.Core.List.{List, [], ◌∷◌}
use native.Mathlib.Omega.{arith}
use lib.Dec.{ltb, leb}
use lib.ListN.{length, get_or}
use borrow.Author.Tests.{lt-ltb, le-ltb, le-leb}
use Rattle.codec.specs.Number.{be_at}
use Rattle.layout.specs.declared.VectorIndex.{VectorIndex}
use Rattle.layout.specs.Knowledge.{Rules, Lawful, Element, Rising, bounds}
use Rattle.layout.specs.Decode.{ranges_at, decode}
use Rattle.layout.specs.MethodPlaces.{ids_place}
use Rattle.layout.proofs.Places.{counts, id_at_lem}
use Rattle.ticks.specs.Meaning.{known, vector_at}
use Rattle.ticks.specs.MethodRows.{lesser, least_with, least_of}
use Rattle.ticks.specs.Operations.{is_nowhere, covers}
use Rattle.ticks.proofs.Lists.{less, same, more, order}
use Rattle.ticks.proofs.ForRows.{NothingLacks, Still, LeastLacking, id_in, least_none, least_some, lacking_on, lacking_past, lacking_here}
use Rattle.lookup.specs.declared.Cursor.{Cursor}
use Rattle.lookup.specs.Method.{key_at, past, passed, settled, advanced, tick_of, start_at, Open, Opens}
use Rattle.lookup.proofs.Loops.{cursor}
use Rattle.lookup.proofs.Leaf.{read_lawful, read_ids, read_ranges, ids_room, opens_reading}
use Rattle.lookup.proofs.Leaf.{Stands, stands_start, stands_advanced, stands_elements, stands_known, stands_still}
use Rattle.lacking.specs.Method.{bound_of, LaidOut}
use Rattle.lacking.proofs.Walking.{laid_all}
use Rattle.cover.specs.Method.{level_by, none_above, fine_at, turn_of, step_if, clear_by, clear_from, covers_by}
use Rattle.cover.proofs.Steps.{On, Turned, neither, stops, turned, one_goes, step_left, step_fewer, clear_not, clear_ends, clear_goes}

-- No element above, and the least id of one that is

some_stays : (f id : ℕ → ℕ) (p : ℕ) (es : List Element) → least_of f id (some p) es ≡ none → ◌≡◌ {A = ℕ} 0 1
unfolding least_of least_with lesser
some_stays f id p [] e = cc
some_stays f id p (x ∷ xs) e = go (λ q. some_stays f id q xs) (leb x.tick (f x.key.0)) refl (ltb (id x.key.0) p) refl
  where
    go : ((q : ℕ) → least_of f id (some q) xs ≡ none → ◌≡◌ {A = ℕ} 0 1) → (b : Bool) → leb x.tick (f x.key.0) ≡ b
        → (c : Bool) → ltb (id x.key.0) p ≡ c → ◌≡◌ {A = ℕ} 0 1
    go on true h c k = on p (sym (rw (h, least_of, least_with) refl) ∙ e)
    go on false h true k = on (id x.key.0) (sym (rw (h, least_of, least_with, lesser, k) refl) ∙ e)
    go on false h false k = on p (sym (rw (h, least_of, least_with, lesser, k) refl) ∙ e)

none_least : (f id : ℕ → ℕ) (es : List Element) → least_of f id none es ≡ none → none_above f es ≡ true
unfolding least_of least_with lesser none_above
none_least f id [] e = refl
none_least f id (x ∷ xs) e = go (none_least f id xs) (leb x.tick (f x.key.0)) refl
  where
    go : (least_of f id none xs ≡ none → none_above f xs ≡ true) → (b : Bool) → leb x.tick (f x.key.0) ≡ b
        → none_above f (x ∷ xs) ≡ true
    go on true h = rw (h, none_above) (on (sym (rw (h, least_of, least_with) refl) ∙ e))
    go on false h =
        let z = some_stays f id (id x.key.0) xs (sym (rw (h, least_of, least_with, lesser) refl) ∙ e) in
        absurd (omega (arith, z))

none_some : (some-p : ℕ) → ◌≡◌ {A = Option ℕ} none (some some-p) → ◌≡◌ {A = ℕ} 0 1
none_some p e = cc

some_least : (f id : ℕ → ℕ) (es : List Element) (p : ℕ) → least_of f id none es ≡ some p → none_above f es ≡ false
unfolding least_of least_with lesser none_above
some_least f id [] p e = let z = none_some p e in absurd (omega (arith, z))
some_least f id (x ∷ xs) p e = go (some_least f id xs p) (leb x.tick (f x.key.0)) refl
  where
    go : (least_of f id none xs ≡ some p → none_above f xs ≡ false) → (b : Bool) → leb x.tick (f x.key.0) ≡ b
        → none_above f (x ∷ xs) ≡ false
    go on true h = rw (h, none_above) (on (sym (rw (h, least_of, least_with) refl) ∙ e))
    go on false h = rw (h, none_above) refl

-- What lacks at an item

module _ (R Q : Rules) (s : List ℕ) (r : ℕ) (x : Cursor) (t : List ℕ) (m : ℕ) (y : Cursor) (i : ℕ)
    (sx : Stands R s r x (suc i)) (sy : Stands Q t m y (suc i)) where
  second_lawful : Lawful Q (decode t)
  second_lawful = read_lawful Q t m sy.v sy.e sy.g sy.reading

  second_size : length (decode t).replicas ≡ m
  second_size = (counts Q t m sy.v sy.e sy.g sy.reading).replicas

  own_id_lem : (key : ℕ) → key < m → id_in (decode t) key ≡ be_at t 16 (ids_place + 16 * key)
  own_id_lem key h =
      ap (λ ids. get_or ids key 0) (read_ids Q t m sy.v sy.e sy.g sy.reading) ∙ id_at_lem t m key ids_place h

  levels : (key : ℕ) → key < length (decode t).replicas → level_by s r t m x.vector key ≡ known (decode s) i (id_in (decode t) key)
  unfolding level_by
  levels key h =
      let k : key < m = omega (arith, second_size) in
      let id = be_at t 16 (ids_place + 16 * key) in
      let is : level_by s r t m x.vector key ≡ tick_of s x.vector (key_at s r id) = rw (lt-ltb key m k, level_by) refl in
      is ∙ stands_known R s r x (suc i) sx i (omega arith) sx.ahead id ∙ ap (known (decode s) i) (sym (own_id_lem key k))

  abbrev least : Option ℕ
  least = least_of (level_by s r t m x.vector) (id_in (decode t)) none (vector_at (decode t) i)

  fine_here : fine_at s r t m x.vector y.vector ≡ none_above (level_by s r t m x.vector) (vector_at (decode t) i)
  unfolding fine_at
  fine_here = ap (none_above (level_by s r t m x.vector)) (stands_elements Q t m y i sy)

  fine_yes : least ≡ none → fine_at s r t m x.vector y.vector ≡ true
  fine_yes e = fine_here ∙ none_least (level_by s r t m x.vector) (id_in (decode t)) (vector_at (decode t) i) e

  fine_no : (p : ℕ) → least ≡ some p → fine_at s r t m x.vector y.vector ≡ false
  fine_no p e = fine_here ∙ some_least (level_by s r t m x.vector) (id_in (decode t)) (vector_at (decode t) i) p e

  here_nothing_lacks : least ≡ none → NothingLacks (decode s) (decode t) i
  here_nothing_lacks e =
      least_none Q (decode s) (decode t) second_lawful i (level_by s r t m x.vector) (id_in (decode t)) levels (λ key h. refl) e

  here_least : (p : ℕ) → least ≡ some p → LeastLacking (decode s) (decode t) i p
  here_least p e =
      least_some Q (decode s) (decode t) second_lawful i (level_by s r t m x.vector) (id_in (decode t)) levels (λ key h. refl) p e

  here_still : (stop : ℕ) → (0 < x.left → stop ≤ be_at s 24 x.next) → (0 < y.left → stop ≤ be_at t 24 y.next)
      → Still (decode s) (decode t) i stop
  here_still stop f g = record { first = stands_still R s r x i sx stop f; second = stands_still Q t m y i sy stop g }

-- Ranges rise

-- the bounds of n ranges from a place on
record Up (s : List ℕ) (n next : ℕ) : Type 0 where
  lo : ℕ
  is : Rising lo (bounds (ranges_at s n next))

up_tail : (s : List ℕ) (n next : ℕ) → Up s (suc n) next → Up s n (next + 28)
unfolding ranges_at bounds
up_tail s n next u = record { lo = suc (be_at s 24 next); is = u.is.1 }

up_next : (s : List ℕ) (n next : ℕ) → Up s (suc n) next → 0 < n → be_at s 24 next < be_at s 24 (next + 28)
unfolding ranges_at bounds
up_next s zero next u h = absurd (omega arith)
up_next s (suc n) next u h = u.is.1.0

up_passed : (s : List ℕ) (j n next : ℕ) (index : VectorIndex) (vector : ℕ) → Up s n next
    → Up s (passed s j n (cursor n next index vector)).left (passed s j n (cursor n next index vector)).next
unfolding passed past
up_passed s j zero next index vector u = u
up_passed s j (suc n) next index vector u =
    let on : be_at s 24 next ≤ j
    → Up s (passed s j (suc n) (cursor (suc n) next index vector)).left (passed s j (suc n) (cursor (suc n) next index vector)).next =
    λ h. rw (le-ltb j (be_at s 24 next) h, passed) (up_passed s j n (next + 28) (record { 0 = be_at s 4 (next + 24) }) vector (up_tail s n next u)) in
    elim (order j (be_at s 24 next)) [
      | less h ↦ rw (lt-ltb j (be_at s 24 next) h, passed) u
      | same h ↦ on (omega arith)
      | more h ↦ on (omega arith)
    ]

-- one range is passed
passed_one : (s : List ℕ) (j n : ℕ) (c : Cursor) → be_at s 24 c.next ≤ j → (0 < n → j < be_at s 24 (c.next + 28))
    → passed s j (suc n) c ≡ past s c n
unfolding passed past
passed_one s j zero c h f = rw (le-ltb j (be_at s 24 c.next) h, passed) refl
passed_one s j (suc n) c h f =
    rw (le-ltb j (be_at s 24 c.next) h, passed, lt-ltb j (be_at s 24 (c.next + 28)) (f (omega arith))) refl

module _ (R : Rules) (s : List ℕ) (r : ℕ) (c : Cursor) where
  goes : (j : ℕ) → c.next + 28 * c.left ≤ length s → advanced s r c j ≡ settled s r c (passed s j c.left c)
  unfolding advanced
  goes j room = rw (le-leb (c.next + 28 * c.left) (length s) room, advanced)

  up_advanced : (j : ℕ) → c.next + 28 * c.left ≤ length s → Up s c.left c.next
      → Up s (advanced s r c j).left (advanced s r c j).next
  unfolding settled
  up_advanced j room u =
      subst (λ (d : Cursor). Up s d.left d.next) (sym (goes j room))
      (up_passed s j c.left c.next c.index c.vector u)

  up_start : Opens R s r c → Up s c.left c.next
  unfolding start_at
  up_start o =
      let h = opens_reading R s r c o in
      subst (λ (d : Cursor). Up s d.left d.next) (sym o.start)
      (record {
        lo = 0;
        is = subst (λ xs. Rising 0 (bounds xs)) (read_ranges R s r o.v o.e o.g h)
            (read_lawful R s r o.v o.e o.g h).rising;
      })

  module _ (i : ℕ) (st : Stands R s r c (suc i)) (u : Up s c.left c.next) (stop : ℕ) (later : i < stop) where
    up_step : (go : Bool) → On s c stop go → Up s (step_if s r go c).left (step_if s r go c).next
    unfolding step_if settled past
    up_step true on =
        let z : c.left ≡ suc (c.left - 1) = omega (arith, (on.goes refl).0) in
        up_tail s (c.left - 1) c.next (subst (λ n. Up s n c.next) z u)
    up_step false on = u

    stands_step : (go : Bool) → On s c stop go → Stands R s r (step_if s r go c) (suc stop)
    unfolding step_if
    stands_step true on =
        let h = on.goes refl in
        let n = c.left - 1 in
        let z : c.left ≡ suc n = omega (arith, h.0) in
        let above = up_next s n c.next (subst (λ k. Up s k c.next) z u) in
        let one : passed s stop c.left c ≡ past s c n =
        ap (λ k. passed s stop k c) z ∙ passed_one s stop n c (omega (arith, h.1)) (λ l. omega (arith, above l, h.1)) in
        subst (λ d. Stands R s r d (suc stop)) (goes stop st.room ∙ ap (settled s r c) one)
        (stands_advanced R s r c (suc i) st stop (omega arith))
    stands_step false on = record {
      v = st.v;
      e = st.e;
      g = st.g;
      reading = st.reading;
      room = st.room;
      index = st.index;
      indices = st.indices;
      vector = st.vector;
      ahead = on.stays refl;
      is = λ j l. st.is j (omega arith);
    }

on_least : (s : List ℕ) (c : Cursor) (stop : ℕ) (go : Bool) → On s c stop go → 0 < c.left → stop ≤ be_at s 24 c.next
on_least s c stop true on h = omega (arith, (on.goes refl).1)
on_least s c stop false on h = omega (arith, on.stays refl h)

-- The walk

module _ (R Q : Rules) (s : List ℕ) (r : ℕ) (t : List ℕ) (m hi : ℕ) where
  abbrev turn : Cursor → Cursor → Std.Option Ordering
  turn x y = turn_of (bound_of s x hi) (bound_of t y hi)

  -- one of them has its bound there, so the stop is later
  on_later : (x y : Cursor) (i stop : ℕ) (d : Ordering) → Stands R s r x (suc i) → Stands Q t m y (suc i) → On s x stop (is_le d)
      → On t y stop (is_ge d) → i < stop
  on_later x y i stop d sx sy f g =
      ⊎_elim (λ l. let e = f.goes l in omega (arith, sx.ahead e.0, e.1)) (λ l. let e = g.goes l in omega (arith, sy.ahead e.0, e.1))
      (one_goes d)

  on_fewer : (x y : Cursor) (stop : ℕ) (d : Ordering) → On s x stop (is_le d) → On t y stop (is_ge d)
      → (step_if s r (is_le d) x).left + (step_if t m (is_ge d) y).left < x.left + y.left
  on_fewer x y stop d f g =
      let a = step_left s r x (is_le d) (λ e. (f.goes e).0) in
      let b = step_left t m y (is_ge d) (λ e. (g.goes e).0) in
      ⊎_elim
      (λ l. omega (arith, b, step_fewer s r x (is_le d) l (f.goes l).0))
      (λ l. omega (arith, a, step_fewer t m y (is_ge d) l (g.goes l).0))
      (one_goes d)

  -- it is so at an item where it is so from the next stop on
  from_stop : (n : ℕ) (x y : Cursor) (i : ℕ) → i ≤ hi → Stands R s r x (suc i) → Stands Q t m y (suc i)
      → ((d : Ordering) (stop : ℕ) → fine_at s r t m x.vector y.vector ≡ true → stop ≤ hi → i < stop → turn x y ≡ Some d
      → On s x stop (is_le d) → On t y stop (is_ge d)
      → clear_by s r t m hi n x y ≡ covers (decode s) (decode t) stop hi)
      → clear_by s r t m hi n x y ≡ covers (decode s) (decode t) i hi
  unfolding covers is_nowhere
  from_stop n x y i h sx sy f = go (least R Q s r x t m y i sx sy) refl (turned s x t y hi)
    where
      go : (o : Option ℕ) → least R Q s r x t m y i sx sy ≡ o → Turned s x t y hi (turn x y)
          → clear_by s r t m hi n x y ≡ covers (decode s) (decode t) i hi
      go (some p) e w =
          clear_not s r t m hi x y n (fine_no R Q s r x t m y i sx sy p e)
          ∙ sym (ap is_nowhere (lacking_here (decode s) (decode t) i hi p (here_least R Q s r x t m y i sx sy p e) h))
      go none e (neither k a b) =
          clear_ends s r t m hi x y (fine_yes R Q s r x t m y i sx sy e) n k
          ∙ sym (ap is_nowhere (lacking_past (decode s) (decode t) i (suc hi) hi (here_nothing_lacks R Q s r x t m y i sx sy e)
          (here_still R Q s r x t m y i sx sy (suc hi) a b) (omega arith)))
      go none e (stops d stop k l a b) =
          let later = on_later x y i stop d sx sy a b in
          f d stop (fine_yes R Q s r x t m y i sx sy e) l later k a b
          ∙ sym (ap is_nowhere (lacking_on (decode s) (decode t) i stop hi (here_nothing_lacks R Q s r x t m y i sx sy e)
          (here_still R Q s r x t m y i sx sy stop (on_least s x stop (is_le d) a) (on_least t y stop (is_ge d) b))
          (omega (arith, later))))

  clear_is : (n : ℕ) (x y : Cursor) (i : ℕ) → x.left + y.left ≤ n → i ≤ hi → Stands R s r x (suc i) → Stands Q t m y (suc i)
      → Up s x.left x.next → Up t y.left y.next
      → clear_by s r t m hi n x y ≡ covers (decode s) (decode t) i hi
  clear_is zero x y i k h sx sy ux uy =
      from_stop zero x y i h sx sy (λ d stop e l later on a b. absurd (omega (arith, on_fewer x y stop d a b)))
  clear_is (suc n) x y i k h sx sy ux uy =
      from_stop (suc n) x y i h sx sy
      (λ d stop e l later on a b.
      clear_goes s r t m hi x y e n d on
      ∙ clear_is n (step_if s r (is_le d) x) (step_if t m (is_ge d) y) stop
      (omega (arith, on_fewer x y stop d a b)) l
      (stands_step R s r x i sx ux stop later (is_le d) a) (stands_step Q t m y i sy uy stop later (is_ge d) b)
      (up_step R s r x i sx ux stop later (is_le d) a) (up_step Q t m y i sy uy stop later (is_ge d) b))

-- Accepted bytes

laid : (s : List ℕ) (r : ℕ) (c : Cursor) → Open s r c → LaidOut s r c
laid s r c a =
    let o = a.opens in
    record {
      small = a.small;
      ids = ids_room a.rules s r o.v o.e o.g (opens_reading a.rules s r c o);
      ranges = (stands_start a.rules s r c o).room;
    }

module _ (s : List ℕ) (r : ℕ) (from : Cursor) (t : List ℕ) (m : ℕ) (begin : Cursor) (lo hi : ℕ) (a : Open s r from) (b : Open t m begin)
    (l : lo ≤ hi) where
  from_first_lem : clear_from s r from t m begin lo hi ≡ covers (decode s) (decode t) lo hi
  unfolding clear_from
  from_first_lem =
      let x = advanced s r from lo in
      let y = advanced t m begin lo in
      let sx = stands_start a.rules s r from a.opens in
      let sy = stands_start b.rules t m begin b.opens in
      clear_is a.rules b.rules s r t m hi (x.left + y.left) x y lo (omega arith) l
      (stands_advanced a.rules s r from 0 sx lo (omega arith)) (stands_advanced b.rules t m begin 0 sy lo (omega arith))
      (up_advanced a.rules s r from lo sx.room (up_start a.rules s r from a.opens))
      (up_advanced b.rules t m begin lo sy.room (up_start b.rules t m begin b.opens))

  -- whether the first knowledge covers the second in the span
  pub covers_is : covers_by s r from t m begin lo hi ≡ covers (decode s) (decode t) lo hi
  unfolding covers_by
  covers_is = rw (laid_all s r from (laid s r from a), covers_by, laid_all t m begin (laid t m begin b)) refl ∙ from_first_lem

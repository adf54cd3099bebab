-- The walk from stop to stop, for any bytes whose ranges are all there. The cells of the row are the ticks by places, so the least
-- lacking id is the one by places (`least_is`). The next stop is the nearer of the two next bounds, and one cursor at least passes a
-- range there (`passes_one`); so as many steps as ranges are left are enough, and how many more are allowed makes no difference
-- (`enough`). The loop's laws (`Walks`): the whole answer is the answer from the stop on. What it means is in FirstLacking.antt.
use Prim.Native.Nat.{ℕ, zero, suc, ◌+◌, ◌-◌, ◌*◌, ◌≤◌, ◌<◌}
use mathlib.Core.Path.{◌≡◌, refl, sym, ap, ap₂, ◌∙◌}
use mathlib.Core.Logic.{◌⊎◌, inl, inr, ⊎_elim}
use mathlib.Core.Bool.{Bool, true, false}
use mathlib.Core.Option.{Option, none, some}
use mathlib.Core.List.{List, [], ◌∷◌}
use native.Mathlib.Omega.{arith}
use lib.Dec.{leb}
use lib.ListN.{length, get_or}
use borrow.Author.Tests.{lt-ltb, le-ltb, le-leb, lt-leb, leb-true}
use Rattle.codec.specs.Number.{be_at}
use Rattle.codec.specs.declared.Item.{Item}
use Rattle.codec.specs.declared.Replica.{Replica}
use Rattle.codec.specs.Ids.{item_of, replica_of}
use Rattle.layout.specs.Knowledge.{Element}
use Rattle.layout.specs.Permitted.{largest_replicas}
use Rattle.layout.specs.MethodPlaces.{ids_place}
use Rattle.ticks.specs.MethodRows.{lesser, least_with, least_of}
use Rattle.ticks.specs.Operations.{Lack, nowhere, here}
use Rattle.ticks.proofs.Lists.{less, same, more, order}
use Rattle.ticks.proofs.Equality.{clash}
use Rattle.lookup.specs.declared.Cursor.{Cursor}
use Rattle.lookup.specs.Method.{key_at, advanced, elements_here, tick_here}
use Rattle.lookup.proofs.Leaf.{key_most, advanced_room, advanced_fewer, advanced_passes}
use Rattle.std.specs.Prelude as Std
use Rattle.std.specs.Prelude.{Some, None}
use Rattle.lacking.specs.declared.Lack as D
use Rattle.lacking.specs.Method.{Keyed, stop_at, bound_of, nearer_of, RowOf, RowWritten, Filled, id_from, level_of, least_id, lack_of}
use Rattle.lacking.specs.Method.{level_at, least_at, walk_by, walk_from, laid_out, LaidOut, lacking_by}
use Rattle.lacking.proofs.Cells.{level_none, level_is}

-- What lacks at an item

-- levels that are alike for every key find the same
least_same : (f g id : ℕ → ℕ) → ((key : ℕ) → f key ≡ g key) → (best : Option ℕ) (es : List Element)
    → least_of f id best es ≡ least_of g id best es
unfolding least_of least_with
least_same f g id e best [] = refl
least_same f g id e best (x ∷ xs) =
    least_same f g id e (least_with f id best x) xs
    ∙ ap (λ (l : ℕ). least_of g id (elim (leb x.tick l) [ true ↦ best | false ↦ lesser best (id x.key.0) ]) xs) (e x.key.0)

module _ (s : List ℕ) (r : ℕ) (t : List ℕ) (m : ℕ) (keys row : List ℕ) (vector : ℕ) (cells : RowOf (elements_here s vector) row)
    (size : r < length row) (keyed : Keyed s r t m keys) (exact : m ≡ length keys) where
  level_inside : (key : ℕ) → key < m → level_of keys row key ≡ level_at s r t m vector key
  unfolding level_at tick_here
  level_inside key h =
      let id = be_at t 16 (ids_place + 16 * key) in
      sym (level_is keys row key (omega (arith, exact))) ∙ ap (λ c. get_or row c 0) (keyed.is key h)
      ∙ cells.is (key_at s r id).0 (omega (arith, key_most s r id)) ∙ sym (rw (lt-ltb key m h, level_at) refl)

  level_outside : (key : ℕ) → m ≤ key → level_of keys row key ≡ level_at s r t m vector key
  unfolding level_at
  level_outside key h = sym (level_none keys row key (omega (arith, exact))) ∙ sym (rw (le-ltb key m h, level_at) refl)

  levels : (key : ℕ) → level_of keys row key ≡ level_at s r t m vector key
  levels key =
      elim (order key m) [
        | less h ↦ level_inside key h
        | same h ↦ level_outside key (omega arith)
        | more h ↦ level_outside key (omega arith)
      ]

  pub least_is : (other : ℕ)
      → least_of (level_of keys row) (id_from t) none (elements_here t other) ≡ least_at s r t m vector other
  unfolding least_at
  least_is other = least_same (level_of keys row) (level_at s r t m vector) (id_from t) levels none (elements_here t other)

-- The next stop

-- the next bound of a cursor, by its two tests
pub data Bound (s : List ℕ) (c : Cursor) (hi : ℕ) : Type 0 where
  ends : bound_of s c hi ≡ none → (0 < c.left → hi < be_at s 24 c.next) → Bound s c hi
  comes : bound_of s c hi ≡ some (be_at s 24 c.next) → 0 < c.left → be_at s 24 c.next ≤ hi → Bound s c hi

pub bound_by : (s : List ℕ) (c : Cursor) (hi : ℕ) → Bound s c hi
unfolding bound_of
bound_by s c hi =
    let b = be_at s 24 c.next in
    let inside : 0 < c.left → b ≤ hi → Bound s c hi =
    λ h l. comes (rw (lt-ltb 0 c.left h, bound_of, le-ltb hi b l) refl) h l in
    elim (order 0 c.left) [
      | less h ↦
          elim (order hi b) [
            | less l ↦ ends (rw (lt-ltb 0 c.left h, bound_of, lt-ltb hi b l) refl) (λ k. l)
            | same l ↦ inside h (omega arith)
            | more l ↦ inside h (omega arith)
          ]
      | same h ↦
          let z : c.left ≤ 0 = omega arith in
          ends (rw (le-ltb 0 c.left z, bound_of)) (λ k. absurd (omega arith))
      | more h ↦ absurd (omega arith)
    ]

-- the nearer of two next bounds is at or below both, inside the span, and one of them
pub record Next (s : List ℕ) (x : Cursor) (t : List ℕ) (y : Cursor) (hi stop : ℕ) : Type 0 where
  pub inside : stop ≤ hi
  pub first : 0 < x.left → stop ≤ be_at s 24 x.next
  pub second : 0 < y.left → stop ≤ be_at t 24 y.next
  pub passes : ((0 < x.left) × (be_at s 24 x.next ≡ stop)) ⊎ ((0 < y.left) × (be_at t 24 y.next ≡ stop))

some_same : (p q : ℕ) → some p ≡ some q → p ≡ q
some_same p q e = cc

some_none : {C : Type 0} (p : ℕ) → some p ≡ none → C
some_none p e = let z : ◌≡◌ {A = ℕ} 0 1 = cc in absurd (omega arith)

near_less : (p q : ℕ) → q < p → nearer_of (some p) (some q) ≡ some q
unfolding nearer_of
near_less p q h = rw (lt-ltb q p h, nearer_of)

near_not : (p q : ℕ) → p ≤ q → nearer_of (some p) (some q) ≡ some p
unfolding nearer_of
near_not p q h = rw (le-ltb q p h, nearer_of)

module _ (s : List ℕ) (x : Cursor) (t : List ℕ) (y : Cursor) (hi : ℕ) where
  -- neither has a bound up to the end
  pub record Last : Type 0 where
    pub first : 0 < x.left → suc hi ≤ be_at s 24 x.next
    pub second : 0 < y.left → suc hi ≤ be_at t 24 y.next

  pub next_none : nearer_of (bound_of s x hi) (bound_of t y hi) ≡ none → Last
  unfolding nearer_of
  next_none e = go (bound_by s x hi) (bound_by t y hi)
    where
      go : Bound s x hi → Bound t y hi → Last
      go (ends f g) (ends h k) = record { first = g; second = k }
      go (ends f g) (comes h k l) = some_none (be_at t 24 y.next) (sym (ap₂ nearer_of f h) ∙ e)
      go (comes f g o) (ends h k) = some_none (be_at s 24 x.next) (sym (ap₂ nearer_of f h) ∙ e)
      go (comes f g o) (comes h k l) =
          let p = be_at s 24 x.next in
          let q = be_at t 24 y.next in
          elim (order q p) [
            | less n ↦ some_none q (sym (ap₂ nearer_of f h ∙ near_less p q n) ∙ e)
            | same n ↦ some_none p (sym (ap₂ nearer_of f h ∙ near_not p q (omega arith)) ∙ e)
            | more n ↦ some_none p (sym (ap₂ nearer_of f h ∙ near_not p q (omega arith)) ∙ e)
          ]

  pub next_some : (stop : ℕ) → nearer_of (bound_of s x hi) (bound_of t y hi) ≡ some stop → Next s x t y hi stop
  unfolding nearer_of
  next_some stop e = go (bound_by s x hi) (bound_by t y hi)
    where
      p : ℕ
      p = be_at s 24 x.next

      q : ℕ
      q = be_at t 24 y.next

      go : Bound s x hi → Bound t y hi → Next s x t y hi stop
      go (ends f g) (ends h k) = some_none stop (sym e ∙ ap₂ nearer_of f h)
      go (ends f g) (comes h k l) =
          let z : q ≡ stop = some_same q stop (sym (ap₂ nearer_of f h) ∙ e) in
          record { inside = omega arith; first = λ n. omega (arith, g n); second = λ n. omega arith; passes = inr (k, z) }
      go (comes f g o) (ends h k) =
          let z : p ≡ stop = some_same p stop (sym (ap₂ nearer_of f h) ∙ e) in
          record { inside = omega arith; first = λ n. omega arith; second = λ n. omega (arith, k n); passes = inl (g, z) }
      go (comes f g o) (comes h k l) =
          let not : p ≤ q → Next s x t y hi stop =
          λ n.
          let z : p ≡ stop = some_same p stop (sym (ap₂ nearer_of f h ∙ near_not p q n) ∙ e) in
          record { inside = omega arith; first = λ j. omega arith; second = λ j. omega arith; passes = inl (g, z) } in
          elim (order q p) [
            | less n ↦
                let z : q ≡ stop = some_same q stop (sym (ap₂ nearer_of f h ∙ near_less p q n) ∙ e) in
                record { inside = omega arith; first = λ j. omega arith; second = λ j. omega arith; passes = inr (k, z) }
            | same n ↦ not (omega arith)
            | more n ↦ not (omega arith)
          ]

-- The steps of the walk

module _ (s : List ℕ) (r : ℕ) (t : List ℕ) (m hi : ℕ) (x y : Cursor) (i : ℕ) where
  pub walk_found : (n p : ℕ) → least_at s r t m x.vector y.vector ≡ some p → walk_by s r t m hi n x y i ≡ here i p
  unfolding walk_by
  walk_found zero p e = rw (e, walk_by) refl
  walk_found (suc n) p e = rw (e, walk_by) refl

  module _ (e : least_at s r t m x.vector y.vector ≡ none) where
    pub walk_ends : (n : ℕ) → nearer_of (bound_of s x hi) (bound_of t y hi) ≡ none → walk_by s r t m hi n x y i ≡ nowhere
    unfolding walk_by
    walk_ends zero f = rw (e, walk_by) refl
    walk_ends (suc n) f = rw (e, walk_by, f) refl

    pub walk_goes : (n stop : ℕ) → nearer_of (bound_of s x hi) (bound_of t y hi) ≡ some stop
        → walk_by s r t m hi (suc n) x y i ≡ walk_by s r t m hi n (advanced s r x stop) (advanced t m y stop) stop
    unfolding walk_by
    walk_goes n stop f = rw (e, walk_by, f) refl

module _ (s : List ℕ) (r : ℕ) (t : List ℕ) (m hi : ℕ) where
  -- at the next stop one range at least is passed
  pub passes_one : (x y : Cursor) (stop : ℕ) → x.next + 28 * x.left ≤ length s → y.next + 28 * y.left ≤ length t
      → nearer_of (bound_of s x hi) (bound_of t y hi) ≡ some stop
      → (advanced s r x stop).left + (advanced t m y stop).left < x.left + y.left
  passes_one x y stop a b e =
      let n = next_some s x t y hi stop e in
      let fu = advanced_fewer s r x stop a in
      let fv = advanced_fewer t m y stop b in
      let pu = advanced_passes s r x stop a in
      let pv = advanced_passes t m y stop b in
      ⊎_elim (λ h. omega (arith, fv, pu h.0 (omega (arith, h.1)))) (λ h. omega (arith, fu, pv h.0 (omega (arith, h.1))))
      n.passes

  -- two numbers of steps give the same where they do at each next stop
  alike_if : (n k : ℕ) (x y : Cursor) (i : ℕ)
      → ((stop : ℕ) → least_at s r t m x.vector y.vector ≡ none → nearer_of (bound_of s x hi) (bound_of t y hi) ≡ some stop
      → walk_by s r t m hi n x y i ≡ walk_by s r t m hi k x y i) → walk_by s r t m hi n x y i ≡ walk_by s r t m hi k x y i
  alike_if n k x y i f =
      go (least_at s r t m x.vector y.vector) refl (nearer_of (bound_of s x hi) (bound_of t y hi)) refl
    where
      go : (o : Option ℕ) → least_at s r t m x.vector y.vector ≡ o
          → (w : Option ℕ) → nearer_of (bound_of s x hi) (bound_of t y hi) ≡ w → walk_by s r t m hi n x y i ≡ walk_by s r t m hi k x y i
      go (some p) e w g = walk_found s r t m hi x y i n p e ∙ sym (walk_found s r t m hi x y i k p e)
      go none e none g = walk_ends s r t m hi x y i e n g ∙ sym (walk_ends s r t m hi x y i e k g)
      go none e (some stop) g = f stop e g

  -- enough steps are enough
  pub enough : (n k : ℕ) (x y : Cursor) (i : ℕ) → x.left + y.left ≤ n → x.left + y.left ≤ k
      → x.next + 28 * x.left ≤ length s → y.next + 28 * y.left ≤ length t
      → walk_by s r t m hi n x y i ≡ walk_by s r t m hi k x y i
  enough zero k x y i hn hk a b = alike_if zero k x y i (λ stop e f. absurd (omega (arith, passes_one x y stop a b f)))
  enough (suc n) zero x y i hn hk a b = alike_if (suc n) zero x y i (λ stop e f. absurd (omega (arith, passes_one x y stop a b f)))
  enough (suc n) (suc k) x y i hn hk a b =
      alike_if (suc n) (suc k) x y i
      (λ stop e f.
      let p = passes_one x y stop a b f in
      walk_goes s r t m hi x y i e n stop f
      ∙ enough n k (advanced s r x stop) (advanced t m y stop) stop (omega (arith, p)) (omega (arith, p)) (advanced_room s r x stop a)
      (advanced_room t m y stop b)
      ∙ sym (walk_goes s r t m hi x y i e k stop f))

-- The loop

pub record Walks (s : List ℕ) (r : ℕ) (t : List ℕ) (m hi : ℕ) (keys row : List ℕ) (x y : Cursor) (i : ℕ) (whole : Lack) : Type 0 where
  pub is : whole ≡ walk_by s r t m hi (x.left + y.left) x y i
  pub first : x.next + 28 * x.left ≤ length s
  pub second : y.next + 28 * y.left ≤ length t
  pub cells : RowOf (elements_here s x.vector) row
  pub size : r < length row
  pub keyed : Keyed s r t m keys
  pub exact : m ≡ length keys

module _ (s : List ℕ) (r : ℕ) (from : Cursor) (t : List ℕ) (m : ℕ) (begin : Cursor) (lo hi : ℕ) (x y : Cursor)
    (ex : x ≡ advanced s r from lo) (ey : y ≡ advanced t m begin lo) where
  pub walk_starts : (keys row after : List ℕ) → from.next + 28 * from.left ≤ length s
      → begin.next + 28 * begin.left ≤ length t → Keyed s r t m keys → m ≡ length keys → r < length row → RowWritten s x.vector row after
      → Walks s r t m hi keys after x y lo (walk_by s r t m hi (x.left + y.left) x y lo)
  walk_starts keys row after a b k e n p = record {
    is = refl;
    first = rw ex (advanced_room s r from lo a);
    second = rw ey (advanced_room t m begin lo b);
    cells = p.is;
    size = omega (arith, p.size);
    keyed = k;
    exact = e;
  }

  pub walk_whole : (a : Lack) → a ≡ walk_by s r t m hi (x.left + y.left) x y lo → a ≡ walk_from s r from t m begin lo hi
  unfolding walk_from
  walk_whole a e = e ∙ ap₂ (λ (u v : Cursor). walk_by s r t m hi (u.left + v.left) u v lo) ex ey

module _ (s : List ℕ) (r : ℕ) (t : List ℕ) (m hi : ℕ) (keys row : List ℕ) (x y : Cursor) (i : ℕ) (whole : Lack)
    (w : Walks s r t m hi keys row x y i whole) (least : Std.Option Replica)
    (told : least_id least ≡ least_of (level_of keys row) (id_from t) none (elements_here t y.vector)) where
  found : least_id least ≡ least_at s r t m x.vector y.vector
  found = told ∙ least_is s r t m keys row x.vector w.cells w.size w.keyed w.exact y.vector

  pub walk_here : (j : Item) (p : Replica) → item_of j ≡ i → least ≡ Some p
      → lack_of (Some (record { item = j; replica = p })) ≡ whole
  unfolding lack_of least_id
  walk_here j p e f =
      ap (λ j. here j (replica_of p)) e
      ∙ sym (w.is ∙ walk_found s r t m hi x y i (x.left + y.left) (replica_of p) (sym found ∙ ap least_id f))

  module _ (none_here : least ≡ None) (p q stop : Std.Option Item) (ep : stop_at p ≡ bound_of s x hi) (eq : stop_at q ≡ bound_of t y hi)
      (near : stop_at stop ≡ nearer_of (stop_at p) (stop_at q)) where
    nothing : least_at s r t m x.vector y.vector ≡ none
    unfolding least_id
    nothing = sym found ∙ ap least_id none_here

    nearest : stop_at stop ≡ nearer_of (bound_of s x hi) (bound_of t y hi)
    nearest = near ∙ ap₂ nearer_of ep eq

    pub walk_past : stop ≡ None → lack_of None ≡ whole
    unfolding lack_of stop_at
    walk_past e = sym (w.is ∙ walk_ends s r t m hi x y i nothing (x.left + y.left) (sym nearest ∙ ap stop_at e))

    module _ (n : Item) (at : stop ≡ Some n) (u v : Cursor) (eu : u ≡ advanced s r x (item_of n))
        (ev : v ≡ advanced t m y (item_of n)) where
      next : nearer_of (bound_of s x hi) (bound_of t y hi) ≡ some (item_of n)
      unfolding stop_at
      next = sym nearest ∙ ap stop_at at

      pub walk_less : u.left + v.left < x.left + y.left
      walk_less =
          omega (
            arith,
            ap (λ (c : Cursor). c.left) eu,
            ap (λ (c : Cursor). c.left) ev,
            passes_one s r t m hi x y (item_of n) w.first w.second next,
          )

      pub walk_on : (after : List ℕ) → Filled s x.vector u.vector row after
          → Walks s r t m hi keys after u v (item_of n) whole
      walk_on after f =
          let j = item_of n in
          let a = x.left + y.left in
          let b = u.left + v.left in
          let c : a ≡ suc (a - 1) = omega (arith, walk_less) in
          let room-u : u.next + 28 * u.left ≤ length s = rw eu (advanced_room s r x j w.first) in
          let room-v : v.next + 28 * v.left ≤ length t = rw ev (advanced_room t m y j w.second) in
          record {
            is = w.is ∙ ap (λ k. walk_by s r t m hi k x y i) c ∙ walk_goes s r t m hi x y i nothing (a - 1) j next
                ∙ ap₂ (λ (d g : Cursor). walk_by s r t m hi (a - 1) d g j) (sym eu) (sym ev)
                ∙ enough s r t m hi (a - 1) b u v j (omega (arith, walk_less)) (omega arith) room-u room-v;
            first = room-u;
            second = room-v;
            cells = f.is w.cells;
            size = omega (arith, w.size, f.size);
            keyed = w.keyed;
            exact = w.exact;
          }

-- Laid out

module _ (s : List ℕ) (r : ℕ) (c : Cursor) where
  pub laid_many : largest_replicas < r → false ≡ laid_out s r c
  unfolding laid_out
  laid_many h = sym (rw (lt-leb r largest_replicas h, laid_out) refl)

  module _ (small : r ≤ largest_replicas) where
    pub laid_ids : length s < ids_place + 16 * r → false ≡ laid_out s r c
    unfolding laid_out
    laid_ids h = sym (rw (le-leb r largest_replicas small, laid_out, lt-leb (ids_place + 16 * r) (length s) h) refl)

    module _ (ids : ids_place + 16 * r ≤ length s) where
      laid_rest : laid_out s r c ≡ leb (c.next + 28 * c.left) (length s)
      unfolding laid_out
      laid_rest = rw (le-leb r largest_replicas small, laid_out, le-leb (ids_place + 16 * r) (length s) ids) refl

      pub laid_before : length s < c.next → false ≡ laid_out s r c
      laid_before h = sym (laid_rest ∙ lt-leb (c.next + 28 * c.left) (length s) (omega arith))

      pub laid_ranges : c.next ≤ length s → (b : Bool) → b ≡ leb (28 * c.left) (length s - c.next) → b ≡ laid_out s r c
      laid_ranges h b e =
          elim (order (length s) (c.next + 28 * c.left)) [
            | less l ↦
                e ∙ lt-leb (28 * c.left) (length s - c.next) (omega arith)
                ∙ sym (laid_rest ∙ lt-leb (c.next + 28 * c.left) (length s) l)
            | same l ↦ fits (omega arith)
            | more l ↦ fits (omega arith)
          ]
        where
          fits : c.next + 28 * c.left ≤ length s → b ≡ laid_out s r c
          fits l =
              e ∙ le-leb (28 * c.left) (length s - c.next) (omega arith)
              ∙ sym (laid_rest ∙ le-leb (c.next + 28 * c.left) (length s) l)

  pub laid_all : LaidOut s r c → laid_out s r c ≡ true
  laid_all l = laid_rest l.small l.ids ∙ le-leb (c.next + 28 * c.left) (length s) l.ranges

  -- part by part
  pub laid_parts : (b : Bool) → b ≡ laid_out s r c → b ≡ true → LaidOut s r c
  laid_parts b e f =
      let t : laid_out s r c ≡ true = sym e ∙ f in
      let small : r ≤ largest_replicas =
      elim (order largest_replicas r) [
        | less h ↦ clash (laid_out s r c) t (sym (laid_many h))
        | same h ↦ omega arith
        | more h ↦ omega arith
      ] in
      let ids : ids_place + 16 * r ≤ length s =
      elim (order (length s) (ids_place + 16 * r)) [
        | less h ↦ clash (laid_out s r c) t (sym (laid_ids small h))
        | same h ↦ omega arith
        | more h ↦ omega arith
      ] in
      record { small = small; ids = ids; ranges = leb-true (c.next + 28 * c.left) (length s) (sym (laid_rest small ids) ∙ t) }

-- The whole

module _ (s : List ℕ) (r : ℕ) (from : Cursor) (t : List ℕ) (m : ℕ) (begin : Cursor) (lo hi : ℕ) (a : Bool)
    (ea : a ≡ laid_out s r from) where
  pub lacks_first : a ≡ false → lack_of None ≡ lacking_by s r from t m begin lo hi
  unfolding lack_of lacking_by
  lacks_first f = sym (rw (sym ea ∙ f, lacking_by) refl)

  module _ (fa : a ≡ true) (b : Bool) (eb : b ≡ laid_out t m begin) where
    pub lacks_second : b ≡ false → lack_of None ≡ lacking_by s r from t m begin lo hi
    unfolding lack_of lacking_by
    lacks_second f = sym (rw (sym ea ∙ fa, lacking_by, sym eb ∙ f) refl)

    pub lacks_whole : (p : Std.Option D.Lack) → b ≡ true → lack_of p ≡ walk_from s r from t m begin lo hi
        → lack_of p ≡ lacking_by s r from t m begin lo hi
    unfolding lacking_by
    lacks_whole p f e = e ∙ sym (rw (sym ea ∙ fa, lacking_by, sym eb ∙ f) refl)

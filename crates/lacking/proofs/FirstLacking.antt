-- For bytes that the check accepts, the walk finds the first lacking place of the span (`lacking_is`). At an item to which both cursors
-- have come, the levels are the first knowledge's ticks of the second's replicas, so the least lacking id among the elements there is the
-- least replica that lacks. Up to the next stop nothing changes: the first lacking place from the item on is the one from the stop on.
use Prim.Native.Nat.{ℕ, zero, suc, ◌+◌, ◌*◌, ◌≤◌, ◌<◌}
use mathlib.Core.Path.{◌≡◌, refl, sym, ap, ◌∙◌}
use mathlib.Core.Logic.{⊎_elim}
use mathlib.Core.Option.{Option, none, some}
use mathlib.Core.List.{List}
use native.Mathlib.Omega.{arith}
use lib.ListN.{length, get_or}
use borrow.Author.Tests.{lt-ltb}
use Rattle.codec.specs.Number.{be_at}
use Rattle.codec.proofs.Total.{read_id2}
use Rattle.layout.specs.Knowledge.{Rules, Lawful}
use Rattle.layout.specs.Decode.{decode}
use Rattle.layout.specs.MethodPlaces.{ids_place}
use Rattle.layout.proofs.Places.{counts, id_at_lem}
use Rattle.ticks.specs.Meaning.{known, vector_at}
use Rattle.ticks.specs.MethodRows.{least_of}
use Rattle.ticks.specs.Operations.{lacking}
use Rattle.ticks.proofs.ForRows.{NothingLacks, Still, LeastLacking, id_in, least_none, least_some, lacking_on, lacking_past, lacking_here}
use Rattle.lookup.specs.declared.Cursor.{Cursor}
use Rattle.lookup.specs.Method.{key_at, advanced, tick_here, Open}
use Rattle.lookup.proofs.Leaf.{read_lawful, read_ids, ids_room, opens_reading}
use Rattle.lookup.proofs.Leaf.{Stands, stands_start, stands_advanced, stands_elements, stands_here, stands_still}
use Rattle.lacking.specs.Method.{bound_of, nearer_of, id_from, level_at, least_at, walk_by, walk_from, LaidOut, lacking_by}
use Rattle.lacking.proofs.Walking.{next_none, next_some, passes_one, walk_found, walk_ends, walk_goes, laid_all}

-- What lacks at an item

module _ (R Q : Rules) (s : List ℕ) (r : ℕ) (x : Cursor) (t : List ℕ) (m : ℕ) (y : Cursor) (i : ℕ)
    (sx : Stands R s r x (suc i)) (sy : Stands Q t m y (suc i)) where
  second_lawful : Lawful Q (decode t)
  second_lawful = read_lawful Q t m sy.v sy.e sy.g sy.reading

  second_size : length (decode t).replicas ≡ m
  second_size = (counts Q t m sy.v sy.e sy.g sy.reading).replicas

  own_id_lem : (key : ℕ) → key < m → id_in (decode t) key ≡ be_at t 16 (ids_place + 16 * key)
  own_id_lem key h =
      ap (λ ids. get_or ids key 0) (read_ids Q t m sy.v sy.e sy.g sy.reading) ∙ id_at_lem t m key ids_place h

  levels : (key : ℕ) → key < length (decode t).replicas → level_at s r t m x.vector key ≡ known (decode s) i (id_in (decode t) key)
  unfolding level_at
  levels key h =
      let k : key < m = omega (arith, second_size) in
      let id = be_at t 16 (ids_place + 16 * key) in
      let is : level_at s r t m x.vector key ≡ tick_here s x.vector (key_at s r id) = rw (lt-ltb key m k, level_at) refl in
      is ∙ stands_here R s r x (suc i) sx i (omega arith) sx.ahead id ∙ ap (known (decode s) i) (sym (own_id_lem key k))

  ids : (key : ℕ) → key < length (decode t).replicas → id_from t key ≡ id_in (decode t) key
  unfolding id_from
  ids key h =
      let k : key < m = omega (arith, second_size) in
      let room = ids_room Q t m sy.v sy.e sy.g sy.reading in
      read_id2 t (ids_place + 16 * key) (omega arith) ∙ sym (own_id_lem key k)

  found : (o : Option ℕ) → least_at s r t m x.vector y.vector ≡ o
      → least_of (level_at s r t m x.vector) (id_from t) none (vector_at (decode t) i) ≡ o
  unfolding least_at
  found o e = ap (least_of (level_at s r t m x.vector) (id_from t) none) (sym (stands_elements Q t m y i sy)) ∙ e

  here_nothing_lacks : least_at s r t m x.vector y.vector ≡ none → NothingLacks (decode s) (decode t) i
  here_nothing_lacks e =
      least_none Q (decode s) (decode t) second_lawful i (level_at s r t m x.vector) (id_from t) levels ids (found none e)

  here_least : (p : ℕ) → least_at s r t m x.vector y.vector ≡ some p → LeastLacking (decode s) (decode t) i p
  here_least p e =
      least_some Q (decode s) (decode t) second_lawful i (level_at s r t m x.vector) (id_from t) levels ids p (found (some p) e)

  -- up to a stop that is at or below the next bounds both stay
  here_still : (stop : ℕ) → (0 < x.left → stop ≤ be_at s 24 x.next) → (0 < y.left → stop ≤ be_at t 24 y.next)
      → Still (decode s) (decode t) i stop
  here_still stop f g = record { first = stands_still R s r x i sx stop f; second = stands_still Q t m y i sy stop g }

-- The walk

module _ (R Q : Rules) (s : List ℕ) (r : ℕ) (t : List ℕ) (m hi : ℕ) where
  -- at an item it is the first lacking place where it is so from each next stop on
  from_stop : (n : ℕ) (x y : Cursor) (i : ℕ) → i ≤ hi → Stands R s r x (suc i) → Stands Q t m y (suc i)
      → ((stop : ℕ) → least_at s r t m x.vector y.vector ≡ none → nearer_of (bound_of s x hi) (bound_of t y hi) ≡ some stop
      → suc i ≤ stop → stop ≤ hi → walk_by s r t m hi n x y i ≡ lacking (decode s) (decode t) stop hi)
      → walk_by s r t m hi n x y i ≡ lacking (decode s) (decode t) i hi
  from_stop n x y i h sx sy f =
      go (least_at s r t m x.vector y.vector) refl (nearer_of (bound_of s x hi) (bound_of t y hi)) refl
    where
      still : (stop : ℕ) → (0 < x.left → stop ≤ be_at s 24 x.next) → (0 < y.left → stop ≤ be_at t 24 y.next)
          → Still (decode s) (decode t) i stop
      still = here_still R Q s r x t m y i sx sy

      go : (o : Option ℕ) → least_at s r t m x.vector y.vector ≡ o
          → (w : Option ℕ) → nearer_of (bound_of s x hi) (bound_of t y hi) ≡ w
          → walk_by s r t m hi n x y i ≡ lacking (decode s) (decode t) i hi
      go (some p) e w g =
          walk_found s r t m hi x y i n p e
          ∙ sym (lacking_here (decode s) (decode t) i hi p (here_least R Q s r x t m y i sx sy p e) h)
      go none e none g =
          let l = next_none s x t y hi g in
          walk_ends s r t m hi x y i e n g
          ∙ sym (lacking_past (decode s) (decode t) i (suc hi) hi (here_nothing_lacks R Q s r x t m y i sx sy e)
          (still (suc hi) l.first l.second) (omega arith))
      go none e (some stop) g =
          let l = next_some s x t y hi stop g in
          let later : suc i ≤ stop =
          ⊎_elim (λ b. omega (arith, sx.ahead b.0, b.1)) (λ b. omega (arith, sy.ahead b.0, b.1)) l.passes in
          f stop e g later l.inside
          ∙ sym (lacking_on (decode s) (decode t) i stop hi (here_nothing_lacks R Q s r x t m y i sx sy e) (still stop l.first l.second)
          (omega (arith, later)))

  walk_is : (n : ℕ) (x y : Cursor) (i : ℕ) → x.left + y.left ≤ n → i ≤ hi → Stands R s r x (suc i) → Stands Q t m y (suc i)
      → walk_by s r t m hi n x y i ≡ lacking (decode s) (decode t) i hi
  walk_is zero x y i k h sx sy =
      from_stop zero x y i h sx sy (λ stop e g l u. absurd (omega (arith, passes_one s r t m hi x y stop sx.room sy.room g)))
  walk_is (suc n) x y i k h sx sy =
      from_stop (suc n) x y i h sx sy
      (λ stop e g l u.
      walk_goes s r t m hi x y i e n stop g
      ∙ walk_is n (advanced s r x stop) (advanced t m y stop) stop
      (omega (arith, passes_one s r t m hi x y stop sx.room sy.room g)) u
      (stands_advanced R s r x (suc i) sx stop (omega arith)) (stands_advanced Q t m y (suc i) sy stop (omega arith)))

-- Accepted bytes

open_laid : (s : List ℕ) (r : ℕ) (c : Cursor) → Open s r c → LaidOut s r c
open_laid s r c a =
    let o = a.opens in
    record {
      small = a.small;
      ids = ids_room a.rules s r o.v o.e o.g (opens_reading a.rules s r c o);
      ranges = (stands_start a.rules s r c o).room;
    }

module _ (s : List ℕ) (r : ℕ) (from : Cursor) (t : List ℕ) (m : ℕ) (begin : Cursor) (lo hi : ℕ) (a : Open s r from) (b : Open t m begin)
    (l : lo ≤ hi) where
  from_first_lem : walk_from s r from t m begin lo hi ≡ lacking (decode s) (decode t) lo hi
  unfolding walk_from
  from_first_lem =
      let x = advanced s r from lo in
      let y = advanced t m begin lo in
      walk_is a.rules b.rules s r t m hi (x.left + y.left) x y lo (omega arith) l
      (stands_advanced a.rules s r from 0 (stands_start a.rules s r from a.opens) lo (omega arith))
      (stands_advanced b.rules t m begin 0 (stands_start b.rules t m begin b.opens) lo (omega arith))

  -- the first lacking place of the span
  pub lacking_is : lacking_by s r from t m begin lo hi ≡ lacking (decode s) (decode t) lo hi
  unfolding lacking_by
  lacking_is =
      rw (laid_all s r from (open_laid s r from a), lacking_by, laid_all t m begin (open_laid t m begin b)) refl ∙ from_first_lem

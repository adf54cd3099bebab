-- Joining two tables that rise by item id. The join follows both tables at once: the record of
-- the smaller item comes first, and where both have the item, the winner of the two. So what the join finds for an item
-- is the winner of what the two tables find for it, and an edit is a join with a table of one record, which wins over
-- the record it replaces.
use Prim.Native.Nat.{ℕ, suc, ◌≤◌, ◌<◌}
use mathlib.Core.Path.{◌≡◌, refl, sym, ◌∙◌}
use mathlib.Core.Bool.{Bool, true, false}
use mathlib.Core.List.{List, [], ◌∷◌}
use mathlib.Core.Option.{Option, none, some}
use native.Mathlib.Omega.{arith}
use borrow.Author.Tests.{lt-ltb, le-ltb, eq-eqb, ne_eqb}
use Rattle.layout.specs.Knowledge.{All, Rising}
use Rattle.ticks.proofs.Lists.{less, same, more, order}
use Rattle.replication.specs.Formats.{items, find}
use Rattle.replication.specs.Operate.{replace, wins, winner_of, join_from, join}
use Rattle.replication.proofs.Tables.Rising.{rising-cons, rising_low, rising_rest, rising_down, find-nil, find_here, find_there}
use Rattle.replication.proofs.Tables.Rising.{here, there, finds, find_below, replace-nil, replace_after, replace_same}
use Rattle.replication.proofs.Tables.Rising.{replace_before}
use Rattle.replication.specs.Record.{Rec}

-- ---- the winner

-- the winner is one of the two
pub winner_either : (P : Rec → Type 0) (x y : Rec) → P x → P y → P (winner_of x y)
unfolding winner_of
winner_either P x y p q = go (wins x y) refl
  where
    go : (t : Bool) → wins x y ≡ t → P (winner_of x y)
    go true e = rw (e, winner_of) q
    go false e = rw (e, winner_of) p

pub winner_item : (x y : Rec) → x.item ≡ y.item → (winner_of x y).item ≡ x.item
winner_item x y e = winner_either (λ (z : Rec). z.item ≡ x.item) x y refl (sym e)

pub winner_won : (x y : Rec) → wins x y ≡ true → winner_of x y ≡ y
unfolding winner_of
winner_won x y h = rw (h, winner_of)

-- the greater change tick wins
pub wins_tick : (x y : Rec) → x.change_tick < y.change_tick → wins x y ≡ true
unfolding wins
wins_tick x y h = rw (lt-ltb x.change_tick y.change_tick h, wins)

pub winner_tick : (x y : Rec) → x.change_tick < y.change_tick → winner_of x y ≡ y
winner_tick x y h = winner_won x y (wins_tick x y h)

pub winner_kept : (x y : Rec) → y.change_tick < x.change_tick → winner_of x y ≡ x
unfolding winner_of wins
winner_kept x y h =
    let l : y.change_tick ≤ x.change_tick = omega arith in
    rw (le-ltb x.change_tick y.change_tick l, ne_eqb x.change_tick y.change_tick (omega arith), winner_of, wins)

-- of equal change ticks, the greater change replica wins
pub winner_replica : (x y : Rec) → x.change_tick ≡ y.change_tick → x.change_replica < y.change_replica → winner_of x y ≡ y
unfolding winner_of wins
winner_replica x y e h =
    let l : y.change_tick ≤ x.change_tick = omega arith in
    rw (
      le-ltb x.change_tick y.change_tick l,
      eq-eqb x.change_tick y.change_tick e,
      lt-ltb x.change_replica y.change_replica h,
      winner_of,
      wins,
    )

pub winner_replica_kept : (x y : Rec) → x.change_tick ≡ y.change_tick → y.change_replica ≤ x.change_replica → winner_of x y ≡ x
unfolding winner_of wins
winner_replica_kept x y e h =
    let l : y.change_tick ≤ x.change_tick = omega arith in
    rw (
      le-ltb x.change_tick y.change_tick l,
      eq-eqb x.change_tick y.change_tick e,
      le-ltb x.change_replica y.change_replica h,
      winner_of,
      wins,
    )

-- ---- the clauses of the join

-- with what joins the later records as a variable, and then for the join itself
from-nil : (x : Rec) (xs : List Rec) (rest : List Rec → List Rec) → join_from x xs rest [] ≡ x ∷ xs
unfolding join_from
from-nil x xs rest = refl

from_left :
    (x : Rec)
    (xs : List Rec)
    (rest : List Rec → List Rec)
    (y : Rec)
    (ys : List Rec)
    → x.item < y.item
    → join_from x xs rest (y ∷ ys) ≡ x ∷ rest (y ∷ ys)
unfolding join_from
from_left x xs rest y ys h = rw (lt-ltb x.item y.item h, join_from)

from_right :
    (x : Rec)
    (xs : List Rec)
    (rest : List Rec → List Rec)
    (y : Rec)
    (ys : List Rec)
    → y.item < x.item
    → join_from x xs rest (y ∷ ys) ≡ y ∷ join_from x xs rest ys
unfolding join_from
from_right x xs rest y ys h =
    let l : y.item ≤ x.item = omega arith in
    rw (le-ltb x.item y.item l, lt-ltb y.item x.item h, join_from)

from_same :
    (x : Rec)
    (xs : List Rec)
    (rest : List Rec → List Rec)
    (y : Rec)
    (ys : List Rec)
    → x.item ≡ y.item
    → join_from x xs rest (y ∷ ys) ≡ winner_of x y ∷ rest ys
unfolding join_from
from_same x xs rest y ys h =
    let l : y.item ≤ x.item = omega arith in
    let k : x.item ≤ y.item = omega arith in
    rw (le-ltb x.item y.item l, le-ltb y.item x.item k, join_from)

pub join_none : (ys : List Rec) → join [] ys ≡ ys
unfolding join
join_none ys = refl

pub join-nil : (xs : List Rec) → join xs [] ≡ xs
unfolding join
join-nil [] = refl
join-nil (x ∷ xs) = from-nil x xs (join xs)

pub join_left : (x : Rec) (xs : List Rec) (y : Rec) (ys : List Rec) → x.item < y.item → join (x ∷ xs) (y ∷ ys) ≡ x ∷ join xs (y ∷ ys)
unfolding join
join_left x xs y ys h = from_left x xs (join xs) y ys h

pub join_right : (x : Rec) (xs : List Rec) (y : Rec) (ys : List Rec) → y.item < x.item → join (x ∷ xs) (y ∷ ys) ≡ y ∷ join (x ∷ xs) ys
unfolding join
join_right x xs y ys h = from_right x xs (join xs) y ys h

pub join_same : (x : Rec) (xs : List Rec) (y : Rec) (ys : List Rec) → x.item ≡ y.item → join (x ∷ xs) (y ∷ ys) ≡ winner_of x y ∷ join xs ys
unfolding join
join_same x xs y ys h = from_same x xs (join xs) y ys h

-- ---- how a join comes about, so that each law of it is shown along its steps

pub data Joins : List Rec → List Rec → List Rec → Type 0 where
  right_only : (ys : List Rec) → Joins [] ys ys
  left_only : (x : Rec) (xs : List Rec) → Joins (x ∷ xs) [] (x ∷ xs)
  left : (x : Rec) (xs : List Rec) (y : Rec) (ys zs : List Rec) → x.item < y.item → Joins xs (y ∷ ys) zs → Joins (x ∷ xs) (y ∷ ys) (x ∷ zs)
  right : (x : Rec) (xs : List Rec) (y : Rec) (ys zs : List Rec) → y.item < x.item → Joins (x ∷ xs) ys zs → Joins (x ∷ xs) (y ∷ ys) (y ∷ zs)
  alike : (x : Rec) (xs : List Rec) (y : Rec) (ys zs : List Rec) → x.item ≡ y.item → Joins xs ys zs → Joins (x ∷ xs) (y ∷ ys) (winner_of x y ∷ zs)

joins_from : (x : Rec) (xs : List Rec) → ((ys : List Rec) → Joins xs ys (join xs ys)) → (ys : List Rec) → Joins (x ∷ xs) ys (join (x ∷ xs) ys)
joins_from x xs rest [] = rw join-nil (left_only x xs)
joins_from x xs rest (y ∷ ys) =
    elim (order x.item y.item) [
      | less k ↦ rw (join_left x xs y ys k) (left x xs y ys (join xs (y ∷ ys)) k (rest (y ∷ ys)))
      | same k ↦ rw (join_same x xs y ys k) (alike x xs y ys (join xs ys) k (rest ys))
      | more k ↦ rw (join_right x xs y ys k) (right x xs y ys (join (x ∷ xs) ys) k (joins_from x xs rest ys))
    ]

pub joins : (xs ys : List Rec) → Joins xs ys (join xs ys)
joins [] ys = rw join_none (right_only ys)
joins (x ∷ xs) ys = joins_from x xs (λ zs. joins xs zs) ys

-- ---- the join rises, and its records are those of the two tables

joins_rising : (lo : ℕ) {xs ys zs : List Rec} → Joins xs ys zs → Rising lo (items xs) → Rising lo (items ys) → Rising lo (items zs)
joins_rising lo (right_only ys) p q = q
joins_rising lo (left_only x xs) p q = p
joins_rising lo (left x xs y ys zs h j) p q =
    rising-cons lo x zs (rising_low lo x xs p)
    (joins_rising (suc x.item) j (rising_rest lo x xs p) (rising-cons (suc x.item) y ys h (rising_rest lo y ys q)))
joins_rising lo (right x xs y ys zs h j) p q =
    rising-cons lo y zs (rising_low lo y ys q)
    (joins_rising (suc y.item) j (rising-cons (suc y.item) x xs h (rising_rest lo x xs p)) (rising_rest lo y ys q))
joins_rising lo (alike x xs y ys zs h j) p q =
    let e : (winner_of x y).item ≡ x.item = winner_item x y h in
    rising-cons lo (winner_of x y) zs (omega (arith, rising_low lo x xs p))
    (joins_rising (suc (winner_of x y).item) j
    (rising_down (suc (winner_of x y).item) (suc x.item) xs (omega arith) (rising_rest lo x xs p))
    (rising_down (suc (winner_of x y).item) (suc y.item) ys (omega arith) (rising_rest lo y ys q)))

pub join_rising : (lo : ℕ) (xs ys : List Rec) → Rising lo (items xs) → Rising lo (items ys) → Rising lo (items (join xs ys))
join_rising lo xs ys p q = joins_rising lo (joins xs ys) p q

joins_all : (P : Rec → Type 0) {xs ys zs : List Rec} → Joins xs ys zs → All P xs → All P ys → All P zs
joins_all P (right_only ys) a b = b
joins_all P (left_only x xs) a b = a
joins_all P (left x xs y ys zs h j) a b = (a.0, joins_all P j a.1 b)
joins_all P (right x xs y ys zs h j) a b = (b.0, joins_all P j a b.1)
joins_all P (alike x xs y ys zs h j) a b = (winner_either P x y a.0 b.0, joins_all P j a.1 b.1)

pub all_join : (P : Rec → Type 0) (xs ys : List Rec) → All P xs → All P ys → All P (join xs ys)
all_join P xs ys a b = joins_all P (joins xs ys) a b

-- ---- what the join finds

-- of what is found on two sides, the winner; what is found on one side only stays
unfoldable pub joined : Option Rec → Option Rec → Option Rec
joined none o = o
joined (some x) none = some x
joined (some x) (some y) = some (winner_of x y)

pub joined_right : (o : Option Rec) → joined none o ≡ o
unfolding joined
joined_right o = refl

pub joined_left : (o : Option Rec) → joined o none ≡ o
unfolding joined
joined_left none = refl
joined_left (some x) = refl

pub joined_both : (x y : Rec) → joined (some x) (some y) ≡ some (winner_of x y)
unfolding joined
joined_both x y = refl

joins_find :
    (lo i : ℕ)
    {xs ys zs : List Rec}
    → Joins xs ys zs
    → Rising lo (items xs)
    → Rising lo (items ys)
    → find i zs ≡ joined (find i xs) (find i ys)
joins_find lo i (right_only ys) p q = rw (find-nil i) (sym (joined_right (find i ys)))
joins_find lo i (left_only x xs) p q = rw (find-nil i) (sym (joined_left (find i (x ∷ xs))))
joins_find lo i (left x xs y ys zs h j) p q =
    let p' : Rising (suc x.item) (items xs) = rising_rest lo x xs p in
    let q' : Rising (suc x.item) (items (y ∷ ys)) = rising-cons (suc x.item) y ys h (rising_rest lo y ys q) in
    elim (finds i x xs) [
      | here k f ↦
          let g : find i (y ∷ ys) ≡ none = find_below (suc x.item) i (y ∷ ys) q' (omega arith) in
          cc (find_here i x zs k, joined_left (some x))
      | there k f ↦ cc (find_there i x zs k, joins_find (suc x.item) i j p' q')
    ]
joins_find lo i (right x xs y ys zs h j) p q =
    let p' : Rising (suc y.item) (items (x ∷ xs)) = rising-cons (suc y.item) x xs h (rising_rest lo x xs p) in
    let q' : Rising (suc y.item) (items ys) = rising_rest lo y ys q in
    elim (finds i y ys) [
      | here k f ↦
          let g : find i (x ∷ xs) ≡ none = find_below (suc y.item) i (x ∷ xs) p' (omega arith) in
          cc (find_here i y zs k, joined_right (some y))
      | there k f ↦ cc (find_there i y zs k, joins_find (suc y.item) i j p' q')
    ]
joins_find lo i (alike x xs y ys zs h j) p q =
    let p' : Rising (suc x.item) (items xs) = rising_rest lo x xs p in
    let q' : Rising (suc x.item) (items ys) = rising_down (suc x.item) (suc y.item) ys (omega arith) (rising_rest lo y ys q) in
    let e : (winner_of x y).item ≡ x.item = winner_item x y h in
    elim (finds i x xs) [
      | here k f ↦ cc (find_here i (winner_of x y) zs (e ∙ k), find_here i y ys (sym h ∙ k), joined_both x y)
      | there k f ↦
          cc (
            find_there i (winner_of x y) zs (λ w. k (sym e ∙ w)),
            find_there i y ys (λ w. k (h ∙ w)),
            joins_find (suc x.item) i j p' q',
          )
    ]

pub find_join :
    (lo i : ℕ)
    (xs ys : List Rec)
    → Rising lo (items xs)
    → Rising lo (items ys)
    → find i (join xs ys) ≡ joined (find i xs) (find i ys)
find_join lo i xs ys p q = joins_find lo i (joins xs ys) p q

-- ---- an edit is a join with a table of one record

-- it is enough to know that the record wins over the one that is replaced
pub replace_join_won :
    (r : Rec)
    (xs : List Rec)
    → ((x : Rec) → find r.item xs ≡ some x → wins x r ≡ true)
    → replace r xs ≡ join xs (r ∷ [])
replace_join_won r [] f = replace-nil r ∙ sym (join_none (r ∷ []))
replace_join_won r (x ∷ xs) f =
    elim (order x.item r.item) [
      | less k ↦
          let later = replace_join_won r xs (λ y e. f y (find_there r.item x xs (omega arith) ∙ e)) in
          cc (replace_after r x xs k, join_left x xs r [] k, later)
      | same k ↦
          cc (
            replace_same r x xs k,
            join_same x xs r [] k,
            winner_won x r (f x (find_here r.item x xs k)),
            join-nil xs,
          )
      | more k ↦ cc (replace_before r x xs k, join_right x xs r [] k, join-nil (x ∷ xs))
    ]

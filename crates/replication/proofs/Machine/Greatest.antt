-- The greatest version that ticks contain, when ticks or versions change: it depends only on which versions of the item
-- the ticks contain; one more version that they do not contain, or of another item, changes nothing; one with a tick
-- above all of them becomes the greatest; and of ticks that are the larger of two it is the greater of the two
-- greatest, since a version contained in the larger tick is contained in one of the two.
use Prim.Native.Nat.{ℕ, ◌≤◌, ◌<◌, max}
use mathlib.Core.Path.{◌≡◌, refl, sym, ◌∙◌, ap}
use mathlib.Core.Logic.{◌⊎◌, inl, inr, ⊎_elim}
use mathlib.Core.Bool.{Bool, true, false}
use mathlib.Core.List.{List, [], ◌∷◌, ◌++◌}
use mathlib.Core.Option.{Option, none, some}
use native.Mathlib.Omega.{arith}
use lib.Dec.{leb, ltb, eqb}
use borrow.Author.Tests.{le-ltb, eqb-true}
use Rattle.replication.specs.Operate.{wins, winner_of}
use Rattle.replication.specs.Machine.{Ticks, holds, later, better, greatest}
use Rattle.replication.proofs.Machine.Best.{Mem, contained_holds, holds_contained, not_contained, not_holds_above, at_most_trans}
use Rattle.replication.proofs.Machine.Best.{later_true, later_false, later_below, Top, Greatest, Apart, greatest_unique}
use Rattle.replication.proofs.Machine.Best.{greatest_same, skips, lacks, takes, considered, greatest-nil, greatest_skips}
use Rattle.replication.proofs.Machine.Best.{greatest_takes, greatest_lacks, better_none, better_later, greatest_is, greatest_top}
use Rattle.replication.proofs.Machine.Best.{greatest_mem, greatest_item, greatest_none}
use Rattle.replication.specs.Record.{Rec}

-- ---- other ticks

-- ticks that contain the same versions of the item have the same greatest
pub greatest_alike : (vs : List Rec) (k l : Ticks) (i : ℕ) → ((v : Rec) → Mem v vs → v.item ≡ i → holds k v ≡ holds l v) → greatest vs k i ≡ greatest vs l i
greatest_alike [] k l i f = greatest-nil k i ∙ sym (greatest-nil l i)
greatest_alike (r ∷ rs) k l i f =
    let rest : greatest rs k i ≡ greatest rs l i = greatest_alike rs k l i (λ v m e. f v (inr m) e) in
    elim (considered k i r) [
      | skips n ↦ greatest_skips r rs k i n ∙ rest ∙ sym (greatest_skips r rs l i n)
      | lacks n ↦ unheld rest n
      | takes e h ↦ greatest_takes r rs k i e h ∙ ap (λ o. some (better r o)) rest ∙ sym (greatest_takes r rs l i e (sym (f r (inl refl) e) ∙ h))
    ]
  where
    unheld : greatest rs k i ≡ greatest rs l i → holds k r ≡ false → greatest (r ∷ rs) k i ≡ greatest (r ∷ rs) l i
    unheld rest n =
        elim (considered l i r) [
          | skips d ↦ greatest_skips r rs k i d ∙ rest ∙ sym (greatest_skips r rs l i d)
          | lacks d ↦ greatest_lacks r rs k i n ∙ rest ∙ sym (greatest_lacks r rs l i d)
          | takes e h ↦ absurd (not_contained k r n (holds_contained k r (f r (inl refl) e ∙ h)))
        ]

pub holds_alike : (k l : Ticks) (r : Rec) → k r.item r.change_replica ≡ l r.item r.change_replica → holds k r ≡ holds l r
unfolding holds
holds_alike k l r e = ap (λ n. elim (leb 1 r.change_tick) [ true ↦ leb r.change_tick n | false ↦ false ]) e

-- equal ticks at the item
pub greatest_equal : (vs : List Rec) (k l : Ticks) (i : ℕ) → ((p : ℕ) → k i p ≡ l i p) → greatest vs k i ≡ greatest vs l i
greatest_equal vs k l i f =
    greatest_alike vs k l i (λ v m e. holds_alike k l v (rw e (f v.change_replica)))

-- ---- one more version

pub greatest_added_lacks : (vs : List Rec) (r : Rec) (k : Ticks) (i : ℕ) → holds k r ≡ false → greatest (vs ++ (r ∷ [])) k i ≡ greatest vs k i
greatest_added_lacks [] r k i n = greatest_lacks r [] k i n
greatest_added_lacks (x ∷ xs) r k i n =
    let rest : greatest (xs ++ (r ∷ [])) k i ≡ greatest xs k i = greatest_added_lacks xs r k i n in
    elim (considered k i x) [
      | skips d ↦ greatest_skips x (xs ++ (r ∷ [])) k i d ∙ rest ∙ sym (greatest_skips x xs k i d)
      | lacks d ↦ greatest_lacks x (xs ++ (r ∷ [])) k i d ∙ rest ∙ sym (greatest_lacks x xs k i d)
      | takes e h ↦ greatest_takes x (xs ++ (r ∷ [])) k i e h ∙ ap (λ o. some (better x o)) rest ∙ sym (greatest_takes x xs k i e h)
    ]

pub greatest_added_other : (vs : List Rec) (r : Rec) (k : Ticks) (i : ℕ) → (r.item ≡ i → ⊥) → greatest (vs ++ (r ∷ [])) k i ≡ greatest vs k i
greatest_added_other [] r k i n = greatest_skips r [] k i n
greatest_added_other (x ∷ xs) r k i n =
    let rest : greatest (xs ++ (r ∷ [])) k i ≡ greatest xs k i = greatest_added_other xs r k i n in
    elim (considered k i x) [
      | skips d ↦ greatest_skips x (xs ++ (r ∷ [])) k i d ∙ rest ∙ sym (greatest_skips x xs k i d)
      | lacks d ↦ greatest_lacks x (xs ++ (r ∷ [])) k i d ∙ rest ∙ sym (greatest_lacks x xs k i d)
      | takes e h ↦ greatest_takes x (xs ++ (r ∷ [])) k i e h ∙ ap (λ o. some (better x o)) rest ∙ sym (greatest_takes x xs k i e h)
    ]

-- a version that the ticks contain, with a tick above those of all others that they contain of the item
pub greatest_added_above : (vs : List Rec) (r : Rec) (k : Ticks) (i : ℕ) → r.item ≡ i → holds k r ≡ true
    → ((v : Rec) → Mem v vs → v.item ≡ i → holds k v ≡ true → v.change_tick < r.change_tick) → greatest (vs ++ (r ∷ [])) k i ≡ some r
greatest_added_above [] r k i e h f = greatest_takes r [] k i e h ∙ ap some (ap (λ o. better r o) (greatest-nil k i) ∙ better_none r)
greatest_added_above (x ∷ xs) r k i e h f =
    let rest : greatest (xs ++ (r ∷ [])) k i ≡ some r = greatest_added_above xs r k i e h (λ v m d g. f v (inr m) d g) in
    elim (considered k i x) [
      | skips d ↦ greatest_skips x (xs ++ (r ∷ [])) k i d ∙ rest
      | lacks d ↦ greatest_lacks x (xs ++ (r ∷ [])) k i d ∙ rest
      | takes d g ↦ greatest_takes x (xs ++ (r ∷ [])) k i d g ∙ ap some (ap (λ o. better x o) rest ∙ better_later x r (later_below x r (f x (inl refl) d g)))
    ]

-- ---- the greater of two

pub winner_theirs : (x y : Rec) → wins x y ≡ true → winner_of x y ≡ y
unfolding winner_of
winner_theirs x y e = rw (e, winner_of)

pub winner_mine : (x y : Rec) → wins x y ≡ false → winner_of x y ≡ x
unfolding winner_of
winner_mine x y e = rw (e, winner_of)

-- the tick decides before the replica: a later version of a lesser replica wins against an earlier one of a greater
abbrev made : ℕ → ℕ → Rec
made replica tick = record {
  item = 0;
  change_replica = replica;
  change_tick = tick;
  create_replica = replica;
  create_tick = tick;
  content = record { deleted = false; tag = 0 };
}

pub wins_by_tick : (wins (made 5 1) (made 1 2) ≡ true) × (wins (made 1 2) (made 5 1) ≡ false)
unfolding wins
wins_by_tick = (refl, refl)

pub wins_by_replica : (wins (made 1 2) (made 5 2) ≡ true) × (wins (made 5 2) (made 1 2) ≡ false)
unfolding wins
wins_by_replica = (refl, refl)

-- the batch's record wins just where the store's is the lesser in the order of versions
pub wins_later : (x y : Rec) → wins x y ≡ later x y
unfolding wins later
wins_later x y = go (eqb x.change_tick y.change_tick) refl
  where
    below : (t : Bool) → ltb x.change_tick y.change_tick ≡ t → eqb x.change_tick y.change_tick ≡ false → wins x y ≡ later x y
    below true l e = rw (l, wins) (sym (rw (e, later) l))
    below false l e = rw (l, e, wins) (sym (rw (e, later) l))

    go : (t : Bool) → eqb x.change_tick y.change_tick ≡ t → wins x y ≡ later x y
    go true e =
        let h : y.change_tick ≤ x.change_tick = omega (arith, eqb-true x.change_tick y.change_tick e) in
        rw (le-ltb x.change_tick y.change_tick h, e, wins, later)
    go false e = below (ltb x.change_tick y.change_tick) refl e

unfoldable pub greater : Option Rec → Option Rec → Option Rec
greater none o = o
greater (some x) none = some x
greater (some x) (some y) = some (winner_of x y)

pub greater_none : (o : Option Rec) → greater o none ≡ o
unfolding greater
greater_none none = refl
greater_none (some x) = refl

-- the greatest with one of two properties is the greater of the greatest with each
pub greatest_either : (P Q : Rec → Type 0) (i : ℕ) (vs : List Rec) (a b : Option Rec) → Greatest P i vs a → Greatest Q i vs b → Greatest (λ v. P v ⊎ Q v) i vs (greater a b)
unfolding greater
greatest_either P Q i vs none none g h = λ v m e c. ⊎_elim (λ (p : P v). g v m e p) (λ (q : Q v). h v m e q) c
greatest_either P Q i vs none (some y) g h =
    record {
      mem = h.mem;
      item = h.item;
      has = inr h.has;
      above = λ v m e c. ⊎_elim (λ (p : P v). absurd (g v m e p)) (λ (q : Q v). h.above v m e q) c;
    }
greatest_either P Q i vs (some x) none g h =
    record {
      mem = g.mem;
      item = g.item;
      has = inl g.has;
      above = λ v m e c. ⊎_elim (λ (p : P v). g.above v m e p) (λ (q : Q v). absurd (h v m e q)) c;
    }
greatest_either P Q i vs (some x) (some y) g h = go (wins x y) refl
  where
    go : (t : Bool) → wins x y ≡ t → Top (λ v. P v ⊎ Q v) i vs (winner_of x y)
    go true w =
        rw (winner_theirs x y w)
        (record {
          mem = h.mem;
          item = h.item;
          has = inr h.has;
          above = λ v m e c. ⊎_elim (λ (p : P v). at_most_trans v x y (g.above v m e p) (later_true x y (sym (wins_later x y) ∙ w))) (λ (q : Q v). h.above v m e q) c;
        })
    go false w =
        rw (winner_mine x y w)
        (record {
          mem = g.mem;
          item = g.item;
          has = inl g.has;
          above = λ v m e c. ⊎_elim (λ (p : P v). g.above v m e p) (λ (q : Q v). at_most_trans v y x (h.above v m e q) (later_false x y (sym (wins_later x y) ∙ w))) c;
        })

-- ticks that are the larger of two at the item
module _ (vs : List Rec) (apart : Apart vs) (k l n : Ticks) (i : ℕ) (larger : (p : ℕ) → n i p ≡ max (k i p) (l i p)) where
  larger_at : (v : Rec) → v.item ≡ i → n v.item v.change_replica ≡ max (k v.item v.change_replica) (l v.item v.change_replica)
  larger_at v e = rw e (larger v.change_replica)

  holds_either : (v : Rec) → v.item ≡ i → holds n v ≡ true → (holds k v ≡ true) ⊎ (holds l v ≡ true)
  holds_either v e h = go (holds k v) refl
    where
      go : (t : Bool) → holds k v ≡ t → (t ≡ true) ⊎ (holds l v ≡ true)
      go true d = inl refl
      go false d =
          let c = holds_contained n v h in
          inr (contained_holds l v (omega (arith, larger_at v e, not_holds_above k v d c.0)))

  either_holds : (v : Rec) → v.item ≡ i → (holds k v ≡ true) ⊎ (holds l v ≡ true) → holds n v ≡ true
  either_holds v e (inl h) = contained_holds n v (omega (arith, larger_at v e, holds_contained k v h))
  either_holds v e (inr h) = contained_holds n v (omega (arith, larger_at v e, holds_contained l v h))

  pub greatest_larger : greatest vs n i ≡ greater (greatest vs k i) (greatest vs l i)
  greatest_larger =
      greatest_unique (λ v. holds n v ≡ true) i vs (greatest vs n i) (greater (greatest vs k i) (greatest vs l i)) apart (greatest_is vs n i)
      (greatest_same (λ v. (holds k v ≡ true) ⊎ (holds l v ≡ true)) (λ v. holds n v ≡ true) i vs
      (greater (greatest vs k i) (greatest vs l i)) (λ v m e c. either_holds v e c) (λ v m e h. holds_either v e h)
      (greatest_either (λ v. holds k v ≡ true) (λ v. holds l v ≡ true) i vs (greatest vs k i) (greatest vs l i) (greatest_is vs k i) (greatest_is vs l i)))

  -- where the first ticks contain the greatest that the second contain, the second add nothing
  pub greatest_covered : (y : Rec) → greatest vs l i ≡ some y → holds k y ≡ true → greatest vs n i ≡ greatest vs k i
  greatest_covered y g h = greatest_unique (λ v. holds n v ≡ true) i vs (greatest vs n i) (greatest vs k i) apart (greatest_is vs n i) (go (greatest vs k i) refl)
    where
      go : (o : Option Rec) → greatest vs k i ≡ o → Greatest (λ v. holds n v ≡ true) i vs o
      go none e = absurd (greatest_none vs k i y e (greatest_mem vs l i y g) (greatest_item vs l i y g) h)
      go (some x) e =
          let t = greatest_top vs k i x e in
          let u = greatest_top vs l i y g in
          record {
            mem = t.mem;
            item = t.item;
            has = either_holds x t.item (inl t.has);
            above = λ v m d c. ⊎_elim (λ (p : holds k v ≡ true). t.above v m d p)
                (λ (q : holds l v ≡ true). at_most_trans v y x (u.above v m d q) (t.above y u.mem u.item h)) (holds_either v d c);
          }

  pub greatest_nothing : greatest vs l i ≡ none → greatest vs n i ≡ greatest vs k i
  greatest_nothing e = greatest_larger ∙ ap (λ o. greater (greatest vs k i) o) e ∙ greater_none (greatest vs k i)

-- Tables of records that rise strictly by item id. A table is known by what it finds: the record of an item is found
-- before any record of a greater item, so tables that find the same for every item are the same. A record put into a
-- table is found for its item, and what is found for the other items stays. The test of a table says that its item ids
-- rise and that each record is valid. Each law goes along the list, by the order of the two item ids compared.
use Prim.Native.Nat.{ℕ, suc, ◌≤◌, ◌<◌}
use mathlib.Core.Path.{◌≡◌, refl, sym, ◌∙◌, ap}
use mathlib.Core.Logic.{◌↔◌}
use mathlib.Core.Bool.{Bool, true, false}
use mathlib.Core.List.{List, [], ◌∷◌}
use mathlib.Core.Option.{none, some}
use native.Mathlib.Omega.{arith}
use lib.Dec.{leb, eqb}
use lib.ListN.{length}
use borrow.Author.Tests.{lt-ltb, le-ltb, le-leb, leb-true, eq-eqb, ne_eqb, eqb-true, eqb-false}
use Rattle.layout.specs.Knowledge.{largest_tick, All, Rising}
use Rattle.ticks.proofs.Lists.{less, same, more, order}
use Rattle.replication.specs.Formats.{items, find}
use Rattle.replication.specs.Reading.{both, tag_kept, valid_rec, valid_recs}
use Rattle.replication.specs.Operate.{replace}
use Rattle.replication.specs.Record.{Rec, Content}

-- ---- rising item ids

pub rising-nil : (lo : ℕ) → Rising lo (items [])
unfolding items
rising-nil lo = tt

pub rising-cons : (lo : ℕ) (x : Rec) (xs : List Rec) → lo ≤ x.item → Rising (suc x.item) (items xs) → Rising lo (items (x ∷ xs))
unfolding items
rising-cons lo x xs h r = (h, r)

pub rising_low : (lo : ℕ) (x : Rec) (xs : List Rec) → Rising lo (items (x ∷ xs)) → lo ≤ x.item
unfolding items
rising_low lo x xs r = r.0

pub rising_rest : (lo : ℕ) (x : Rec) (xs : List Rec) → Rising lo (items (x ∷ xs)) → Rising (suc x.item) (items xs)
unfolding items
rising_rest lo x xs r = r.1

-- a lower bound may be lowered
pub rising_down : (lo hi : ℕ) (xs : List Rec) → lo ≤ hi → Rising hi (items xs) → Rising lo (items xs)
rising_down lo hi [] h r = rising-nil lo
rising_down lo hi (x ∷ xs) h r =
    rising-cons lo x xs (omega (arith, rising_low hi x xs r)) (rising_rest hi x xs r)

-- ---- the record of an item

pub find-nil : (i : ℕ) → find i [] ≡ none
unfolding find
find-nil i = refl

pub find_here : (i : ℕ) (x : Rec) (xs : List Rec) → x.item ≡ i → find i (x ∷ xs) ≡ some x
unfolding find
find_here i x xs e = rw (eq-eqb x.item i e, find)

pub find_there : (i : ℕ) (x : Rec) (xs : List Rec) → (x.item ≡ i → ⊥) → find i (x ∷ xs) ≡ find i xs
unfolding find
find_there i x xs n = rw (ne_eqb x.item i n, find)

-- what is found is the first record or is found after it
pub data Finds (i : ℕ) (x : Rec) (xs : List Rec) : Type 0 where
  here : x.item ≡ i → find i (x ∷ xs) ≡ some x → Finds i x xs
  there : (x.item ≡ i → ⊥) → find i (x ∷ xs) ≡ find i xs → Finds i x xs

pub finds : (i : ℕ) (x : Rec) (xs : List Rec) → Finds i x xs
finds i x xs = go (eqb x.item i) refl
  where
    go : (t : Bool) → eqb x.item i ≡ t → Finds i x xs
    go true e = here (eqb-true _ _ e) (find_here i x xs (eqb-true _ _ e))
    go false e = there (eqb-false _ _ e) (find_there i x xs (eqb-false _ _ e))

pub not_found : {A : Type 0} (r : Rec) → none ≡ some r → A
not_found r e =
    let z : ◌≡◌ {A = ℕ} 0 1 = cc in
    absurd (omega arith)

pub find_item : (i : ℕ) (rs : List Rec) (r : Rec) → find i rs ≡ some r → r.item ≡ i
find_item i [] r e = not_found r (sym (find-nil i) ∙ e)
find_item i (x ∷ xs) r e =
    elim (finds i x xs) [
      | here k f ↦ let q : x ≡ r = cc in ap (λ (y : Rec). y.item) (sym q) ∙ k
      | there k f ↦ find_item i xs r (sym f ∙ e)
    ]

pub find_all : (P : Rec → Type 0) (i : ℕ) (rs : List Rec) (r : Rec) → All P rs → find i rs ≡ some r → P r
find_all P i [] r a e = not_found r (sym (find-nil i) ∙ e)
find_all P i (x ∷ xs) r a e =
    elim (finds i x xs) [
      | here k f ↦ let q : x ≡ r = cc in rw (← q) a.0
      | there k f ↦ find_all P i xs r a.1 (sym f ∙ e)
    ]

-- nothing is found below the lower bound
pub find_below : (lo i : ℕ) (rs : List Rec) → Rising lo (items rs) → i < lo → find i rs ≡ none
find_below lo i [] r h = find-nil i
find_below lo i (x ∷ xs) r h =
    let l : lo ≤ x.item = rising_low lo x xs r in
    find_there i x xs (omega arith) ∙ find_below (suc x.item) i xs (rising_rest lo x xs r) (omega arith)

-- what is found in a table is at its lower bound or above
pub find_above : (lo i : ℕ) (rs : List Rec) (r : Rec) → Rising lo (items rs) → find i rs ≡ some r → lo ≤ i
find_above lo i [] r h e = not_found r (sym (find-nil i) ∙ e)
find_above lo i (x ∷ xs) r h e =
    let l : lo ≤ x.item = rising_low lo x xs h in
    elim (finds i x xs) [
      | here k f ↦ omega arith
      | there k f ↦ omega (arith, find_above (suc x.item) i xs r (rising_rest lo x xs h) (sym f ∙ e))
    ]

pub all_find : (P : Rec → Type 0) (lo : ℕ) (rs : List Rec) → Rising lo (items rs) → ((i : ℕ) (r : Rec) → find i rs ≡ some r → P r) → All P rs
all_find P lo [] h f = tt
all_find P lo (x ∷ xs) h f = (f x.item x (find_here x.item x xs refl), all_find P (suc x.item) xs (rising_rest lo x xs h) later)
  where
    later : (i : ℕ) (r : Rec) → find i xs ≡ some r → P r
    later i r e =
        let l : suc x.item ≤ i = find_above (suc x.item) i xs r (rising_rest lo x xs h) e in
        f i r (find_there i x xs (omega arith) ∙ e)

-- ---- a table is known by what it finds

-- a table that begins with a record is not one that finds nothing for its item
apart : {A : Type 0} (i : ℕ) (x : Rec) (xs ys : List Rec) → x.item ≡ i → find i ys ≡ none → find i (x ∷ xs) ≡ find i ys → A
apart i x xs ys k n e = not_found x (sym n ∙ (sym e ∙ find_here i x xs k))

-- tables that find the same, with first records of the same item, find the same after them
later_same :
    (x y : Rec)
    (xs ys : List Rec)
    → x.item ≡ y.item
    → Rising (suc x.item) (items xs)
    → Rising (suc x.item) (items ys)
    → ((i : ℕ) → find i (x ∷ xs) ≡ find i (y ∷ ys))
    → (i : ℕ)
    → find i xs ≡ find i ys
later_same x y xs ys k p q f i =
    elim (order x.item i) [
      | less l ↦ sym (find_there i x xs (omega arith)) ∙ (f i ∙ find_there i y ys (omega arith))
      | same l ↦ find_below (suc x.item) i xs p (omega arith) ∙ sym (find_below (suc x.item) i ys q (omega arith))
      | more l ↦ find_below (suc x.item) i xs p (omega arith) ∙ sym (find_below (suc x.item) i ys q (omega arith))
    ]

first_same : (i : ℕ) (x y : Rec) (xs ys : List Rec) → x.item ≡ i → y.item ≡ i → find i (x ∷ xs) ≡ find i (y ∷ ys) → x ≡ y
first_same i x y xs ys k l e =
    let p : find i (x ∷ xs) ≡ some x = find_here i x xs k in
    let q : find i (y ∷ ys) ≡ some y = find_here i y ys l in
    cc

pub tables_equal :
    (lo : ℕ)
    (xs ys : List Rec)
    → Rising lo (items xs)
    → Rising lo (items ys)
    → ((i : ℕ) → find i xs ≡ find i ys)
    → xs ≡ ys
tables_equal lo [] [] p q f = refl
tables_equal lo [] (y ∷ ys) p q f = apart y.item y ys [] refl (find-nil y.item) (sym (f y.item))
tables_equal lo (x ∷ xs) [] p q f = apart x.item x xs [] refl (find-nil x.item) (f x.item)
tables_equal lo (x ∷ xs) (y ∷ ys) p q f =
    let p' : Rising (suc x.item) (items xs) = rising_rest lo x xs p in
    let q' : Rising (suc y.item) (items ys) = rising_rest lo y ys q in
    elim (order x.item y.item) [
      | less l ↦
          let k : Rising y.item (items (y ∷ ys)) = rising-cons y.item y ys (omega arith) q' in
          apart x.item x xs (y ∷ ys) refl (find_below y.item x.item (y ∷ ys) k l) (f x.item)
      | same l ↦
          let k : Rising (suc x.item) (items ys) = rising_down (suc x.item) (suc y.item) ys (omega arith) q' in
          let e : x ≡ y = first_same y.item x y xs ys l refl (f y.item) in
          let t : xs ≡ ys = tables_equal (suc x.item) xs ys p' k (later_same x y xs ys l p' k f) in
          cc
      | more l ↦
          let k : Rising x.item (items (x ∷ xs)) = rising-cons x.item x xs (omega arith) p' in
          apart y.item y ys (x ∷ xs) refl (find_below x.item y.item (x ∷ xs) k l) (sym (f y.item))
    ]

-- ---- a record put into a table

pub replace-nil : (r : Rec) → replace r [] ≡ r ∷ []
unfolding replace
replace-nil r = refl

pub replace_after : (r x : Rec) (xs : List Rec) → x.item < r.item → replace r (x ∷ xs) ≡ x ∷ replace r xs
unfolding replace
replace_after r x xs h = rw (lt-ltb x.item r.item h, replace)

pub replace_same : (r x : Rec) (xs : List Rec) → x.item ≡ r.item → replace r (x ∷ xs) ≡ r ∷ xs
unfolding replace
replace_same r x xs h =
    let l : r.item ≤ x.item = omega arith in
    rw (le-ltb x.item r.item l, eq-eqb x.item r.item h, replace)

pub replace_before : (r x : Rec) (xs : List Rec) → r.item < x.item → replace r (x ∷ xs) ≡ r ∷ x ∷ xs
unfolding replace
replace_before r x xs h =
    let l : r.item ≤ x.item = omega arith in
    rw (le-ltb x.item r.item l, ne_eqb x.item r.item (omega arith), replace)

pub replace_rising : (r : Rec) (lo : ℕ) (xs : List Rec) → lo ≤ r.item → Rising lo (items xs) → Rising lo (items (replace r xs))
replace_rising r lo [] h p = rw replace-nil (rising-cons lo r [] h (rising-nil (suc r.item)))
replace_rising r lo (x ∷ xs) h p =
    let l : lo ≤ x.item = rising_low lo x xs p in
    let q : Rising (suc x.item) (items xs) = rising_rest lo x xs p in
    elim (order x.item r.item) [
      | less k ↦ rw (replace_after r x xs k) (rising-cons lo x (replace r xs) l (replace_rising r (suc x.item) xs k q))
      | same k ↦ rw (replace_same r x xs k) (rising-cons lo r xs h (rising_down (suc r.item) (suc x.item) xs (omega arith) q))
      | more k ↦ rw (replace_before r x xs k) (rising-cons lo r (x ∷ xs) h (rising-cons (suc r.item) x xs k q))
    ]

pub find_replace_same : (r : Rec) (lo : ℕ) (xs : List Rec) → Rising lo (items xs) → find r.item (replace r xs) ≡ some r
find_replace_same r lo [] p = rw replace-nil (find_here r.item r [] refl)
find_replace_same r lo (x ∷ xs) p =
    elim (order x.item r.item) [
      | less k ↦
          rw (replace_after r x xs k)
          (find_there r.item x (replace r xs) (omega arith) ∙ find_replace_same r (suc x.item) xs (rising_rest lo x xs p))
      | same k ↦ rw (replace_same r x xs k) (find_here r.item r xs refl)
      | more k ↦ rw (replace_before r x xs k) (find_here r.item r (x ∷ xs) refl)
    ]

pub find_replace_other :
    (r : Rec)
    (i lo : ℕ)
    (xs : List Rec)
    → Rising lo (items xs)
    → (i ≡ r.item → ⊥)
    → find i (replace r xs) ≡ find i xs
find_replace_other r i lo [] p n = rw replace-nil (find_there i r [] (λ e. n (sym e)))
find_replace_other r i lo (x ∷ xs) p n =
    elim (order x.item r.item) [
      | less k ↦ rw (replace_after r x xs k) (after (find_replace_other r i (suc x.item) xs (rising_rest lo x xs p) n))
      | same k ↦
          rw (replace_same r x xs k)
          (find_there i r xs (λ e. n (sym e)) ∙ sym (find_there i x xs (λ e. n (sym e ∙ k))))
      | more k ↦ rw (replace_before r x xs k) (find_there i r (x ∷ xs) (λ e. n (sym e)))
    ]
  where
    after : find i (replace r xs) ≡ find i xs → find i (x ∷ replace r xs) ≡ find i (x ∷ xs)
    after e =
        elim (finds i x xs) [
          | here k f ↦ find_here i x (replace r xs) k ∙ sym f
          | there k f ↦ find_there i x (replace r xs) k ∙ (e ∙ sym f)
        ]

-- where the table has a record of the item, it stays as long
pub replace-length-found :
    (r : Rec)
    (lo : ℕ)
    (xs : List Rec)
    (y : Rec)
    → Rising lo (items xs)
    → find r.item xs ≡ some y
    → length (replace r xs) ≡ length xs
replace-length-found r lo [] y p f = not_found y (sym (find-nil r.item) ∙ f)
replace-length-found r lo (x ∷ xs) y p f =
    let q : Rising (suc x.item) (items xs) = rising_rest lo x xs p in
    elim (order x.item r.item) [
      | less k ↦
          let g : find r.item xs ≡ some y = sym (find_there r.item x xs (omega arith)) ∙ f in
          rw (replace_after r x xs k) (omega (arith, replace-length-found r (suc x.item) xs y q g))
      | same k ↦ rw (replace_same r x xs k)
      | more k ↦
          let l : x.item ≤ r.item = find_above x.item r.item (x ∷ xs) y (rising-cons x.item x xs (omega arith) q) f in
          absurd (omega arith)
    ]

-- where the table has none, it is one longer
pub replace-length-new : (r : Rec) (xs : List Rec) → find r.item xs ≡ none → length (replace r xs) ≡ suc (length xs)
replace-length-new r [] f = rw replace-nil
replace-length-new r (x ∷ xs) f =
    elim (order x.item r.item) [
      | less k ↦
          let g : find r.item xs ≡ none = sym (find_there r.item x xs (omega arith)) ∙ f in
          rw (replace_after r x xs k) (omega (arith, replace-length-new r xs g))
      | same k ↦ not_found x (sym f ∙ find_here r.item x xs k)
      | more k ↦ rw (replace_before r x xs k)
    ]

pub all_replace : (P : Rec → Type 0) (r : Rec) (xs : List Rec) → P r → All P xs → All P (replace r xs)
all_replace P r [] h a = rw replace-nil (h, tt)
all_replace P r (x ∷ xs) h a =
    elim (order x.item r.item) [
      | less k ↦ rw (replace_after r x xs k) (a.0, all_replace P r xs h a.1)
      | same k ↦ rw (replace_same r x xs k) (h, a.1)
      | more k ↦ rw (replace_before r x xs k) (h, a)
    ]

-- ---- the tests

pub both_parts : (a b : Bool) → both a b ≡ true → (a ≡ true) × (b ≡ true)
both_parts true b e = (refl, e)
both_parts false b e =
    let z : ◌≡◌ {A = ℕ} 0 1 = cc in
    absurd (omega arith)

pub both_holds : (a b : Bool) → a ≡ true → b ≡ true → both a b ≡ true
both_holds a b p q = rw p q

pub record ValidRec (r : Rec) : Type 0 where
  pub created : 1 ≤ r.create_tick
  pub order : r.create_tick ≤ r.change_tick
  pub changed : r.change_tick ≤ largest_tick
  pub bare : r.content.deleted ≡ true → r.content.tag ≡ 0

tag_true : (c : Content) → tag_kept c ≡ true → c.deleted ≡ true → c.tag ≡ 0
unfolding tag_kept
tag_true c e k = eqb-true c.tag 0 (rw (k, tag_kept) at e)

tag_holds : (c : Content) → (c.deleted ≡ true → c.tag ≡ 0) → tag_kept c ≡ true
unfolding tag_kept
tag_holds c h = go c.deleted refl
  where
    go : (t : Bool) → c.deleted ≡ t → tag_kept c ≡ true
    go true e = rw (e, tag_kept) (eq-eqb c.tag 0 (h e))
    go false e = rw (e, tag_kept)

rec_true : (r : Rec) → valid_rec r ≡ true → ValidRec r
unfolding valid_rec
rec_true r e =
    let a = both_parts _ _ e in
    let b = both_parts _ _ a.1 in
    let c = both_parts _ _ b.1 in
    record {
      created = leb-true _ _ a.0;
      order = leb-true _ _ b.0;
      changed = leb-true _ _ c.0;
      bare = tag_true r.content c.1;
    }

rec_holds : (r : Rec) → ValidRec r → valid_rec r ≡ true
unfolding valid_rec
rec_holds r v =
    both_holds _ _ (le-leb 1 r.create_tick v.created)
    (both_holds _ _ (le-leb r.create_tick r.change_tick v.order)
    (both_holds _ _ (le-leb r.change_tick largest_tick v.changed) (tag_holds r.content v.bare)))

recs_true :
    (P : Rec → Bool)
    (lo : ℕ)
    (rs : List Rec)
    → valid_recs P lo rs ≡ true
    → Rising lo (items rs) × All (λ r. ValidRec r × (P r ≡ true)) rs
unfolding valid_recs
recs_true P lo [] e = (rising-nil lo, tt)
recs_true P lo (x ∷ xs) e =
    let a = both_parts (leb lo x.item) _ e in
    let b = both_parts (valid_rec x) _ a.1 in
    let c = both_parts (P x) _ b.1 in
    let d = recs_true P (suc x.item) xs c.1 in
    (rising-cons lo x xs (leb-true lo x.item a.0) d.0, ((rec_true x b.0, c.0), d.1))

recs_hold :
    (P : Rec → Bool)
    (lo : ℕ)
    (rs : List Rec)
    → Rising lo (items rs)
    → All (λ r. ValidRec r × (P r ≡ true)) rs
    → valid_recs P lo rs ≡ true
unfolding valid_recs
recs_hold P lo [] h a = refl
recs_hold P lo (x ∷ xs) h a =
    both_holds _ _ (le-leb lo x.item (rising_low lo x xs h))
    (both_holds _ _ (rec_holds x a.0.0)
    (both_holds _ _ a.0.1 (recs_hold P (suc x.item) xs (rising_rest lo x xs h) a.1)))

pub valid_recs_lem :
    (P : Rec → Bool)
    (lo : ℕ)
    (rs : List Rec)
    → (valid_recs P lo rs ≡ true) ↔ (Rising lo (items rs) × All (λ r. ValidRec r × (P r ≡ true)) rs)
valid_recs_lem P lo rs = (recs_true P lo rs, λ h. recs_hold P lo rs h.0 h.1)

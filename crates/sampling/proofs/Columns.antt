-- Columns of ids. An id is looked for among the first n columns; where it is not there, it gets a column at the end. The
-- columns that a map adds have the ids of its earlier keys, and no id stands twice in a map, so an id that is unlike the first
-- n is unlike all (`adding_next`); and so no two columns have the same id, if no two had before (`mapped_added`).
use Prim.Native.Nat.{ℕ, zero, suc, max, ◌+◌, ◌-◌, ◌*◌, ◌≤◌, ◌<◌}
use mathlib.Core.Path.{◌≡◌, refl, sym, ap, ap₂, ◌∙◌, subst}
use mathlib.Core.Logic.{inl, inr}
use mathlib.Core.Bool.{Bool, true, false}
use mathlib.Core.List.{List, [], ◌∷◌}
use native.Mathlib.Omega.{arith}
use lib.Dec.{eqb}
use lib.ListN.{length, get_or, set, length-set}
use lib.Seq.{get_or-set_same, get_or-set_other}
use borrow.Author.Tests.{eqb-true, eqb-false, eq-eqb, ne_eqb, lt-ltb, le-ltb}
use Rattle.codec.specs.Number.{be_at}
use Rattle.codec.specs.Words.{words2}
use Rattle.codec.proofs.Order.{words2_be}
use Rattle.layout.specs.Knowledge.{Distinct}
use Rattle.layout.specs.Decode.{ids_at}
use Rattle.layout.specs.MethodPlaces.{ids_place}
use Rattle.layout.proofs.Places.{id_at_lem, ids-length}
use Rattle.ticks.proofs.Lists.{less, same, more, order}
use Rattle.ticks.proofs.Equality.{exact?, eqb_exact}
use Rattle.ticks.proofs.Unique.{distinct_get}
use Rattle.tables.specs.MethodWords.{id_at}
use Rattle.loading.specs.Method.{Unlike, Added}
use Rattle.sampling.specs.MethodColumns.{find_from, column_of, put_id, Join, join_of, joined, ColumnList, columns_of, keyed, mapped_from, mapped}

-- P gives the id of a column before a step, Q after it

-- what was there before below n is there still
pub record Kept (P Q : ℕ → ℕ) (n : ℕ) : Type 0 where
  pub is : (c : ℕ) → c < n → Q c ≡ P c

-- P and Q are alike but at c, where Q has x
pub record Put (P Q : ℕ → ℕ) (c x : ℕ) : Type 0 where
  pub is : Q c ≡ x
  pub others : (d : ℕ) → (d ≡ c → ⊥) → Q d ≡ P d

-- c is the first of n columns that has the id p, or n where none has it
record Finds (P : ℕ → ℕ) (n p c : ℕ) : Type 0 where
  most : c ≤ n
  is : c < n → P c ≡ p
  before : (d : ℕ) → d < c → P d ≡ p → ⊥

-- c is the column of the id p: one of the first n of m columns with the ids P, or a new one after the m; the ids are now Q
pub record Joins (P Q : ℕ → ℕ) (n m p c : ℕ) : Type 0 where
  pub most : c ≤ m
  pub is : Q c ≡ p
  pub kept : Kept P Q m
  pub old : c < m → c < n
  pub new : c ≡ m → (d : ℕ) → d < n → P d ≡ p → ⊥

-- Looking for an id

find_none : (ids : List ℕ) (p c : ℕ) → find_from ids p 0 c ≡ c
unfolding find_from
find_none ids p c = refl

find_same : (ids : List ℕ) (p n c : ℕ) → id_at ids c ≡ p → find_from ids p (suc n) c ≡ c
unfolding find_from
find_same ids p n c e = rw (eq-eqb (id_at ids c) p e, find_from)

find_other : (ids : List ℕ) (p n c : ℕ) → (id_at ids c ≡ p → ⊥) → find_from ids p (suc n) c ≡ find_from ids p n (c + 1)
unfolding find_from
find_other ids p n c e = rw (ne_eqb (id_at ids c) p e, find_from)

-- no column below k has the id p
record Unmet (P : ℕ → ℕ) (k p : ℕ) : Type 0 where
  is : (d : ℕ) → d < k → P d ≡ p → ⊥

unmet_next : (P : ℕ → ℕ) (k p : ℕ) → Unmet P k p → (P k ≡ p → ⊥) → Unmet P (k + 1) p
unmet_next P k p u n = record { is = each }
  where
    each : (d : ℕ) → d < k + 1 → P d ≡ p → ⊥
    each d h g =
        elim (order d k) [
          | less m ↦ u.is d m g
          | same m ↦ n (ap P (sym m) ∙ g)
          | more m ↦ omega arith
        ]

finds_from : (ids : List ℕ) (p n c : ℕ) → Unmet (id_at ids) c p → Finds (id_at ids) (c + n) p (find_from ids p n c)
finds_from ids p zero c u =
    subst (Finds (id_at ids) (c + 0) p) (sym (find_none ids p c))
    (record { most = omega arith; is = λ h. absurd (omega arith); before = u.is })
finds_from ids p (suc n) c u =
    elim (exact? eqb eqb_exact (id_at ids c) p) [
      | inl e ↦
          subst (Finds (id_at ids) (c + suc n) p) (sym (find_same ids p n c e))
          (record { most = omega arith; is = λ h. e; before = u.is })
      | inr e ↦
          let z : c + 1 + n ≡ c + suc n = omega arith in
          subst (Finds (id_at ids) (c + suc n) p) (sym (find_other ids p n c e))
          (subst (λ m. Finds (id_at ids) m p (find_from ids p n (c + 1))) z (finds_from ids p n (c + 1) (unmet_next (id_at ids) c p u e)))
    ]

finds : (ids : List ℕ) (n p : ℕ) → Finds (id_at ids) n p (column_of ids n p)
unfolding column_of
finds ids n p =
    let z : 0 + n ≡ n = omega arith in
    subst (λ m. Finds (id_at ids) m p (find_from ids p n 0)) z (finds_from ids p n 0 (record { is = λ d h e. omega arith }))

-- the loop: the whole is what is left

pub id_words_lem : (ids : List ℕ) (c x y : ℕ) → x ≡ get_or ids (2 * c) 0 → y ≡ get_or ids (2 * c + 1) 0 → words2 x y ≡ id_at ids c
unfolding id_at
id_words_lem ids c x y e f = ap₂ words2 e f

pub find_starts : (ids : List ℕ) (n p : ℕ) → column_of ids n p ≡ find_from ids p (n - 0) 0
unfolding column_of
find_starts ids n p = let z : n ≡ n - 0 = omega arith in ap (λ m. find_from ids p m 0) z

module _ (ids : List ℕ) (n p k whole : ℕ) (inv : whole ≡ find_from ids p (n - k) k) where
  pub find_ends : n ≤ k → k ≡ whole
  find_ends h = let z : n - k ≡ 0 = omega arith in sym (inv ∙ ap (λ m. find_from ids p m k) z ∙ find_none ids p k)

  module _ (l : k < n) (x y : ℕ) (e : x ≡ get_or ids (2 * k) 0) (f : y ≡ get_or ids (2 * k + 1) 0) (b : Bool) (is : b ≡ eqb (words2 x y) p) where
    step : n - k ≡ suc (n - (k + 1))
    step = omega arith

    pub find_here : b ≡ true → k ≡ whole
    find_here t =
        sym (inv ∙ ap (λ m. find_from ids p m k) step
        ∙ find_same ids p (n - (k + 1)) k (sym (id_words_lem ids k x y e f) ∙ eqb-true (words2 x y) p (sym is ∙ t)))

    pub find_next : b ≡ false → whole ≡ find_from ids p (n - (k + 1)) (k + 1)
    find_next t =
        inv ∙ ap (λ m. find_from ids p m k) step
        ∙ find_other ids p (n - (k + 1)) k (λ g. eqb-false (words2 x y) p (sym is ∙ t) (id_words_lem ids k x y e f ∙ g))

-- A column for an id

put_two : (l : List ℕ) (i x y : ℕ) → i + 1 < length l → get_or (set (set l i x) (i + 1) y) i 0 ≡ x
put_two l i x y h =
    let n : i ≡ i + 1 → ⊥ = λ e. absurd (omega arith) in
    get_or-set_other (set l i x) (i + 1) i y 0 n ∙ get_or-set_same l i x 0 (omega arith)

put_last : (l : List ℕ) (i x y : ℕ) → i + 1 < length l → get_or (set (set l i x) (i + 1) y) (i + 1) 0 ≡ y
put_last l i x y h = get_or-set_same (set l i x) (i + 1) y 0 (omega (arith, length-set l i x))

put_away : (l : List ℕ) (i x y j : ℕ) → (j ≡ i → ⊥) → (j ≡ i + 1 → ⊥) → get_or (set (set l i x) (i + 1) y) j 0 ≡ get_or l j 0
put_away l i x y j m n = get_or-set_other (set l i x) (i + 1) j y 0 n ∙ get_or-set_other l i j x 0 m

id_put : (ids : List ℕ) (c x y : ℕ) → 2 * c + 1 < length ids → Put (id_at ids) (id_at (put_id ids c x y)) c (words2 x y)
unfolding id_at put_id
id_put ids c x y h = record {
  is = ap₂ words2 (put_two ids (2 * c) x y h) (put_last ids (2 * c) x y h);
  others = λ d n. ap₂ words2
      (put_away ids (2 * c) x y (2 * d) (λ e. n (omega (arith, e))) (λ e. absurd (omega (arith, e))))
      (put_away ids (2 * c) x y (2 * d + 1) (λ e. absurd (omega (arith, e))) (λ e. n (omega (arith, e))));
}

module _ (P : ℕ → ℕ) (n m p k : ℕ) (f : Finds P n p k) (h : n ≤ m) where
  joins_old : k < n → Joins P P n m p k
  joins_old l = record {
    most = omega arith;
    is = f.is l;
    kept = record { is = λ c m. refl };
    old = λ m. l;
    new = λ e. absurd (omega arith);
  }

  joins_new : (Q : ℕ → ℕ) → n ≤ k → Put P Q m p → Joins P Q n m p m
  joins_new Q l w = record {
    most = omega arith;
    is = w.is;
    kept = record { is = λ c i. w.others c (λ e. absurd (omega arith)) };
    old = λ i. absurd (omega arith);
    new = λ e d i g. f.before d (omega (arith, f.most)) g;
  }

pub id_size : (ids : List ℕ) (c x y : ℕ) → length (put_id ids c x y) ≡ length ids
unfolding put_id
id_size ids c x y = length-set (set ids (2 * c) x) (2 * c + 1) y ∙ length-set ids (2 * c) x

module _ (ids : List ℕ) (n m x y : ℕ) where
  joined_old : column_of ids n (words2 x y) < n → join_of ids (column_of ids n (words2 x y)) m ≡ joined ids n m x y
  unfolding joined
  joined_old h = rw (lt-ltb (column_of ids n (words2 x y)) n h, joined)

  joined_new : n ≤ column_of ids n (words2 x y) → join_of (put_id ids m x y) m (m + 1) ≡ joined ids n m x y
  unfolding joined
  joined_new h = rw (le-ltb (column_of ids n (words2 x y)) n h, joined)

  -- as code joins it
  module _ (c : ℕ) (e : c ≡ column_of ids n (words2 x y)) where
    pub join_old : c < n → join_of ids c m ≡ joined ids n m x y
    join_old h = ap (λ d. join_of ids d m) e ∙ joined_old (omega arith)

    pub join_new : n ≤ c → join_of (set (set ids (2 * m) x) (2 * m + 1) y) m (m + 1) ≡ joined ids n m x y
    unfolding put_id
    join_new h = joined_new (omega arith)

  -- what it comes to where there is room
  pub record JoinFacts (j : Join) : Type 0 where
    pub joins : Joins (id_at ids) (id_at j.ids) n m (words2 x y) j.column
    pub counts : j.count ≡ max m (j.column + 1)
    pub size : length j.ids ≡ length ids

  pub joined_facts : n ≤ m → 2 * m + 2 ≤ length ids → JoinFacts (joined ids n m x y)
  joined_facts h l =
      elim (order (column_of ids n (words2 x y)) n) [
        | less e ↦
            subst JoinFacts (joined_old e)
            (record {
              joins = joins_old (id_at ids) n m (words2 x y) (column_of ids n (words2 x y)) (finds ids n (words2 x y)) h e;
              counts = omega arith;
              size = refl;
            })
        | same e ↦ new (omega arith)
        | more e ↦ new (omega arith)
      ]
    where
      new : n ≤ column_of ids n (words2 x y) → JoinFacts (joined ids n m x y)
      new e =
          subst JoinFacts (joined_new e)
          (record {
            joins = joins_new (id_at ids) n m (words2 x y) (column_of ids n (words2 x y)) (finds ids n (words2 x y)) h (id_at (put_id ids m x y)) e
                (id_put ids m x y (omega arith));
            counts = omega arith;
            size = id_size ids m x y;
          })

-- The columns of a map, key by key

-- p is the id of one of the first j keys
record OfKey (ids : List ℕ) (j p : ℕ) : Type 0 where
  key : ℕ
  below : key < j
  is : p ≡ get_or ids key 0

-- j keys have their columns
record Adding (P Q : ℕ → ℕ) (n m : ℕ) (ids : List ℕ) (j : ℕ) (keys : List ℕ) : Type 0 where
  pub more : n ≤ m
  pub most : m ≤ n + j
  pub kept : Kept P Q n
  pub unlike : Unlike P n → Unlike Q m
  pub below : (i : ℕ) → i < j → get_or keys i 0 < m
  pub is : (i : ℕ) → i < j → Q (get_or keys i 0) ≡ get_or ids i 0
  pub added : (c : ℕ) → n ≤ c → c < m → OfKey ids j (Q c)

adding_none : (P : ℕ → ℕ) (n : ℕ) (ids keys : List ℕ) → Adding P P n n ids 0 keys
adding_none P n ids keys = record {
  more = omega arith;
  most = omega arith;
  kept = record { is = λ c h. refl };
  unlike = λ u. u;
  below = λ i h. absurd (omega arith);
  is = λ i h. absurd (omega arith);
  added = λ c h l. absurd (omega arith);
}

module _ (P Q R : ℕ → ℕ) (n m : ℕ) (ids : List ℕ) (j : ℕ) (keys : List ℕ) (p c : ℕ) (a : Adding P Q n m ids j keys)
    (d : Distinct ids) (h : j < length ids) (l : j < length keys) (t : Joins Q R n m p c) (e : p ≡ get_or ids j 0) where
  -- the new column's id is unlike those before
  fresh : (x y : ℕ) → x < m → y ≡ m → y ≡ c → R x ≡ R y → ⊥
  fresh x y i f g same_id =
      let q : Q x ≡ p = sym (t.kept.is x i) ∙ same_id ∙ ap R g ∙ t.is in
      elim (order x n) [
        | less b ↦ t.new (sym g ∙ f) x b q
        | same b ↦ met x i q (omega arith)
        | more b ↦ met x i q (omega arith)
      ]
    where
      met : (x : ℕ) → x < m → Q x ≡ p → n ≤ x → ⊥
      met x i q b =
          let k = a.added x b i in
          distinct_get ids k.key j d k.below h (sym k.is ∙ q ∙ e)

  unlike_next : Unlike P n → Unlike R (max m (c + 1))
  unlike_next u = record { is = each }
    where
      each : (x y : ℕ) → x < max m (c + 1) → y < max m (c + 1) → R x ≡ R y → x ≡ y
      each x y i k f =
          elim (order x m) [
            | less b ↦ elim (order y m) [
              | less g ↦ (a.unlike u).is x y b g (sym (t.kept.is x b) ∙ f ∙ t.kept.is y g)
              | same g ↦ absurd (fresh x y b g (omega (arith, t.most)) f)
              | more g ↦ absurd (omega (arith, t.most))
            ]
            | same b ↦ elim (order y m) [
              | less g ↦ absurd (fresh y x g b (omega (arith, t.most)) (sym f))
              | same g ↦ b ∙ sym g
              | more g ↦ absurd (omega (arith, t.most))
            ]
            | more b ↦ absurd (omega (arith, t.most))
          ]

  adding_next : Adding P R n (max m (c + 1)) ids (j + 1) (set keys j c)
  adding_next = record {
    more = omega (arith, a.more);
    most = omega (arith, a.most, t.most);
    kept = record { is = λ x i. t.kept.is x (omega (arith, a.more)) ∙ a.kept.is x i };
    unlike = unlike_next;
    below = below;
    is = is;
    added = added;
  }
    where
      here : get_or (set keys j c) j 0 ≡ c
      here = get_or-set_same keys j c 0 l

      below : (i : ℕ) → i < j + 1 → get_or (set keys j c) i 0 < max m (c + 1)
      below i k =
          elim (exact? eqb eqb_exact i j) [
            | inl f ↦ omega (arith, ap (λ (x : ℕ). get_or (set keys j c) x 0) f ∙ here)
            | inr f ↦ omega (arith, get_or-set_other keys j i c 0 f, a.below i (omega (arith, f)))
          ]

      is : (i : ℕ) → i < j + 1 → R (get_or (set keys j c) i 0) ≡ get_or ids i 0
      is i k =
          elim (exact? eqb eqb_exact i j) [
            | inl f ↦
                ap R (ap (λ (x : ℕ). get_or (set keys j c) x 0) f ∙ here) ∙ t.is ∙ e ∙ ap (λ (x : ℕ). get_or ids x 0) (sym f)
            | inr f ↦
                let b : i < j = omega (arith, f) in
                ap R (get_or-set_other keys j i c 0 f) ∙ t.kept.is (get_or keys i 0) (a.below i b) ∙ a.is i b
          ]

      added : (x : ℕ) → n ≤ x → x < max m (c + 1) → OfKey ids (j + 1) (R x)
      added x i k =
          elim (order x m) [
            | less b ↦
                let f = a.added x i b in
                record { key = f.key; below = omega (arith, f.below); is = t.kept.is x b ∙ f.is }
            | same b ↦
                let f : x ≡ c = omega (arith, t.most) in
                record { key = j; below = omega arith; is = ap R f ∙ t.is ∙ e }
            | more b ↦ absurd (omega (arith, t.most))
          ]

added_all : (P Q : ℕ → ℕ) (n m : ℕ) (ids : List ℕ) (j : ℕ) (keys : List ℕ) → Adding P Q n m ids j keys → length ids ≡ j
    → j ≤ length keys → Added P Q n m ids keys
added_all P Q n m ids j keys a e l = record {
  more = a.more;
  most = omega (arith, a.most);
  kept = a.kept.is;
  unlike = a.unlike;
  columns = record { size = omega arith; below = λ i h. a.below i (omega arith); is = λ i h. a.is i (omega arith) };
}

-- one id alone
pub added_one : (P Q : ℕ → ℕ) (n p c : ℕ) → Joins P Q n n p c → Added P Q n (max n (c + 1)) (p ∷ []) (c ∷ [])
added_one P Q n p c t =
    added_all P Q n (max n (c + 1)) (p ∷ []) 1 (c ∷ [])
    (adding_next P P Q n n (p ∷ []) 0 (0 ∷ []) p c (adding_none P n (p ∷ []) (0 ∷ [])) (tt, tt) (omega arith) (omega arith) t refl)
    refl (omega arith)

-- the id of key j in the bytes
pub id_read : (s : List ℕ) (r j at x y : ℕ) → j < r → at ≡ ids_place + 16 * j → x ≡ be_at s 8 at → y ≡ be_at s 8 (at + 8)
    → words2 x y ≡ get_or (ids_at s r ids_place) j 0
id_read s r j at x y h p e f = ap₂ words2 e f ∙ sym (words2_be s at) ∙ ap (be_at s 16) p ∙ sym (id_at_lem s r j ids_place h)

-- the columns of a map, as code adds them

map_none : (s : List ℕ) (n key : ℕ) (x : ColumnList) → mapped_from s n 0 key x ≡ x
unfolding mapped_from
map_none s n key x = refl

abbrev of_key : List ℕ → ℕ → ℕ → ColumnList → Join
of_key s n key x = joined x.ids n x.count (be_at s 8 (ids_place + 16 * key)) (be_at s 8 (ids_place + 16 * key + 8))

map_more : (s : List ℕ) (n l key : ℕ) (x : ColumnList)
    → mapped_from s n (suc l) key x ≡ mapped_from s n l (key + 1) (keyed x.keys key (of_key s n key x))
unfolding mapped_from
map_more s n l key x = refl

pub map-starts : (s : List ℕ) (r : ℕ) (ids : List ℕ) (n : ℕ) (keys : List ℕ)
    → mapped s r ids n keys ≡ mapped_from s n (r - 0) 0 (columns_of ids n keys)
unfolding mapped
map-starts s r ids n keys = let z : r ≡ r - 0 = omega arith in ap (λ l. mapped_from s n l 0 (columns_of ids n keys)) z

module _ (s : List ℕ) (r n key : ℕ) (ids : List ℕ) (m : ℕ) (keys : List ℕ) (whole : ColumnList)
    (inv : whole ≡ mapped_from s n (r - key) key (columns_of ids m keys)) where
  pub map-ends : r ≤ key → columns_of ids m keys ≡ whole
  map-ends h =
      let z : r - key ≡ 0 = omega arith in
      sym (inv ∙ ap (λ l. mapped_from s n l key (columns_of ids m keys)) z ∙ map_none s n key (columns_of ids m keys))

  pub map_next : key < r → (x y : ℕ) → x ≡ be_at s 8 (ids_place + 16 * key) → y ≡ be_at s 8 (ids_place + 16 * key + 8) → (ids' : List ℕ) (c m' : ℕ)
      → join_of ids' c m' ≡ joined ids n m x y → whole ≡ mapped_from s n (r - (key + 1)) (key + 1) (columns_of ids' m' (set keys key c))
  map_next h x y e f ids' c m' j =
      let z : r - key ≡ suc (r - (key + 1)) = omega arith in
      inv ∙ ap (λ l. mapped_from s n l key (columns_of ids m keys)) z ∙ map_more s n (r - (key + 1)) key (columns_of ids m keys)
      ∙ ap (λ w. mapped_from s n (r - (key + 1)) (key + 1) (keyed keys key w)) (sym (j ∙ ap₂ (joined ids n m) e f))

-- what they come to where there is room

pub record MapFacts (s : List ℕ) (r : ℕ) (ids : List ℕ) (n : ℕ) (keys : List ℕ) (x : ColumnList) : Type 0 where
  pub added : Added (id_at ids) (id_at x.ids) n x.count (ids_at s r ids_place) x.keys
  pub size : length x.ids ≡ length ids

module _ (s : List ℕ) (r : ℕ) (ids : List ℕ) (n : ℕ) (keys : List ℕ) (d : Distinct (ids_at s r ids_place)) (most : r ≤ length keys)
    (room : 2 * (n + r) ≤ length ids) where
  map_facts : (l key : ℕ) (x : ColumnList) → key + l ≡ r → length x.ids ≡ length ids → length x.keys ≡ length keys
      → Adding (id_at ids) (id_at x.ids) n x.count (ids_at s r ids_place) key x.keys → MapFacts s r ids n keys (mapped_from s n l key x)
  map_facts zero key x e g k a =
      subst (MapFacts s r ids n keys) (sym (map_none s n key x))
      (record {
        added = added_all (id_at ids) (id_at x.ids) n x.count (ids_at s r ids_place) key x.keys a
            (omega (arith, ids-length s r ids_place)) (omega arith);
        size = g;
      })
  map_facts (suc l) key x e g k a =
      let at = ids_place + 16 * key in
      let j = joined_facts x.ids n x.count (be_at s 8 at) (be_at s 8 (at + 8)) a.more (omega (arith, a.most)) in
      let w = of_key s n key x in
      let next = adding_next (id_at ids) (id_at x.ids) (id_at w.ids) n x.count (ids_at s r ids_place) key x.keys
      (words2 (be_at s 8 at) (be_at s 8 (at + 8))) w.column a d (omega (arith, ids-length s r ids_place)) (omega arith) j.joins
      (id_read s r key at (be_at s 8 at) (be_at s 8 (at + 8)) (omega arith) refl refl refl) in
      subst (MapFacts s r ids n keys) (sym (map_more s n l key x))
      (map_facts l (key + 1) (keyed x.keys key w) (omega arith) (j.size ∙ g) (length-set x.keys key w.column ∙ k)
      (subst (λ m. Adding (id_at ids) (id_at w.ids) n m (ids_at s r ids_place) (key + 1) (set x.keys key w.column)) (sym j.counts) next))

  pub mapped_added : MapFacts s r ids n keys (mapped s r ids n keys)
  unfolding mapped
  mapped_added =
      map_facts r 0 (columns_of ids n keys) (omega arith) refl refl (adding_none (id_at ids) n (ids_at s r ids_place) keys)

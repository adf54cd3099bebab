-- Rows filled one after the other, and a column set row by row: the rows up to here are done, and the others are as they were.
-- The bounds of the rows rise, so a cursor that goes forward comes to each of them; there the elements at its vector are those
-- of the clock vector of the bound, and the row that they raise has the known ticks (`row_cell`). So all rows have them (`filled_fills`).
use Prim.Native.Nat.{ℕ, zero, suc, max, ◌+◌, ◌-◌, ◌*◌, ◌≤◌, ◌<◌}
use mathlib.Core.Path.{◌≡◌, refl, sym, ap, ◌∙◌, subst}
use mathlib.Core.Logic.{◌⊎◌, inl, inr, ⊎_elim}
use mathlib.Core.List.{List}
use native.Mathlib.Omega.{arith}
use lib.Dec.{eqb}
use lib.ListN.{length, get_or, set, length-set}
use lib.Seq.{get_or-set_same, get_or-set_other}
use Rattle.layout.specs.Knowledge.{Rules, Lawful, All}
use Rattle.layout.specs.Decode.{decode}
use Rattle.ticks.specs.Meaning.{known, vector_at}
use Rattle.ticks.proofs.Equality.{exact?, eqb_exact}
use Rattle.tables.specs.MethodWords.{stride, cell, bound_at}
use Rattle.loading.specs.Method.{Unlike, Columns, Stops, Raised, Set}
use Rattle.lookup.specs.declared.Cursor.{Cursor}
use Rattle.lookup.specs.Method.{advanced, elements_here, Open}
use Rattle.lookup.proofs.Leaf.{read_lawful, Stands, stands_start, stands_advanced, stands_elements}
use Rattle.sampling.specs.MethodCells.{raised_by, filled_from, filled, column_set_from, column_set}
use Rattle.sampling.proofs.Cells.{InRow, by_size, by_row, row_cell, row_columns}

-- what the filling of rows from accepted bytes needs: a column for each replica, and rows whose bounds rise, all there
pub record Fillable (s keys bounds : List ℕ) (from top : ℕ) (t : List ℕ) : Type 0 where
  pub size : length (decode s).replicas ≤ length keys
  pub columns : (j : ℕ) → j < length (decode s).replicas → get_or keys j 0 < stride
  pub some : from ≤ top
  pub rising : (k : ℕ) → from ≤ k → k < top → bound_at bounds k < bound_at bounds (suc k)
  pub rows : stride * (top + 1) ≤ length t

-- the rows are raised, whatever ids the columns have
pub record Fills (s keys bounds : List ℕ) (from top : ℕ) (t u : List ℕ) : Type 0 where
  pub size : length u ≡ length t
  pub is : (P : ℕ → ℕ) (n : ℕ) → Columns P n (decode s).replicas keys → Unlike P n → n ≤ stride
      → Raised P (bound_at bounds) from top n (decode s) (cell t) (cell u)

-- A cursor that goes forward

-- a cursor of accepted bytes that is not past item i
record Comes (s : List ℕ) (r : ℕ) (c : Cursor) (i : ℕ) : Type 0 where
  rules : Rules
  n : ℕ
  stands : Stands rules s r c n
  before : n ≤ suc i

comes_start : (s : List ℕ) (r : ℕ) (c : Cursor) (i : ℕ) → Open s r c → Comes s r c i
comes_start s r c i o = record {
  rules = o.rules;
  n = 0;
  stands = stands_start o.rules s r c o.opens;
  before = omega arith;
}

module _ (s : List ℕ) (r : ℕ) (c d : Cursor) (i : ℕ) (h : Comes s r c i) (e : d ≡ advanced s r c i) where
  comes_lawful : Lawful h.rules (decode s)
  comes_lawful = read_lawful h.rules s r h.stands.v h.stands.e h.stands.g h.stands.reading

  stands_there : Stands h.rules s r d (suc i)
  stands_there =
      subst (λ x. Stands h.rules s r x (suc i)) (sym e) (stands_advanced h.rules s r c h.n h.stands i h.before)

  comes_elements : elements_here s d.vector ≡ vector_at (decode s) i
  comes_elements = stands_elements h.rules s r d i stands_there

  comes_on : (j : ℕ) → i ≤ j → Comes s r d j
  comes_on j l = record { rules = h.rules; n = suc i; stands = stands_there; before = omega arith }

-- Rows

-- columns and stops, with room for them, are what the filling needs
pub fillable : (s cols bounds : List ℕ) (from top first last : ℕ) (xs ys t : List ℕ) (P : ℕ → ℕ) (n : ℕ)
    → Columns P n (decode s).replicas cols → n ≤ stride → Stops (bound_at bounds) from top first last xs ys
    → stride * (top + 1) ≤ length t → Fillable s cols bounds from top t
fillable s cols bounds from top first last xs ys t P n a m h r = record {
  size = a.size;
  columns = λ j l. omega (arith, a.below j l);
  some = h.some;
  rising = h.rising;
  rows = r;
}

-- the rows from `from` up to k are raised
record Part (s cols bounds : List ℕ) (from k : ℕ) (t u : List ℕ) : Type 0 where
  size : length u ≡ length t
  is : (P : ℕ → ℕ) (n : ℕ) → Columns P n (decode s).replicas cols → Unlike P n → n ≤ stride
      → (j c : ℕ) → from ≤ j → j < k → c < n → cell u j c ≡ max (cell t j c) (known (decode s) (bound_at bounds j) (P c))
  others : (j c : ℕ) → (j < from) ⊎ (k ≤ j) → c < stride → cell u j c ≡ cell t j c

part_none : (s cols bounds : List ℕ) (from : ℕ) (t : List ℕ) → Part s cols bounds from from t t
part_none s cols bounds from t = record {
  size = refl;
  is = λ P n a b m j c h l k. absurd (omega arith);
  others = λ j c h l. refl;
}

module _ (s : List ℕ) (r : ℕ) (cols bounds : List ℕ) (from top k : ℕ) (t u : List ℕ) (c d : Cursor)
    (f : Fillable s cols bounds from top t) (part : Part s cols bounds from k t u) (comes : Comes s r c (bound_at bounds k))
    (l : from ≤ k) (m : k ≤ top) (e : d ≡ advanced s r c (bound_at bounds k)) where
  lawful : Lawful comes.rules (decode s)
  lawful = comes_lawful s r c d (bound_at bounds k) comes e

  there : elements_here s d.vector ≡ vector_at (decode s) (bound_at bounds k)
  there = comes_elements s r c d (bound_at bounds k) comes e

  row_room : All (InRow cols) (elements_here s d.vector)
  row_room = rw there (row_columns comes.rules (decode s) lawful (bound_at bounds k) cols f.size f.columns)

  row_done : (w : List ℕ) → w ≡ raised_by cols (elements_here s d.vector) u k → Part s cols bounds from (k + 1) t w
  row_done w g = record {
    size = ap length g ∙ by_size cols (elements_here s d.vector) u k ∙ part.size;
    is = λ P n a b q j x h o y.
        elim (exact? eqb eqb_exact j k) [
          | inl z ↦
              rw z
              (ap (λ (v : List ℕ). cell v k x) (g ∙ ap (λ es. raised_by cols es u k) there)
              ∙ row_cell comes.rules (decode s) lawful (bound_at bounds k) P n cols a b q u k x (omega (arith, f.rows, part.size)) y
              ∙ ap (λ v. max v (known (decode s) (bound_at bounds k) (P x))) (part.others k x (inr (omega arith)) (omega arith)))
          | inr z ↦ elsewhere j x z (omega arith) ∙ part.is P n a b q j x h (omega (arith, z)) y
        ];
    others = λ j x h o.
        elsewhere j x (λ z. ⊎_elim (λ y. omega arith) (λ y. omega arith) h) o
        ∙ part.others j x (⊎_elim (λ y. inl y) (λ y. inr (omega arith)) h) o;
  }
    where
      elsewhere : (j x : ℕ) → (j ≡ k → ⊥) → x < stride → cell w j x ≡ cell u j x
      elsewhere j x n o =
          ap (λ (v : List ℕ). cell v j x) g ∙ by_row cols (elements_here s d.vector) u k j x row_room n o

  row_next : k < top → Comes s r d (bound_at bounds (k + 1))
  row_next o =
      let z : suc k ≡ k + 1 = omega arith in
      comes_on s r c d (bound_at bounds k) comes e (bound_at bounds (k + 1))
      (omega (arith, f.rising k l o, ap (bound_at bounds) z))

-- all of them
part_all : (s cols bounds : List ℕ) (from top k : ℕ) (t u : List ℕ) → Part s cols bounds from (k + 1) t u → k ≡ top
    → Fills s cols bounds from top t u
part_all s cols bounds from top k t u h e = record {
  size = h.size;
  is = λ P n a b m. record {
    is = λ j c l o q. h.is P n a b m j c l (omega arith) q;
    others = λ j c w l. h.others j c (⊎_elim (λ y. inl y) (λ y. inr (omega arith)) w) l;
  };
}

-- as code fills them

module _ (s : List ℕ) (r : ℕ) (keys bounds : List ℕ) where
  fill_none : (c : Cursor) (k : ℕ) (t : List ℕ) → filled_from s r keys bounds 0 c k t ≡ t
  unfolding filled_from
  fill_none c k t = refl

  fill_more : (n : ℕ) (c : Cursor) (k : ℕ) (t : List ℕ) (d : Cursor) → d ≡ advanced s r c (bound_at bounds k)
      → filled_from s r keys bounds (suc n) c k t ≡ filled_from s r keys bounds n d (k + 1) (raised_by keys (elements_here s d.vector) t k)
  unfolding filled_from
  fill_more n c k t d e = rw e refl

  -- the loop: the whole is what is left
  pub fill_starts : (c : Cursor) (from top : ℕ) (t : List ℕ)
      → filled s r c keys bounds from top t ≡ filled_from s r keys bounds (suc top - from) c from t
  unfolding filled
  fill_starts c from top t = refl

  module _ (top k : ℕ) (c : Cursor) (t whole : List ℕ) (inv : whole ≡ filled_from s r keys bounds (suc top - k) c k t) where
    pub fill_ends : top < k → t ≡ whole
    fill_ends h =
        let z : suc top - k ≡ 0 = omega arith in
        sym (inv ∙ ap (λ n. filled_from s r keys bounds n c k t) z ∙ fill_none c k t)

    pub fill_next : k ≤ top → (d : Cursor) → d ≡ advanced s r c (bound_at bounds k) → (u : List ℕ)
        → u ≡ raised_by keys (elements_here s d.vector) t k → whole ≡ filled_from s r keys bounds (suc top - (k + 1)) d (k + 1) u
    fill_next h d e u f =
        let z : suc top - k ≡ suc (suc top - (k + 1)) = omega arith in
        inv ∙ ap (λ n. filled_from s r keys bounds n c k t) z ∙ fill_more (suc top - (k + 1)) c k t d e
        ∙ ap (filled_from s r keys bounds (suc top - (k + 1)) d (k + 1)) (sym f)

  -- the cells after it
  module _ (from top : ℕ) (t : List ℕ) (f : Fillable s keys bounds from top t) where
    fill_parts : (n k : ℕ) (c : Cursor) (u : List ℕ) → from ≤ k → k + suc n ≡ suc top → Part s keys bounds from k t u → Comes s r c (bound_at bounds k)
        → Fills s keys bounds from top t (filled_from s r keys bounds (suc n) c k u)
    fill_parts zero k c u l e p h =
        let d = advanced s r c (bound_at bounds k) in
        let w = raised_by keys (elements_here s d.vector) u k in
        subst (Fills s keys bounds from top t) (sym (fill_more 0 c k u d refl ∙ fill_none d (k + 1) w))
        (part_all s keys bounds from top k t w (row_done s r keys bounds from top k t u c d f p h l (omega arith) refl w refl) (omega arith))
    fill_parts (suc n) k c u l e p h =
        let d = advanced s r c (bound_at bounds k) in
        let w = raised_by keys (elements_here s d.vector) u k in
        subst (Fills s keys bounds from top t) (sym (fill_more (suc n) c k u d refl))
        (fill_parts n (k + 1) d w (omega arith) (omega arith)
        (row_done s r keys bounds from top k t u c d f p h l (omega arith) refl w refl)
        (row_next s r keys bounds from top k t u c d f p h l (omega arith) refl (omega arith)))

    pub filled_fills : (c : Cursor) → Open s r c → Fills s keys bounds from top t (filled s r c keys bounds from top t)
    filled_fills c o =
        let z : suc top - from ≡ suc (top - from) = omega (arith, f.some) in
        subst (Fills s keys bounds from top t)
        (sym (fill_starts c from top t ∙ ap (λ n. filled_from s r keys bounds n c from t) z))
        (fill_parts (top - from) from c t (omega arith) (omega (arith, f.some)) (part_none s keys bounds from t)
        (comes_start s r c (bound_at bounds from) o))

  filled_size : (n : ℕ) (c : Cursor) (k : ℕ) (t : List ℕ) → length (filled_from s r keys bounds n c k t) ≡ length t
  filled_size zero c k t = ap length (fill_none c k t)
  filled_size (suc n) c k t =
      let d = advanced s r c (bound_at bounds k) in
      let w = raised_by keys (elements_here s d.vector) t k in
      ap length (fill_more n c k t d refl) ∙ filled_size n d (k + 1) w ∙ by_size keys (elements_here s d.vector) t k

  pub filled-length : (c : Cursor) (from top : ℕ) (t : List ℕ) → length (filled s r c keys bounds from top t) ≡ length t
  filled-length c from top t = ap length (fill_starts c from top t) ∙ filled_size (suc top - from) c from t

-- A column

-- column c is x in the rows from `from` up to k
record Up (from k c x : ℕ) (t u : List ℕ) : Type 0 where
  size : length u ≡ length t
  is : (j : ℕ) → from ≤ j → j < k → cell u j c ≡ x
  others : (j d : ℕ) → (d ≡ c → ⊥) ⊎ ((j < from) ⊎ (k ≤ j)) → d < stride → cell u j d ≡ cell t j d

up_none : (from c x : ℕ) (t : List ℕ) → Up from from c x t t
up_none from c x t = record { size = refl; is = λ j h l. absurd (omega arith); others = λ j d n l. refl }

-- one row more
up_row : (from k c x : ℕ) (t u : List ℕ) → Up from k c x t u → from ≤ k → c < stride → stride * (k + 1) ≤ length t
    → Up from (k + 1) c x t (set u (stride * k + c) x)
unfolding cell
up_row from k c x t u h l m room = record {
  size = length-set u (stride * k + c) x ∙ h.size;
  is = λ j a b.
      elim (exact? eqb eqb_exact j k) [
        | inl e ↦
            ap (λ (i : ℕ). get_or (set u (stride * k + c) x) (stride * i + c) 0) e
            ∙ get_or-set_same u (stride * k + c) x 0 (omega (arith, h.size))
        | inr n ↦
            get_or-set_other u (stride * k + c) (stride * j + c) x 0 (λ e. n (omega arith)) ∙ h.is j a (omega (arith, n))
      ];
  others = λ j d w n.
      get_or-set_other u (stride * k + c) (stride * j + d) x 0 (λ e. apart j d w n (omega arith) (omega arith))
      ∙ h.others j d (earlier j d w) n;
}
  where
    apart : (j d : ℕ) → (d ≡ c → ⊥) ⊎ ((j < from) ⊎ (k + 1 ≤ j)) → d < stride → d ≡ c → j ≡ k → ⊥
    apart j d w n e f = ⊎_elim (λ g. g e) (λ g. ⊎_elim (λ a. omega arith) (λ a. omega arith) g) w

    earlier : (j d : ℕ) → (d ≡ c → ⊥) ⊎ ((j < from) ⊎ (k + 1 ≤ j)) → (d ≡ c → ⊥) ⊎ ((j < from) ⊎ (k ≤ j))
    earlier j d w = ⊎_elim (λ g. inl g) (λ g. ⊎_elim (λ a. inr (inl a)) (λ a. inr (inr (omega arith))) g) w

-- all of them
up_all : (from top k c x : ℕ) (t u : List ℕ) → Up from (k + 1) c x t u → k ≡ top → Set from top c x (cell t) (cell u)
up_all from top k c x t u h e = record {
  is = λ j a b. h.is j a (omega arith);
  others = λ j d w n. h.others j d (⊎_elim (λ g. inl g) (λ g. ⊎_elim (λ a. inr (inl a)) (λ a. inr (inr (omega arith))) g) w) n;
}

-- as code sets it

module _ (c x : ℕ) where
  set_none : (k : ℕ) (t : List ℕ) → column_set_from c x 0 k t ≡ t
  unfolding column_set_from
  set_none k t = refl

  set_more : (n k : ℕ) (t : List ℕ) → column_set_from c x (suc n) k t ≡ column_set_from c x n (k + 1) (set t (stride * k + c) x)
  unfolding column_set_from
  set_more n k t = refl

  pub set-starts : (from top : ℕ) (t : List ℕ) → column_set c x from top t ≡ column_set_from c x (suc top - from) from t
  unfolding column_set
  set-starts from top t = refl

  module _ (top k : ℕ) (t whole : List ℕ) (inv : whole ≡ column_set_from c x (suc top - k) k t) where
    pub set-ends : top < k → t ≡ whole
    set-ends h =
        let z : suc top - k ≡ 0 = omega arith in
        sym (inv ∙ ap (λ n. column_set_from c x n k t) z ∙ set_none k t)

    pub set_next : k ≤ top → whole ≡ column_set_from c x (suc top - (k + 1)) (k + 1) (set t (stride * k + c) x)
    set_next h =
        let z : suc top - k ≡ suc (suc top - (k + 1)) = omega arith in
        inv ∙ ap (λ n. column_set_from c x n k t) z ∙ set_more (suc top - (k + 1)) k t

  module _ (from top : ℕ) (t : List ℕ) (l : c < stride) (room : stride * (top + 1) ≤ length t) where
    set_ups : (n k : ℕ) (u : List ℕ) → from ≤ k → k + suc n ≡ suc top → Up from k c x t u
        → Set from top c x (cell t) (cell (column_set_from c x (suc n) k u))
    set_ups zero k u h e p =
        let w = set u (stride * k + c) x in
        subst (λ v. Set from top c x (cell t) (cell v)) (sym (set_more 0 k u ∙ set_none (k + 1) w))
        (up_all from top k c x t w (up_row from k c x t u p h l (omega arith)) (omega arith))
    set_ups (suc n) k u h e p =
        subst (λ v. Set from top c x (cell t) (cell v)) (sym (set_more (suc n) k u))
        (set_ups n (k + 1) (set u (stride * k + c) x) (omega arith) (omega arith) (up_row from k c x t u p h l (omega arith)))

    pub column-set : from ≤ top → Set from top c x (cell t) (cell (column_set c x from top t))
    column-set h =
        let z : suc top - from ≡ suc (top - from) = omega arith in
        subst (λ v. Set from top c x (cell t) (cell v))
        (sym (set-starts from top t ∙ ap (λ n. column_set_from c x n from t) z))
        (set_ups (top - from) from t (omega arith) (omega arith) (up_none from c x t))

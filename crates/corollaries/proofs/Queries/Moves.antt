-- One record of a new item, with the same compared knowledge, moves the figure of coverage by at most 1000 / (n + 1), rounded up, for n
-- records before. Why: c of n records and c + x of n + 1, with x 0 or 1 and c at most n, are fractions that differ by
-- |c − n · x| / (n · (n + 1)), so by at most 1 / (n + 1). Rounding never turns the order round and keeps whole steps, so the rounded
-- figures differ by at most the step of the thousandths, rounded up. Over whole numbers: n · 2t ≤ 2000 · c + n < n · (2t + 2) holds of
-- the figure t before, and likewise after; the bound, taken n + 1 times, is at least 1000; and no figure is above 1000. With no records
-- before, the figure is 1000 and the bound too. Of the tables: where they rise by item, a record of a new item has one place, so the
-- table after is the one before with the record put in; the count contained grows by 0 or 1, and the count of records by 1.
use Prim.Native.Nat.{ℕ, zero, suc, ◌+◌, ◌*◌, ◌/◌, ◌≤◌, ◌<◌}
use mathlib.Core.Path.{◌≡◌, refl, sym, ap, ap₂, ◌∙◌, subst}
use mathlib.Core.Logic.{inl, inr, ⊎_elim, ◌↔◌}
use mathlib.Core.Bool.{Bool, true, false}
use mathlib.Core.List.{List, [], ◌∷◌}
use mathlib.Core.Option.{Option, none, some}
use native.Mathlib.Omega.{arith}
use native.Mathlib.Nat.{div-mul-le_self, lt-div-mul-add, mul-le-mul_right}
use lib.ListN.{length}
use Rattle.codec.specs.Number.{Bytes, be_at}
use Rattle.codec.specs.Parsed.{accepted}
use Rattle.codec.specs.Reply.{gives}
use Rattle.layout.specs.Knowledge.{Limits, Rules, Knowledge, Rising, basic}
use Rattle.layout.specs.Permitted.{Permitted}
use Rattle.layout.specs.Parse.{parse}
use Rattle.layout.proofs.Exact.{base_permitted}
use Rattle.ticks.specs.Meaning.{contains}
use Rattle.ticks.proofs.Lists.{less, same, more, order}
use Rattle.replication.specs.Record.{Content, Rec}
use Rattle.replication.specs.Call.{Brought, BytesBrought}
use Rattle.replication.specs.Formats.{find, items, Store, encode_store}
use Rattle.replication.specs.Valid.{LawfulStore}
use Rattle.replication.specs.BatchFormat.{Batch}
use Rattle.replication.specs.Operate.{replace}
use Rattle.replication.specs.Machine.{later}
use Rattle.replication.specs.OpenStore.{open_store}
use Rattle.replication.specs.OpenBatch.{open_batch}
use Rattle.replication.specs.Calls.{edit_reply, apply_reply}
use Rattle.replication.specs.Queries.{count_in, thousandths, coverage_thousandths, coverage_answer}
use Rattle.corollaries.specs.Jump.{jump, MovesAtMost, Adds, OneNew, figure, FigureMoves, CoverageMoves}
use Rattle.replication.proofs.Tables.Rising.{find_here, find_there, not_found, tables_equal}
use Rattle.replication.proofs.Tables.Rising.{replace-nil, replace_after, replace_before, replace-length-new, replace_rising}
use Rattle.replication.proofs.Tables.Rising.{find_replace_same, find_replace_other}
use Rattle.replication.proofs.Agree.Arguments.{same?}
use Rattle.replication.proofs.Bytes.Store.{store_bytes_lem}
use Rattle.replication.proofs.Contents.Valid.{store_exact}
use Rattle.replication.proofs.Contents.Edit.{Changes, edit_writes}
use Rattle.replication.proofs.Contents.Apply.{Greater, NotLess, Applies, apply_writes}
use Rattle.replication.proofs.Machine.Best.{AtMost, later_false}
use Rattle.replication.proofs.Machine.Greatest.{wins_later}
use Rattle.replication.proofs.Queries.Winner.{wins_no}
use Rattle.replication.proofs.Queries.Coverage.{counted, count-nil, count_in_lem, count_out, coverage_found}
use Rattle.replication.proofs.Queries.Coverage.{thousandths_none, thousandths_low, thousandths_high}
use Rattle.replication.proofs.Queries.Nearest.{figure_rises, distance, thousandths_most, counts_most}

-- ---- the bound

-- the bound times n + 1 is at least 1000
jump_enough : (n : ℕ) → 1000 ≤ jump n * suc n
unfolding jump
jump_enough n = omega (arith, lt-div-mul-add {a = 1000 + n} {b = suc n} (omega arith))

-- and no smaller number is such: it is 1000 / (n + 1), rounded up
jump_least : (n q : ℕ) → 1000 ≤ q * suc n → jump n ≤ q
unfolding jump
jump_least n q h =
    elim (order q ((1000 + n) / suc n)) [
      | less l ↦ absurd (omega (arith, h, mul-le-mul_right (suc n) l, div-mul-le_self (1000 + n) (suc n)))
      | same l ↦ omega arith
      | more l ↦ omega arith
    ]

pub jump_exact : (n q : ℕ) → (1000 ≤ q * suc n) ↔ (jump n ≤ q)
jump_exact n q = (
  jump_least n q,
  (λ h. omega (arith, mul-le-mul_right (suc n) h, jump_enough n)),
)

-- a figure moves by at most d exactly where the two are no further apart
pub moves_distance : (d a b : ℕ) → MovesAtMost d a b ↔ (distance a b ≤ d)
unfolding distance
moves_distance d a b = (
  (λ h. omega (arith, h.down, h.up)),
  (λ h. record { down = omega (arith, h); up = omega (arith, h) }),
)

-- ---- the figures

-- c of n records before, one or more, and c + x of n + 1 after: a bound q for the step of the thousandths is one for the figures
module _ (c n x q : ℕ) (h : 0 < n) (most : c ≤ n) (one : x ≤ 1) (enough : 1000 ≤ q * suc n) where
  figure_up : thousandths (c + x) (suc n) ≤ thousandths c n + q
  figure_up =
      let m = 2000 * (c + x) + suc n in
      figure_rises (suc n) m m (thousandths (c + x) (suc n)) (thousandths c n + q) (thousandths_low (c + x) (suc n) (omega arith))
      (omega arith) (omega (arith, one, enough, thousandths_high c n h))

  -- up to 999 by the bounds, and no figure is above 1000
  figure_down : thousandths c n ≤ thousandths (c + x) (suc n) + q
  figure_down =
      let m = 2000 * c + n in
      let u = thousandths (c + x) (suc n) in
      elim (order (u + q) 1000) [
        | less l ↦
            figure_rises n m m (thousandths c n) (u + q) (thousandths_low c n h) (omega arith)
            (omega (arith, l, enough, thousandths_high (c + x) (suc n) (omega arith)))
        | same l ↦ omega (arith, l, thousandths_most c n most)
        | more l ↦ omega (arith, l, thousandths_most c n most)
      ]

-- without a record it is 1000, which is the bound too
jump_none : jump 0 ≡ 1000
unfolding jump
jump_none = refl

pub thousandths_moves : (c n x : ℕ) → c ≤ n → x ≤ 1 → MovesAtMost (jump n) (thousandths c n) (thousandths (c + x) (suc n))
thousandths_moves c zero x most one =
    record {
      down = omega (arith, thousandths_none c 0 refl, jump_none);
      up = omega (arith, most, one, thousandths_most (c + x) 1 (omega (arith, most, one)), thousandths_none c 0 refl);
    }
thousandths_moves c (suc m) x most one =
    record {
      down = figure_down c (suc m) x (jump (suc m)) (omega arith) most one (jump_enough (suc m));
      up = figure_up c (suc m) x (jump (suc m)) (omega arith) most one (jump_enough (suc m));
    }

-- ---- the tables

-- what a record adds to a count is the count of that record alone
count_front : (k : Knowledge) (r : Rec) (rs : List Rec) → count_in k (r ∷ rs) ≡ count_in k rs + count_in k (r ∷ [])
count_front k r rs = go (contains k r.item r.change_replica r.change_tick) refl
  where
    go : (t : Bool) → contains k r.item r.change_replica r.change_tick ≡ t
        → count_in k (r ∷ rs) ≡ count_in k rs + count_in k (r ∷ [])
    go true e = omega (arith, count-nil k, count_in_lem k r rs e, count_in_lem k r [] e)
    go false e = omega (arith, count-nil k, count_out k r rs e, count_out k r [] e)

-- a record of a new item put in its place is counted or not, beside what was
put_in : (k : Knowledge) (r : Rec) (xs : List Rec) → find r.item xs ≡ none → count_in k (replace r xs) ≡ count_in k xs + count_in k (r ∷ [])
put_in k r [] new = rw (replace-nil r) (omega (arith, count-nil k))
put_in k r (x ∷ xs) new =
    elim (order x.item r.item) [
      | less l ↦
          let later : find r.item xs ≡ none = sym (find_there r.item x xs (omega arith)) ∙ new in
          rw (replace_after r x xs l) (omega (arith, put_in k r xs later, count_front k x xs, count_front k x (replace r xs)))
      | same l ↦ not_found x (sym new ∙ find_here r.item x xs l)
      | more l ↦ rw (replace_before r x xs l) (count_front k r (x ∷ xs))
    ]

-- of two rising tables, that the record is added says just this: it is of a new item, and in its place the first becomes the second
module _ (r : Rec) (before after : List Rec) (rising : Rising 0 (items before)) (later : Rising 0 (items after)) where
  added_is : Adds r before after → after ≡ replace r before
  added_is a = tables_equal 0 after (replace r before) later (replace_rising r 0 before (omega arith) rising) found
    where
      found : (i : ℕ) → find i after ≡ find i (replace r before)
      found i =
          ⊎_elim
          (λ (e : i ≡ r.item). rw e (a.there ∙ sym (find_replace_same r 0 before rising)))
          (λ (n : i ≡ r.item → ⊥). a.others i n ∙ sym (find_replace_other r i 0 before rising n))
          (same? i r.item)

  pub adds_exact : Adds r before after ↔ ((find r.item before ≡ none) × (after ≡ replace r before))
  adds_exact = (
    (λ a. (a.new, added_is a)),
    (λ h. record {
      new = h.0;
      there = rw h.1 (find_replace_same r 0 before rising);
      others = λ i n. rw h.1 (find_replace_other r i 0 before rising n);
    }),
  )

-- ---- the call

-- the figure, from the counts; so the value before the call makes no difference
figure_is : (R : Rules) (s t : List ℕ) (st : Store) (k : Knowledge) → open_store R.limits s ≡ accepted st → parse R t ≡ accepted k
    → (old : ℕ) → coverage_thousandths (coverage_answer R s t) old ≡ thousandths (count_in k st.records) (length st.records)
unfolding coverage_thousandths
figure_is R s t st k o p old =
    ap (λ a. coverage_thousandths a old)
    (coverage_found R s t st k o p (count_in k st.records) (length st.records) refl refl)

-- ---- the calls that bring it

edit_adds : (L : Limits) (st : Store) (content : Content) (item : ℕ) (bs : List ℕ) (w : Changes L st content item bs)
    → find item st.records ≡ none → Adds w.new st.records w.store.records
edit_adds L st content item bs w absent =
    let i : w.new.item ≡ item = w.new_is_lem.item in
    record {
      new = ap (λ (j : ℕ). find j st.records) i ∙ absent;
      there = ap (λ (j : ℕ). find j w.store.records) i ∙ w.new_found;
      others = λ j n. w.other_records j (λ e. n (e ∙ sym i));
    }

-- a record of no greater version does not win
not_less : (x y : Rec) → AtMost y x → NotLess x y
not_less x y m =
    elim (order y.change_tick x.change_tick) [
      | less h ↦ inl h
      | same h ↦ inr (sym h, m.rep h)
      | more h ↦ absurd (omega (arith, h, m.tick))
    ]

-- of an apply that writes: that the batch brings one new record says just that the table after has it more and no other change
module _ (L : Limits) (st : Store) (b : Batch) (bs : List ℕ) (w : Applies L st b bs) (r : Rec) where
  apply_adds : OneNew r st.records b.records → Adds r st.records w.store.records
  apply_adds o =
      record {
        new = o.absent;
        there = w.batch_only r.item r o.absent o.carried;
        others = λ i n. other i n (find i b.records) refl (find i st.records) refl;
      }
    where
      other : (i : ℕ) → (i ≡ r.item → ⊥) → (y : Option Rec) → find i b.records ≡ y
          → (x : Option Rec) → find i st.records ≡ x → find i w.store.records ≡ find i st.records
      other i n none f none e = w.neither i e f ∙ sym e
      other i n none f (some x) e = w.store_only i x e f ∙ sym e
      other i n (some y) f x e =
          let z = o.stay i y n f in
          w.store_wins i z.0 y z.1.0 f (not_less z.0 y (later_false z.0 y z.1.1)) ∙ sym z.1.0

  adds_applied : Adds r st.records w.store.records → OneNew r st.records b.records
  adds_applied a =
      record {
        absent = gone;
        carried = brought (find r.item b.records) refl;
        stay = λ i y n f. stays i y (find i st.records) refl f (a.others i n);
      }
    where
      gone : find r.item st.records ≡ none
      gone = a.new

      brought : (y : Option Rec) → find r.item b.records ≡ y → find r.item b.records ≡ some r
      brought none f = not_found r (sym (w.neither r.item gone f) ∙ a.there)
      brought (some y) f = f ∙ (sym (w.batch_only r.item y gone f) ∙ a.there)

      -- where the batch's record wins, it is there afterwards in place of the store's
      loses : (i : ℕ) (x y : Rec) → find i st.records ≡ some x → find i b.records ≡ some y
          → find i w.store.records ≡ some x → Greater x y → ⊥
      loses i x y e f kept g =
          let z : some y ≡ some x = sym (w.batch_wins i x y e f g) ∙ kept in
          let d : y ≡ x = cc in
          let t : y.change_tick ≡ x.change_tick = ap (λ (v : Rec). v.change_tick) d in
          let p : y.change_replica ≡ x.change_replica = ap (λ (v : Rec). v.change_replica) d in
          ⊎_elim
          (λ (h : x.change_tick < y.change_tick). omega (arith, t, h))
          (λ (h : (x.change_tick ≡ y.change_tick) × (x.change_replica < y.change_replica)). omega (arith, p, h.1)) g

      stays : (i : ℕ) (y : Rec) (x : Option Rec) → find i st.records ≡ x → find i b.records ≡ some y
          → find i w.store.records ≡ find i st.records → (x : Rec) × ((find i st.records ≡ some x) × (later x y ≡ false))
      stays i y none e f kept = not_found y (sym (kept ∙ e) ∙ w.batch_only i y e f)
      stays i y (some x) e f kept = (x, (e, sym (wins_later x y) ∙ wins_no x y (loses i x y e f (kept ∙ e))))

  pub one_new_exact : OneNew r st.records b.records ↔ Adds r st.records w.store.records
  one_new_exact = (apply_adds, adds_applied)

-- ---- the statement

module _ (R : Rules) (permitted : Permitted R.limits) where
  added_moves : (s u t : List ℕ) (before after : Store) (k : Knowledge) (r : Rec) → Bytes s → Bytes u
      → open_store R.limits s ≡ accepted before → open_store R.limits u ≡ accepted after → parse R t ≡ accepted k
      → Adds r before.records after.records → FigureMoves R (length before.records) s u t
  added_moves s u t before after k r bytes_s bytes_u o v p a =
      let rising = ((store_exact R.limits s before permitted bytes_s).0 o).1.rising in
      let later = ((store_exact R.limits u after permitted bytes_u).0 v).1.rising in
      let c = count_in k before.records in
      let n = length before.records in
      let x = count_in k (r ∷ []) in
      let absent = a.new in
      let e = added_is r before.records after.records rising later a in
      let is : thousandths (count_in k after.records) (length after.records) ≡ thousandths (c + x) (suc n) =
      ap₂ thousandths (ap (count_in k) e ∙ put_in k r before.records absent)
      (ap length e ∙ replace-length-new r before.records absent) in
      let m = thousandths_moves c n x (counts_most (counted k before.records)) (counts_most (counted k (r ∷ []))) in
      rw (figure_is R s t before k o p 0, figure_is R u t after k v p 0, is) m

  -- the bytes that an edit or an apply writes are those of a valid store, so they open as it
  written_moves : (s u t : List ℕ) (before after : Store) (k : Knowledge) (r : Rec) → Bytes s → u ≡ encode_store after
      → LawfulStore R.limits after → open_store R.limits s ≡ accepted before → parse R t ≡ accepted k
      → Adds r before.records after.records → FigureMoves R (length before.records) s u t
  written_moves s u t before after k r bytes is valid o p a =
      let written : Bytes u = subst Bytes (sym is) (store_bytes_lem after) in
      added_moves s u t before after k r bytes written o ((store_exact R.limits u after permitted written).1 (is, valid)) p a

  pub coverage_moves : CoverageMoves R
  coverage_moves =
      record {
        added = added_moves;
        edited = λ s item b u t before k bytes bytes_i bytes_b o absent g p.
            let w = edit_writes R.limits s item b u before permitted bytes bytes_i bytes_b o g in
            written_moves s u t before w.store k w.new bytes w.bytes w.valid o p (edit_adds R.limits before _ _ u w absent);
        applied = λ s batch u t before b k r bytes bytes_b o q one g p.
            let w = apply_writes R.limits s batch u before b permitted bytes bytes_b o q g in
            written_moves s u t before w.store k r bytes w.bytes w.valid o p (apply_adds R.limits before b u w r one);
      }

-- under document 01's limits
pub coverage_moves_basic : CoverageMoves basic
coverage_moves_basic = coverage_moves basic base_permitted

-- ---- what the statement says of two calls of coverage

-- a call gives the figure, whatever value was there before it
pub figure_told : (R : Rules) (s t : List ℕ) (st : Store) (k : Knowledge) → open_store R.limits s ≡ accepted st → parse R t ≡ accepted k
    → (old : ℕ) → coverage_thousandths (coverage_answer R s t) old ≡ figure R s t
figure_told R s t st k o p old = figure_is R s t st k o p old ∙ sym (figure_is R s t st k o p 0)

module _ (R : Rules) (m : CoverageMoves R) (s u t : List ℕ) (before : Store) (k : Knowledge) (bytes : Bytes s)
    (o : open_store R.limits s ≡ accepted before) (p : parse R t ≡ accepted k) where
  -- the two figures are no further apart than the bound
  abbrev Near : Type 0
  Near = distance (figure R s t) (figure R u t) ≤ jump (length before.records)

  pub added_distance : (after : Store) (r : Rec) → Bytes u → open_store R.limits u ≡ accepted after
      → Adds r before.records after.records → Near
  added_distance after r bytes_u v a = (moves_distance _ _ _).0 (m.added s u t before after k r bytes bytes_u o v p a)

  pub edited_distance : (item : List ℕ) (b : Brought) → Bytes item → BytesBrought b → find (be_at item 24 0) before.records ≡ none
      → edit_reply R.limits s item b ≡ gives u → Near
  edited_distance item b bytes_i bytes_b absent g =
      (moves_distance _ _ _).0 (m.edited s item b u t before k bytes bytes_i bytes_b o absent g p)

  pub applied_distance : (batch : List ℕ) (b : Batch) (r : Rec) → Bytes batch → open_batch R.limits batch ≡ accepted b
      → OneNew r before.records b.records → apply_reply R.limits s batch ≡ gives u → Near
  applied_distance batch b r bytes_b q one g =
      (moves_distance _ _ _).0 (m.applied s batch u t before b k r bytes bytes_b o q one g p)

-- ---- computed: the bound for a few counts, and counts with which it is met
pub jumps : (jump 0 ≡ 1000) × ((jump 1 ≡ 500) × ((jump 2 ≡ 334) × ((jump 3 ≡ 250) × ((jump 19 ≡ 50) × (jump 255 ≡ 4)))))
unfolding jump
jumps = (refl, (refl, (refl, (refl, (refl, refl)))))

pub met : (distance (thousandths 0 0) (thousandths 0 1) ≡ jump 0)
    × ((distance (thousandths 1 1) (thousandths 1 2) ≡ jump 1)
    × ((distance (thousandths 3 3) (thousandths 3 4) ≡ jump 3) × (distance (thousandths 4 4) (thousandths 4 5) ≡ jump 4)))
unfolding jump thousandths distance
met = (refl, (refl, (refl, refl)))

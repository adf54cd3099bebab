-- The ids and bounds of a table that is filled are words of 64 bits: what is put into them was read as words from bytes, or was given as words.
use Prim.Native.Nat.{ℕ, zero, suc, ◌+◌, ◌*◌, ◌^◌, ◌≤◌, ◌<◌}
use mathlib.Core.Path.{◌≡◌, refl}
use mathlib.Core.Bool.{Bool, true, false}
use mathlib.Core.List.{List, [], ◌∷◌}
use native.Mathlib.Omega.{arith}
use lib.Dec.{ltb, leb, eqb}
use lib.ListN.{length, get_or, set, replicate}
use borrow.Author.Tests.{ltb-true, ltb-false, eqb-false}
use Rattle.codec.specs.Number.{Bytes, be_at}
use Rattle.codec.specs.Words.{words2}
use Rattle.codec.specs.Ids.{InWords, item_of}
use Rattle.codec.specs.declared.Item.{Item}
use Rattle.codec.proofs.Numbers.{be_below}
use Rattle.ticks.proofs.Lists.{order, less, same, more}
use Rattle.layout.specs.MethodPlaces.{ids_place}
use Rattle.lookup.specs.declared.Cursor.{Cursor}
use Rattle.tables.specs.MethodWords.{Words, bound_at}
use Rattle.sampling.specs.MethodColumns.{column_of, put_id, joined, ColumnList, columns_of, mapped_from, mapped}
use Rattle.sampling.specs.MethodRows.{top_word, first_item, top_item, bound_in, turn, put_bound, RowList, rows_of, grown, stopped_from, stopped}
use Rattle.sampling.specs.MethodRows.{first_row, after, last_row}
use Rattle.sampling.specs.MethodStops.{spanned}
use Rattle.sampling.specs.MethodTables.{Table, fits, no_table, no_keys, one_filled, one_table, two_filled, two_table, span_filled, span_table}
use Rattle.sampling.specs.MethodTables.{raised_filled, raised_table}

-- ---- lists

set_below : (l : List ℕ) (i x : ℕ) → x < 2 ^ 64 → ((j : ℕ) → get_or l j 0 < 2 ^ 64) → (j : ℕ) → get_or (set l i x) j 0 < 2 ^ 64
set_below [] i x h w j = w j
set_below (y ∷ l) zero x h w zero = h
set_below (y ∷ l) zero x h w (suc j) = w (suc j)
set_below (y ∷ l) (suc i) x h w zero = w zero
set_below (y ∷ l) (suc i) x h w (suc j) = set_below l i x h (λ k. w (suc k)) j

words-set : (l : List ℕ) (i x : ℕ) → x < 2 ^ 64 → Words l → Words (set l i x)
words-set l i x h w = record { below = set_below l i x h w.below }

zero-below : (n j : ℕ) → get_or (replicate {A = ℕ} n 0) j 0 < 2 ^ 64
zero-below zero j = omega arith
zero-below (suc n) zero = omega arith
zero-below (suc n) (suc j) = zero-below n j

pub words_zeros : (n : ℕ) → Words (replicate n 0)
words_zeros n = record { below = zero-below n }

word_read : (s : List ℕ) → Bytes s → (at : ℕ) → be_at s 8 at < 2 ^ 64
word_read s b at = omega (arith, be_below s 8 at b)

-- ---- columns

module _ (ids : List ℕ) (n m x y : ℕ) (h : Words ids) (k : x < 2 ^ 64) (l : y < 2 ^ 64) where
  put_words : Words (put_id ids m x y)
  unfolding put_id
  put_words = words-set (set ids (2 * m) x) (2 * m + 1) y l (words-set ids (2 * m) x k h)

  joined_by : (b : Bool) → ltb (column_of ids n (words2 x y)) n ≡ b → Words (joined ids n m x y).ids
  unfolding joined
  joined_by true e = rw (e, joined) h
  joined_by false e = rw (e, joined) put_words

  joined_words : Words (joined ids n m x y).ids
  joined_words = joined_by (ltb (column_of ids n (words2 x y)) n) refl

module _ (s : List ℕ) (b : Bytes s) (n : ℕ) where
  from_words : (left key : ℕ) (x : ColumnList) → Words x.ids → Words (mapped_from s n left key x).ids
  unfolding mapped_from
  from_words zero key x h = h
  from_words (suc left) key x h =
      from_words left (key + 1) _
      (joined_words x.ids n x.count (be_at s 8 (ids_place + 16 * key)) (be_at s 8 (ids_place + 16 * key + 8)) h
      (word_read s b (ids_place + 16 * key)) (word_read s b (ids_place + 16 * key + 8)))

  mapped_words : (r : ℕ) (ids keys : List ℕ) → Words ids → Words (mapped s r ids n keys).ids
  unfolding mapped
  mapped_words r ids keys h = from_words r 0 (columns_of ids n keys) h

-- ---- rows

bound_words_lem : (bounds' : List ℕ) (k : ℕ) (b : Item) → InWords b → Words bounds' → Words (put_bound bounds' k b)
unfolding put_bound
bound_words_lem bounds' k b i h =
    words-set (set (set bounds' (3 * k) b.high) (3 * k + 1) b.middle) (3 * k + 2) b.low i.low
    (words-set (set bounds' (3 * k) b.high) (3 * k + 1) b.middle i.middle (words-set bounds' (3 * k) b.high i.high h))

in_words : (s : List ℕ) → Bytes s → (at n : ℕ) → InWords (bound_in s at n)
unfolding bound_in
in_words s b at n = record {
  high = word_read s b (at + 28 * n);
  middle = word_read s b (at + 28 * n + 8);
  low = word_read s b (at + 28 * n + 16);
}

module _ (x : RowList) (b : Item) (i : InWords b) (h : Words x.bounds) where
  grown_by_lem : (q : Bool) → ltb (bound_at x.bounds x.top) (item_of b) ≡ q → Words (grown x b).bounds
  unfolding grown
  grown_by_lem true e = rw (e, grown) (bound_words_lem x.bounds (x.top + 1) b i h)
  grown_by_lem false e = rw (e, grown) h

  grown_words : Words (grown x b).bounds
  grown_words = grown_by_lem (ltb (bound_at x.bounds x.top) (item_of b)) refl

module _ (s : List ℕ) (p : Bytes s) (a at : ℕ) (t : List ℕ) (o : Bytes t) (b bt : ℕ) where
  module _ (i j : ℕ) where
    turn_by : (x y z : Bool) → leb b j ≡ x → leb a i ≡ y → ltb (item_of (bound_in t bt j)) (item_of (bound_in s at i)) ≡ z
        → InWords (turn s a at i t b bt j).bound
    unfolding turn
    turn_by true y z e f g = rw (e, turn) (in_words s p at i)
    turn_by false true z e f g = rw (e, f, turn) (in_words t o bt j)
    turn_by false false true e f g = rw (e, f, g, turn) (in_words t o bt j)
    turn_by false false false e f g = rw (e, f, g, turn) (in_words s p at i)

    turn_words : InWords (turn s a at i t b bt j).bound
    turn_words = turn_by (leb b j) (leb a i) (ltb (item_of (bound_in t bt j)) (item_of (bound_in s at i))) refl refl refl

  module _ (last : ℕ) where
    stops_by : (n i j : ℕ) (x : RowList) → Words x.bounds → (q : Bool) → ltb last (item_of (turn s a at i t b bt j).bound) ≡ q
        → (let y = turn s a at i t b bt j in Words (stopped_from s a at t b bt last n y.first y.second (grown x y.bound)).bounds)
        → Words (stopped_from s a at t b bt last (suc n) i j x).bounds
    unfolding stopped_from
    stops_by n i j x h true e w = rw (e, stopped_from) h
    stops_by n i j x h false e w = rw (e, stopped_from) w

    stops_words : (n i j : ℕ) (x : RowList) → Words x.bounds → Words (stopped_from s a at t b bt last n i j x).bounds
    unfolding stopped_from
    stops_words zero i j x h = h
    stops_words (suc n) i j x h =
        let y = turn s a at i t b bt j in
        stops_by n i j x h (ltb last (item_of y.bound)) refl
        (stops_words n y.first y.second (grown x y.bound) (grown_words x y.bound (turn_words i j) h))

  stopped_words : (first last : Item) → InWords first → (bounds' : List ℕ) (from : ℕ) → Words bounds'
      → Words (stopped s a at t b bt first last bounds' from).bounds
  unfolding stopped
  stopped_words first last i bounds' from h =
      stops_words (item_of last) (a + b) 0 0 (rows_of (put_bound bounds' from first) from) (bound_words_lem bounds' from first i h)

first_in : InWords first_item
first_in = record { high = omega arith; middle = omega arith; low = omega arith }

-- ---- the ends of a span

module _ (b : Item) (i : InWords b) (n : item_of b ≡ item_of top_item → ⊥) where
  not_full : top_word ≤ b.low → top_word ≤ b.middle → b.high + 1 < 2 ^ 64
  not_full l m =
      elim (order b.high top_word) [
        | less e ↦ omega arith
        | same e ↦ absurd (full (omega arith))
        | more e ↦ absurd (omega (arith, i.high))
      ]
    where
      full : b.high ≡ top_word → ⊥
      full e =
          let f : b.middle ≡ top_word = omega (arith, i.middle) in
          let g : b.low ≡ top_word = omega (arith, i.low) in
          n (rw (e, f, g))

  after_by : (x y : Bool) → ltb b.low top_word ≡ x → ltb b.middle top_word ≡ y → InWords (after b)
  unfolding after
  after_by true y e f = rw (e, after) (record { high = i.high; middle = i.middle; low = omega (arith, ltb-true b.low top_word e) })
  after_by false true e f = rw (e, f, after) (record { high = i.high; middle = omega (arith, ltb-true b.middle top_word f); low = omega arith })
  after_by false false e f =
      rw (e, f, after) (record { high = not_full (ltb-false b.low top_word e) (ltb-false b.middle top_word f); middle = omega arith; low = omega arith })

  after_words : InWords (after b)
  after_words = after_by (ltb b.low top_word) (ltb b.middle top_word) refl refl

module _ (x : RowList) (last : Item) (i : InWords last) (h : Words x.bounds) where
  last_by : (q : Bool) → eqb (item_of last) (item_of top_item) ≡ q → Words (last_row x last).bounds
  unfolding last_row
  last_by true e = rw (e, last_row) h
  last_by false e =
      rw (e, last_row) (bound_words_lem x.bounds (x.top + 1) (after last) (after_words last i (eqb-false (item_of last) (item_of top_item) e)) h)

  last_words : Words (last_row x last).bounds
  last_words = last_by (eqb (item_of last) (item_of top_item)) refl

-- ---- tables

pub record TableWords (w : Table) : Type 0 where
  pub ids : Words w.ids
  pub bounds : Words w.bounds

module _ (s : List ℕ) (p : Bytes s) (r : ℕ) (c : Cursor) (ids bounds' t : List ℕ) (h : Words ids) (k : Words bounds') where
  none : TableWords (no_table ids bounds' t)
  unfolding no_table
  none = record { ids = h; bounds = k }

  one : TableWords (one_filled s r c ids bounds' t)
  unfolding one_filled
  one = record {
    ids = mapped_words s p 0 r ids no_keys h;
    bounds = stopped_words s p c.left c.next s p 0 c.next first_item top_item first_in bounds' 1 k;
  }

  one_by : (q : Bool) → fits s r c r (c.left + 1) (length ids) (length bounds') (length t) ≡ q → TableWords (one_table s r c ids bounds' t)
  unfolding one_table
  one_by true e = rw (e, one_table) one
  one_by false e = rw (e, one_table) none

  pub one_words : TableWords (one_table s r c ids bounds' t)
  one_words = one_by (fits s r c r (c.left + 1) (length ids) (length bounds') (length t)) refl

  module _ (x y tick : ℕ) (i : x < 2 ^ 64) (j : y < 2 ^ 64) where
    raised : TableWords (raised_filled s r c x y tick ids bounds' t)
    unfolding raised_filled
    raised =
        let m = mapped s r ids 0 no_keys in
        record {
          ids = joined_words m.ids m.count m.count x y (mapped_words s p 0 r ids no_keys h) i j;
          bounds = stopped_words s p c.left c.next s p 0 c.next first_item top_item first_in bounds' 1 k;
        }

    raised_by_lem : (q : Bool) → fits s r c (r + 1) (c.left + 1) (length ids) (length bounds') (length t) ≡ q
        → TableWords (raised_table s r c x y tick ids bounds' t)
    unfolding raised_table
    raised_by_lem true e = rw (e, raised_table) raised
    raised_by_lem false e = rw (e, raised_table) none

    pub raised_words : TableWords (raised_table s r c x y tick ids bounds' t)
    raised_words = raised_by_lem (fits s r c (r + 1) (c.left + 1) (length ids) (length bounds') (length t)) refl

  module _ (first last : Item) (i : InWords first) (j : InWords last) where
    span : TableWords (span_filled s r c first last ids bounds' t)
    unfolding span_filled spanned first_row
    span =
        let f = first_row bounds' first in
        let y = stopped s c.left c.next s 0 c.next first last f.bounds f.top in
        record {
          ids = mapped_words s p 0 r ids no_keys h;
          bounds = last_words y last j
              (stopped_words s p c.left c.next s p 0 c.next first last i f.bounds f.top (bound_words_lem bounds' 1 first_item first_in k));
        }

    span_by : (q : Bool) → fits s r c r (c.left + 3) (length ids) (length bounds') (length t) ≡ q
        → TableWords (span_table s r c first last ids bounds' t)
    unfolding span_table
    span_by true e = rw (e, span_table) span
    span_by false e = rw (e, span_table) none

    pub span_words : TableWords (span_table s r c first last ids bounds' t)
    span_words = span_by (fits s r c r (c.left + 3) (length ids) (length bounds') (length t)) refl

  module _ (other : List ℕ) (o : Bytes other) (m : ℕ) (d : Cursor) where
    two : TableWords (two_filled s r c other m d ids bounds' t)
    unfolding two_filled
    two =
        let x = mapped s r ids 0 no_keys in
        record {
          ids = mapped_words other o x.count m x.ids no_keys (mapped_words s p 0 r ids no_keys h);
          bounds = stopped_words s p c.left c.next other o d.left d.next first_item top_item first_in bounds' 1 k;
        }

    two_by : (q z : Bool) → fits s r c (r + m) (c.left + d.left + 1) (length ids) (length bounds') (length t) ≡ q
        → fits other m d (r + m) (c.left + d.left + 1) (length ids) (length bounds') (length t) ≡ z
        → TableWords (two_table s r c other m d ids bounds' t)
    unfolding two_table
    two_by false z e f = rw (e, two_table) none
    two_by true true e f = rw (e, f, two_table) two
    two_by true false e f = rw (e, f, two_table) none

    pub two_words : TableWords (two_table s r c other m d ids bounds' t)
    two_words =
        two_by (fits s r c (r + m) (c.left + d.left + 1) (length ids) (length bounds') (length t))
        (fits other m d (r + m) (c.left + d.left + 1) (length ids) (length bounds') (length t)) refl refl

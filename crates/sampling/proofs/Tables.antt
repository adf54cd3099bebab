-- The tables that are filled. From accepted bytes and with room, columns are added for the replicas, rows are put at the first item and
-- at every later bound, and the cells are raised from the bytes: so each table samples the ticks of its operation (`one_samples`,
-- `two_samples`, `span_samples`, `raised_samples`). Room for a table, and accepted bytes, are just what the test at the start asks.
use Prim.Native.Nat.{ℕ, suc, ◌+◌, ◌*◌, ◌≤◌, ◌<◌}
use mathlib.Core.Path.{◌≡◌, refl, sym, ap, ap₂, ◌∙◌, subst}
use mathlib.Core.Bool.{Bool, true, false}
use mathlib.Core.List.{List, [], ◌∷◌}
use native.Mathlib.Omega.{arith}
use lib.Dec.{leb}
use lib.ListN.{length}
use Rattle.codec.specs.Words.{words2}
use Rattle.layout.specs.Knowledge.{bounds}
use Rattle.layout.specs.Permitted.{largest_replicas}
use Rattle.layout.specs.Decode.{decode}
use Rattle.layout.specs.MethodPlaces.{ids_place}
use Rattle.ticks.specs.Meaning.{highest, known}
use Rattle.ticks.specs.Operations.{larger, known_inside, known_raised}
use Rattle.ticks.proofs.Lists.{order, less, same, more}
use Rattle.tables.specs.MethodWords.{stride, most_rows, cell, id_at, bound_at}
use Rattle.loading.specs.Method.{Unlike, Columns, Added, Stops}
use Rattle.loading.proofs.Sampling.{sampled_normalise, sampled_merge, sampled_project, sampled_raise, columns_later}
use Rattle.lookup.specs.declared.Cursor.{Cursor}
use Rattle.lookup.specs.Method.{Open}
use Rattle.codec.specs.declared.Item.{Item}
use Rattle.sampling.specs.declared.Filled.{Filled}
use Rattle.sampling.specs.MethodColumns.{Join, join_of, ColumnList, columns_of, joined, mapped}
use Rattle.codec.specs.Ids.{item_of, InWords}
use Rattle.sampling.specs.MethodRows.{first_item, top_item, RowList, rows_of, stopped, first_row, last_row}
use Rattle.sampling.specs.MethodStops.{at_most, all_stopped, SpanList, span_of, spanned, span_stopped}
use Rattle.sampling.specs.MethodCells.{filled, column_set}
use Rattle.sampling.specs.MethodTables.{fits, Fits, filled_in, Table, table_of, filled_of, no_table, no_keys, one_filled, one_table, two_filled}
use Rattle.sampling.specs.MethodTables.{two_table, span_filled, span_table, raised_filled, raised_table, TableRoom, Samples}
use Rattle.sampling.proofs.Columns.{Kept, mapped_added, joined_facts, added_one}
use Rattle.sampling.proofs.Bounds.{bounds_at, StopFacts, stopped_stops}
use Rattle.sampling.proofs.Filling.{Fills, fillable, filled_fills, filled-length, column-set}
use Rattle.sampling.proofs.Stops.{most_not, most_next, last_is, all_most, most_all, stopped_is, spanned_is}
use Rattle.codec.proofs.Writing.{zeros-length}
use Rattle.sampling.proofs.Opening.{opened_ids, opened_count, opened_bounds, ids_asked, bounds_asked, nothing_asked, bounds_none}
use Rattle.sampling.proofs.Span.{top_words, zero-words, first_facts, zero-stays, last_facts}

-- The test at the start

module _ (s : List ℕ) (r : ℕ) (c : Cursor) (m n ids bounds' t : ℕ) where
  pub fits_tells : (b : Bool) → b ≡ fits s r c m n ids bounds' t → b ≡ true → Fits s r c m n ids bounds' t
  unfolding fits
  fits_tells b is e =
      let a = most_all _ (sym is ∙ e) in
      record {
        small = a.0;
        map = a.1.0;
        ranges = a.1.1.0;
        columns = a.1.1.1.0;
        rows = a.1.1.1.1.0;
        id_words = a.1.1.1.1.1.0;
        bound_words = a.1.1.1.1.1.1.0;
        cells = a.1.1.1.1.1.1.1.0;
      }

  -- test by test, as code makes them
  pub fits_1 : largest_replicas < r → false ≡ fits s r c m n ids bounds' t
  unfolding fits
  fits_1 h = most_not _ _ h

  module _ (a : r ≤ largest_replicas) where
    pub fits_2 : length s < ids_place + 16 * r → false ≡ fits s r c m n ids bounds' t
    unfolding fits
    fits_2 h = most_not _ _ h ∙ most_next _ _ a

    module _ (b : ids_place + 16 * r ≤ length s) where
      pub fits_3 : length s < c.next + 28 * c.left → false ≡ fits s r c m n ids bounds' t
      unfolding fits
      fits_3 h = most_not _ _ h ∙ most_next _ _ b ∙ most_next _ _ a

      module _ (d : c.next + 28 * c.left ≤ length s) where
        pub fits_4 : stride < m → false ≡ fits s r c m n ids bounds' t
        unfolding fits
        fits_4 h = most_not _ _ h ∙ most_next _ _ d ∙ most_next _ _ b ∙ most_next _ _ a

        module _ (e' : m ≤ stride) where
          pub fits_5 : most_rows < suc n → false ≡ fits s r c m n ids bounds' t
          unfolding fits
          fits_5 h = most_not _ _ h ∙ most_next _ _ e' ∙ most_next _ _ d ∙ most_next _ _ b ∙ most_next _ _ a

          module _ (f : suc n ≤ most_rows) where
            pub fits_6 : ids < 2 * m → false ≡ fits s r c m n ids bounds' t
            unfolding fits
            fits_6 h = most_not _ _ h ∙ most_next _ _ f ∙ most_next _ _ e' ∙ most_next _ _ d ∙ most_next _ _ b ∙ most_next _ _ a

            module _ (g : 2 * m ≤ ids) where
              pub fits_7 : bounds' < 3 * suc n → false ≡ fits s r c m n ids bounds' t
              unfolding fits
              fits_7 h =
                  most_not _ _ h ∙ most_next _ _ g ∙ most_next _ _ f ∙ most_next _ _ e' ∙ most_next _ _ d ∙ most_next _ _ b ∙ most_next _ _ a

              pub fits_last : 3 * suc n ≤ bounds' → (x : ℕ) → x ≡ stride * suc n → leb x t ≡ fits s r c m n ids bounds' t
              unfolding fits
              fits_last i x e =
                  last_is (x, t) ∙ ap (λ y. at_most ((y, t) ∷ [])) e ∙ most_next _ _ i ∙ most_next _ _ g ∙ most_next _ _ f ∙ most_next _ _ e'
                  ∙ most_next _ _ d ∙ most_next _ _ b ∙ most_next _ _ a

  pub fits_holds : Fits s r c m n ids bounds' t → fits s r c m n ids bounds' t ≡ true
  unfolding fits
  fits_holds h =
      all_most _ (h.small, (h.map, (h.ranges, (h.columns, (h.rows, (h.id_words, (h.bound_words, (h.cells, tt))))))))

-- with fewer columns
pub fits_fewer : (s : List ℕ) (r : ℕ) (c : Cursor) (m n ids bounds' t : ℕ) → Fits s r c m n ids bounds' t → (k : ℕ) → k ≤ m
    → Fits s r c k n ids bounds' t
fits_fewer s r c m n ids bounds' t h k l =
    record {
      small = h.small;
      map = h.map;
      ranges = h.ranges;
      columns = omega (arith, h.columns);
      rows = h.rows;
      id_words = omega (arith, h.id_words);
      bound_words = h.bound_words;
      cells = h.cells;
    }

-- accepted bytes and room
fits_open : (s : List ℕ) (r : ℕ) (c : Cursor) (m n : ℕ) (ids bounds' t : List ℕ) → Open s r c → TableRoom m n ids bounds' t
    → fits s r c m n (length ids) (length bounds') (length t) ≡ true
fits_open s r c m n ids bounds' t o h =
    fits_holds s r c m n (length ids) (length bounds') (length t)
    (record {
      small = o.small;
      map = (ids_asked s r c o).0;
      ranges = (bounds_asked s r c o).0;
      columns = h.columns;
      rows = h.rows;
      id_words = h.id_words;
      bound_words = h.bound_words;
      cells = h.cells;
    })

-- The cells, with a bound for each row

module _ (s : List ℕ) (r : ℕ) (c : Cursor) (keys bounds' : List ℕ) (from top : ℕ) (t : List ℕ) where
  pub in_rows_lem : most_rows < suc top → t ≡ filled_in s r c keys bounds' from top t
  unfolding filled_in
  in_rows_lem h = rw (sym (most_not (suc top, most_rows) ((3 * suc top, length bounds') ∷ []) h), filled_in)

  module _ (a : suc top ≤ most_rows) where
    pub in_bounds : length bounds' < 3 * suc top → t ≡ filled_in s r c keys bounds' from top t
    unfolding filled_in
    in_bounds h =
        rw (sym (most_not (3 * suc top, length bounds') [] h ∙ most_next (suc top, most_rows) ((3 * suc top, length bounds') ∷ []) a), filled_in)

    pub in_is : 3 * suc top ≤ length bounds' → filled s r c keys bounds' from top t ≡ filled_in s r c keys bounds' from top t
    unfolding filled_in
    in_is h = rw (all_most ((suc top, most_rows) ∷ (3 * suc top, length bounds') ∷ []) (a, (h, tt)), filled_in)

    in_size : length (filled_in s r c keys bounds' from top t) ≡ length t
    in_size =
        elim (order (3 * suc top) (length bounds')) [
          | less h ↦ ap length (sym (in_is (omega arith))) ∙ filled-length s r keys bounds' c from top t
          | same h ↦ ap length (sym (in_is (omega arith))) ∙ filled-length s r keys bounds' c from top t
          | more h ↦ ap length (sym (in_bounds h))
        ]

  pub in_length : length (filled_in s r c keys bounds' from top t) ≡ length t
  in_length =
      elim (order (suc top) most_rows) [
        | less h ↦ in_size (omega arith)
        | same h ↦ in_size (omega arith)
        | more h ↦ ap length (sym (in_rows_lem h))
      ]

-- nothing is filled
pub none_put : (ids bounds' t : List ℕ) → table_of ids bounds' t (filled_of 0 0) ≡ no_table ids bounds' t
unfolding no_table
none_put ids bounds' t = refl

-- the cases of a table
module _ (s : List ℕ) (r : ℕ) (c : Cursor) (ids bounds' t : List ℕ) where
  module _ (b : Bool) (is : b ≡ fits s r c r (c.left + 1) (length ids) (length bounds') (length t)) where
    pub one_none : b ≡ false → no_table ids bounds' t ≡ one_table s r c ids bounds' t
    unfolding one_table
    one_none e = rw (sym is ∙ e, one_table)

    pub one_some : b ≡ true → one_filled s r c ids bounds' t ≡ one_table s r c ids bounds' t
    unfolding one_table
    one_some e = rw (sym is ∙ e, one_table)

  module _ (first last : Item) (b : Bool) (is : b ≡ fits s r c r (c.left + 3) (length ids) (length bounds') (length t)) where
    pub span_none : b ≡ false → no_table ids bounds' t ≡ span_table s r c first last ids bounds' t
    unfolding span_table
    span_none e = rw (sym is ∙ e, span_table)

    pub span_some : b ≡ true → span_filled s r c first last ids bounds' t ≡ span_table s r c first last ids bounds' t
    unfolding span_table
    span_some e = rw (sym is ∙ e, span_table)

  module _ (p0 p1 tick : ℕ) (b : Bool) (is : b ≡ fits s r c (r + 1) (c.left + 1) (length ids) (length bounds') (length t)) where
    pub raised_none : b ≡ false → no_table ids bounds' t ≡ raised_table s r c p0 p1 tick ids bounds' t
    unfolding raised_table
    raised_none e = rw (sym is ∙ e, raised_table)

    pub raised_some : b ≡ true → raised_filled s r c p0 p1 tick ids bounds' t ≡ raised_table s r c p0 p1 tick ids bounds' t
    unfolding raised_table
    raised_some e = rw (sym is ∙ e, raised_table)

  module _ (other : List ℕ) (m : ℕ) (d : Cursor) (b : Bool)
      (is : b ≡ fits s r c (r + m) (c.left + d.left + 1) (length ids) (length bounds') (length t)) where
    pub two_none : b ≡ false → no_table ids bounds' t ≡ two_table s r c other m d ids bounds' t
    unfolding two_table
    two_none e = rw (sym is ∙ e, two_table)

    module _ (e : b ≡ true) (q : Bool) (too : q ≡ fits other m d (r + m) (c.left + d.left + 1) (length ids) (length bounds') (length t)) where
      pub two_no_second : q ≡ false → no_table ids bounds' t ≡ two_table s r c other m d ids bounds' t
      unfolding two_table
      two_no_second f = rw (sym is ∙ e, sym too ∙ f, two_table)

      pub two_some : q ≡ true → two_filled s r c other m d ids bounds' t ≡ two_table s r c other m d ids bounds' t
      unfolding two_table
      two_some f = rw (sym is ∙ e, sym too ∙ f, two_table)

-- as code puts them together

module _ (s : List ℕ) (r : ℕ) (c : Cursor) (ids bounds' t ids' : List ℕ) (m : ℕ) where
  module _ (keys' : List ℕ) (add : columns_of ids' m keys' ≡ mapped s r ids 0 no_keys) where
    pub one_put : (u : List ℕ) (top : ℕ) → rows_of u top ≡ all_stopped s c s 0 c.next bounds' → top ≤ c.left + 0 + 1
        → length u ≡ length bounds' → Fits s r c r (c.left + 1) (length ids) (length bounds') (length t) → (t' : List ℕ)
        → t' ≡ filled_in s r c keys' u 1 top t
        → table_of ids' u t' (filled_of m top) ≡ one_filled s r c ids bounds' t
    unfolding one_filled
    one_put u top stops low size h t' fill =
        ap (λ (v : List ℕ). table_of ids' u v (filled_of m top))
        (fill ∙ sym (in_is s r c keys' u 1 top t (omega (arith, h.rows)) (omega (arith, size, h.bound_words))))
        ∙ ap₂ (λ (x : ColumnList) (y : RowList).
        table_of x.ids y.bounds (filled s r c x.keys y.bounds 1 y.top t) (filled_of x.count y.top)) add
        (stops ∙ stopped_is s c s 0 c.next bounds' (record {
          ranges = h.ranges;
          others = omega (arith, h.ranges);
          rows = omega (arith, h.rows);
          bound_words = omega (arith, h.bound_words);
        }))

    pub span_put : (first last : Item) (u : List ℕ) (from top rows : ℕ) → span_of u from top rows ≡ span_stopped s c first last bounds'
        → top ≤ c.left + 2 → length u ≡ length bounds' → Fits s r c r (c.left + 3) (length ids) (length bounds') (length t) → (t' : List ℕ)
        → t' ≡ filled_in s r c keys' u from top t
        → table_of ids' u t' (filled_of m rows) ≡ span_filled s r c first last ids bounds' t
    unfolding span_filled
    span_put first last u from top rows stops low size h t' fill =
        ap (λ (v : List ℕ). table_of ids' u v (filled_of m rows))
        (fill ∙ sym (in_is s r c keys' u from top t (omega (arith, h.rows)) (omega (arith, size, h.bound_words))))
        ∙ ap₂ (λ (x : ColumnList) (y : SpanList).
        table_of x.ids y.bounds (filled s r c x.keys y.bounds y.from y.top t) (filled_of x.count y.rows)) add
        (stops ∙ spanned_is s c first last bounds' (record {
          ranges = h.ranges;
          others = omega (arith, h.ranges);
          rows = omega (arith, h.rows);
          bound_words = omega (arith, h.bound_words);
        }))

  -- on the table of one knowledge
  pub raised_put : (p0 p1 tick : ℕ) (u t' : List ℕ) (top : ℕ) → table_of ids' u t' (filled_of m top) ≡ one_filled s r c ids bounds' t
      → (ids'' : List ℕ) (column n : ℕ) → join_of ids'' column n ≡ joined ids' m m p0 p1 → (t'' : List ℕ) → t'' ≡ column_set column tick 1 top t'
      → table_of ids'' u t'' (filled_of n top) ≡ raised_filled s r c p0 p1 tick ids bounds' t
  unfolding one_filled raised_filled
  raised_put p0 p1 tick u t' top one ids'' column n own t'' set_own =
      ap (λ (v : List ℕ). table_of ids'' u v (filled_of n top)) set_own
      ∙ ap (λ (j : Join). table_of j.ids u (column_set j.column tick 1 top t') (filled_of j.count top)) own
      ∙ ap (λ (x : Table).
      let j = joined x.ids x.filled.columns x.filled.columns p0 p1 in
      table_of j.ids x.bounds (column_set j.column tick 1 x.filled.rows x.t) (filled_of j.count x.filled.rows)) one

module _ (s : List ℕ) (r : ℕ) (c : Cursor) (ids bounds' t ids' keys' : List ℕ) (m : ℕ)
    (add : columns_of ids' m keys' ≡ mapped s r ids 0 no_keys) where
  pub two_put : (other : List ℕ) (n : ℕ) (d : Cursor) (ids'' others u : List ℕ) (k top : ℕ) → columns_of ids'' k others ≡ mapped other n ids' m no_keys
      → rows_of u top ≡ all_stopped s c other d.left d.next bounds' → top ≤ c.left + d.left + 1 → length u ≡ length bounds'
      → Fits s r c (r + n) (c.left + d.left + 1) (length ids) (length bounds') (length t)
      → Fits other n d (r + n) (c.left + d.left + 1) (length ids) (length bounds') (length t) → (t' t'' : List ℕ)
      → t' ≡ filled_in s r c keys' u 1 top t → t'' ≡ filled_in other n d others u 1 top t'
      → table_of ids'' u t'' (filled_of k top) ≡ two_filled s r c other n d ids bounds' t
  unfolding two_filled
  two_put other n d ids'' others u k top more_ids stops low size h i t' t'' fill fill' =
      ap (λ (v : List ℕ). table_of ids'' u v (filled_of k top))
      (fill' ∙ sym (in_is other n d others u 1 top t' (omega (arith, h.rows)) (omega (arith, size, h.bound_words)))
      ∙ ap (filled other n d others u 1 top)
      (fill ∙ sym (in_is s r c keys' u 1 top t (omega (arith, h.rows)) (omega (arith, size, h.bound_words)))))
      ∙ ap₂ (λ (z : ColumnList) (y : RowList).
      table_of z.ids y.bounds
      (filled other n d z.keys y.bounds 1 y.top (filled s r c keys' y.bounds 1 y.top t)) (filled_of z.count y.top))
      more_ids
      (stops ∙ stopped_is s c other d.left d.next bounds' (record {
        ranges = h.ranges;
        others = i.ranges;
        rows = h.rows;
        bound_words = h.bound_words;
      }))
      ∙ ap (λ (x : ColumnList).
      let z = mapped other n x.ids x.count no_keys in
      let y = stopped s c.left c.next other d.left d.next first_item top_item bounds' 1 in
      table_of z.ids y.bounds
      (filled other n d z.keys y.bounds 1 y.top (filled s r c x.keys y.bounds 1 y.top t)) (filled_of z.count y.top)) add

-- Columns, rows and cells from accepted bytes

no_columns : (P : ℕ → ℕ) → Unlike P 0
no_columns P = record { is = λ c d h. absurd (omega arith) }

-- stops of the lists of bounds that the bytes have
stops_are : (B : ℕ → ℕ) (from top first last : ℕ) (xs ys us ws : List ℕ) → us ≡ xs → ws ≡ ys → Stops B from top first last us ws
    → Stops B from top first last xs ys
stops_are B from top first last xs ys us ws e f s = rw (← e, ← f) s

-- all items
stops_all : (B : ℕ → ℕ) (from top : ℕ) (xs ys : List ℕ) → Stops B from top (item_of first_item) (item_of top_item) xs ys
    → Stops B from top 0 highest xs ys
stops_all B from top xs ys s = rw (← zero-words, ← top_words) s

-- rows keep their stops where their bounds are kept
stops_kept : (B C : ℕ → ℕ) (from top first last : ℕ) (xs ys : List ℕ) → Kept B C (suc top) → Stops B from top first last xs ys
    → Stops C from top first last xs ys
stops_kept B C from top first last xs ys k s =
    let is : (j : ℕ) → j ≤ top → C j ≡ B j = λ j l. k.is j (omega arith) in
    record {
      some = s.some;
      most = s.most;
      starts = is from s.some ∙ s.starts;
      rising = λ j a b. omega (arith, is j (omega arith), is (suc j) b, s.rising j a b);
      inside = λ j a b. omega (arith, is j b, s.inside j a b);
      firsts = λ j n a b c d e f.
          s.firsts j n a b c (omega (arith, is j b)) e (λ l. omega (arith, f l, is (suc j) l));
      seconds = λ j n a b c d e f.
          s.seconds j n a b c (omega (arith, is j b)) e (λ l. omega (arith, f l, is (suc j) l));
    }

module _ (s : List ℕ) (r : ℕ) (c : Cursor) (o : Open s r c) where
  record MapColumns (ids : List ℕ) (n : ℕ) (x : ColumnList) : Type 0 where
    added : Added (id_at ids) (id_at x.ids) n x.count (decode s).replicas x.keys
    most : x.count ≤ n + r
    size : length x.ids ≡ length ids

  map-columns : (ids : List ℕ) (n : ℕ) → 2 * (n + r) ≤ length ids → MapColumns ids n (mapped s r ids n no_keys)
  map-columns ids n h =
      let m = mapped_added s r ids n no_keys (ids_asked s r c o).1 (omega (arith, o.small, zeros-length largest_replicas)) h in
      let x = mapped s r ids n no_keys in
      let a : Added (id_at ids) (id_at x.ids) n x.count (decode s).replicas x.keys =
      subst (λ l. Added (id_at ids) (id_at x.ids) n x.count l x.keys) (sym (opened_ids o.rules s r c o.opens)) m.added in
      record { added = a; most = omega (arith, a.most, opened_count o.rules s r c o.opens); size = m.size }

  -- rows at the bounds of one knowledge
  abbrev Bounds : List ℕ
  Bounds = bounds (decode s).ranges

  one_stops : (first last : Item) (l : List ℕ) (from : ℕ) → item_of first ≤ item_of last → 3 * (from + c.left + 1) ≤ length l
      → StopFacts s c.left c.next s 0 c.next (item_of first) (item_of last) l from
      (stopped s c.left c.next s 0 c.next first last l from)
  one_stops first last l from h k =
      stopped_stops s c.left c.next s 0 c.next first last l from (bounds_asked s r c o).1 (nothing_asked s r c o).1 h (omega arith)

  one_at_bounds : (B : ℕ → ℕ) (from top first last : ℕ) → Stops B from top first last (bounds_at s c.left c.next) (bounds_at s 0 c.next)
      → Stops B from top first last Bounds []
  one_at_bounds B from top first last h =
      stops_are B from top first last Bounds [] (bounds_at s c.left c.next) (bounds_at s 0 c.next)
      (sym (opened_bounds o.rules s r c o.opens)) (bounds_none s c.next) h

  -- cells raised from the bytes
  cells_filled : (keys bounds' : List ℕ) (from top first last : ℕ) (xs ys t : List ℕ) (P : ℕ → ℕ) (n : ℕ)
      → Columns P n (decode s).replicas keys → n ≤ stride → Stops (bound_at bounds') from top first last xs ys → stride * (top + 1) ≤ length t
      → Fills s keys bounds' from top t (filled s r c keys bounds' from top t)
  cells_filled keys bounds' from top first last xs ys t P n a h k l =
      filled_fills s r keys bounds' from top t (fillable s keys bounds' from top first last xs ys t P n a h k l) c o

-- The tables

-- first and last item of all
all_items : item_of first_item ≤ item_of top_item
all_items = omega (arith, zero-words)

abbrev Good : ℕ → ℕ → (ℕ → ℕ → ℕ) → Table → Type 0
Good m n f w = Samples w.ids w.bounds w.t m n f w.filled

-- what one knowledge knows
pub one_samples : (s : List ℕ) (r : ℕ) (c : Cursor) (ids bounds' t ids' bounds'' t' : List ℕ) (q : Filled)
    → table_of ids' bounds'' t' q ≡ one_table s r c ids bounds' t → Open s r c → TableRoom r (c.left + 1) ids bounds' t
    → Samples ids' bounds'' t' r (c.left + 1) (known (decode s)) q
unfolding one_filled
one_samples s r c ids bounds' t ids' bounds'' t' q e o room =
    let x = mapped s r ids 0 no_keys in
    let m = map-columns s r c o ids 0 (omega (arith, room.id_words)) in
    let y = stopped s c.left c.next s 0 c.next first_item top_item bounds' 1 in
    let f = one_stops s r c o first_item top_item bounds' 1 all_items (omega (arith, room.bound_words)) in
    let stops = one_at_bounds s r c o (bound_at y.bounds) 1 y.top 0 highest (stops_all (bound_at y.bounds) 1 y.top _ _ f.stops) in
    let unlike = m.added.unlike (no_columns (id_at ids)) in
    let small : x.count ≤ stride = omega (arith, m.most, room.columns) in
    let u = filled s r c x.keys y.bounds 1 y.top t in
    let fills = cells_filled s r c o x.keys y.bounds 1 y.top _ _ _ _ t (id_at x.ids) x.count m.added.columns small stops
    (omega (arith, f.most, room.cells)) in
    subst (Good r (c.left + 1) (known (decode s)))
    (one_some s r c ids bounds' t true (sym (fits_open s r c r (c.left + 1) ids bounds' t o room)) refl ∙ sym e)
    (record {
      is = sampled_normalise (decode s) (id_at x.ids) (bound_at y.bounds) (cell t) (cell u) x.count y.top x.keys
          unlike m.added.columns small stops room.clear (fills.is (id_at x.ids) x.count m.added.columns unlike small);
      columns = omega (arith, m.most);
      rows = omega (arith, f.most);
    })

-- with the tick of one replica set in every row
pub raised_samples : (s : List ℕ) (r : ℕ) (c : Cursor) (p0 p1 tick : ℕ) (ids bounds' t ids' bounds'' t' : List ℕ) (q : Filled)
    → table_of ids' bounds'' t' q ≡ raised_table s r c p0 p1 tick ids bounds' t → Open s r c → TableRoom (r + 1) (c.left + 1) ids bounds' t
    → Samples ids' bounds'' t' (r + 1) (c.left + 1) (known_raised (words2 p0 p1) tick (decode s)) q
unfolding raised_filled
raised_samples s r c p0 p1 tick ids bounds' t ids' bounds'' t' q e o room =
    let x = mapped s r ids 0 no_keys in
    let m = map-columns s r c o ids 0 (omega (arith, room.id_words)) in
    let j = joined x.ids x.count x.count p0 p1 in
    let h = joined_facts x.ids x.count x.count p0 p1 (omega arith) (omega (arith, m.most, m.size, room.id_words)) in
    let own = words2 p0 p1 in
    let one : Added (id_at x.ids) (id_at j.ids) x.count j.count (own ∷ []) (j.column ∷ []) =
    subst (λ n. Added (id_at x.ids) (id_at j.ids) x.count n (own ∷ []) (j.column ∷ [])) (sym h.counts)
    (added_one (id_at x.ids) (id_at j.ids) x.count own j.column h.joins) in
    let y = stopped s c.left c.next s 0 c.next first_item top_item bounds' 1 in
    let f = one_stops s r c o first_item top_item bounds' 1 all_items (omega (arith, room.bound_words)) in
    let stops = one_at_bounds s r c o (bound_at y.bounds) 1 y.top 0 highest (stops_all (bound_at y.bounds) 1 y.top _ _ f.stops) in
    let unlike = m.added.unlike (no_columns (id_at ids)) in
    let most : j.count ≤ r + 1 = omega (arith, h.counts, h.joins.most, m.most) in
    let small : j.count ≤ stride = omega (arith, most, room.columns) in
    let less-small : x.count ≤ stride = omega (arith, m.most, room.columns) in
    let u = filled s r c x.keys y.bounds 1 y.top t in
    let fills = cells_filled s r c o x.keys y.bounds 1 y.top _ _ _ _ t (id_at x.ids) x.count m.added.columns less-small stops
    (omega (arith, f.most, room.cells)) in
    let later = columns_later (id_at x.ids) (id_at j.ids) x.count j.count (decode s).replicas (own ∷ []) x.keys (j.column ∷ [])
    m.added.columns one in
    let w = column_set j.column tick 1 y.top u in
    subst (Good (r + 1) (c.left + 1) (known_raised own tick (decode s)))
    (raised_some s r c ids bounds' t p0 p1 tick true (sym (fits_open s r c (r + 1) (c.left + 1) ids bounds' t o room)) refl ∙ sym e)
    (record {
      is = sampled_raise (decode s) own tick (id_at x.ids) (id_at j.ids) (bound_at y.bounds) (cell t) (cell u) (cell w)
          x.count j.count y.top j.column x.keys (j.column ∷ []) unlike m.added.columns one
          (omega (arith, h.counts)) h.joins.is small stops room.clear
          (fills.is (id_at j.ids) j.count later (one.unlike unlike) small)
          (column-set j.column tick 1 y.top u (omega (arith, h.counts)) (omega (arith, fills.size, f.most, room.cells)) stops.some);
      columns = most;
      rows = omega (arith, f.most);
    })

-- what one knowledge knows inside a span
pub span_samples : (s : List ℕ) (r : ℕ) (c : Cursor) (first last : Item) (ids bounds' t ids' bounds'' t' : List ℕ) (q : Filled)
    → table_of ids' bounds'' t' q ≡ span_table s r c first last ids bounds' t → Open s r c → TableRoom r (c.left + 3) ids bounds' t
    → InWords last → item_of first ≤ item_of last
    → Samples ids' bounds'' t' r (c.left + 3) (known_inside (item_of first) (item_of last) (decode s)) q
unfolding span_filled spanned
span_samples s r c first last ids bounds' t ids' bounds'' t' q e o room words span =
    let x = mapped s r ids 0 no_keys in
    let m = map-columns s r c o ids 0 (omega (arith, room.id_words)) in
    let g = first_row bounds' first in
    let begin = first_facts bounds' first (omega (arith, room.bound_words)) in
    let y = stopped s c.left c.next s 0 c.next first last g.bounds g.top in
    let f = one_stops s r c o first last g.bounds g.top span (omega (arith, room.bound_words, begin.low, begin.size)) in
    let z = last_row y last in
    let end = last_facts y.bounds y.top last words (omega (arith, room.bound_words, begin.low, begin.size, f.size, f.most)) in
    let stops = one_at_bounds s r c o (bound_at z.bounds) g.top y.top (item_of first) (item_of last)
    (stops_kept (bound_at y.bounds) (bound_at z.bounds) g.top y.top (item_of first) (item_of last) _ _ end.kept f.stops) in
    let unlike = m.added.unlike (no_columns (id_at ids)) in
    let small : x.count ≤ stride = omega (arith, m.most, room.columns) in
    let u = filled s r c x.keys z.bounds g.top y.top t in
    let fills = cells_filled s r c o x.keys z.bounds g.top y.top _ _ _ _ t (id_at x.ids) x.count m.added.columns small stops
    (omega (arith, f.most, begin.low, room.cells)) in
    let row_one = zero-stays (bound_at g.bounds) (bound_at y.bounds) (bound_at z.bounds) g.top y.top (item_of first) (item_of last) _ _
    begin.zero-bound begin.begins f.kept f.stops end.kept in
    subst (Good r (c.left + 3) (known_inside (item_of first) (item_of last) (decode s)))
    (span_some s r c ids bounds' t first last true (sym (fits_open s r c r (c.left + 3) ids bounds' t o room)) refl ∙ sym e)
    (record {
      is = sampled_project (decode s) (id_at x.ids) (bound_at z.bounds) (cell t) (cell u) x.count z.top g.top y.top
          (item_of first) (item_of last) x.keys unlike m.added.columns small row_one span end.low begin.begins stops end.ends
          room.clear (fills.is (id_at x.ids) x.count m.added.columns unlike small);
      columns = omega (arith, m.most);
      rows = omega (arith, f.most, begin.low, end.most);
    })

-- the larger of what two know
pub two_samples : (s : List ℕ) (r : ℕ) (c : Cursor) (other : List ℕ) (m : ℕ) (d : Cursor) (ids bounds' t ids' bounds'' t' : List ℕ) (q : Filled)
    → table_of ids' bounds'' t' q ≡ two_table s r c other m d ids bounds' t → Open s r c → Open other m d
    → TableRoom (r + m) (c.left + d.left + 1) ids bounds' t
    → Samples ids' bounds'' t' (r + m) (c.left + d.left + 1) (larger (decode s) (decode other)) q
unfolding two_filled
two_samples s r c other m d ids bounds' t ids' bounds'' t' q e o p room =
    let x = mapped s r ids 0 no_keys in
    let a = map-columns s r c o ids 0 (omega (arith, room.id_words)) in
    let z = mapped other m x.ids x.count no_keys in
    let b = map-columns other m d p x.ids x.count (omega (arith, room.id_words, a.size, a.most)) in
    let y = stopped s c.left c.next other d.left d.next first_item top_item bounds' 1 in
    let f = stopped_stops s c.left c.next other d.left d.next first_item top_item bounds' 1 (bounds_asked s r c o).1
    (bounds_asked other m d p).1 all_items (omega (arith, room.bound_words)) in
    let stops = stops_are (bound_at y.bounds) 1 y.top 0 highest (bounds (decode s).ranges) (bounds (decode other).ranges)
    (bounds_at s c.left c.next) (bounds_at other d.left d.next)
    (sym (opened_bounds o.rules s r c o.opens)) (sym (opened_bounds p.rules other m d p.opens))
    (stops_all (bound_at y.bounds) 1 y.top _ _ f.stops) in
    let unlike = a.added.unlike (no_columns (id_at ids)) in
    let both = b.added.unlike unlike in
    let low : x.count ≤ stride = omega (arith, a.most, room.columns) in
    let most : z.count ≤ r + m = omega (arith, a.most, b.most) in
    let small : z.count ≤ stride = omega (arith, most, room.columns) in
    let all = columns_later (id_at x.ids) (id_at z.ids) x.count z.count (decode s).replicas (decode other).replicas x.keys z.keys
    a.added.columns b.added in
    let v = filled s r c x.keys y.bounds 1 y.top t in
    let w = filled other m d z.keys y.bounds 1 y.top v in
    let one = cells_filled s r c o x.keys y.bounds 1 y.top _ _ _ _ t (id_at x.ids) x.count a.added.columns low stops
    (omega (arith, f.most, room.cells)) in
    let two = cells_filled other m d p z.keys y.bounds 1 y.top _ _ _ _ v (id_at z.ids) z.count b.added.columns small stops
    (omega (arith, f.most, room.cells, one.size)) in
    subst (Good (r + m) (c.left + d.left + 1) (larger (decode s) (decode other)))
    (two_some s r c ids bounds' t other m d true (sym (fits_open s r c (r + m) (c.left + d.left + 1) ids bounds' t o room)) refl true
    (sym (fits_open other m d (r + m) (c.left + d.left + 1) ids bounds' t p room)) refl ∙ sym e)
    (record {
      is = sampled_merge (decode s) (decode other) (id_at x.ids) (id_at z.ids) (bound_at y.bounds) (cell t) (cell v) (cell w) x.count
          z.count y.top x.keys z.keys unlike a.added.columns b.added small stops room.clear
          (one.is (id_at z.ids) z.count all both small) (two.is (id_at z.ids) z.count b.added.columns both small);
      columns = most;
      rows = omega (arith, f.most);
    })

-- A function on knowledges that were opened ends as the result of its operation says: scratch of zeros has room for the table, whichever is
-- taken, so the table samples the ticks of the operation, and what is planned for it is the result; and what is copied is in normal form.
-- These laws are all that a caller needs to know of such a function: they take what its contract says, and speak of no table.
use Prim.Native.Nat.{ℕ, ◌+◌, ◌*◌, ◌^◌, ◌≤◌, ◌<◌}
use mathlib.Core.Path.{◌≡◌, refl, sym, ap, ◌∙◌, subst}
use mathlib.Core.Bool.{Bool, true, false}
use mathlib.Core.List.{List}
use native.Mathlib.Omega.{arith}
use lib.ListN.{replicate}
use borrow.Author.Tests.{lt-ltb, le-ltb}
use Rattle.codec.specs.MethodEnded.{Ended, End, end_of}
use Rattle.codec.specs.Ids.{InWords, item_of, replica_of}
use Rattle.codec.specs.Answer.{Answer}
use Rattle.codec.specs.declared.Replica.{Replica}
use Rattle.codec.specs.declared.Span.{Span}
use Rattle.layout.specs.Knowledge.{Rules, Knowledge}
use Rattle.layout.specs.Permitted.{within, rules_within, largest_replicas, largest_ranges}
use Rattle.layout.specs.Decode.{decode}
use Rattle.layout.specs.declared.Limits.{Limits}
use Rattle.ticks.specs.Operations.{normalise, merge, project, raise}
use Rattle.ticks.proofs.Lists.{order, less, same, more}
use Rattle.lookup.specs.declared.View.{View}
use Rattle.normal_form.specs.MethodNormal.{normal_opened}
use Rattle.tables.specs.MethodWords.{stride, most_rows}
use Rattle.loading.specs.MethodReply.{result_reply}
use Rattle.loading.proofs.Closing.{result_is}
use Rattle.sampling.specs.declared.Filled.{Filled}
use Rattle.sampling.specs.MethodTables.{Table, table_of, one_table, two_table, span_table, raised_table, TableRoom}
use Rattle.sampling.proofs.Opening.{scratch_replicas, scratch_ranges}
use Rattle.sampling.proofs.Scratch.{table_room}
use Rattle.preparing.specs.MethodPrepared.{concluded, Sheet}
use Rattle.preparing.proofs.Ready.{normalise_sheet, merge_sheet, project_sheet, raise_sheet, sheet_ended}
use Rattle.results.specs.MethodOpened.{Reads, result_of, small_rows, middle_rows, one_rows, rows_for, Fill, zeroed, lent, table_end}
use Rattle.results.specs.MethodOpened.{merged_end, raised_end, by_table_end, normalised_end, projected_end}
use Rattle.results.proofs.Copied.{end_copied, normal_given, normalised_is_copied, normalised_is_by_table}
use Rattle.results.proofs.TableWords.{TableWords, words_zeros, one_words, raised_words, span_words, two_words}

-- the rows of scratch, by the last row of the table
module _ (n large : ℕ) where
  small_rows_for : n < small_rows → rows_for n large ≡ small_rows
  unfolding rows_for
  small_rows_for l = rw (lt-ltb n small_rows l, rows_for)

  middle_rows_for : small_rows ≤ n → n < middle_rows → rows_for n large ≡ middle_rows
  unfolding rows_for
  middle_rows_for l m = rw (le-ltb n small_rows l, lt-ltb n middle_rows m, rows_for)

  large_rows_for : small_rows ≤ n → middle_rows ≤ n → rows_for n large ≡ large
  unfolding rows_for
  large_rows_for l m = rw (le-ltb n small_rows l, le-ltb n middle_rows m, rows_for)

  module _ (l : n < large) (b : large ≤ most_rows) where
    abbrev Has : ℕ → Type 0
    Has m = (n < m) × (m ≤ most_rows)

    rows_have : Has (rows_for n large)
    rows_have =
        elim (order n small_rows) [
          | less c ↦ subst Has (sym (small_rows_for c)) (omega arith, omega arith)
          | same c ↦ on (omega arith)
          | more c ↦ on (omega arith)
        ]
      where
        on : small_rows ≤ n → Has (rows_for n large)
        on c = elim (order n middle_rows) [
          | less d ↦ subst Has (sym (middle_rows_for c d)) (omega arith, omega arith)
          | same d ↦ subst Has (sym (large_rows_for c (omega arith))) (l, b)
          | more d ↦ subst Has (sym (large_rows_for c (omega arith))) (l, b)
        ]

-- ---- the end that a function computes

module _ (most : Limits) (out : List ℕ) where
  pub end_filled : (ids bounds t : List ℕ) (q : Filled) (w : Table) (e : End) → table_of ids bounds t q ≡ w
      → e ≡ concluded (rules_within most.replicas most.ranges).limits q out ids bounds t → e ≡ table_end most out w
  unfolding table_end
  end_filled ids bounds t q w e f g = g ∙ ap (table_end most out) f

-- in the scratch that was chosen
module _ (most : Limits) (out : List ℕ) (n large : ℕ) (fill : Fill) (e : End) where
  abbrev Sized : ℕ → Type 0
  Sized m = e ≡ table_end most out (zeroed m fill) → e ≡ table_end most out (lent n large fill)

  sized : (m : ℕ) → rows_for n large ≡ m → Sized m
  sized m f g = g ∙ ap (λ x. table_end most out (zeroed x fill)) (sym f)

  pub small_sized : n < small_rows → Sized small_rows
  small_sized l = sized small_rows (small_rows_for n large l)

  pub middle_sized : small_rows ≤ n → n < middle_rows → Sized middle_rows
  middle_sized l m = sized middle_rows (middle_rows_for n large l m)

  pub large_sized : small_rows ≤ n → middle_rows ≤ n → (m : ℕ) → large ≡ m → Sized m
  large_sized l h m e = sized m (large_rows_for n large l h ∙ e)

-- ---- what it is where the bytes were opened

module _ (most : Limits) (s : List ℕ) (v : View) (o : Reads most s v) where
  reads_replicas : v.r ≤ largest_replicas
  reads_replicas = scratch_replicas o.rules most.replicas most.ranges most.records o.limits s v.r v.start o.opens

  reads_ranges : v.start.left ≤ largest_ranges
  reads_ranges = scratch_ranges o.rules most.replicas most.ranges most.records o.limits s v.r v.start o.opens

-- zeros have room
zeros_room : (i j n : ℕ) → i ≤ stride → j < n → n ≤ most_rows
    → TableRoom i j (replicate (2 * stride) 0) (replicate (3 * n) 0) (replicate (stride * n) 0)
zeros_room i j n k l b = table_room i j (2 * stride) (3 * n) (stride * n) k (omega arith) (omega arith) (omega arith) (omega arith)

module _ (most : Limits) (out : List ℕ) (k : Knowledge) where
  abbrev Good : End → Type 0
  Good e = Ended (result_of most k) out e.out e.answer

  -- what a table holds is what its call ends with
  table_good : (R : Rules) → R.limits ≡ within most.replicas most.ranges most.records → (w : Table) → TableWords w
      → (i j : ℕ) → Sheet w.ids w.bounds w.t i j w.filled k → Good (table_end most out w)
  unfolding table_end
  table_good R f w h i j sheet =
      let e = table_end most out w in
      subst (λ reply. Ended reply out e.out e.answer)
      (ap (λ L. result_reply L k) f ∙ result_is (within most.replicas most.ranges most.records) k)
      (sheet_ended most.replicas most.ranges most.records R f w.ids w.bounds w.t h.ids h.bounds w.filled i j k sheet
      out e.out e.answer refl)

  -- whichever scratch is taken
  lent_good : (n large : ℕ) (fill : Fill) → n < large → large ≤ most_rows
      → ((m : ℕ) → n < m → m ≤ most_rows → Good (table_end most out (zeroed m fill))) → Good (table_end most out (lent n large fill))
  lent_good n large fill l b h = let x = rows_have n large l b in h (rows_for n large) x.0 x.1

pub merge_opened : (most : Limits) (s : List ℕ) (v : View) (other : List ℕ) (w : View) (out u : List ℕ) (a : Answer)
    → end_of u a ≡ merged_end most s v other w out → Reads most s v → Reads most other w
    → Ended (result_of most (merge (decode s) (decode other))) out u a
unfolding merged_end
merge_opened most s v other w out u a e x y =
    let rx = reads_replicas most s v x in
    let ry = reads_replicas most other w y in
    let n = v.start.left + w.start.left + 1 in
    let fill = two_table s v.r v.start other w.r w.start in
    let k = merge (decode s) (decode other) in
    subst (Good most out k) (sym e)
    (lent_good most out k n most_rows fill (omega (arith, reads_ranges most s v x, reads_ranges most other w y)) (omega arith)
    (λ m l b. table_good most out k x.rules x.limits (zeroed m fill)
    (two_words s x.opens.bytes v.r v.start _ _ _ (words_zeros (2 * stride)) (words_zeros (3 * m)) other y.opens.bytes w.r w.start)
    (v.r + w.r) n
    (merge_sheet most.replicas most.ranges most.records x.rules x.limits _ _ _ _ _ _ _ s v.r v.start x.opens
    y.rules y.limits other w.r w.start y.opens refl (zeros_room (v.r + w.r) n m (omega (arith, rx, ry)) l b))))

pub raise_opened : (most : Limits) (s : List ℕ) (v : View) (p : Replica) (tick : ℕ) (out u : List ℕ) (a : Answer)
    → end_of u a ≡ raised_end most s v p tick out → Reads most s v → p.high < 2 ^ 64 → p.low < 2 ^ 64
    → Ended (result_of most (raise (replica_of p) tick (decode s))) out u a
unfolding raised_end
raise_opened most s v p tick out u a e x high low =
    let rx = reads_replicas most s v x in
    let n = v.start.left + 1 in
    let fill = raised_table s v.r v.start p.high p.low tick in
    let k = raise (replica_of p) tick (decode s) in
    subst (Good most out k) (sym e)
    (lent_good most out k n one_rows fill (omega (arith, reads_ranges most s v x)) (omega arith)
    (λ m l b. table_good most out k x.rules x.limits (zeroed m fill)
    (raised_words s x.opens.bytes v.r v.start _ _ _ (words_zeros (2 * stride)) (words_zeros (3 * m)) p.high p.low tick high low)
    (v.r + 1) n
    (raise_sheet most.replicas most.ranges most.records x.rules x.limits _ _ _ _ _ _ _ s v.r v.start x.opens
    p.high p.low tick refl (zeros_room (v.r + 1) n m (omega (arith, rx)) l b))))

pub normalise_by_table : (most : Limits) (s : List ℕ) (v : View) (out u : List ℕ) (a : Answer)
    → end_of u a ≡ by_table_end most s v out → Reads most s v → Ended (result_of most (normalise (decode s))) out u a
unfolding by_table_end
normalise_by_table most s v out u a e x =
    let rx = reads_replicas most s v x in
    let n = v.start.left + 1 in
    let fill = one_table s v.r v.start in
    let k = normalise (decode s) in
    subst (Good most out k) (sym e)
    (lent_good most out k n one_rows fill (omega (arith, reads_ranges most s v x)) (omega arith)
    (λ m l b. table_good most out k x.rules x.limits (zeroed m fill)
    (one_words s x.opens.bytes v.r v.start _ _ _ (words_zeros (2 * stride)) (words_zeros (3 * m)))
    v.r n
    (normalise_sheet most.replicas most.ranges most.records x.rules x.limits _ _ _ _ _ _ _ s v.r v.start x.opens
    refl (zeros_room v.r n m (omega (arith, rx)) l b))))

pub normalise_opened : (most : Limits) (s : List ℕ) (v : View) (out u : List ℕ) (a : Answer)
    → end_of u a ≡ normalised_end most s v out → Reads most s v → Ended (result_of most (normalise (decode s))) out u a
normalise_opened most s v out u a e x = go (normal_opened s v.r v.start) refl
  where
    go : (b : Bool) → normal_opened s v.r v.start ≡ b → Ended (result_of most (normalise (decode s))) out u a
    go true t =
        subst (λ reply. Ended reply out u a) (sym (normal_given most s v x t)) (end_copied s out u a (e ∙ normalised_is_copied most s v out t))
    go false t = normalise_by_table most s v out u a (e ∙ normalised_is_by_table most s v out t) x

pub project_opened : (most : Limits) (s : List ℕ) (v : View) (span : Span) (out u : List ℕ) (a : Answer)
    → end_of u a ≡ projected_end most s v span out → Reads most s v → InWords span.first → InWords span.last
    → item_of span.first ≤ item_of span.last
    → Ended (result_of most (project (item_of span.first) (item_of span.last) (decode s))) out u a
unfolding projected_end
project_opened most s v span out u a e x first last rises =
    let rx = reads_replicas most s v x in
    let n = v.start.left + 3 in
    let fill = span_table s v.r v.start span.first span.last in
    let k = project (item_of span.first) (item_of span.last) (decode s) in
    subst (Good most out k) (sym e)
    (lent_good most out k n one_rows fill (omega (arith, reads_ranges most s v x)) (omega arith)
    (λ m l b. table_good most out k x.rules x.limits (zeroed m fill)
    (span_words s x.opens.bytes v.r v.start _ _ _ (words_zeros (2 * stride)) (words_zeros (3 * m)) span.first span.last first last)
    v.r n
    (project_sheet most.replicas most.ranges most.records x.rules x.limits _ _ _ _ _ _ _ s v.r v.start x.opens
    span.first span.last refl (zeros_room v.r n m (omega (arith, rx)) l b) last rises)))

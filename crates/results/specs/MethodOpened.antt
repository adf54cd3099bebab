-- What a function on knowledges that were opened leaves, for any bytes, any view of them, any limits and any buffer: a table is filled in
-- scratch of zeros, and the call ends with what is planned for it; or the bytes are copied. And what a caller has, and what it gets. There is
-- nothing to believe here: the calls' contracts cite the replies of `ticks` and `replication`.
use Rattle.std.specs.Prelude.{ℕ, ◌+◌, ◌*◌, ◌≡◌, true, false, List, ltb, length, replicate}
use Rattle.codec.specs.Reply.{Reply, gives, refuses, first_fault, answer, after}
use Rattle.codec.specs.declared.Replica.{Replica}
use Rattle.codec.specs.declared.Span.{Span}
use Rattle.layout.specs.Knowledge as K
use Rattle.layout.specs.Knowledge.{Rules, Knowledge, encode}
use Rattle.layout.specs.Permitted.{within, rules_within, largest_ranges}
use Rattle.layout.specs.declared.Limits.{Limits}
use Rattle.ticks.specs.Calls.{result_lines}
use Rattle.lookup.specs.Method.{Opens}
use Rattle.lookup.specs.declared.View.{View}
use Rattle.normal_form.specs.MethodNormal.{normal_opened}
use Rattle.tables.specs.MethodWords.{stride, most_rows}
use Rattle.sampling.specs.MethodTables.{Table, one_table, two_table, span_table, raised_table}
use Rattle.codec.specs.MethodEnded.{End, end_of}
use Rattle.preparing.specs.MethodPrepared.{concluded}
use Rattle.results.specs.declared.Work.{Work}
use Rattle.results.specs.declared.Work.TheVariants as W

-- What a caller has and gets

-- limits as a caller gives them
abbrev pub limits_of : Limits → K.Limits
limits_of m = within m.replicas m.ranges m.records

-- the bytes were opened under these limits, and this is what was found
pub record Reads (most : Limits) (s : List ℕ) (v : View) : Type 0 where
  pub rules : Rules
  pub limits : rules.limits ≡ limits_of most
  pub opens : Opens rules s v.r v.start

-- 11 or 12, and else the bytes of the result
abbrev pub result_of : Limits → Knowledge → Reply
result_of most k = first_fault refuses (result_lines (limits_of most) k) (gives (encode k))

-- Scratch

-- rows of small and of middle scratch, and of scratch for one knowledge: row 0, one at the first item, one for each range, and two at the
-- ends of a span
abbrev pub small_rows : ℕ
small_rows = 12

abbrev pub middle_rows : ℕ
middle_rows = 34

abbrev pub one_rows : ℕ
one_rows = largest_ranges + 4

-- the rows of the scratch for a table that may come up to row n, where the large one has so many
unfoldable pub rows_for : ℕ → ℕ → ℕ
rows_for n large = elim (ltb n small_rows) [ true ↦ small_rows | false ↦ elim (ltb n middle_rows) [ true ↦ middle_rows | false ↦ large ] ]

-- the table that is filled in lists for ids, bounds and ticks
abbrev pub Fill : Type 0
Fill = List ℕ → List ℕ → List ℕ → Table

-- in zeros for n rows
abbrev pub zeroed : ℕ → Fill → Table
zeroed n fill = fill (replicate (2 * stride) 0) (replicate (3 * n) 0) (replicate (stride * n) 0)

-- in zeros of the size for row n
abbrev pub lent : ℕ → ℕ → Fill → Table
lent n large fill = zeroed (rows_for n large) fill

-- What is written by a table: the last row that the table may have, the rows of large scratch, and the table

abbrev pub row_of : Work → ℕ
row_of (W.Normalise s v) = v.start.left + 1
row_of (W.Merge s v other w) = v.start.left + w.start.left + 1
row_of (W.Raise s v p tick) = v.start.left + 1
row_of (W.Project s v x) = v.start.left + 3

abbrev pub large_for : Work → ℕ
large_for (W.Normalise s v) = one_rows
large_for (W.Merge s v other w) = most_rows
large_for (W.Raise s v p tick) = one_rows
large_for (W.Project s v x) = one_rows

abbrev pub filled_by : Work → Fill
filled_by (W.Normalise s v) = one_table s.now v.r v.start
filled_by (W.Merge s v other w) = two_table s.now v.r v.start other.now w.r w.start
filled_by (W.Raise s v p tick) = raised_table s.now v.r v.start p.high p.low tick
filled_by (W.Project s v x) = span_table s.now v.r v.start x.first x.last

-- What is left

-- with a table that was filled
unfoldable pub table_end : Limits → List ℕ → Table → End
table_end most out w = concluded (rules_within most.replicas most.ranges).limits w.filled out w.ids w.bounds w.t

-- with the table of what is written
abbrev pub work_end : Limits → Work → List ℕ → End
work_end most x out = table_end most out (lent (row_of x) (large_for x) (filled_by x))

-- with bytes that are copied, or with 14
unfoldable pub copied_end : List ℕ → List ℕ → End
copied_end s out = end_of (after (gives s) out) (answer (gives s) (length out))

unfoldable pub merged_end : Limits → List ℕ → View → List ℕ → View → List ℕ → End
merged_end most s v other w out =
    table_end most out (lent (v.start.left + w.start.left + 1) most_rows (two_table s v.r v.start other w.r w.start))

unfoldable pub raised_end : Limits → List ℕ → View → Replica → ℕ → List ℕ → End
raised_end most s v p tick out =
    table_end most out (lent (v.start.left + 1) one_rows (raised_table s v.r v.start p.high p.low tick))

-- by a table, in normal form or not
unfoldable pub by_table_end : Limits → List ℕ → View → List ℕ → End
by_table_end most s v out = table_end most out (lent (v.start.left + 1) one_rows (one_table s v.r v.start))

-- a copy of what is in normal form
unfoldable pub normalised_end : Limits → List ℕ → View → List ℕ → End
normalised_end most s v out = elim (normal_opened s v.r v.start) [ true ↦ copied_end s out | false ↦ by_table_end most s v out ]

unfoldable pub projected_end : Limits → List ℕ → View → Span → List ℕ → End
projected_end most s v x out = table_end most out (lent (v.start.left + 3) one_rows (span_table s v.r v.start x.first x.last))

-- A call that fills a table for an operation and concludes has ended as the reply of the operation's result says. The table was filled from
-- accepted bytes, so it samples the ticks of the operation; the plan of such a table is the operation's result; and the plan was judged by
-- the limits.
use Prim.Native.Nat.{ℕ, ◌+◌, ◌≤◌}
use mathlib.Core.Path.{◌≡◌, refl, sym, ap, ◌∙◌, subst}
use mathlib.Core.Bool.{false}
use mathlib.Core.List.{List}
use native.Mathlib.Omega.{arith}
use lib.ListN.{replicate}
use Rattle.codec.specs.Words.{words2}
use Rattle.codec.specs.Answer.{Answer}
use Rattle.layout.specs.Knowledge.{Limits, Rules, Knowledge, base}
use Rattle.layout.specs.Permitted.{within, rules_within}
use Rattle.layout.specs.Decode.{decode}
use Rattle.ticks.specs.Operations.{normalise, merge, project, raise, too_many_replicas, too_many_ranges}
use Rattle.ticks.specs.Calls.{id_of, wrong_span, result_lines}
use Rattle.ticks.proofs.ForCalls.{span_right}
use Rattle.tables.specs.MethodWords.{stride, cell, id_at, bound_at, Words}
use Rattle.tables.proofs.Link.{page_normalise, page_merge, page_project, page_raise}
use Rattle.loading.specs.MethodReply.{result_reply}
use Rattle.lookup.specs.declared.Cursor.{Cursor}
use Rattle.lookup.specs.Method.{Opens}
use Rattle.codec.specs.declared.Item.{Item}
use Rattle.sampling.specs.declared.Filled.{Filled}
use Rattle.codec.specs.Ids.{item_of, InWords, item_read}
use Rattle.sampling.specs.MethodTables.{table_of, one_table, two_table, span_table, raised_table, TableRoom}
use Rattle.sampling.proofs.Opening.{scratch_open}
use Rattle.lookup.proofs.Span.{item_id}
use Rattle.sampling.proofs.Tables.{one_samples, two_samples, span_samples, raised_samples}
use Rattle.codec.specs.MethodEnded.{Ended, end_of}
use Rattle.preparing.specs.MethodPrepared.{Plan, planned, concluded, Sheet}
use Rattle.preparing.proofs.Judged.{planned_prepares}
use Rattle.preparing.proofs.Ends.{concluded_ended}
use Rattle.codec.proofs.Writing.{zeros-length}

-- how many records there may be is nothing that the result of a knowledge goes by
result_within : (replicas ranges records others : ℕ) (k : Knowledge)
    → result_reply (within replicas ranges records) k ≡ result_reply (within replicas ranges others) k
unfolding result_reply result_lines too_many_replicas too_many_ranges
result_within replicas ranges records others k = refl

-- The table of an operation: it samples the operation's ticks, so its plan is the operation's result

module _ (replicas ranges records : ℕ) (R : Rules) (limits : R.limits ≡ within replicas ranges records) (ids bounds t : List ℕ) (q : Filled)
    (ids₀ bounds₀ t₀ : List ℕ) (s : List ℕ) (r : ℕ) (c : Cursor) (o : Opens R s r c) where
  pub normalise_sheet : table_of ids bounds t q ≡ one_table s r c ids₀ bounds₀ t₀ → TableRoom r (c.left + 1) ids₀ bounds₀ t₀
      → Sheet ids bounds t r (c.left + 1) q (normalise (decode s))
  normalise_sheet e room =
      let f = one_samples s r c ids₀ bounds₀ t₀ ids bounds t q e (scratch_open R replicas ranges records limits s r c o) room in record {
        columns = f.columns;
        rows = f.rows;
        in_stride = room.columns;
        in_rows = room.rows;
        is = page_normalise (id_at ids) (bound_at bounds) (cell t) q.columns q.rows (decode s) f.is;
      }

  pub raise_sheet : (p0 p1 tick : ℕ) → table_of ids bounds t q ≡ raised_table s r c p0 p1 tick ids₀ bounds₀ t₀
      → TableRoom (r + 1) (c.left + 1) ids₀ bounds₀ t₀ → Sheet ids bounds t (r + 1) (c.left + 1) q (raise (words2 p0 p1) tick (decode s))
  raise_sheet p0 p1 tick e room =
      let f = raised_samples s r c p0 p1 tick ids₀ bounds₀ t₀ ids bounds t q e (scratch_open R replicas ranges records limits s r c o) room in record {
        columns = f.columns;
        rows = f.rows;
        in_stride = room.columns;
        in_rows = room.rows;
        is = page_raise (id_at ids) (bound_at bounds) (cell t) q.columns q.rows (words2 p0 p1) tick (decode s) f.is;
      }

  pub project_sheet : (first last : Item) → table_of ids bounds t q ≡ span_table s r c first last ids₀ bounds₀ t₀
      → TableRoom r (c.left + 3) ids₀ bounds₀ t₀ → InWords last → item_of first ≤ item_of last
      → Sheet ids bounds t r (c.left + 3) q (project (item_of first) (item_of last) (decode s))
  project_sheet first last e room words span =
      let f = span_samples s r c first last ids₀ bounds₀ t₀ ids bounds t q e (scratch_open R replicas ranges records limits s r c o) room words span in record {
        columns = f.columns;
        rows = f.rows;
        in_stride = room.columns;
        in_rows = room.rows;
        is = page_project (id_at ids) (bound_at bounds) (cell t) q.columns q.rows (item_of first) (item_of last) (decode s) f.is;
      }

  pub merge_sheet : (S : Rules) → S.limits ≡ within replicas ranges records → (other : List ℕ) (m : ℕ) (d : Cursor) → Opens S other m d
      → table_of ids bounds t q ≡ two_table s r c other m d ids₀ bounds₀ t₀ → TableRoom (r + m) (c.left + d.left + 1) ids₀ bounds₀ t₀
      → Sheet ids bounds t (r + m) (c.left + d.left + 1) q (merge (decode s) (decode other))
  merge_sheet S same-limits other m d u e room =
      let f = two_samples s r c other m d ids₀ bounds₀ t₀ ids bounds t q e (scratch_open R replicas ranges records limits s r c o)
      (scratch_open S replicas ranges records same-limits other m d u) room in record {
        columns = f.columns;
        rows = f.rows;
        in_stride = room.columns;
        in_rows = room.rows;
        is = page_merge (id_at ids) (bound_at bounds) (cell t) q.columns q.rows (decode s) (decode other) f.is;
      }

-- the limits of a caller's rules, and what is planned by them
module _ (replicas ranges records : ℕ) (R : Rules) (limits : R.limits ≡ within replicas ranges records) where
  abbrev own : Limits
  own = (rules_within replicas ranges).limits

  same_result : (k : Knowledge) → result_reply own k ≡ result_reply R.limits k
  same_result k = result_within replicas ranges base.records records k ∙ ap (λ L. result_reply L k) (sym limits)

  module _ (ids bounds t : List ℕ) (wi : Words ids) (wb : Words bounds) (q : Filled) where
    -- a call that concludes with the table has ended as its result says
    pub sheet_ended : (m n : ℕ) (k : Knowledge) → Sheet ids bounds t m n q k → (out u : List ℕ) (a : Answer)
        → end_of u a ≡ concluded own q out ids bounds t → Ended (result_reply R.limits k) out u a
    sheet_ended m n k s out u a e =
        subst (λ reply. Ended reply out u a) (same_result k)
        (concluded_ended own q out ids bounds t (result_reply own k) u a e
        (λ x l. planned_prepares own q ids t (replicate stride 0) (replicate x 0) (replicate x 0) bounds
        (w x).cols (w x).firsts (w x).numbers (w x).prepared refl (omega (arith, s.columns, s.in_stride)) (omega (arith, s.rows, s.in_rows))
        (omega (arith, zeros-length stride, s.columns, s.in_stride)) (omega (arith, zeros-length x)) (omega (arith, zeros-length x)) wi wb k s.is)
        (omega (arith, s.rows, s.in_rows)))
      where
        w : ℕ → Plan
        w x = planned own q ids t (replicate stride 0) (replicate x 0) (replicate x 0)

-- ids of a span, as words
module _ (first last : List ℕ) (right : wrong_span first last ≡ false) where
  pub first_item_lem : (f : Item) → f ≡ item_read first → item_of f ≡ id_of 24 first
  first_item_lem f e = ap item_of e ∙ item_id first (span_right first last right).0

  pub last_item : (l : Item) → l ≡ item_read last → item_of l ≡ id_of 24 last
  last_item l e = ap item_of e ∙ item_id last (span_right first last right).1.0

  pub span_rises : (f l : Item) → f ≡ item_read first → l ≡ item_read last → item_of f ≤ item_of l
  span_rises f l e g = omega (arith, first_item_lem f e, last_item l g, (span_right first last right).1.1)

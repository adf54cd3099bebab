-- A batch opens exactly where the code's tests hold, and then as the value at its places (`opened_batch`, for any bytes and limits), as a
-- store does in Store.antt. Last, "learned unchanged by projecting" said of ticks: a knowledge in normal form is left as it
-- is exactly where it knows nothing of an item outside the span (`unchanged_ticks`), as normal forms with the same ticks are equal.
use Prim.Native.Nat.{ℕ, ◌≤◌, ◌<◌}
use mathlib.Core.Path.{◌≡◌, refl, sym, ap, ap₂, ◌∙◌}
use mathlib.Core.Logic.{◌⊎◌, ◌↔◌}
use mathlib.Core.Bool.{true, false}
use mathlib.Core.List.{List}
use mathlib.Core.Option.{some}
use native.Mathlib.Omega.{arith}
use lib.Dec.{leb, eqb}
use lib.ListN.{length, take, drop}
use borrow.Author.Tests.{le-leb, eq-eqb, leb-true, eqb-true}
use Rattle.codec.specs.Number.{be_at}
use Rattle.codec.specs.Parsed.{accepted, refused}
use Rattle.layout.specs.Knowledge.{Limits, any_id, Knowledge}
use Rattle.layout.specs.Decode.{decode}
use Rattle.layout.proofs.Places.{Reading}
use Rattle.ticks.specs.Meaning.{highest, known}
use Rattle.ticks.specs.Written.{is_normal, eq_knowledge}
use Rattle.ticks.specs.Table.{in_span}
use Rattle.ticks.specs.Operations.{project}
use Rattle.ticks.specs.Calls.{read_as}
use Rattle.ticks.proofs.ForCode.{reading}
use Rattle.ticks.proofs.Equality.{eq_knowledge-sound, eq_knowledge_self}
use Rattle.ticks.proofs.Operations.{normal_test}
use Rattle.ticks.proofs.Algebra.{project_same, project_outside}
use Rattle.replication.specs.Record.{Rec}
use Rattle.replication.specs.BatchFormat.{Batch}
use Rattle.replication.specs.Reading.{both}
use Rattle.replication.specs.OpenStore.{versions_in}
use Rattle.replication.specs.OpenBatch.{first_id, last_id, needed_length, learned_length, batch_count, batch_needed, batch_learned, batch_table}
use Rattle.replication.specs.OpenBatch.{lacks_change, carried, decode_batch, if_valid_batch, open_batch}
use Rattle.replication.specs.MethodTable.{table_at}
use Rattle.replication.specs.MethodRecords.{records_at, shaped_at, each}
use Rattle.replication.specs.MethodOpening.{accepted_if, is_accepted}
use Rattle.replication.specs.MethodOpening.{needed_read, learned_read, batch_at, unchanged, is_batch}
use Rattle.replication.proofs.Tables.Rising.{both_parts, both_holds}
use Rattle.replication.proofs.Bytes.Batch.{decode_of, if_valid_lem, batch_read, ReadBatch, ValidBatch, batch_valid_of, batch_valid_parts}
use Rattle.replication.proofs.Tables.Walked.{count_records}
use Rattle.replication.proofs.Contents.Valid.{batch_number_lem}
use Rattle.replication.proofs.Opening.Records.{if_holds, if_fails, fails, opens_if, accepted_is, is_accepted_lem, read_is}
use Rattle.replication.proofs.Opening.Records.{ordered_read, ordered_valid, read_counted, valid_ordered, ordered_table}

-- the tests by their names
pub record BatchTests (L : Limits) (s : List ℕ) : Type 0 where
  pub header : batch_needed ≤ length s
  pub kind : be_at s 1 0 ≡ 4
  pub inside : batch_table s ≤ length s
  pub count : batch_count s ≤ L.records
  pub span : first_id s ≤ last_id s
  pub ordered : shaped_at s 0 (batch_count s) (batch_table s) ≡ true
  pub needed_accepted : is_accepted (needed_read L s) ≡ true
  pub needed_normal : is_normal (read_as (needed_read L s)) ≡ true
  pub learned_accepted : is_accepted (learned_read L s) ≡ true
  pub learned_normal : is_normal (read_as (learned_read L s)) ≡ true
  pub projected : unchanged (first_id s) (last_id s) (read_as (learned_read L s)) ≡ true
  pub carries : each (carried (batch_at L s)) (records_at s (batch_count s) (batch_table s)) ≡ true

module _ (L : Limits) (s : List ℕ) where
  pub tests_batch : BatchTests L s → is_batch L s ≡ true
  unfolding is_batch
  tests_batch t =
      both_holds _ _ (le-leb batch_needed (length s) t.header)
      (both_holds _ _ (eq-eqb (be_at s 1 0) 4 t.kind)
      (both_holds _ _ (le-leb (batch_table s) (length s) t.inside)
      (both_holds _ _ (le-leb (batch_count s) L.records t.count)
      (both_holds _ _ (le-leb (first_id s) (last_id s) t.span)
      (both_holds _ _ t.ordered
      (both_holds _ _ t.needed_accepted
      (both_holds _ _ t.needed_normal
      (both_holds _ _ t.learned_accepted
      (both_holds _ _ t.learned_normal (both_holds _ _ t.projected t.carries))))))))))

  pub batch_tests_hold : is_batch L s ≡ true → BatchTests L s
  unfolding is_batch
  batch_tests_hold e =
      let a = both_parts (leb batch_needed (length s)) _ e in
      let b = both_parts (eqb (be_at s 1 0) 4) _ a.1 in
      let c = both_parts (leb (batch_table s) (length s)) _ b.1 in
      let d = both_parts (leb (batch_count s) L.records) _ c.1 in
      let f = both_parts (leb (first_id s) (last_id s)) _ d.1 in
      let g = both_parts (shaped_at s 0 (batch_count s) (batch_table s)) _ f.1 in
      let h = both_parts (is_accepted (needed_read L s)) _ g.1 in
      let i = both_parts (is_normal (read_as (needed_read L s))) _ h.1 in
      let j = both_parts (is_accepted (learned_read L s)) _ i.1 in
      let k = both_parts (is_normal (read_as (learned_read L s))) _ j.1 in
      let l = both_parts (unchanged (first_id s) (last_id s) (read_as (learned_read L s))) _ k.1 in
      record {
        header = leb-true batch_needed (length s) a.0;
        kind = eqb-true (be_at s 1 0) 4 b.0;
        inside = leb-true (batch_table s) (length s) c.0;
        count = leb-true (batch_count s) L.records d.0;
        span = leb-true (first_id s) (last_id s) f.0;
        ordered = g.0;
        needed_accepted = h.0;
        needed_normal = i.0;
        learned_accepted = j.0;
        learned_normal = k.0;
        projected = l.0;
        carries = l.1;
      }

  pub batch_tests : (is_batch L s ≡ true) ↔ BatchTests L s
  batch_tests = (batch_tests_hold, tests_batch)

  -- where a test fails
  pub no_batch : (BatchTests L s → ⊥) → is_batch L s ≡ false
  no_batch n = fails (is_batch L s) (λ e. n (batch_tests_hold e))

  -- ---- the value at its places

  pub batch_first : (batch_at L s).first ≡ first_id s
  unfolding batch_at
  batch_first = refl

  pub batch_last : (batch_at L s).last ≡ last_id s
  unfolding batch_at
  batch_last = refl

  pub batch_needed_lem : (batch_at L s).needed ≡ read_as (needed_read L s)
  unfolding batch_at
  batch_needed_lem = refl

  pub batch_learned_lem : (batch_at L s).learned ≡ read_as (learned_read L s)
  unfolding batch_at
  batch_learned_lem = refl

  pub batch_records : (batch_at L s).records ≡ records_at s (batch_count s) (batch_table s)
  unfolding batch_at
  batch_records = refl

  -- each knowledge is what its part of the bytes decodes to, where the check accepts the part
  pub needed_decodes : (r v e g : ℕ) → Reading (any_id L) (take (needed_length s) (drop batch_needed s)) r v e g
      → (batch_at L s).needed ≡ decode (take (needed_length s) (drop batch_needed s))
  needed_decodes r v e g h =
      let part = take (needed_length s) (drop batch_needed s) in
      batch_needed_lem ∙ read_is (needed_read L s) (decode part) (reading (any_id L) part r v e g h)

  pub learned_decodes : (r v e g : ℕ) → Reading (any_id L) (take (learned_length s) (drop (batch_learned s) s)) r v e g
      → (batch_at L s).learned ≡ decode (take (learned_length s) (drop (batch_learned s) s))
  learned_decodes r v e g h =
      let part = take (learned_length s) (drop (batch_learned s) s) in
      batch_learned_lem ∙ read_is (learned_read L s) (decode part) (reading (any_id L) part r v e g h)

  -- the records are those that a walker goes through
  pub batch_walked : BatchTests L s → table_at s (batch_table s) ≡ (batch_at L s).records
  batch_walked t = ordered_table s 0 (batch_count s) (batch_table s) t.ordered ∙ sym batch_records

  -- what a record must meet, by places
  pub carried_is : (r : Rec) → carried (batch_at L s) r
      ≡ both (in_span (first_id s) (last_id s) r.item)
      (both (versions_in (read_as (learned_read L s)) r) (lacks_change (read_as (needed_read L s)) r))
  unfolding carried batch_at
  carried_is r = refl

  -- ---- from the tests to the batch

  tests_valid : BatchTests L s → ValidBatch L (batch_at L s)
  unfolding batch_at unchanged
  tests_valid t =
      record {
        count = omega (arith, t.count, count_records s (batch_count s) (batch_table s));
        span = t.span;
        needed = t.needed_normal;
        learned = t.learned_normal;
        projected = t.projected;
        records = ordered_valid (carried (batch_at L s)) s 0 (batch_count s) (batch_table s) t.ordered t.carries;
      }

  tests_decode : BatchTests L s → decode_batch L s ≡ some (batch_at L s)
  unfolding batch_at
  tests_decode t =
      decode_of L s (needed_length s) (learned_length s) (batch_count s) (read_as (needed_read L s)) (read_as (learned_read L s))
      (records_at s (batch_count s) (batch_table s)) t.kind refl refl refl t.inside
      (accepted_is (needed_read L s) t.needed_accepted) (accepted_is (learned_read L s) t.learned_accepted)
      (ordered_read s 0 (batch_count s) (batch_table s) t.ordered)

  tests_open : BatchTests L s → open_batch L s ≡ accepted (batch_at L s)
  unfolding open_batch
  tests_open t = ap (if_valid_batch L) (tests_decode t) ∙ if_valid_lem L (batch_at L s) (batch_valid_of L (batch_at L s) (tests_valid t))

  -- ---- and back

  module _ (b : Batch) (h : ReadBatch L s b) (v : ValidBatch L b) where
    needed_is : read_as (needed_read L s) ≡ b.needed
    needed_is = read_is (needed_read L s) b.needed h.needed

    learned_is : read_as (learned_read L s) ≡ b.learned
    learned_is = read_is (learned_read L s) b.learned h.learned

    records_are : records_at s (batch_count s) (batch_table s) ≡ b.records
    records_are = read_counted s (batch_count s) (batch_table s) b.records h.records

    value_is : batch_at L s ≡ b
    unfolding batch_at
    value_is = λ i. record {
      first = h.first i;
      last = h.last i;
      needed = needed_is i;
      learned = learned_is i;
      records = records_are i;
    }

    in_order_lem : (shaped_at s 0 (batch_count s) (batch_table s) ≡ true)
        × (each (carried b) (records_at s (batch_count s) (batch_table s)) ≡ true)
    in_order_lem = valid_ordered (carried b) s 0 (batch_count s) (batch_table s) b.records h.records v.records

    counted : batch_count s ≡ length b.records
    counted = sym (count_records s (batch_count s) (batch_table s)) ∙ ap length records_are

    same_span : unchanged (first_id s) (last_id s) (read_as (learned_read L s)) ≡ true
    unfolding unchanged
    same_span =
        ap (unchanged (first_id s) (last_id s)) learned_is
        ∙ ap₂ (λ (x y : ℕ). unchanged x y b.learned) h.first h.last ∙ v.projected

    read_tests : BatchTests L s
    read_tests =
        record {
          header = omega (arith, h.inside);
          kind = h.kind;
          inside = h.inside;
          count = omega (arith, counted, v.count);
          span = omega (arith, h.first, h.last, v.span);
          ordered = in_order_lem.0;
          needed_accepted = is_accepted_lem (needed_read L s) b.needed h.needed;
          needed_normal = ap is_normal needed_is ∙ v.needed;
          learned_accepted = is_accepted_lem (learned_read L s) b.learned h.learned;
          learned_normal = ap is_normal learned_is ∙ v.learned;
          projected = same_span;
          carries = ap (λ (x : Batch). each (carried x) (records_at s (batch_count s) (batch_table s))) value_is ∙ in_order_lem.1;
        }

  open_tests : (b : Batch) → open_batch L s ≡ accepted b → BatchTests L s
  open_tests b e = let o = batch_read L s b e in read_tests b o.0 (batch_valid_parts L b o.1)

  -- ---- opening is the tests and the value

  pub opened_batch : open_batch L s ≡ accepted_if 16 (is_batch L s) (batch_at L s)
  opened_batch =
      opens_if 16 (is_batch L s) (batch_at L s) (open_batch L s) (λ e. tests_open (batch_tests_hold e))
      (λ b e. tests_batch (open_tests b e)) (batch_number_lem L s)

  pub batch_opens : is_batch L s ≡ true → open_batch L s ≡ accepted (batch_at L s)
  batch_opens e = opened_batch ∙ if_holds 16 (is_batch L s) (batch_at L s) e

  pub batch_refuses : is_batch L s ≡ false → open_batch L s ≡ refused 16
  batch_refuses e = opened_batch ∙ if_fails 16 (is_batch L s) (batch_at L s) e

-- ---- learned unchanged by projecting, said of ticks

-- it knows nothing of an item outside the span
abbrev pub NothingOutside : ℕ → ℕ → Knowledge → Type 0
NothingOutside first last k = (i p : ℕ) → i ≤ highest → (i < first) ⊎ (last < i) → known k i p ≡ 0

pub unchanged_ticks : (first last : ℕ) (k : Knowledge) → is_normal k ≡ true → (unchanged first last k ≡ true) ↔ NothingOutside first last k
unfolding unchanged
unchanged_ticks first last k n = (
  λ e i p h o. project_outside first last k i p (eq_knowledge-sound (project first last k) k e) h o,
  λ f.
      ap (λ (x : Knowledge). eq_knowledge x k) (project_same first last k ((normal_test k).0 n) f) ∙ eq_knowledge_self k,
)

-- one tick outside the span is enough for a change, in normal form or not
pub outside_changes : (first last : ℕ) (k : Knowledge) (i p : ℕ) → i ≤ highest → (i < first) ⊎ (last < i) → 1 ≤ known k i p
    → unchanged first last k ≡ false
unfolding unchanged
outside_changes first last k i p h o t =
    fails (unchanged first last k)
    (λ e. omega (arith, project_outside first last k i p (eq_knowledge-sound (project first last k) k e) h o, t))

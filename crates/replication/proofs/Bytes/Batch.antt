-- Batches and their bytes, both ways. A batch whose values have room in their fields and that is valid is read back
-- from its bytes; bytes that open as a batch are exactly its bytes, and it is such a batch. The fields in front have
-- fixed places, the needed knowledge stands at 61 and the learned one after it, each exact by the laws of its layout,
-- and the records follow to the very end. Last, the parts of "a valid batch" by their names.
use Prim.Native.Nat.{ℕ, ◌+◌, ◌^◌, ◌<◌, ◌≤◌}
use mathlib.Core.Path.{◌≡◌, refl, sym, ap, ap₂, ◌∙◌}
use mathlib.Core.Bool.{true}
use mathlib.Core.Logic.{◌↔◌}
use mathlib.Core.List.{List, [], ◌++◌}
use mathlib.Core.Option.{Option, none, some}
use native.Mathlib.Omega.{arith}
use lib.Dec.{leb, eqb}
use lib.ListN.{length, take, drop}
use borrow.Author.Tests.{le-leb, eq-eqb, leb-true, eqb-true}
use Rattle.codec.specs.Number.{Bytes, be_at}
use Rattle.codec.proofs.Numbers.{be_below}
use Rattle.layout.specs.Knowledge.{put_fields, Limits, any_id, Knowledge, encode, All, Lawful}
use Rattle.layout.specs.Permitted.{Permitted}
use Rattle.layout.specs.Parse.{parse}
use Rattle.layout.proofs.Chain.{Stands, stands_whole, fields_over, Fit}
use Rattle.layout.proofs.Runs.{ReadAs, run_bytes, run_reads, run_back}
use Rattle.layout.proofs.Forward.{encode_bytes}
use Rattle.layout.proofs.Exact.{exact, read_back}
use Rattle.ticks.specs.Written.{is_normal, eq_knowledge}
use Rattle.ticks.specs.Operations.{project}
use Rattle.replication.specs.Formats.{put_recs}
use Rattle.replication.specs.BatchFormat.{Batch, encode_batch, batch_fields}
use Rattle.replication.specs.Reading.{recs_at, valid_recs}
use Rattle.replication.specs.OpenBatch.{first_id, last_id, needed_length, learned_length, batch_count, batch_needed, batch_learned}
use Rattle.replication.specs.OpenBatch.{batch_table, batch_with, batch_after, batch_from, decode_batch, carried, valid_batch, if_valid_batch}
use Rattle.replication.specs.OpenBatch.{open_batch}
use Rattle.replication.proofs.Bytes.Part.{part_over, part_reads, part_length_lem, part_back, no_bytes, append-bytes, part_bytes_lem, test_back, valid_back, both_left, both_right}
use Rattle.replication.proofs.Tables.Rising.{both_holds}
use Rattle.replication.proofs.Bytes.Record.{FitsRec, recs_bytes, recs_read, Read, recs_back}
use Rattle.replication.proofs.Bytes.Store.{length-fits}
use Rattle.replication.specs.Record.{Rec}
use Rattle.codec.specs.Parsed.{Parsed, accepted, refused}

-- a batch whose values have room in their fields
pub record FitsBatch (L : Limits) (b : Batch) : Type 0 where
  pub first : b.first < 256 ^ 24
  pub last : b.last < 256 ^ 24
  pub needed : Lawful (any_id L) b.needed
  pub learned : Lawful (any_id L) b.learned
  pub count : length b.records < 256 ^ 4
  pub records : All FitsRec b.records

-- the parts after the fields
abbrev bodies : Batch → List ℕ
bodies b = encode b.needed ++ (encode b.learned ++ put_recs b.records [])

pub batch_bytes_lem : (b : Batch) → Bytes (encode_batch b)
unfolding encode_batch
batch_bytes_lem b =
    run_bytes (batch_fields b) (bodies b)
    (append-bytes (encode b.needed) (encode b.learned ++ put_recs b.records []) (encode_bytes b.needed)
    (append-bytes (encode b.learned) (put_recs b.records []) (encode_bytes b.learned) (recs_bytes b.records [] no_bytes)))

-- ---- writing and reading back

fits_fields : (L : Limits) (b : Batch) → Permitted L → FitsBatch L b → All Fit (batch_fields b)
unfolding batch_fields
fits_fields L b p f = (
  record { below = omega arith },
  (
    record { below = f.first },
    (
      record { below = f.last },
      (
        record { below = length-fits L b.needed p f.needed },
        (record { below = length-fits L b.learned p f.learned }, (record { below = f.count }, tt)),
      ),
    ),
  ),
)

module _ (b : Batch) where
  at_needed : Stands (encode_batch b) batch_needed (encode b.needed ++ (encode b.learned ++ put_recs b.records []))
  unfolding encode_batch batch_fields
  at_needed = fields_over (encode_batch b) 0 (batch_fields b) (bodies b) (stands_whole (encode_batch b))

  at_learned : Stands (encode_batch b) (batch_needed + length (encode b.needed)) (encode b.learned ++ put_recs b.records [])
  at_learned = part_over (encode_batch b) batch_needed (encode b.needed) _ at_needed

  at_records : Stands (encode_batch b) (batch_needed + length (encode b.needed) + length (encode b.learned)) (put_recs b.records [])
  at_records = part_over (encode_batch b) (batch_needed + length (encode b.needed)) (encode b.learned) _ at_learned

  header : All Fit (batch_fields b) → ReadAs (encode_batch b) 0 0 (batch_fields b)
  unfolding encode_batch
  header f = run_reads (encode_batch b) 0 0 (batch_fields b) (bodies b) (stands_whole (encode_batch b)) f

-- the tests in front hold
tests_hold : (L : Limits) (s : List ℕ) → be_at s 1 0 ≡ 4 → batch_table s ≤ length s →
    decode_batch L s ≡ batch_from L s (parse (any_id L) (take (needed_length s) (drop batch_needed s)))
unfolding decode_batch
tests_hold L s e l = rw (eq-eqb (be_at s 1 0) 4 e, le-leb (batch_table s) (length s) l, decode_batch)

-- bytes whose parts are known are read as a batch
pub decode_of : (L : Limits) (s : List ℕ) (n m c : ℕ) (k l : Knowledge) (rs : List Rec) → be_at s 1 0 ≡ 4 → needed_length s ≡ n → learned_length s ≡ m →
    batch_count s ≡ c → batch_needed + n + m ≤ length s → parse (any_id L) (take n (drop batch_needed s)) ≡ accepted k →
    parse (any_id L) (take m (drop (batch_needed + n) s)) ≡ accepted l → recs_at s c (batch_needed + n + m) ≡ some rs →
    decode_batch L s ≡ some (record { first = first_id s; last = last_id s; needed = k; learned = l; records = rs })
unfolding batch_from batch_after batch_with
decode_of L s n m c k l rs e f g h i j q u =
    tests_hold L s e (omega arith)
    ∙ ap (batch_from L s) (ap (λ (x : ℕ). parse (any_id L) (take x (drop batch_needed s))) f ∙ j)
    ∙ ap (batch_after s k) (ap₂ (λ (x y : ℕ). parse (any_id L) (take x (drop (batch_needed + y) s))) g f ∙ q)
    ∙ ap (batch_with s k l) (ap₂ (λ (x y : ℕ). recs_at s x (batch_needed + y + learned_length s)) h f ∙ ap (λ (x : ℕ). recs_at s c (batch_needed + n + x)) g ∙ u)

pub batch_decode : (L : Limits) (b : Batch) → Permitted L → FitsBatch L b → decode_batch L (encode_batch b) ≡ some b
unfolding batch_fields
batch_decode L b p f =
    let s = encode_batch b in
    let n = length (encode b.needed) in
    let m = length (encode b.learned) in
    let w = header b (fits_fields L b p f) in
    decode_of L s n m (length b.records) b.needed b.learned b.records w.0 w.1.1.1.0 w.1.1.1.1.0 w.1.1.1.1.1.0
    (at_records b).inside
    (ap (parse (any_id L)) (part_reads s batch_needed (encode b.needed) _ (at_needed b)) ∙ read_back (any_id L) p b.needed f.needed)
    (ap (parse (any_id L)) (part_reads s (batch_needed + n) (encode b.learned) _ (at_learned b)) ∙ read_back (any_id L) p b.learned f.learned)
    (recs_read s (batch_needed + n + m) b.records f.records (at_records b))
    ∙ ap₂ (λ (x y : ℕ). some (record { first = x; last = y; needed = b.needed; learned = b.learned; records = b.records })) w.1.0 w.1.1.0

pub if_valid_lem : (L : Limits) (b : Batch) → valid_batch L b ≡ true → if_valid_batch L (some b) ≡ accepted b
unfolding if_valid_batch
if_valid_lem L b v = rw (v, if_valid_batch)

pub batch_open : (L : Limits) (b : Batch) → Permitted L → FitsBatch L b → valid_batch L b ≡ true →
    open_batch L (encode_batch b) ≡ accepted b
unfolding open_batch
batch_open L b p f v = ap (if_valid_batch L) (batch_decode L b p f) ∙ if_valid_lem L b v

-- ---- reading and writing again

-- what bytes that are read as a batch hold
pub record ReadBatch (L : Limits) (s : List ℕ) (b : Batch) : Type 0 where
  pub kind : be_at s 1 0 ≡ 4
  pub inside : batch_table s ≤ length s
  pub first : first_id s ≡ b.first
  pub last : last_id s ≡ b.last
  pub needed : parse (any_id L) (take (needed_length s) (drop batch_needed s)) ≡ accepted b.needed
  pub learned : parse (any_id L) (take (learned_length s) (drop (batch_learned s) s)) ≡ accepted b.learned
  pub records : recs_at s (batch_count s) (batch_table s) ≡ some b.records

-- the parts of a batch that was put together
record Parts (s : List ℕ) (k l : Knowledge) (o : Option (List Rec)) (b : Batch) : Type 0 where
  first : first_id s ≡ b.first
  last : last_id s ≡ b.last
  needed : k ≡ b.needed
  learned : l ≡ b.learned
  records : o ≡ some b.records

with_back : (s : List ℕ) (k l : Knowledge) (o : Option (List Rec)) (b : Batch) → batch_with s k l o ≡ some b → Parts s k l o b
unfolding batch_with
with_back s k l none b e = absurd (let z : ◌≡◌ {A = ℕ} 0 1 = cc in omega arith)
with_back s k l (some rs) b e = record { first = cc; last = cc; needed = cc; learned = cc; records = cc }

after_back : (s : List ℕ) (k : Knowledge) (q : Parsed Knowledge) (b : Batch) (C : Type 0) → batch_after s k q ≡ some b →
    ((l : Knowledge) → q ≡ accepted l → Parts s k l (recs_at s (batch_count s) (batch_table s)) b → C) → C
unfolding batch_after
after_back s k (refused n) b C e c = absurd (let z : ◌≡◌ {A = ℕ} 0 1 = cc in omega arith)
after_back s k (accepted l) b C e c = c l refl (with_back s k l (recs_at s (batch_count s) (batch_table s)) b e)

from_back : (L : Limits) (s : List ℕ) (q : Parsed Knowledge) (b : Batch) (C : Type 0) → batch_from L s q ≡ some b →
    ((k : Knowledge) → q ≡ accepted k → batch_after s k (parse (any_id L) (take (learned_length s) (drop (batch_learned s) s))) ≡ some b → C) → C
unfolding batch_from
from_back L s (refused n) b C e c = absurd (let z : ◌≡◌ {A = ℕ} 0 1 = cc in omega arith)
from_back L s (accepted k) b C e c = c k refl e

decode_back : (L : Limits) (s : List ℕ) (b : Batch) → decode_batch L s ≡ some b → ReadBatch L s b
unfolding decode_batch
decode_back L s b e =
    test_back (eqb (be_at s 1 0) 4) _ b (ReadBatch L s b) e (λ t e.
    test_back (leb (batch_table s) (length s)) _ b (ReadBatch L s b) e (λ u e.
    from_back L s (parse (any_id L) (take (needed_length s) (drop batch_needed s))) b (ReadBatch L s b) e (λ k v e.
    after_back s k (parse (any_id L) (take (learned_length s) (drop (batch_learned s) s))) b (ReadBatch L s b) e (λ l w h.
    record {
      kind = eqb-true (be_at s 1 0) 4 t;
      inside = leb-true (batch_table s) (length s) u;
      first = h.first;
      last = h.last;
      needed = v ∙ ap accepted h.needed;
      learned = w ∙ ap accepted h.learned;
      records = h.records;
    }))))

open_back : (L : Limits) (o : Option Batch) (b : Batch) → if_valid_batch L o ≡ accepted b → (o ≡ some b) × (valid_batch L b ≡ true)
unfolding if_valid_batch
open_back L none b e = absurd (let z : ◌≡◌ {A = ℕ} 0 1 = cc in omega arith)
open_back L (some x) b e =
    let h = valid_back (valid_batch L x) x b 16 e in
    (ap some h.1, ap (valid_batch L) (sym h.1) ∙ h.0)

module _ (L : Limits) (s : List ℕ) (b : Batch) (p : Permitted L) (y : Bytes s) (h : ReadBatch L s b) where
  held_needed : (take (needed_length s) (drop batch_needed s) ≡ encode b.needed) × Lawful (any_id L) b.needed
  held_needed = (exact (any_id L) p (take (needed_length s) (drop batch_needed s)) b.needed (part_bytes_lem s (needed_length s) batch_needed y)).0 h.needed

  held_learned : (take (learned_length s) (drop (batch_learned s) s) ≡ encode b.learned) × Lawful (any_id L) b.learned
  held_learned =
      (exact (any_id L) p (take (learned_length s) (drop (batch_learned s) s)) b.learned (part_bytes_lem s (learned_length s) (batch_learned s) y)).0 h.learned

  needed-length : needed_length s ≡ length (encode b.needed)
  needed-length = sym (part_length_lem s (needed_length s) batch_needed (omega (arith, h.inside))) ∙ ap length held_needed.0

  learned-length : learned_length s ≡ length (encode b.learned)
  learned-length = sym (part_length_lem s (learned_length s) (batch_learned s) h.inside) ∙ ap length held_learned.0

  held_records : Read s (batch_count s) (batch_table s) b.records
  held_records = recs_back s (batch_count s) (batch_table s) b.records y h.records

  held_fits : FitsBatch L b
  held_fits = record {
    first = rw (← h.first) (be_below s 24 1 y);
    last = rw (← h.last) (be_below s 24 25 y);
    needed = held_needed.1;
    learned = held_learned.1;
    count = rw held_records.count (be_below s 4 57 y);
    records = held_records.fits;
  }

  held_bodies : drop batch_needed s ≡ bodies b
  held_bodies =
      part_back s (needed_length s) batch_needed
      ∙ ap₂ (λ x t. x ++ t) held_needed.0
      (part_back s (learned_length s) (batch_learned s) ∙ ap₂ (λ x t. x ++ t) held_learned.0 held_records.bytes)

  held_bytes : s ≡ encode_batch b
  unfolding encode_batch batch_fields
  held_bytes =
      run_back s 0 0 (batch_fields b) y (h.kind, (h.first, (h.last, (needed-length, (learned-length, (sym held_records.count, tt)))))) (omega (arith, h.inside))
      ∙ ap (put_fields (batch_fields b)) held_bodies

-- bytes that open: they were read so, and the value is valid
pub batch_read : (L : Limits) (s : List ℕ) (b : Batch) → open_batch L s ≡ accepted b → ReadBatch L s b × (valid_batch L b ≡ true)
unfolding open_batch
batch_read L s b e =
    let o = open_back L (decode_batch L s) b e in
    (decode_back L s b o.0, o.1)

pub batch_opened_lem : (L : Limits) (s : List ℕ) (b : Batch) → Permitted L → Bytes s → open_batch L s ≡ accepted b →
    (s ≡ encode_batch b) × (FitsBatch L b × (valid_batch L b ≡ true))
batch_opened_lem L s b p y e =
    let o = batch_read L s b e in
    (held_bytes L s b p y o.0, (held_fits L s b p y o.0, o.1))

-- ---- a valid batch, part by part

pub record ValidBatch (L : Limits) (b : Batch) : Type 0 where
  pub count : length b.records ≤ L.records
  pub span : b.first ≤ b.last
  pub needed : is_normal b.needed ≡ true
  pub learned : is_normal b.learned ≡ true
  pub projected : eq_knowledge (project b.first b.last b.learned) b.learned ≡ true
  pub records : valid_recs (carried b) 0 b.records ≡ true

module _ (L : Limits) (b : Batch) where
  pub batch_valid_of : ValidBatch L b → valid_batch L b ≡ true
  unfolding valid_batch
  batch_valid_of v =
      both_holds _ _ (le-leb (length b.records) L.records v.count)
      (both_holds _ _ (le-leb b.first b.last v.span)
      (both_holds _ _ v.needed (both_holds _ _ v.learned (both_holds _ _ v.projected v.records))))

  pub batch_valid_parts : valid_batch L b ≡ true → ValidBatch L b
  unfolding valid_batch
  batch_valid_parts v =
      let spanned = both_right (leb (length b.records) L.records) _ v in
      let needed = both_right (leb b.first b.last) _ spanned in
      let learned = both_right (is_normal b.needed) _ needed in
      let projected = both_right (is_normal b.learned) _ learned in
      record {
        count = leb-true (length b.records) L.records (both_left _ _ v);
        span = leb-true b.first b.last (both_left _ _ spanned);
        needed = both_left _ _ needed;
        learned = both_left _ _ learned;
        projected = both_left _ _ projected;
        records = both_right (eq_knowledge (project b.first b.last b.learned) b.learned) _ projected;
      }

  pub valid_batch_lem : (valid_batch L b ≡ true) ↔ ValidBatch L b
  valid_batch_lem = (batch_valid_parts, batch_valid_of)

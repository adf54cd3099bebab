-- Stores and their bytes, both ways. A store whose values have room in their fields and that is valid is read back
-- from its bytes; bytes that open as a store are exactly its bytes, and it is such a store. The fields in front are a run
-- with fixed places, the knowledge stands behind them and is exact by the laws of its layout, and the records follow to the very
-- end. Last, the parts of "a valid store" by their names.
use Prim.Native.Nat.{ℕ, ◌+◌, ◌^◌, ◌<◌, ◌≤◌}
use mathlib.Core.Path.{◌≡◌, sym, ap, ap₂, ◌∙◌}
use mathlib.Core.Bool.{true}
use mathlib.Core.Logic.{◌↔◌}
use mathlib.Core.List.{List, [], ◌++◌}
use mathlib.Core.Option.{Option, none, some}
use native.Mathlib.Omega.{arith}
use lib.Dec.{leb, eqb}
use lib.ListN.{length, take, drop}
use borrow.Author.Tests.{le-leb, eq-eqb, leb-true, eqb-true}
use Rattle.codec.specs.Number.{Bytes, be_at}
use Rattle.codec.proofs.Numbers.{be_below}
use Rattle.layout.specs.Knowledge.{put_fields, Limits, any_id, Knowledge, encode, All, Lawful}
use Rattle.layout.specs.Permitted.{Permitted}
use Rattle.layout.specs.Parse.{parse}
use Rattle.layout.proofs.Chain.{Stands, stands_whole, fields_over, Fit}
use Rattle.layout.proofs.Runs.{ReadAs, run_bytes, run_reads, run_back}
use Rattle.layout.proofs.Forward.{encode_bytes}
use Rattle.layout.proofs.Lengths.{lawful-length}
use Rattle.layout.proofs.Exact.{exact, read_back}
use Rattle.ticks.specs.Written.{is_normal}
use Rattle.ticks.specs.Operations.{own_alike}
use Rattle.replication.specs.Formats.{put_recs, Store, encode_store, store_fields}
use Rattle.replication.specs.Reading.{recs_at, valid_recs}
use Rattle.replication.specs.OpenStore.{own_id, knowledge_length, store_count, store_knowledge, store_table, store_with, store_from, decode_store, versions_in, valid_store, if_valid, open_store}
use Rattle.replication.proofs.Bytes.Part.{part_over, part_reads, part_length_lem, part_back, no_bytes, append-bytes, part_bytes_lem, test_back, valid_back, both_left, both_right}
use Rattle.replication.proofs.Tables.Rising.{both_holds}
use Rattle.replication.proofs.Bytes.Record.{FitsRec, recs_bytes, recs_read, Read, recs_back}
use Rattle.replication.specs.Record.{Rec}
use Rattle.codec.specs.Parsed.{Parsed, accepted, refused}

-- a store whose values have room in their fields
pub record FitsStore (L : Limits) (st : Store) : Type 0 where
  pub own : st.own < 256 ^ 16
  pub knowledge : Lawful (any_id L) st.knowledge
  pub count : length st.records < 256 ^ 4
  pub records : All FitsRec st.records

pub store_bytes_lem : (st : Store) → Bytes (encode_store st)
unfolding encode_store
store_bytes_lem st =
    run_bytes (store_fields st) (encode st.knowledge ++ put_recs st.records [])
    (append-bytes (encode st.knowledge) (put_recs st.records []) (encode_bytes st.knowledge) (recs_bytes st.records [] no_bytes))

-- the bytes of a lawful knowledge are few enough that their number has room in four bytes
pub length-fits : (L : Limits) (k : Knowledge) → Permitted L → Lawful (any_id L) k → length (encode k) < 256 ^ 4
length-fits L k p l = omega (arith, lawful-length (any_id L) k l, p.lengths)

-- ---- writing and reading back

fits_fields : (L : Limits) (st : Store) → Permitted L → FitsStore L st → All Fit (store_fields st)
unfolding store_fields
fits_fields L st p f = (
  record { below = omega arith },
  (record { below = f.own }, (record { below = length-fits L st.knowledge p f.knowledge }, (record { below = f.count }, tt))),
)

module _ (st : Store) where
  at_knowledge : Stands (encode_store st) store_knowledge (encode st.knowledge ++ put_recs st.records [])
  unfolding encode_store store_fields
  at_knowledge = fields_over (encode_store st) 0 (store_fields st) (encode st.knowledge ++ put_recs st.records []) (stands_whole (encode_store st))

  at_records : Stands (encode_store st) (store_knowledge + length (encode st.knowledge)) (put_recs st.records [])
  at_records = part_over (encode_store st) store_knowledge (encode st.knowledge) _ at_knowledge

  header : All Fit (store_fields st) → ReadAs (encode_store st) 0 0 (store_fields st)
  unfolding encode_store
  header f = run_reads (encode_store st) 0 0 (store_fields st) (encode st.knowledge ++ put_recs st.records []) (stands_whole (encode_store st)) f

-- the tests in front hold
tests_hold : (L : Limits) (s : List ℕ) → be_at s 1 0 ≡ 3 → store_table s ≤ length s →
    decode_store L s ≡ store_from s (parse (any_id L) (take (knowledge_length s) (drop store_knowledge s)))
unfolding decode_store
tests_hold L s e l = rw (eq-eqb (be_at s 1 0) 3 e, le-leb (store_table s) (length s) l, decode_store)

-- bytes whose parts are known are read as a store
pub decode_of : (L : Limits) (s : List ℕ) (n c : ℕ) (k : Knowledge) (rs : List Rec) → be_at s 1 0 ≡ 3 → knowledge_length s ≡ n → store_count s ≡ c →
    store_knowledge + n ≤ length s → parse (any_id L) (take n (drop store_knowledge s)) ≡ accepted k → recs_at s c (store_knowledge + n) ≡ some rs →
    decode_store L s ≡ some (record { own = own_id s; knowledge = k; records = rs })
unfolding store_from store_with
decode_of L s n c k rs e f g l h i =
    tests_hold L s e (omega arith)
    ∙ ap (store_from s) (ap (λ (x : ℕ). parse (any_id L) (take x (drop store_knowledge s))) f ∙ h)
    ∙ ap (store_with (own_id s) k) (ap₂ (λ (x y : ℕ). recs_at s x (store_knowledge + y)) g f ∙ i)

pub store_decode : (L : Limits) (st : Store) → Permitted L → FitsStore L st → decode_store L (encode_store st) ≡ some st
unfolding store_fields
store_decode L st p f =
    let s = encode_store st in
    let k = st.knowledge in
    let w = header st (fits_fields L st p f) in
    decode_of L s (length (encode k)) (length st.records) k st.records w.0 w.1.1.0 w.1.1.1.0
    (at_records st).inside
    (ap (parse (any_id L)) (part_reads s store_knowledge (encode k) _ (at_knowledge st)) ∙ read_back (any_id L) p k f.knowledge)
    (recs_read s (store_knowledge + length (encode k)) st.records f.records (at_records st))
    ∙ ap (λ (x : ℕ). some (record { own = x; knowledge = k; records = st.records })) w.1.0

pub if_valid_lem : (L : Limits) (st : Store) → valid_store L st ≡ true → if_valid L (some st) ≡ accepted st
unfolding if_valid
if_valid_lem L st v = rw (v, if_valid)

pub store_open : (L : Limits) (st : Store) → Permitted L → FitsStore L st → valid_store L st ≡ true →
    open_store L (encode_store st) ≡ accepted st
unfolding open_store
store_open L st p f v = ap (if_valid L) (store_decode L st p f) ∙ if_valid_lem L st v

-- ---- reading and writing again

-- what bytes that are read as a store hold
pub record ReadStore (L : Limits) (s : List ℕ) (st : Store) : Type 0 where
  pub kind : be_at s 1 0 ≡ 3
  pub inside : store_table s ≤ length s
  pub own : own_id s ≡ st.own
  pub knowledge : parse (any_id L) (take (knowledge_length s) (drop store_knowledge s)) ≡ accepted st.knowledge
  pub records : recs_at s (store_count s) (store_table s) ≡ some st.records

with_back : (own : ℕ) (k : Knowledge) (o : Option (List Rec)) (st : Store) → store_with own k o ≡ some st →
    (own ≡ st.own) × ((k ≡ st.knowledge) × (o ≡ some st.records))
unfolding store_with
with_back own k none st e = absurd (let z : ◌≡◌ {A = ℕ} 0 1 = cc in omega arith)
with_back own k (some rs) st e = (cc, (cc, cc))

from_back : (s : List ℕ) (p : Parsed Knowledge) (st : Store) → store_from s p ≡ some st →
    (own_id s ≡ st.own) × ((p ≡ accepted st.knowledge) × (recs_at s (store_count s) (store_table s) ≡ some st.records))
unfolding store_from
from_back s (refused n) st e = absurd (let z : ◌≡◌ {A = ℕ} 0 1 = cc in omega arith)
from_back s (accepted k) st e =
    let w = with_back (own_id s) k (recs_at s (store_count s) (store_table s)) st e in
    (w.0, (ap accepted w.1.0, w.1.1))

decode_back : (L : Limits) (s : List ℕ) (st : Store) → decode_store L s ≡ some st → ReadStore L s st
unfolding decode_store
decode_back L s st e =
    test_back (eqb (be_at s 1 0) 3) _ st (ReadStore L s st) e (λ a e.
    test_back (leb (store_table s) (length s)) _ st (ReadStore L s st) e (λ b e.
    let w = from_back s (parse (any_id L) (take (knowledge_length s) (drop store_knowledge s))) st e in
    record {
      kind = eqb-true (be_at s 1 0) 3 a;
      inside = leb-true (store_table s) (length s) b;
      own = w.0;
      knowledge = w.1.0;
      records = w.1.1;
    }))

open_back : (L : Limits) (o : Option Store) (st : Store) → if_valid L o ≡ accepted st → (o ≡ some st) × (valid_store L st ≡ true)
unfolding if_valid
open_back L none st e = absurd (let z : ◌≡◌ {A = ℕ} 0 1 = cc in omega arith)
open_back L (some x) st e =
    let h = valid_back (valid_store L x) x st 15 e in
    (ap some h.1, ap (valid_store L) (sym h.1) ∙ h.0)

module _ (L : Limits) (s : List ℕ) (st : Store) (p : Permitted L) (b : Bytes s) (h : ReadStore L s st) where
  held : (take (knowledge_length s) (drop store_knowledge s) ≡ encode st.knowledge) × Lawful (any_id L) st.knowledge
  held = (exact (any_id L) p (take (knowledge_length s) (drop store_knowledge s)) st.knowledge (part_bytes_lem s (knowledge_length s) store_knowledge b)).0 h.knowledge

  held_length : knowledge_length s ≡ length (encode st.knowledge)
  held_length = sym (part_length_lem s (knowledge_length s) store_knowledge h.inside) ∙ ap length held.0

  held_records : Read s (store_count s) (store_table s) st.records
  held_records = recs_back s (store_count s) (store_table s) st.records b h.records

  held_fits : FitsStore L st
  held_fits = record {
    own = rw (← h.own) (be_below s 16 1 b);
    knowledge = held.1;
    count = rw held_records.count (be_below s 4 21 b);
    records = held_records.fits;
  }

  held_bytes : s ≡ encode_store st
  unfolding encode_store store_fields
  held_bytes =
      run_back s 0 0 (store_fields st) b (h.kind, (h.own, (held_length, (sym held_records.count, tt)))) (omega (arith, h.inside))
      ∙ ap (put_fields (store_fields st)) (part_back s (knowledge_length s) store_knowledge ∙ ap₂ (λ (x y : List ℕ). x ++ y) held.0 held_records.bytes)

-- bytes that open: they were read so, and the value is valid
pub store_read_lem : (L : Limits) (s : List ℕ) (st : Store) → open_store L s ≡ accepted st → ReadStore L s st × (valid_store L st ≡ true)
unfolding open_store
store_read_lem L s st e =
    let o = open_back L (decode_store L s) st e in
    (decode_back L s st o.0, o.1)

pub store_opened_lem : (L : Limits) (s : List ℕ) (st : Store) → Permitted L → Bytes s → open_store L s ≡ accepted st →
    (s ≡ encode_store st) × (FitsStore L st × (valid_store L st ≡ true))
store_opened_lem L s st p b e =
    let o = store_read_lem L s st e in
    (held_bytes L s st p b o.0, (held_fits L s st p b o.0, o.1))

-- ---- a valid store, part by part

pub record ValidStore (L : Limits) (st : Store) : Type 0 where
  pub count : length st.records ≤ L.records
  pub normal : is_normal st.knowledge ≡ true
  pub alike : own_alike st.own st.knowledge ≡ true
  pub records : valid_recs (versions_in st.knowledge) 0 st.records ≡ true

module _ (L : Limits) (st : Store) where
  pub store_valid_of : ValidStore L st → valid_store L st ≡ true
  unfolding valid_store
  store_valid_of v =
      both_holds _ _ (le-leb (length st.records) L.records v.count)
      (both_holds _ _ v.normal (both_holds _ _ v.alike v.records))

  pub store_valid_parts : valid_store L st ≡ true → ValidStore L st
  unfolding valid_store
  store_valid_parts v =
      let a = both_right (leb (length st.records) L.records) _ v in
      let b = both_right (is_normal st.knowledge) _ a in
      record {
        count = leb-true (length st.records) L.records (both_left _ _ v);
        normal = both_left _ _ a;
        alike = both_left _ _ b;
        records = both_right (own_alike st.own st.knowledge) _ b;
      }

  pub valid_store_lem : (valid_store L st ≡ true) ↔ ValidStore L st
  valid_store_lem = (store_valid_parts, store_valid_of)

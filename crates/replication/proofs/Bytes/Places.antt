-- Where everything stands in the bytes of a valid store and of a valid batch, in plain numbers: document 01's list of the house
-- format once more, without specs/Formats.antt. The header's fields, the knowledge bytes and, one after the other, the records,
-- each with its fields at their places. It holds because bytes that open were read field by field at just these places. Of the
-- records it settles what they are: two records that stand at one place are the same.
use Prim.Native.Nat.{ℕ, zero, suc, ◌+◌, ◌*◌, ◌≤◌}
use mathlib.Core.Path.{◌≡◌, refl, sym, ap, subst, ◌∙◌}
use mathlib.Core.Bool.{Bool, true, false}
use mathlib.Core.Logic.{◌⊎◌, inl, inr}
use mathlib.Core.List.{List, [], ◌∷◌, ◌++◌}
use mathlib.Core.Option.{some}
use native.Mathlib.Omega.{arith}
use lib.Dec.{eqb}
use lib.ListN.{length, take, drop, get_or}
use borrow.Author.Tests.{eqb-true, eqb-false}
use Rattle.codec.specs.Number.{Bytes, be_at}
use Rattle.codec.specs.Parsed.{accepted}
use Rattle.codec.proofs.Reading.{be_one}
use Rattle.layout.specs.Knowledge.{Limits, any_id, encode}
use Rattle.layout.specs.Permitted.{Permitted}
use Rattle.layout.proofs.Exact.{exact}
use Rattle.replication.specs.Record.{Content, Rec}
use Rattle.replication.specs.Formats.{Store}
use Rattle.replication.specs.BatchFormat.{Batch}
use Rattle.replication.specs.Reading.{behind, content_at, rec_at, recs_at}
use Rattle.replication.specs.OpenStore.{open_store}
use Rattle.replication.specs.OpenBatch.{open_batch}
use Rattle.replication.proofs.Bytes.Part.{part_bytes_lem}
use Rattle.replication.proofs.Bytes.Record.{Whole, whole_back, more_back, end_back, recs_back}
use Rattle.replication.proofs.Bytes.Store.{store_read_lem}
use Rattle.replication.proofs.Bytes.Batch.{batch_read}
use Rattle.replication.proofs.Broken.Records.{OneOf, behind_all, recs_length}

-- ---- what is said

-- one record, from a place on
pub record RecordStands (s : List ℕ) (at : ℕ) (r : Rec) : Type 0 where
  -- "Kind 1 live, kind 2 tombstone, body 88"
  pub live : r.content.deleted ≡ false → get_or s at 0 ≡ 1
  pub tombstone : r.content.deleted ≡ true → get_or s at 0 ≡ 2
  pub inside : at + 89 ≤ length s
  -- "item id 24, change replica 16, change tick 8, create replica 16, create tick 8, content tag 16"
  pub item : be_at s 24 (at + 1) ≡ r.item
  pub change_replica : be_at s 16 (at + 25) ≡ r.change_replica
  pub change_tick : be_at s 8 (at + 41) ≡ r.change_tick
  pub create_replica : be_at s 16 (at + 49) ≡ r.create_replica
  pub create_tick : be_at s 8 (at + 65) ≡ r.create_tick
  pub tag : be_at s 16 (at + 73) ≡ r.content.tag

-- records one after the other, from a place on to the very end
pub record RecordsStand (s : List ℕ) (at : ℕ) (rs : List Rec) : Type 0 where
  pub each : (r : Rec) (o : OneOf r rs) → RecordStands s (at + 89 * length o.before) r
  pub size : length s ≡ at + 89 * length rs

-- "Kind 3 store, body 24: own replica id 16, knowledge length 4, record count 4; then knowledge, then records"
pub record StoreStands (s : List ℕ) (st : Store) : Type 0 where
  pub kind : get_or s 0 0 ≡ 3
  pub own : be_at s 16 1 ≡ st.own
  pub knowledge : take (be_at s 4 17) (drop 25 s) ≡ encode st.knowledge
  pub count : be_at s 4 21 ≡ length st.records
  pub records : RecordsStand s (25 + be_at s 4 17) st.records

-- "Kind 4 batch, body 60: first 24, last 24, needed length 4, learned length 4, record count 4; then needed knowledge, learned
-- knowledge, records"
pub record BatchStands (s : List ℕ) (b : Batch) : Type 0 where
  pub kind : get_or s 0 0 ≡ 4
  pub first : be_at s 24 1 ≡ b.first
  pub last : be_at s 24 25 ≡ b.last
  pub needed : take (be_at s 4 49) (drop 61 s) ≡ encode b.needed
  pub learned : take (be_at s 4 53) (drop (61 + be_at s 4 49) s) ≡ encode b.learned
  pub count : be_at s 4 57 ≡ length b.records
  pub records : RecordsStand s (61 + be_at s 4 49 + be_at s 4 53) b.records

-- ---- one record

module _ (s : List ℕ) (at : ℕ) (r : Rec) where
  pub record_stands : Whole s at → rec_at s at ≡ r → RecordStands s at r
  unfolding rec_at content_at
  record_stands w e =
      let d : eqb (be_at s 1 at) 2 ≡ r.content.deleted = ap (λ (x : Rec). x.content.deleted) e in
      record {
        live = λ h. omega (arith, be_one s at, one w.kind (eqb-false (be_at s 1 at) 2 (d ∙ h)));
        tombstone = λ h. omega (arith, be_one s at, eqb-true (be_at s 1 at) 2 (d ∙ h));
        inside = omega (arith, w.size, w.inside);
        item = ap (λ (x : Rec). x.item) e;
        change_replica = ap (λ (x : Rec). x.change_replica) e;
        change_tick = ap (λ (x : Rec). x.change_tick) e;
        create_replica = ap (λ (x : Rec). x.create_replica) e;
        create_tick = ap (λ (x : Rec). x.create_tick) e;
        tag = ap (λ (x : Rec). x.content.tag) e;
      }
    where
      one : (be_at s 1 at ≡ 1) ⊎ (be_at s 1 at ≡ 2) → (be_at s 1 at ≡ 2 → ⊥) → be_at s 1 at ≡ 1
      one (inl h) n = h
      one (inr h) n = absurd (n h)

-- what stands at a place is settled
same_content : (c d : Content) → c.deleted ≡ d.deleted → c.tag ≡ d.tag → c ≡ d
same_content c d e f = by_parts c.deleted c.tag e f
  where
    by_parts : (x : Bool) (y : ℕ) → x ≡ d.deleted → y ≡ d.tag → record { deleted = x; tag = y } ≡ d
    by_parts x y e f = rw (e, f)

same_rec : (r q : Rec) → r.item ≡ q.item → r.change_replica ≡ q.change_replica → r.change_tick ≡ q.change_tick
    → r.create_replica ≡ q.create_replica → r.create_tick ≡ q.create_tick → r.content ≡ q.content → r ≡ q
same_rec r q a b c d e f =
    by_parts r.item r.change_replica r.change_tick r.create_replica r.create_tick r.content a b c d e f
  where
    by_parts : (i p t c u : ℕ) (x : Content) → i ≡ q.item → p ≡ q.change_replica → t ≡ q.change_tick → c ≡ q.create_replica
        → u ≡ q.create_tick → x ≡ q.content
        → record { item = i; change_replica = p; change_tick = t; create_replica = c; create_tick = u; content = x } ≡ q
    by_parts i p t c u x a b c' d e f = rw (a, b, c', d, e, f)

pub record_settled : (s : List ℕ) (at : ℕ) (r q : Rec) → RecordStands s at r → RecordStands s at q → r ≡ q
record_settled s at r q x y =
    same_rec r q (sym x.item ∙ y.item) (sym x.change_replica ∙ y.change_replica) (sym x.change_tick ∙ y.change_tick)
    (sym x.create_replica ∙ y.create_replica) (sym x.create_tick ∙ y.create_tick)
    (same_content r.content q.content (deleted r.content.deleted refl q.content.deleted refl) (sym x.tag ∙ y.tag))
  where
    deleted : (a : Bool) → r.content.deleted ≡ a → (b : Bool) → q.content.deleted ≡ b → r.content.deleted ≡ q.content.deleted
    deleted true e true f = e ∙ sym f
    deleted false e false f = e ∙ sym f
    deleted true e false f = absurd (omega (arith, x.tombstone e, y.live f))
    deleted false e true f = absurd (omega (arith, x.live e, y.tombstone f))

-- ---- tables

no_more : (r : Rec) (rs : List Rec) {C : Type 0} → r ∷ rs ≡ [] → C
no_more r rs e =
    let z : ◌≡◌ {A = ℕ} 0 1 = cc in
    absurd (omega arith)

-- the record behind these others, and the place where it was read
module _ (s : List ℕ) (r : Rec) (after : List Rec) where
  pub reads_at : (before : List Rec) (n at : ℕ) → recs_at s n at ≡ some (before ++ (r ∷ after))
      → Whole s (behind_all s at (length before)) × (rec_at s (behind_all s at (length before)) ≡ r)
  unfolding behind_all
  reads_at [] zero at e = no_more r after (end_back s at (r ∷ after) e).0
  reads_at [] (suc n) at e =
      more_back s n at (r ∷ after) _ e (λ qs w f g. let h : rec_at s at ≡ r = cc in (whole_back s at w, h))
  reads_at (x ∷ before) zero at e = no_more x (before ++ (r ∷ after)) (end_back s at (x ∷ (before ++ (r ∷ after))) e).0
  reads_at (x ∷ before) (suc n) at e =
      more_back s n at (x ∷ (before ++ (r ∷ after))) _ e
      (λ qs w f g. let h : qs ≡ before ++ (r ∷ after) = cc in reads_at before n (behind s at) (f ∙ ap some h))

-- a record has 89 bytes
pub behind_plain : (s : List ℕ) (n at : ℕ) (rs : List Rec) → recs_at s n at ≡ some rs → (j : ℕ) → j ≤ n → behind_all s at j ≡ at + 89 * j
unfolding behind_all
behind_plain s n at rs e zero l = omega arith
behind_plain s zero at rs e (suc j) l = absurd (omega arith)
behind_plain s (suc n) at rs e (suc j) l =
    more_back s n at rs _ e
    (λ qs w f g. omega (arith, behind_plain s n (behind s at) qs f j (omega arith), (whole_back s at w).size))

count_of : (before after : List Rec) (r : Rec) → length before ≤ length (before ++ (r ∷ after))
count_of [] after r = omega arith
count_of (x ∷ before) after r = omega (arith, count_of before after r)

module _ (s : List ℕ) (octets : Bytes s) (n at : ℕ) (rs : List Rec) (e : recs_at s n at ≡ some rs) where
  pub count_read : length rs ≡ n
  count_read = (recs_back s n at rs octets e).count

  pub records_stand : RecordsStand s at rs
  records_stand =
      record {
        each = λ r o.
            let w = reads_at s r o.after o.before n at (e ∙ ap some o.is) in
            let l : length o.before ≤ n = omega (arith, count_read, ap length o.is, count_of o.before o.after r) in
            subst (λ (a : ℕ). RecordStands s a r) (behind_plain s n at rs e (length o.before) l)
            (record_stands s (behind_all s at (length o.before)) r w.0 w.1);
        size = omega (arith, recs_length s n at rs e, behind_plain s n at rs e n (omega arith), count_read);
      }

-- ---- stores and batches

pub store_stands : (L : Limits) (s : List ℕ) (st : Store) → Permitted L → Bytes s → open_store L s ≡ accepted st → StoreStands s st
store_stands L s st permitted octets e =
    let o = (store_read_lem L s st e).0 in
    record {
      kind = sym (be_one s 0) ∙ o.kind;
      own = o.own;
      knowledge = ((exact (any_id L) permitted (take (be_at s 4 17) (drop 25 s)) st.knowledge (part_bytes_lem s (be_at s 4 17) 25 octets)).0 o.knowledge).0;
      count = sym (count_read s octets (be_at s 4 21) (25 + be_at s 4 17) st.records o.records);
      records = records_stand s octets (be_at s 4 21) (25 + be_at s 4 17) st.records o.records;
    }

pub batch_stands : (L : Limits) (s : List ℕ) (b : Batch) → Permitted L → Bytes s → open_batch L s ≡ accepted b → BatchStands s b
batch_stands L s b permitted octets e =
    let o = (batch_read L s b e).0 in
    record {
      kind = sym (be_one s 0) ∙ o.kind;
      first = o.first;
      last = o.last;
      needed = ((exact (any_id L) permitted (take (be_at s 4 49) (drop 61 s)) b.needed (part_bytes_lem s (be_at s 4 49) 61 octets)).0 o.needed).0;
      learned =
          ((exact (any_id L) permitted (take (be_at s 4 53) (drop (61 + be_at s 4 49) s)) b.learned
          (part_bytes_lem s (be_at s 4 53) (61 + be_at s 4 49) octets)).0 o.learned).0;
      count = sym (count_read s octets (be_at s 4 57) (61 + be_at s 4 49 + be_at s 4 53) b.records o.records);
      records = records_stand s octets (be_at s 4 57) (61 + be_at s 4 49 + be_at s 4 53) b.records o.records;
    }

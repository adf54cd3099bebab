-- What "a valid store" and "a valid batch" come to, in document 01's words and in plain numbers. Bytes open as a store
-- exactly where they are the bytes of a value that meets document 01's list, and so for a batch: each test of the
-- definitions is read as the relation on numbers that it decides.
use Prim.Native.Nat.{ℕ, ◌≤◌, ◌<◌, ◌^◌}
use mathlib.Core.Path.{◌≡◌, refl, sym, ap, ◌∙◌}
use mathlib.Core.Logic.{◌↔◌}
use mathlib.Core.Bool.{Bool, true, false, not}
use mathlib.Core.List.{List, [], ◌∷◌}
use mathlib.Core.Option.{Option, none, some}
use native.Mathlib.Omega.{arith}
use lib.Dec.{leb}
use borrow.Author.Tests.{leb-true, leb-false}
use Rattle.codec.specs.Number.{Bytes}
use Rattle.layout.specs.Knowledge.{Limits, Knowledge, All}
use Rattle.layout.specs.Permitted.{Permitted}
use Rattle.layout.proofs.Parts.{all_map}
use Rattle.ticks.specs.Meaning.{highest, known, contains}
use Rattle.ticks.specs.Operations.{project}
use Rattle.ticks.specs.Written.{eq_knowledge}
use Rattle.ticks.proofs.Equality.{eq_knowledge-sound, eq_knowledge_self}
use Rattle.ticks.proofs.Operations.{normal_test}
use Rattle.ticks.proofs.Algebra.{contains_yes, contains_more, contains_exact, project_outside, project_same}
use Rattle.ticks.proofs.Largest.{alike_exact}
use Rattle.ticks.proofs.LawfulResults.{top_below, below_top}
use Rattle.replication.specs.Formats.{Store, encode_store}
use Rattle.replication.specs.BatchFormat.{Batch, encode_batch}
use Rattle.replication.specs.Valid.{LawfulRec, ContainedIn, LawfulStore}
use Rattle.replication.specs.ValidBatch.{LawfulBatch}
use Rattle.replication.specs.Reading.{both}
use Rattle.replication.specs.OpenStore.{decode_store, versions_in, valid_store, if_valid, open_store}
use Rattle.replication.specs.OpenBatch.{decode_batch, lacks_change, carried, valid_batch, if_valid_batch, open_batch}
use Rattle.ticks.specs.Table.{in_span}
use Rattle.replication.proofs.Tables.Rising.{ValidRec, valid_recs_lem, both_parts, both_holds}
use Rattle.ticks.proofs.Lists.{in_span_lem}
use Rattle.replication.proofs.Bytes.Record.{FitsRec}
use Rattle.replication.proofs.Bytes.Store.{store_open, store_opened_lem, valid_store_lem}
use Rattle.replication.proofs.Bytes.Batch.{batch_open, batch_opened_lem, valid_batch_lem}
use Rattle.codec.specs.Parsed.{accepted, Parsed, refused}
use Rattle.replication.specs.Record.{Rec}

-- ---- versions

-- "A version (i, p, t) is contained when t is 1 or more and at most that tick": the change and the create version
pub versions_exact : (k : Knowledge) (r : Rec) → (versions_in k r ≡ true) ↔
    ((1 ≤ r.change_tick) × ((r.change_tick ≤ known k r.item r.change_replica)
    × ((1 ≤ r.create_tick) × (r.create_tick ≤ known k r.item r.create_replica))))
unfolding versions_in
versions_exact k r = (
  λ e.
      let p = both_parts (contains k r.item r.change_replica r.change_tick) (contains k r.item r.create_replica r.create_tick) e in
      let a = (contains_exact k r.item r.change_replica r.change_tick).0 p.0 in
      let b = (contains_exact k r.item r.create_replica r.create_tick).0 p.1 in
      (a.0, (a.1, (b.0, b.1))),
  λ h.
      both_holds (contains k r.item r.change_replica r.change_tick) (contains k r.item r.create_replica r.create_tick)
      ((contains_exact k r.item r.change_replica r.change_tick).1 (h.0, h.1.0))
      ((contains_exact k r.item r.create_replica r.create_tick).1 (h.1.1.0, h.1.1.1)),
)

-- a change version, of a tick 1 or more, that a knowledge lacks
pub lacks_exact : (k : Knowledge) (r : Rec) → 1 ≤ r.change_tick → (lacks_change k r ≡ true) ↔ (known k r.item r.change_replica < r.change_tick)
unfolding lacks_change
lacks_exact k r one = (
  λ e. go e (leb r.change_tick (known k r.item r.change_replica)) refl,
  λ h. ap not (contains_more k r.item r.change_replica r.change_tick h),
)
  where
    go : not (contains k r.item r.change_replica r.change_tick) ≡ true → (t : Bool)
        → leb r.change_tick (known k r.item r.change_replica) ≡ t → known k r.item r.change_replica < r.change_tick
    go e true h =
        let y : contains k r.item r.change_replica r.change_tick ≡ true =
        contains_yes k r.item r.change_replica r.change_tick one (leb-true r.change_tick (known k r.item r.change_replica) h) in
        let z : not true ≡ true = ap not (sym y) ∙ e in
        let o : ◌≡◌ {A = ℕ} 0 1 = cc in
        absurd (omega arith)
    go e false h = leb-false r.change_tick (known k r.item r.change_replica) h

-- "records inside the span, change and create versions contained in learned, change versions not in needed"
pub carried_exact : (b : Batch) (r : Rec) → (carried b r ≡ true) ↔
    ((b.first ≤ r.item) × ((r.item ≤ b.last) ×
    ((1 ≤ r.change_tick) × ((r.change_tick ≤ known b.learned r.item r.change_replica)
    × ((1 ≤ r.create_tick) × ((r.create_tick ≤ known b.learned r.item r.create_replica)
    × (r.change_tick ≤ known b.needed r.item r.change_replica → ⊥)))))))
unfolding carried
carried_exact b r = (
  λ e.
      let p = both_parts (in_span b.first b.last r.item) (both (versions_in b.learned r) (lacks_change b.needed r)) e in
      let q = both_parts (versions_in b.learned r) (lacks_change b.needed r) p.1 in
      let d = (in_span_lem b.first b.last r.item).0 p.0 in
      let v = (versions_exact b.learned r).0 q.0 in
      let l : known b.needed r.item r.change_replica < r.change_tick = (lacks_exact b.needed r v.0).0 q.1 in
      (d.0, (d.1, (v.0, (v.1.0, (v.1.1.0, (v.1.1.1, λ m. omega (arith, l, m))))))),
  λ h.
      both_holds (in_span b.first b.last r.item) (both (versions_in b.learned r) (lacks_change b.needed r))
      ((in_span_lem b.first b.last r.item).1 (h.0, h.1.0))
      (both_holds (versions_in b.learned r) (lacks_change b.needed r)
      ((versions_exact b.learned r).1 (h.1.1.0, (h.1.1.1.0, (h.1.1.1.1.0, h.1.1.1.1.1.0))))
      ((lacks_exact b.needed r h.1.1.0).1 (above h.1.1.1.1.1.1))),
)
  where
    above : (r.change_tick ≤ known b.needed r.item r.change_replica → ⊥) → known b.needed r.item r.change_replica < r.change_tick
    above n = go (leb r.change_tick (known b.needed r.item r.change_replica)) refl
      where
        go : (t : Bool) → leb r.change_tick (known b.needed r.item r.change_replica) ≡ t → known b.needed r.item r.change_replica < r.change_tick
        go true h = absurd (n (leb-true r.change_tick (known b.needed r.item r.change_replica) h))
        go false h = leb-false r.change_tick (known b.needed r.item r.change_replica) h

-- ---- records

-- what a batch says of a record: it is of an item of the span, and needed does not contain its change version
abbrev InSpanOf : Batch → Rec → Type 0
InSpanOf b r = (b.first ≤ r.item) × (r.item ≤ b.last)

abbrev LacksIn : Knowledge → Rec → Type 0
LacksIn k r = known k r.item r.change_replica < r.change_tick

pub all_two : (P Q C : Rec → Type 0) → ((r : Rec) → P r → Q r → C r) → (rs : List Rec) → All P rs → All Q rs → All C rs
all_two P Q C f [] p q = tt
all_two P Q C f (r ∷ rs) p q = (f r p.0 q.0, all_two P Q C f rs p.1 q.1)

rec_of : (r : Rec) → FitsRec r → ValidRec r → LawfulRec r
rec_of r f v =
    record {
      item = f.item;
      change_replica = f.change_replica;
      create_replica = f.create_replica;
      content = record { tag = f.tag; bare = v.bare };
      create_tick = v.created;
      order = v.order;
      change_tick = v.changed;
    }

pub rec_fits : (r : Rec) → LawfulRec r → FitsRec r
rec_fits r l =
    let a : r.change_tick < 256 ^ 8 = omega (arith, l.change_tick) in
    let b : r.create_tick < 256 ^ 8 = omega (arith, l.change_tick, l.order) in
    record {
      item = l.item;
      change_replica = l.change_replica;
      change_tick = a;
      create_replica = l.create_replica;
      create_tick = b;
      tag = l.content.tag;
    }

rec_valid : (r : Rec) → LawfulRec r → ValidRec r
rec_valid r l = record { created = l.create_tick; order = l.order; changed = l.change_tick; bare = l.content.bare }

-- ---- stores

refused_number : {A : Type 0} (t : Bool) (x : A) (m n : ℕ) → ◌≡◌ {A = Parsed A} (elim t [ true ↦ accepted x | false ↦ refused m ]) (refused n) → n ≡ m
refused_number true x m n e = absurd (let z : ◌≡◌ {A = ℕ} 0 1 = cc in omega arith)
refused_number false x m n e = cc

module _ (L : Limits) (permitted : Permitted L) (st : Store) where
  store_lawful : (s : List ℕ) → Bytes s → open_store L s ≡ accepted st → (s ≡ encode_store st) × LawfulStore L st
  store_lawful s bytes e =
      let o = store_opened_lem L s st permitted bytes e in
      let v = (valid_store_lem L st).0 o.1.1 in
      let n = (normal_test st.knowledge).0 v.normal in
      let rs = (valid_recs_lem (versions_in st.knowledge) 0 st.records).0 v.records in (
        o.0,
        record {
          own = o.1.0.own;
          lawful = o.1.0.knowledge;
          normal = n;
          alike = ((alike_exact st.knowledge st.own n.formed.sound).0 v.alike).known;
          count = v.count;
          rising = rs.0;
          records =
              all_two FitsRec (λ r. ValidRec r × (versions_in st.knowledge r ≡ true)) LawfulRec (λ r f w. rec_of r f w.0) st.records o.1.0.records rs.1;
          versions =
              all_map (λ r. ValidRec r × (versions_in st.knowledge r ≡ true)) (ContainedIn st.knowledge)
              (λ r w. let c = (versions_exact st.knowledge r).0 w.1 in record { change = c.1.0; create = c.1.1.1 }) st.records rs.1;
        },
      )

  pub lawful_opens : LawfulStore L st → open_store L (encode_store st) ≡ accepted st
  lawful_opens l =
      store_open L st permitted
      (record {
        own = l.own;
        knowledge = l.lawful;
        count = omega (arith, l.count, permitted.records);
        records = all_map LawfulRec FitsRec rec_fits st.records l.records;
      })
      ((valid_store_lem L st).1 (record {
        count = l.count;
        normal = (normal_test st.knowledge).1 l.normal;
        alike = (alike_exact st.knowledge st.own l.normal.formed.sound).1 (record { known = l.alike });
        records =
            (valid_recs_lem (versions_in st.knowledge) 0 st.records).1 (
              l.rising,
              all_two LawfulRec (ContainedIn st.knowledge) (λ r. ValidRec r × (versions_in st.knowledge r ≡ true))
                  (λ r a c. (
                    rec_valid r a,
                    (versions_exact st.knowledge r).1 (omega (arith, a.create_tick, a.order), (c.change, (a.create_tick, c.create))),
                  ))
                  st.records l.records l.versions,
            );
      }))

pub store_exact : (L : Limits) (s : List ℕ) (st : Store) → Permitted L → Bytes s → (open_store L s ≡ accepted st) ↔ ((s ≡ encode_store st) × LawfulStore L st)
store_exact L s st permitted bytes = (store_lawful L permitted st s bytes, λ h. ap (open_store L) h.0 ∙ lawful_opens L permitted st h.1)

-- 15, and no other number, where the bytes are of no store that meets the list
pub store_number : (L : Limits) (s : List ℕ) (n : ℕ) → open_store L s ≡ refused n → n ≡ 15
unfolding open_store if_valid
store_number L s n e = go (decode_store L s) e
  where
    go : (o : Option Store) → if_valid L o ≡ refused n → n ≡ 15
    go none e = cc
    go (some st) e = refused_number (valid_store L st) st 15 n e

pub store_15 : (L : Limits) (s : List ℕ) → Permitted L → Bytes s → (open_store L s ≡ refused 15) ↔ ((st : Store) → s ≡ encode_store st → LawfulStore L st → ⊥)
store_15 L s permitted bytes = (
  λ e st h l.
      let f : open_store L s ≡ accepted st = (store_exact L s st permitted bytes).1 (h, l) in
      let z : ◌≡◌ {A = ℕ} 0 1 = cc in
      omega arith,
  λ h. go (open_store L s) refl h,
)
  where
    go : (o : Parsed Store) → open_store L s ≡ o → ((st : Store) → s ≡ encode_store st → LawfulStore L st → ⊥) → open_store L s ≡ refused 15
    go (refused n) e h = e ∙ ap refused (store_number L s n e)
    go (accepted st) e h = let x = (store_exact L s st permitted bytes).0 e in absurd (h st x.0 x.1)

-- ---- batches

module _ (L : Limits) (permitted : Permitted L) (b : Batch) where
  batch_lawful : (t : List ℕ) → Bytes t → open_batch L t ≡ accepted b → (t ≡ encode_batch b) × LawfulBatch L b
  batch_lawful t bytes e =
      let o = batch_opened_lem L t b permitted bytes e in
      let v = (valid_batch_lem L b).0 o.1.1 in
      let rs = (valid_recs_lem (carried b) 0 b.records).0 v.records in
      let same : project b.first b.last b.learned ≡ b.learned =
      eq_knowledge-sound (project b.first b.last b.learned) b.learned v.projected in (
        o.0,
        record {
          span = v.span;
          last = o.1.0.last;
          needed_lawful = o.1.0.needed;
          needed_normal = (normal_test b.needed).0 v.needed;
          learned_lawful = o.1.0.learned;
          learned_normal = (normal_test b.learned).0 v.learned;
          outside = λ i p h out. project_outside b.first b.last b.learned i p same h out;
          count = v.count;
          rising = rs.0;
          records = all_two FitsRec (λ r. ValidRec r × (carried b r ≡ true)) LawfulRec (λ r f w. rec_of r f w.0) b.records o.1.0.records rs.1;
          inside =
              all_map (λ r. ValidRec r × (carried b r ≡ true)) (λ r. (b.first ≤ r.item) × (r.item ≤ b.last))
              (λ r w. let c = (carried_exact b r).0 w.1 in (c.0, c.1.0)) b.records rs.1;
          versions =
              all_map (λ r. ValidRec r × (carried b r ≡ true)) (ContainedIn b.learned)
              (λ r w. let c = (carried_exact b r).0 w.1 in record { change = c.1.1.1.0; create = c.1.1.1.1.1.0 }) b.records rs.1;
          lacked =
              all_map (λ r. ValidRec r × (carried b r ≡ true)) (λ r. known b.needed r.item r.change_replica < r.change_tick) (λ r w. lacked_of r w.1) b.records rs.1;
        },
      )
    where
      lacked_of : (r : Rec) → carried b r ≡ true → known b.needed r.item r.change_replica < r.change_tick
      lacked_of r e = go (leb r.change_tick (known b.needed r.item r.change_replica)) refl
        where
          go : (t : Bool) → leb r.change_tick (known b.needed r.item r.change_replica) ≡ t → known b.needed r.item r.change_replica < r.change_tick
          go true h = absurd (((carried_exact b r).0 e).1.1.1.1.1.1 (leb-true r.change_tick (known b.needed r.item r.change_replica) h))
          go false h = leb-false r.change_tick (known b.needed r.item r.change_replica) h

  pub lawful_opens_batch : LawfulBatch L b → open_batch L (encode_batch b) ≡ accepted b
  lawful_opens_batch l =
      let top : b.last ≤ highest = below_top b.last l.last in
      batch_open L b permitted
      (record {
        first = top_below b.first (omega (arith, l.span, top));
        last = l.last;
        needed = l.needed_lawful;
        learned = l.learned_lawful;
        count = omega (arith, l.count, permitted.records);
        records = all_map LawfulRec FitsRec rec_fits b.records l.records;
      })
      ((valid_batch_lem L b).1 (record {
        count = l.count;
        span = l.span;
        needed = (normal_test b.needed).1 l.needed_normal;
        learned = (normal_test b.learned).1 l.learned_normal;
        projected =
            ap (λ (x : Knowledge). eq_knowledge x b.learned) (project_same b.first b.last b.learned l.learned_normal l.outside) ∙ eq_knowledge_self b.learned;
        records =
            (valid_recs_lem (carried b) 0 b.records).1 (
              l.rising,
              all_two LawfulRec (λ r. InSpanOf b r × (ContainedIn b.learned r × LacksIn b.needed r))
                  (λ r. ValidRec r × (carried b r ≡ true)) (λ r a c. (rec_valid r a, carries r a c)) b.records l.records
                  (all_two (InSpanOf b) (λ r. ContainedIn b.learned r × LacksIn b.needed r)
                  (λ r. InSpanOf b r × (ContainedIn b.learned r × LacksIn b.needed r)) (λ r x y. (x, y)) b.records l.inside
                  (all_two (ContainedIn b.learned) (LacksIn b.needed) (λ r. ContainedIn b.learned r × LacksIn b.needed r)
                  (λ r x y. (x, y)) b.records l.versions l.lacked)),
            );
      }))
    where
      carries : (r : Rec) → LawfulRec r → InSpanOf b r × (ContainedIn b.learned r × LacksIn b.needed r) → carried b r ≡ true
      carries r a c =
          (carried_exact b r).1 (
            c.0.0,
            (c.0.1, (omega (arith, a.create_tick, a.order), (c.1.0.change, (a.create_tick, (c.1.0.create, λ m. omega (arith, c.1.1, m)))))),
          )

pub batch_exact : (L : Limits) (t : List ℕ) (b : Batch) → Permitted L → Bytes t → (open_batch L t ≡ accepted b) ↔ ((t ≡ encode_batch b) × LawfulBatch L b)
batch_exact L t b permitted bytes = (batch_lawful L permitted b t bytes, λ h. ap (open_batch L) h.0 ∙ lawful_opens_batch L permitted b h.1)

-- 16 likewise
pub batch_number_lem : (L : Limits) (t : List ℕ) (n : ℕ) → open_batch L t ≡ refused n → n ≡ 16
unfolding open_batch if_valid_batch
batch_number_lem L t n e = go (decode_batch L t) e
  where
    go : (o : Option Batch) → if_valid_batch L o ≡ refused n → n ≡ 16
    go none e = cc
    go (some b) e = refused_number (valid_batch L b) b 16 n e

pub batch_16 : (L : Limits) (t : List ℕ) → Permitted L → Bytes t → (open_batch L t ≡ refused 16) ↔ ((b : Batch) → t ≡ encode_batch b → LawfulBatch L b → ⊥)
batch_16 L t permitted bytes = (
  λ e b h l.
      let f : open_batch L t ≡ accepted b = (batch_exact L t b permitted bytes).1 (h, l) in
      let z : ◌≡◌ {A = ℕ} 0 1 = cc in
      omega arith,
  λ h. go (open_batch L t) refl h,
)
  where
    go : (o : Parsed Batch) → open_batch L t ≡ o → ((b : Batch) → t ≡ encode_batch b → LawfulBatch L b → ⊥) → open_batch L t ≡ refused 16
    go (refused n) e h = e ∙ ap refused (batch_number_lem L t n e)
    go (accepted b) e h = let x = (batch_exact L t b permitted bytes).0 e in absurd (h b x.0 x.1)

-- Demand 3: for every list of calls, refused ones included, the stores begin as new returns them, stores and machine
-- agree at the end, every store and batch is valid, applying two batches in either order or one twice gives the same
-- bytes, equal knowledge means equal tables, and the second half of 18 is never met; and every batch holds what the
-- machine remembers of it, and needs what its make was given. Bytes and machine stay together along the list; a store's bytes are decided
-- by its replica's ticks in the machine and the versions made, since normal forms with equal ticks are equal and the
-- records follow from the ticks; and in the machine two applies commute and one twice is as one.
use Prim.Native.Nat.{ℕ, ◌≤◌, ◌<◌, ◌^◌}
use mathlib.Core.Path.{◌≡◌, refl, sym, ap, ◌∙◌, subst}
use mathlib.Core.Logic.{inl, inr, ⊎_elim, ◌↔◌}
use mathlib.Core.Bool.{Bool, true, false, not}
use mathlib.Core.List.{List, [], ◌∷◌}
use mathlib.Core.Option.{Option, none, some}
use native.Mathlib.Omega.{arith}
use lib.Dec.{leb, ltb}
use borrow.Author.Tests.{leb-true, leb-false, ltb-true, ltb-false}
use Rattle.layout.specs.Knowledge.{Rules, basic, Knowledge, All, Rising, Limits}
use Rattle.layout.specs.Permitted.{Permitted}
use Rattle.layout.proofs.Exact.{base_permitted}
use Rattle.ticks.specs.Meaning.{highest, known}
use Rattle.ticks.specs.Calls.{id_of, wrong_length}
use Rattle.ticks.proofs.Answers.{length_exact}
use Rattle.ticks.proofs.ForCalls.{id_is}
use Rattle.ticks.proofs.ForCover.{covers_for_exact}
use Rattle.replication.specs.Formats.{Store, new_store, encode_store, items, find}
use Rattle.replication.specs.BatchFormat.{Batch}
use Rattle.codec.specs.Number.{Bytes, put}
use Rattle.codec.specs.Reply.{gives, refuses}
use Rattle.codec.proofs.Numbers.{put-length, put_be}
use Rattle.codec.proofs.Replies.{fault_later, fault_none}
use Rattle.replication.specs.OpenBatch.{lacks_change}
use Rattle.ticks.specs.Table.{in_span}
use Rattle.replication.specs.Calls.{new_reply, apply_reply, own_ahead}
use Rattle.replication.specs.Lists.{World, start, outcome, batch_number}
use Rattle.replication.specs.Batches.{asked, IsBatch, Carries, BatchAgrees, Batches}
use Rattle.replication.specs.Machine.{Ticks, Remembered, State, initial, greatest, applies}
use Rattle.replication.specs.Promise.{ends, machine, IsStore, Agrees, Twofold, Promise}
use Rattle.replication.proofs.Machine.Best.{holds_contained, greatest_top}
use Rattle.replication.proofs.Machine.Greatest.{greatest_equal}
use Rattle.replication.proofs.Machine.Steps.{numbered_mem, applies_commute, applies_twice}
use Rattle.replication.proofs.Tables.Rising.{find_item, find_all, tables_equal, both_holds}
use Rattle.ticks.proofs.Lists.{in_span_lem}
use Rattle.replication.proofs.Tables.Selected.{kept, kept_in, kept_some}
use Rattle.replication.proofs.Contents.Valid.{store_exact, batch_exact, lacks_exact}
use Rattle.replication.proofs.Bytes.Store.{store_bytes_lem}
use Rattle.replication.proofs.Bytes.Batch.{batch_bytes_lem}
use Rattle.ticks.proofs.LawfulResults.{below_top}
use Rattle.replication.specs.Valid.{LawfulRec, LawfulStore}
use Rattle.ticks.proofs.Unique.{normal_unique}
use Rattle.replication.proofs.Agree.Invariant.{StoreFollows, BatchFollows, stored, Follows}
use Rattle.replication.proofs.Agree.Edit.{put_same, store_moved}
use Rattle.replication.proofs.Agree.Asked.{AllMadeFor, MadeAt, made_number, run_made}
use Rattle.replication.proofs.Agree.Run.{start_follows, Numbered, paired_number, apply_step, run_follows}
use Rattle.codec.specs.Parsed.{accepted, line}
use Rattle.replication.specs.Record.{Rec}
use Rattle.replication.specs.Call.{Call, Given}

-- ---- a store is decided by ticks and versions

pub same_store : (s t : Store) → s.own ≡ t.own → s.knowledge ≡ t.knowledge → s.records ≡ t.records → s ≡ t
same_store s t a b c =
    ap (λ (x : ℕ). record { own = x; knowledge = s.knowledge; records = s.records }) a
    ∙ (ap (λ (x : Knowledge). record { own = t.own; knowledge = x; records = s.records }) b
    ∙ ap (λ (x : List Rec). record { own = t.own; knowledge = t.knowledge; records = x }) c)

pub same_bytes : (L : Limits) (x y : List ℕ) (vs : List Rec) (k : Ticks) (p : ℕ) → StoreFollows L x vs k p → StoreFollows L y vs k p → x ≡ y
same_bytes L x y vs k p f g =
    let a : f.st.own ≡ g.st.own = f.own ∙ sym g.own in
    let b : f.st.knowledge ≡ g.st.knowledge =
    normal_unique f.st.knowledge g.st.knowledge f.valid.normal g.valid.normal (λ i q h. f.ticks i q h ∙ sym (g.ticks i q h)) in
    let c : f.st.records ≡ g.st.records =
    tables_equal 0 f.st.records g.st.records f.valid.rising g.valid.rising (λ i. f.records i ∙ sym (g.records i)) in
    f.bytes ∙ (ap encode_store (same_store f.st g.st a b c) ∙ sym g.bytes)

pub accepted_same : {A : Type 0} (x y : A) → accepted x ≡ accepted y → x ≡ y
accepted_same x y e = cc

-- ---- the stores begin as new returns them

pub begin : (p : ℕ) → p < 256 ^ 16 → new_reply (put 16 p []) ≡ gives (start.stores p)
unfolding new_reply start
begin p small =
    fault_later refuses (line 17 (wrong_length 16 (put 16 p []))) [] (gives (encode_store (new_store (id_of 16 (put 16 p [])))))
    ((length_exact 16 (put 16 p [])).1 (omega (arith, put-length 16 p [])))
    ∙ (fault_none refuses [] (gives (encode_store (new_store (id_of 16 (put 16 p []))))) tt
    ∙ ap (λ (x : ℕ). gives (encode_store (new_store x))) (id_is 16 (put 16 p []) ∙ put_be 16 p [] small))

-- ---- the records of a batch

module _ (L : Limits) (s : List ℕ) (vs : List Rec) (m : Remembered) (f : BatchFollows L s vs m) (i : ℕ) (r : Rec) where
  batch_record : find i f.b.records ≡ some r → Carries vs m f.b i r
  batch_record e =
      let h = kept_some f.b.first f.b.last f.b.needed (greatest vs m.ticks i) r (sym (f.records i) ∙ e) in
      let t = greatest_top vs m.ticks i r h.0 in
      let d = (in_span_lem f.b.first f.b.last r.item).0 h.1.0 in
      let l : known f.b.needed r.item r.change_replica < r.change_tick =
      (lacks_exact f.b.needed r (holds_contained m.ticks r t.has).0).0 h.1.1 in
      record {
        greatest = h.0;
        above = omega (arith, d.0, t.item, f.first);
        below = omega (arith, d.1, t.item, f.last);
        lacked = subst (λ (j : ℕ). known f.b.needed j r.change_replica < r.change_tick) t.item l;
      }

  record_batch : Carries vs m f.b i r → find i f.b.records ≡ some r
  record_batch h =
      let t = greatest_top vs m.ticks i r h.greatest in
      let l : known f.b.needed r.item r.change_replica < r.change_tick =
      subst (λ (j : ℕ). known f.b.needed j r.change_replica < r.change_tick) (sym t.item) h.lacked in
      f.records i
      ∙ (ap (kept f.b.first f.b.last f.b.needed) h.greatest
      ∙ kept_in f.b.first f.b.last f.b.needed r
      (both_holds (in_span f.b.first f.b.last r.item) (lacks_change f.b.needed r)
      ((in_span_lem f.b.first f.b.last r.item).1 (omega (arith, h.above, t.item, f.first), omega (arith, h.below, t.item, f.last)))
      ((lacks_exact f.b.needed r (holds_contained m.ticks r t.has).0).1 l)))

  carries_exact : (find i f.b.records ≡ some r) ↔ Carries vs m f.b i r
  carries_exact = (batch_record, record_batch)

-- ---- what bytes and machine that follow each other promise

-- the bytes of a valid store or batch are those of no other
pub store_one : (L : Limits) (s : List ℕ) (a b : Store) → Permitted L → IsStore L s a → IsStore L s b → a ≡ b
store_one L s a b permitted x y =
    let octets : Bytes s = subst Bytes (sym x.bytes) (store_bytes_lem a) in
    accepted_same a b
    (sym ((store_exact L s a permitted octets).1 (x.bytes, x.valid)) ∙ (store_exact L s b permitted octets).1 (y.bytes, y.valid))

pub batch_one_lem : (L : Limits) (s : List ℕ) (a b : Batch) → Permitted L → IsBatch L s a → IsBatch L s b → a ≡ b
batch_one_lem L s a b permitted x y =
    let octets : Bytes s = subst Bytes (sym x.bytes) (batch_bytes_lem a) in
    accepted_same a b
    (sym ((batch_exact L s a permitted octets).1 (x.bytes, x.valid)) ∙ (batch_exact L s b permitted octets).1 (y.bytes, y.valid))

-- tables of lawful records with the same records up to the top id are the same
pub tables_same : (a b : List Rec) → Rising 0 (items a) → Rising 0 (items b) → All LawfulRec a → All LawfulRec b
    → ((i : ℕ) → i ≤ highest → find i a ≡ find i b) → a ≡ b
tables_same a b rises_a rises_b lawful_a lawful_b same = tables_equal 0 a b rises_a rises_b (λ i. go i (leb i highest) refl)
  where
    beyond : (rs : List Rec) → All LawfulRec rs → (i : ℕ) → highest < i → find i rs ≡ none
    beyond rs lawful i h = by_case (find i rs) refl
      where
        by_case : (o : Option Rec) → find i rs ≡ o → find i rs ≡ none
        by_case none e = e
        by_case (some r) e =
            let l = find_all LawfulRec i rs r lawful e in
            absurd (omega (arith, h, find_item i rs r e, below_top r.item l.item))

    go : (i : ℕ) (t : Bool) → leb i highest ≡ t → find i a ≡ find i b
    go i true e = same i (leb-true i highest e)
    go i false e = beyond a lawful_a i (leb-false i highest e) ∙ sym (beyond b lawful_b i (leb-false i highest e))

-- so are valid ones
pub records_equal : (L : Limits) (a b : Store) → LawfulStore L a → LawfulStore L b → ((i : ℕ) → i ≤ highest → find i a.records ≡ find i b.records) → a.records ≡ b.records
records_equal L a b v w same = tables_same a.records b.records v.rising w.rising v.records w.records same

module _ (R : Rules) (permitted : Permitted R.limits) (w : World) (m : State) (f : Follows R.limits w m) where
  pub agree : (p : ℕ) → p < 256 ^ 16 → Agrees R.limits (w.stores p) m p
  agree p small =
      let s = f.stores p small in
      record {
        store = s.st;
        is = record { bytes = s.bytes; valid = s.valid };
        own = s.own;
        ticks = λ i q h l. s.ticks i q h;
        records = λ i h. s.records i;
      }

  number : (n : ℕ) (s : List ℕ) → batch_number n w.batches ≡ some s → Numbered R.limits m.versions n s m.batches
  number n s e = paired_number R.limits m.versions n s w.batches m.batches f.batches e

  pub batches_agree : (n : ℕ) (s : List ℕ) (ks : List (List ℕ)) (d : MadeAt R n s ks) → batch_number n w.batches ≡ some s
      → BatchAgrees R.limits m n d.for.given s
  batches_agree n s ks d e =
      let x = number n s e in
      let is : IsBatch R.limits s x.follows.b = record { bytes = x.follows.bytes; valid = x.follows.valid } in
      let one : d.for.batch ≡ x.follows.b = batch_one_lem R.limits s d.for.batch x.follows.b permitted d.for.is is in
      record {
        batch = x.follows.b;
        is = is;
        remembered = x.b;
        remembers = x.is;
        first = x.follows.first;
        last = x.follows.last;
        needed = λ i q h l. ap (λ (b : Batch). known b.needed i q) (sym one) ∙ d.for.needed i q h;
        inside = λ i q a b l. x.follows.inside i q a b;
        records = λ i r. carries_exact R.limits s m.versions x.b x.follows i r;
      }

  -- the store that the bytes are of is the one that follows the machine
  follows_one : (p : ℕ) (small : p < 256 ^ 16) (st : Store) → IsStore R.limits (w.stores p) st → (f.stores p small).st ≡ st
  follows_one p small st x =
      store_one R.limits (w.stores p) (f.stores p small).st st permitted
      (record { bytes = (f.stores p small).bytes; valid = (f.stores p small).valid }) x

  pub equal_tables_lem : (p q : ℕ) (a b : Store) → p < 256 ^ 16 → q < 256 ^ 16 → IsStore R.limits (w.stores p) a
      → IsStore R.limits (w.stores q) b →
      ((i r : ℕ) → i ≤ highest → r < 256 ^ 16 → known a.knowledge i r ≡ known b.knowledge i r) → a.records ≡ b.records
  equal_tables_lem p q a b sp sq xa xb same =
      let ea : (f.stores p sp).st ≡ a = follows_one p sp a xa in
      let eb : (f.stores q sq).st ≡ b = follows_one q sq b xb in
      records_equal R.limits a b xa.valid xb.valid
      (λ i h.
      ap (λ (x : Store). find i x.records) (sym ea)
      ∙ ((f.stores p sp).records i
      ∙ (greatest_equal m.versions (m.ticks p) (m.ticks q) i (λ r. ticks_equal ea eb i r h)
      ∙ (sym ((f.stores q sq).records i) ∙ ap (λ (x : Store). find i x.records) eb))))
    where
      -- an id of more than 16 bytes is known to neither
      ticks_equal : (f.stores p sp).st ≡ a → (f.stores q sq).st ≡ b → (i r : ℕ) → i ≤ highest → m.ticks p i r ≡ m.ticks q i r
      ticks_equal ea eb i r h = go (ltb r (256 ^ 16)) refl
        where
          go : (t : Bool) → ltb r (256 ^ 16) ≡ t → m.ticks p i r ≡ m.ticks q i r
          go true e =
              sym ((f.stores p sp).ticks i r h)
              ∙ (ap (λ (x : Store). known x.knowledge i r) ea
              ∙ (same i r h (ltb-true r (256 ^ 16) e)
              ∙ (ap (λ (x : Store). known x.knowledge i r) (sym eb) ∙ (f.stores q sq).ticks i r h)))
          go false e = f.good.strangers p i r (ltb-false r (256 ^ 16) e) ∙ sym (f.good.strangers q i r (ltb-false r (256 ^ 16) e))

  -- no batch knows more of a replica than the replica itself
  own_behind : (p : ℕ) (small : p < 256 ^ 16) (n : ℕ) (s : List ℕ) (x : Numbered R.limits m.versions n s m.batches) (i q : ℕ)
      → i ≤ highest → q ≡ p → known x.follows.b.learned i q ≤ known (f.stores p small).st.knowledge i q
  own_behind p small n s x i q h e = go (leb x.follows.b.first i) refl (leb i x.follows.b.last) refl
    where
      go : (a : Bool) → leb x.follows.b.first i ≡ a → (b : Bool) → leb i x.follows.b.last ≡ b
          → known x.follows.b.learned i q ≤ known (f.stores p small).st.knowledge i q
      go true a true b =
          let o : m.ticks q i q ≡ m.ticks p i q = ap (λ (y : ℕ). m.ticks y i q) e in
          omega (
            arith,
            x.follows.inside i q (leb-true x.follows.b.first i a) (leb-true i x.follows.b.last b),
            f.good.remembered x.b (numbered_mem n m.batches x.b x.is) q i i,
            o,
            (f.stores p small).ticks i q h,
          )
      go true a false b = omega (arith, x.follows.valid.outside i q h (inr (leb-false i x.follows.b.last b)))
      go false a t b = omega (arith, x.follows.valid.outside i q h (inl (leb-false x.follows.b.first i a)))

  never_above : (p n i : ℕ) (s : List ℕ) (st : Store) (b : Batch) → p < 256 ^ 16 → i ≤ highest → batch_number n w.batches ≡ some s
      → IsStore R.limits (w.stores p) st → IsBatch R.limits s b → known b.learned i st.own ≤ known st.knowledge i st.own
  never_above p n i s st b small h e xs xb =
      let x = number n s e in
      let f1 = f.stores p small in
      let es : f1.st ≡ st = follows_one p small st xs in
      let eb : x.follows.b ≡ b = batch_one_lem R.limits s x.follows.b b permitted (record { bytes = x.follows.bytes; valid = x.follows.valid }) xb in
      subst (λ (y : Store). known b.learned i y.own ≤ known y.knowledge i y.own) es
      (subst (λ (y : Batch). known y.learned i f1.st.own ≤ known f1.st.knowledge i f1.st.own) eb
      (own_behind p small n s x i f1.st.own h f1.own))

  -- so the test of 18's second half fails
  pub ahead_fails : (p n : ℕ) (s : List ℕ) (st : Store) (b : Batch) → p < 256 ^ 16 → batch_number n w.batches ≡ some s
      → IsStore R.limits (w.stores p) st → IsBatch R.limits s b → own_ahead st b ≡ false
  unfolding own_ahead
  ahead_fails p n s st b small e xs xb =
      ap not ((covers_for_exact (st.own ∷ []) st.knowledge b.learned 0 highest).1
      (record {
        known = λ i q l h a. ⊎_elim
            (λ (d : q ≡ st.own). subst (λ (y : ℕ). known b.learned i y ≤ known st.knowledge i y) (sym d)
            (never_above p n i s st b small h e xs xb)) (λ z. absurd z) a;
      }))

-- ---- two applies

module _ (R : Rules) (permitted : Permitted R.limits) where
  -- the store that an apply wrote, in a world with it and a machine that applied too
  store_after_lem : (w : World) (m : State) (p : ℕ) (bs : List ℕ) → p < 256 ^ 16 → Follows R.limits (stored p bs w) m → StoreFollows R.limits bs m.versions (m.ticks p) p
  unfolding stored
  store_after_lem w m p bs small f = subst (λ (s : List ℕ). StoreFollows R.limits s m.versions (m.ticks p) p) (put_same p p bs w.stores refl) (f.stores p small)

  module _ (w : World) (m : State) (f : Follows R.limits w m) (p : ℕ) (small : p < 256 ^ 16) where
    kept_batches : (bs : List ℕ) → (stored p bs w).batches ≡ w.batches
    unfolding stored
    kept_batches bs = refl

    kept_store : (bs : List ℕ) → (stored p bs w).stores p ≡ bs
    unfolding stored
    kept_store bs = put_same p p bs w.stores refl

    -- after two applies the bytes are of a store that follows the machine after both
    after_two : (n1 n2 room1 room2 : ℕ) (a b middle x : List ℕ) (u : Numbered R.limits m.versions n1 a m.batches)
        (v : Numbered R.limits m.versions n2 b m.batches) → batch_number n1 w.batches ≡ some a
        → batch_number n2 w.batches ≡ some b → outcome (apply_reply R.limits (w.stores p) a) room1 ≡ some middle
        → outcome (apply_reply R.limits middle b) room2 ≡ some x
        → StoreFollows R.limits x (applies p (some v.b) (applies p (some u.b) m)).versions
        ((applies p (some v.b) (applies p (some u.b) m)).ticks p) p
    unfolding applies
    after_two n1 n2 room1 room2 a b middle x u v ea eb first second =
        let g = apply_step R permitted w m f p n1 room1 a middle small ea u first in
        store_after_lem (stored p middle w) (applies p (some v.b) (applies p (some u.b) m)) p x small
        (apply_step R permitted (stored p middle w) (applies p (some u.b) m) g p n2 room2 b x small
        (ap (λ (l : List (List ℕ)). batch_number n2 l) (kept_batches middle) ∙ eb) v
        (ap (λ (s : List ℕ). outcome (apply_reply R.limits s b) room2) (kept_store middle) ∙ second))

    pub either_order_lem : (n1 n2 : ℕ) (a b x y : List ℕ) → batch_number n1 w.batches ≡ some a → batch_number n2 w.batches ≡ some b
        → Twofold R.limits (w.stores p) a b x → Twofold R.limits (w.stores p) b a y → x ≡ y
    unfolding applies
    either_order_lem n1 n2 a b x y ea eb t1 t2 =
        let u = paired_number R.limits m.versions n1 a w.batches m.batches f.batches ea in
        let v = paired_number R.limits m.versions n2 b w.batches m.batches f.batches eb in
        same_bytes R.limits x y m.versions ((applies p (some u.b) (applies p (some v.b) m)).ticks p) p
        (store_moved R.limits x m.versions ((applies p (some v.b) (applies p (some u.b) m)).ticks p) ((applies p (some u.b) (applies p (some v.b) m)).ticks p) p
        (λ i q. applies_commute p u.b v.b m p i q)
        (after_two n1 n2 t1.first_room t1.second_room a b t1.middle x u v ea eb t1.first t1.second))
        (after_two n2 n1 t2.first_room t2.second_room b a t2.middle y v u eb ea t2.first t2.second)

    pub twice_once : (n room1 room2 : ℕ) (a x y : List ℕ) → batch_number n w.batches ≡ some a
        → outcome (apply_reply R.limits (w.stores p) a) room1 ≡ some x → outcome (apply_reply R.limits x a) room2 ≡ some y → x ≡ y
    unfolding applies
    twice_once n room1 room2 a x y ea first second =
        let u = paired_number R.limits m.versions n a w.batches m.batches f.batches ea in
        same_bytes R.limits x y m.versions ((applies p (some u.b) m).ticks p) p
        (store_after_lem w (applies p (some u.b) m) p x small (apply_step R permitted w m f p n room1 a x small ea u first))
        (store_moved R.limits y m.versions ((applies p (some u.b) (applies p (some u.b) m)).ticks p) ((applies p (some u.b) m).ticks p) p
        (λ i q. applies_twice p u.b m p i q)
        (after_two n n room1 room2 a a x y u u ea ea first second))

-- ---- the theorem

pub ends_follow : (R : Rules) → Permitted R.limits → (calls : List Call) → All Given calls → Follows R.limits (ends R calls) (machine R calls)
unfolding ends machine
ends_follow R permitted calls given =
    run_follows R permitted start initial calls (start_follows R.limits permitted) given

pub demand3 : (R : Rules) → Permitted R.limits → (calls : List Call) → All Given calls → Promise R calls
demand3 R permitted calls given =
    let w = ends R calls in
    let m = machine R calls in
    let f = ends_follow R permitted calls given in
    record {
      begins = begin;
      agrees = agree R permitted w m f;
      either_order = λ p n1 n2 a b x y small ea eb t1 t2. either_order_lem R permitted w m f p small n1 n2 a b x y ea eb t1 t2;
      twice = λ p n a x y room1 room2 small ea first second. twice_once R permitted w m f p small n room1 room2 a x y ea first second;
      equal_tables = equal_tables_lem R permitted w m f;
    }

-- document 01's limits
pub demand3_basic : (calls : List Call) → All Given calls → Promise basic calls
demand3_basic calls given = demand3 basic base_permitted calls given

-- every batch is what the machine remembers of it, for the knowledge that its make was given
pub ends_made : (R : Rules) → Permitted R.limits → (calls : List Call) → All Given calls
    → AllMadeFor R (ends R calls).batches (asked R start calls)
unfolding ends start
ends_made R permitted calls given = run_made R permitted start initial calls [] (start_follows R.limits permitted) tt given

pub demand3_batches : (R : Rules) → Permitted R.limits → (calls : List Call) → All Given calls → Batches R calls
demand3_batches R permitted calls given = record {
  agree = λ n s e.
      let d = made_number R n s (ends R calls).batches (asked R start calls) (ends_made R permitted calls given) e in
      record {
        given = d.for.given;
        bytes = d.at ∙ ap some d.for.bytes;
        lawful = d.for.lawful;
        agrees =
            batches_agree R permitted (ends R calls) (machine R calls) (ends_follow R permitted calls given) n s (asked R start calls) d e;
      };
  never18 = never_above R permitted (ends R calls) (machine R calls) (ends_follow R permitted calls given);
}

pub demand3_batches_basic : (calls : List Call) → All Given calls → Batches basic calls
demand3_batches_basic calls given = demand3_batches basic base_permitted calls given

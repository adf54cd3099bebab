-- How apply ends. The store and the batch that both checks accept are the values at their places, so each half of 18 is what the code
-- compares: the store's knowledge covers needed in the span, and the largest own tick that learned has is at most the store's, which is
-- alike in all ranges. Where neither refuses, the knowledge part writes the
-- store's knowledge merged with learned into its room, and the two tables of records are joined; so what is written is the applied store.
use Prim.Native.Nat.{ℕ, ◌+◌, ◌-◌, ◌≤◌}
use mathlib.Core.Path.{◌≡◌, refl, sym, ap, ap₂, subst, ◌∙◌}
use mathlib.Core.Bool.{Bool, true, false, not}
use mathlib.Core.List.{List, [], ◌∷◌}
use native.Mathlib.Omega.{arith}
use lib.Dec.{leb}
use lib.ListN.{length, take, drop}
use Rattle.codec.specs.Number.{Bytes, be_at}
use Rattle.codec.specs.Reply.{Reply}
use Rattle.codec.specs.Total.{read_at, clamp}
use Rattle.codec.specs.Words.{words2, words3}
use Rattle.codec.specs.Answer.{Answer}
use Rattle.codec.specs.Answer as A
use Rattle.codec.specs.declared.Item.{Item}
use Rattle.codec.specs.declared.Replica.{Replica}
use Rattle.codec.specs.declared.Refusal.{Refusal}
use Rattle.codec.specs.Ids.{item_of, replica_of, item_read, replica_read}
use Rattle.codec.specs.Refusal.{number}
use Rattle.std.specs.Prelude.{Result, Ok, Err}
use Rattle.layout.specs.declared.ReplicaKey.{ReplicaKey}
use Rattle.layout.specs.Knowledge.{Limits, Knowledge, any_id}
use Rattle.layout.specs.Permitted.{largest_records, within}
use Rattle.layout.specs.Decode.{decode}
use Rattle.ticks.specs.Meaning.{highest, known, Normal}
use Rattle.ticks.specs.Operations.{covers, covers_for, own_alike, merge}
use Rattle.replication.specs.Formats.{Store}
use Rattle.replication.specs.OpenStore.{store_knowledge}
use Rattle.replication.specs.OpenBatch.{first_id, last_id, batch_needed}
use Rattle.replication.specs.Operate.{join, applied}
use Rattle.replication.specs.Calls.{uncovered, own_ahead, apply_reply}
use Rattle.replication.specs.MethodTable.{table_at}
use Rattle.replication.specs.MethodOpening.{store_at, batch_at}
use Rattle.replication.proofs.Opening.Store.{store_own, store_knowledge_lem, store_walked}
use Rattle.replication.proofs.Opening.Batch.{batch_first, batch_last, batch_walked}
use Rattle.replication.proofs.Contents.Valid.{store_exact}
use Rattle.replication.proofs.Refusals.Apply.{apply_store, apply_batch}
use Rattle.replication.proofs.Opening.Calls.{apply_uncovered, apply_ahead, apply_left}
use Rattle.lookup.specs.declared.Cursor.{Cursor}
use Rattle.lookup.specs.Method.{key_at, tick_from, Opens, Open}
use Rattle.lookup.proofs.Leaf.{leaf_known}
use Rattle.lookup_ranges.specs.Method.{top_key_of}
use Rattle.lookup_ranges.proofs.OneReplica.{top_key_covers}
use Rattle.cover.specs.Method.{covers_by}
use Rattle.cover.proofs.Covering.{covers_is as by-places}
use Rattle.codec.specs.MethodEnded.{Ended}
use Rattle.codec.proofs.Ended.{ended_refused}
use Rattle.records_join.specs.MethodJoin.{size_from, join_at, fronted}
use Rattle.store_open.specs.declared.KnowledgePart.{KnowledgePart}
use Rattle.store_open.specs.declared.OpenStore.{OpenStore}
use Rattle.store_open.specs.declared.OpenBatch.{OpenBatch}
use Rattle.store_open.proofs.Ids.{item_at, replica_at}
use Rattle.store_open.specs.Method.{store_opened, batch_opened}
use Rattle.store_open.proofs.Opened.{StoreOpen, BatchOpen, store_open, store_closed, batch_open, batch_closed}
use Rattle.store_open.proofs.Opened.{store_place, store_room_lem, store_slice, store_lookup}
use Rattle.store_open.proofs.Opened.{batch_place, batch_fits, needed_slice, learned_slice, needed_lookup, learned_lookup}
use Rattle.layout.specs.declared.Limits as R
use Rattle.results.specs.MethodOpened.{limits_of}
use Rattle.store_write.specs.MethodClosing.{knowledge_reply, RoomFor, with_part, Inside}
use Rattle.store_write.proofs.Closing.{joined_inside}
use Rattle.apply.specs.Method.{own_covered, applied_reply, BothValid, OwnAndLearned, Merges}

-- ---- cover of needed

module _ (k : List ℕ) (r : ℕ) (c : Cursor) (n : List ℕ) (m : ℕ) (d : Cursor) (t : List ℕ) (a : Open k r c) (b : Open n m d)
    (header : batch_needed ≤ length t) (span : first_id t ≤ last_id t) (f l : Item)
    (first : f ≡ item_read (take (1 + 24 - 1) (drop 1 t))) (last : l ≡ item_read (take (25 + 24 - 25) (drop 25 t)))
    (z : Bool) (e : z ≡ covers_by k r c n m d (item_of f) (item_of l)) where
  pub needed_covered : z ≡ covers (decode k) (decode n) (first_id t) (last_id t)
  needed_covered =
      e
      ∙ ap₂ (covers_by k r c n m d) (item_at t 1 f first (omega (arith, header))) (item_at t 25 l last (omega (arith, header)))
      ∙ by-places k r c n m d (first_id t) (last_id t) a b span

-- ---- the own tick

pub first_item_lem : words3 0 0 0 ≡ 0
unfolding words3
first_item_lem = refl

-- the tick at the first item is the one in all ranges
pub own_covered_lem : (k : List ℕ) (r : ℕ) (c : Cursor) (l : List ℕ) (m : ℕ) (d : Cursor) (p : ℕ) → Open k r c → Open l m d
    → own_alike p (decode k) ≡ true → (mine : ℕ) → mine ≡ tick_from k r c (words3 0 0 0) p → (key : ReplicaKey) → key ≡ key_at l m p
    → (top : ℕ) → top ≡ top_key_of l m key d → (z : Bool) → z ≡ leb top mine → z ≡ own_covered p (decode k) (decode l)
own_covered_lem k r c l m d p a b alike mine e key f top g z h =
    let tick : mine ≡ known (decode k) 0 p =
    e ∙ ap (λ (i : ℕ). tick_from k r c i p) first_item_lem ∙ leaf_known a.rules k r c a.opens 0 p in
    let most : top ≡ top_key_of l m (key_at l m p) d = g ∙ ap (λ (x : ReplicaKey). top_key_of l m x d) f in
    h ∙ ap₂ leb most tick ∙ sym (top_key_covers b.rules l m d b.opens p (decode k) alike)

-- ---- a store and a batch that were opened

module _ (a b n : ℕ) (s : List ℕ) (mine : OpenStore) (t : List ℕ) (theirs : OpenBatch) (v : BothValid (within a b n) s mine t theirs) where
  abbrev L : Limits
  L = within a b n

  abbrev own : KnowledgePart
  own = mine.own

  abbrev needed : KnowledgePart
  needed = theirs.needed

  abbrev learned : KnowledgePart
  learned = theirs.learned

  store : StoreOpen L s own mine.count
  store = store_open a b n s v.store_bytes mine v.store

  batch : BatchOpen L t needed learned theirs.count
  batch = batch_open a b n t v.batch_bytes theirs v.batch

  -- the own id and the parts are inside
  pub own_there : 1 + 16 ≤ length s
  own_there = omega (arith, store.tests.header)

  pub own_room : store_knowledge + own.length ≤ length s
  own_room = store_room_lem L s own mine.count store

  pub batch_room_lem : batch_needed + needed.length + learned.length ≤ length t
  batch_room_lem = batch_fits L t needed learned theirs.count batch

  -- the bytes of the knowledges, as they are sliced
  abbrev own_bytes : List ℕ
  own_bytes = take (store_knowledge + own.length - store_knowledge) (drop store_knowledge s)

  abbrev needed_bytes : List ℕ
  needed_bytes = take (batch_needed + needed.length - batch_needed) (drop batch_needed t)

  abbrev learned_bytes : List ℕ
  learned_bytes =
      take (batch_needed + needed.length + learned.length - (batch_needed + needed.length)) (drop (batch_needed + needed.length) t)

  own_open : Open own_bytes own.view.r own.view.start
  own_open =
      subst (λ (x : List ℕ). Open x own.view.r own.view.start) (sym (store_slice L s own mine.count store))
      (store_lookup L s own mine.count store)

  needed_open : Open needed_bytes needed.view.r needed.view.start
  needed_open =
      subst (λ (x : List ℕ). Open x needed.view.r needed.view.start) (sym (needed_slice L t needed learned theirs.count batch))
      (needed_lookup L t needed learned theirs.count batch)

  learned_open : Open learned_bytes learned.view.r learned.view.start
  learned_open =
      subst (λ (x : List ℕ). Open x learned.view.r learned.view.start) (sym (learned_slice L t needed learned theirs.count batch))
      (learned_lookup L t needed learned theirs.count batch)

  -- they are the store's and the batch's
  own_is : (store_at L s).knowledge ≡ decode own_bytes
  own_is = store.knowledge ∙ ap decode (sym (store_slice L s own mine.count store))

  needed_is : (batch_at L t).needed ≡ decode needed_bytes
  needed_is = batch.needed ∙ ap decode (sym (needed_slice L t needed learned theirs.count batch))

  learned_is : (batch_at L t).learned ≡ decode learned_bytes
  learned_is = batch.learned ∙ ap decode (sym (learned_slice L t needed learned theirs.count batch))

  -- what is asked for the first half of 18
  pub asks_needed : Open own_bytes own.view.r own.view.start × Open needed_bytes needed.view.r needed.view.start
      × (batch_needed ≤ length t) × (first_id t ≤ last_id t)
  asks_needed = (own_open, needed_open, batch.tests.header, batch.span)

  covers_is : covers (store_at L s).knowledge (batch_at L t).needed (batch_at L t).first (batch_at L t).last
      ≡ covers (decode own_bytes) (decode needed_bytes) (first_id t) (last_id t)
  covers_is =
      ap₂ (covers (store_at L s).knowledge (batch_at L t).needed) (batch_first L t) (batch_last L t)
      ∙ ap₂ (λ (x y : Knowledge). covers x y (first_id t) (last_id t)) own_is needed_is

  module _ (z : Bool) (e : z ≡ covers (decode own_bytes) (decode needed_bytes) (first_id t) (last_id t)) where
    uncovered_is : uncovered (store_at L s) (batch_at L t) ≡ not z
    unfolding uncovered
    uncovered_is = ap not (covers_is ∙ sym e)

    pub refuses_uncovered : (out : List ℕ) → z ≡ false → Ended (apply_reply L s t) out out (A.Refused 18)
    refuses_uncovered out f =
        ended_refused (apply_reply L s t) out 18
        (apply_uncovered L s (store_at L s) store.value t (batch_at L t) batch.value (uncovered_is ∙ ap not f))

    module _ (f : z ≡ true) (p : Replica) (read : p ≡ replica_read (take (1 + 16 - 1) (drop 1 s))) where
      id_is : replica_of p ≡ (store_at L s).own
      id_is = replica_at s 1 p read own_there ∙ sym (store_own L s)

      -- what is asked for the second half
      pub asks_own : Open own_bytes own.view.r own.view.start × Open learned_bytes learned.view.r learned.view.start
          × (own_alike (replica_of p) (decode own_bytes) ≡ true)
      asks_own = (
        own_open,
        learned_open,
        ap₂ own_alike (id_is ∙ store_own L s) (sym own_is ∙ store_knowledge_lem L s) ∙ store.tests.alike,
      )

      own_covers : covers_for ((store_at L s).own ∷ []) (store_at L s).knowledge (batch_at L t).learned 0 highest
          ≡ own_covered (replica_of p) (decode own_bytes) (decode learned_bytes)
      own_covers =
          ap (λ (q : ℕ). covers_for (q ∷ []) (store_at L s).knowledge (batch_at L t).learned 0 highest) (sym id_is)
          ∙ ap₂ (λ (x y : Knowledge). covers_for (replica_of p ∷ []) x y 0 highest) own_is learned_is

      -- what the result goes by
      pub merges : Merges L s own_bytes own (replica_of p) t learned_bytes learned (batch_needed + needed.length)
      merges = record {
        store_bytes = v.store_bytes;
        batch_bytes = v.batch_bytes;
        id = id_is;
        mine =
            subst (λ (x : List ℕ). Opens (any_id L) x own.view.r own.view.start) (sym (store_slice L s own mine.count store))
            store.opens;
        mine_is = own_is;
        normal =
            subst Normal own_is
            ((store_exact L s (store_at L s) store.opens.permitted v.store_bytes).0 store.value).1.normal;
        theirs =
            subst (λ (x : List ℕ). Opens (any_id L) x learned.view.r learned.view.start)
            (sym (learned_slice L t needed learned theirs.count batch)) batch.learned_opens;
        theirs_is = learned_is;
        room = own_room;
        other_room = batch_room_lem;
        records = ap (table_at s) (store_place L s own mine.count store) ∙ store_walked L s store.tests;
        others = ap (table_at t) (batch_place L t needed learned theirs.count batch) ∙ batch_walked L t batch.tests;
      }

      module _ (y : Bool) (g : y ≡ own_covered (replica_of p) (decode own_bytes) (decode learned_bytes)) where
        ahead_is : own_ahead (store_at L s) (batch_at L t) ≡ not y
        unfolding own_ahead
        ahead_is = ap not (own_covers ∙ sym g)

        pub refuses_ahead : (out : List ℕ) → y ≡ false → Ended (apply_reply L s t) out out (A.Refused 18)
        refuses_ahead out j =
            ended_refused (apply_reply L s t) out 18
            (apply_ahead L s (store_at L s) store.value t (batch_at L t) batch.value (uncovered_is ∙ ap not f)
            (ahead_is ∙ ap not j))

        pub on_to_result : (out u : List ℕ) (r : Answer) → y ≡ true → Ended (applied_reply L s t) out u r
            → Ended (apply_reply L s t) out u r
        on_to_result out u r j w =
            subst (λ (reply : Reply). Ended reply out u r)
            (sym (apply_left L s (store_at L s) store.value t (batch_at L t) batch.value (uncovered_is ∙ ap not f)
            (ahead_is ∙ ap not j))) w

-- ---- the result

module _ (a b n : ℕ) (s k : List ℕ) (own : KnowledgePart) (p : ℕ) (t l : List ℕ) (learned : KnowledgePart) (at : ℕ)
    (m : Merges (within a b n) s k own p t l learned at) where
  abbrev M : Limits
  M = within a b n

  abbrev result : Store
  result = applied (store_at M s) (batch_at M t)

  knowledge_is : merge (decode k) (decode l) ≡ result.knowledge
  unfolding applied
  knowledge_is = sym (ap₂ merge m.mine_is m.theirs_is)

  id_of_lem : p ≡ result.own
  unfolding applied
  id_of_lem = m.id

  records_are : join (table_at s (store_knowledge + own.length)) (table_at t (at + learned.length)) ≡ result.records
  unfolding applied
  records_are = ap₂ join m.records m.others

  abbrev chosen : List ℕ
  chosen = join_at s (store_knowledge + own.length) t (at + learned.length)

  -- what is known once the merged knowledge is written into its room
  module _ (d picks : List ℕ) (count size : ℕ) (counts : count ≡ length chosen) (sizes : size ≡ size_from s t chosen)
      (picked : picks ≡ fronted d chosen) (most : largest_records ≤ length d) (first : List ℕ) (from to : ℕ)
      (room : RoomFor (length first) (clamp n largest_records) count size from to) where
    pub apply_inside : (part : List ℕ) (r : Answer) → Ended (knowledge_reply M (merge (decode k) (decode l))) (take (to - from) (drop from first)) part r
        → Inside M result p r (clamp n largest_records) s t picks count size first (with_part first from to part)
    apply_inside part r e =
        joined_inside M result p id_of_lem n refl s (store_knowledge + own.length) t (at + learned.length) m.store_bytes m.batch_bytes records_are
        d picks count size counts sizes picked most first from to room part r
        (subst (λ (x : Knowledge). Ended (knowledge_reply M x) (take (to - from) (drop from first)) part r) knowledge_is e)

-- what the knowledge part asks for
module _ (limits : R.Limits) (s k : List ℕ) (own : KnowledgePart) (p : ℕ) (t l : List ℕ) (learned : KnowledgePart) (at : ℕ)
    (m : Merges (limits_of limits) s k own p t l learned at) where
  pub own_and_learned : OwnAndLearned limits k own.view l learned.view
  own_and_learned = record {
    mine = record { rules = any_id (limits_of limits); limits = refl; opens = m.mine };
    normal = m.normal;
    theirs = record { rules = any_id (limits_of limits); limits = refl; opens = m.theirs };
  }

-- ---- what the checks answered

module _ (a b n : ℕ) (s t : List ℕ) (o : Result OpenStore Refusal) (e : o ≡ store_opened (within a b n) s) where
  pub not_store : (out : List ℕ) (x : Refusal) → o ≡ Err x → Ended (apply_reply (within a b n) s t) out out (A.Refused (number x))
  not_store out x f =
      ended_refused (apply_reply (within a b n) s t) out (number x)
      (apply_store (within a b n) s t (number x) (store_closed a b n s x (sym e ∙ f)))

  module _ (bytes : Bytes s) (mine : OpenStore) (f : o ≡ Ok mine) (q : Result OpenBatch Refusal)
      (g : q ≡ batch_opened (within a b n) t) where
    pub not_batch : (out : List ℕ) (x : Refusal) → q ≡ Err x → Ended (apply_reply (within a b n) s t) out out (A.Refused (number x))
    not_batch out x h =
        ended_refused (apply_reply (within a b n) s t) out (number x)
        (apply_batch (within a b n) s t _ (number x) (store_open a b n s bytes mine (sym e ∙ f)).value
        (batch_closed a b n t x (sym g ∙ h)))

    pub both_valid : Bytes t → (theirs : OpenBatch) → q ≡ Ok theirs → BothValid (within a b n) s mine t theirs
    both_valid others theirs h = record { store_bytes = bytes; store = sym e ∙ f; batch_bytes = others; batch = sym g ∙ h }

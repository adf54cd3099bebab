-- An edit or a delete of a store that was opened. The new record's tick is one more than the largest tick known, and the change version of
-- the item's record is contained, so the new record wins over it: joining the store's table with the table of the new record puts it in its
-- place. The knowledge of a store is in normal form, and its own tick is the same for all items: where there is one, the knowledge with the
-- own tick raised is a copy with that tick written over, else it is written from a table; and where it would have one replica too many, the
-- reply is 11. What is then written ends the call as its reply says. Before that, the lines of the table in their order.
use Prim.Native.Nat.{ℕ, ◌+◌, ◌-◌, ◌^◌, ◌≤◌, ◌<◌}
use mathlib.Core.Path.{◌≡◌, refl, sym, ap, ap₂, ◌∙◌, subst}
use mathlib.Core.Logic.{inl, inr}
use mathlib.Core.Bool.{Bool, true, false}
use mathlib.Core.List.{List, []}
use mathlib.Core.Option.{Option, none, some}
use native.Mathlib.Omega.{arith}
use lib.ListN.{length, take, drop}
use Rattle.codec.specs.Number.{Bytes, be_at}
use Rattle.codec.specs.Reply.{Reply}
use Rattle.codec.specs.Total.{read_at, clamp}
use Rattle.codec.specs.Words.{words2, words3}
use Rattle.codec.specs.Part.{placed}
use Rattle.codec.specs.Answer.{Answer}
use Rattle.codec.specs.Answer.{Refused}
use Rattle.codec.proofs.Numbers.{power_positive, be_below}
use Rattle.codec.proofs.Total.{read_id2}
use Rattle.layout.specs.Knowledge.{Limits, Knowledge, any_id, largest_tick, base}
use Rattle.layout.specs.Permitted.{within, largest_replicas, largest_records}
use Rattle.layout.specs.Decode.{decode}
use Rattle.layout.proofs.Places.{counts}
use Rattle.layout.proofs.Within.{within_permitted}
use Rattle.ticks.specs.Meaning.{known, place, Normal}
use Rattle.ticks.specs.Operations.{raise, largest}
use Rattle.ticks.specs.Calls.{id_of}
use Rattle.ticks.proofs.Largest.{largest_bounds}
use Rattle.ticks.proofs.Replies.{result_says}
use Rattle.ticks.proofs.Written.{among_place}
use Rattle.ticks.proofs.Lists.{less, same, more, order}
use Rattle.ticks.proofs.ForCalls.{id_is}
use Rattle.lookup.specs.Method.{key_at, tick_from, Opens}
use Rattle.lookup.proofs.Leaf.{opens_reading, leaf_known}
use Rattle.lookup_ranges.specs.Method.{top_of}
use Rattle.lookup_ranges.proofs.Ranges.{largest_from_lem}
use Rattle.codec.specs.MethodEnded.{Ended, end_of}
use Rattle.codec.proofs.Ended.{ended_refused}
use Rattle.replication.specs.Record.{Content, Rec}
use Rattle.replication.specs.Reading.{rec_at, create_replica_place, create_tick_place}
use Rattle.replication.specs.Formats.{put_rec, find, Store}
use Rattle.replication.specs.Operate.{replace, join, wins, next_tick, changed_rec, changed}
use Rattle.replication.specs.Queries.{places, place_of}
use Rattle.replication.specs.OpenStore.{knowledge_length, store_knowledge}
use Rattle.replication.specs.Valid.{LawfulRec, ContainedIn, LawfulStore}
use Rattle.replication.specs.MethodRecords.{found_at}
use Rattle.replication.specs.MethodTable.{table_at}
use Rattle.replication.specs.MethodOpening.{store_at}
use Rattle.replication.specs.Call.{brings}
use Rattle.replication.specs.MethodReplies.{change_reply, store_reply}
use Rattle.replication.specs.Calls.{gone, live_content, tombstone, edit_reply, delete_reply}
use Rattle.replication.proofs.Bytes.Part.{part_length_lem}
use Rattle.replication.proofs.Tables.InBytes.{whole_at}
use Rattle.replication.proofs.Tables.Walked.{find_table, none_found, found_some, found_place_lem}
use Rattle.replication.proofs.Bytes.Record.{FitsRec, rec_size}
use Rattle.replication.proofs.Tables.Rising.{find_all}
use Rattle.replication.proofs.Tables.Join.{wins_tick}
use Rattle.replication.proofs.Contents.Valid.{rec_fits, store_exact}
use Rattle.replication.proofs.Contents.Edit.{NewRec, changed_is}
use Rattle.replication.proofs.Opening.Store.{store_own, store_walked}
use Rattle.replication.proofs.Refusals.Edit.{edit_store, edit_17, delete_store, delete_17}
use Rattle.replication.proofs.Opening.Calls.{store_result, change_last, change_on, edit_left, delete_gone, delete_left}
use Rattle.std.specs.Prelude as Std
use Rattle.std.specs.Prelude.{Result, Ok, Err}
use Rattle.codec.specs.declared.Refusal.{Refusal}
use Rattle.codec.specs.declared.Replica.{Replica}
use Rattle.codec.specs.Refusal.{number}
use Rattle.codec.specs.Ids.{item_read, replica_of, replica_read}
use Rattle.codec.proofs.Ids.{item_there}
use Rattle.codec.specs.declared.Item.{Item}
use Rattle.records.specs.Method.{read_rec, found_place}
use Rattle.records.proofs.Fields.{deleted_read, read_whole}
use Rattle.records.proofs.Finding.{found_at_lem, found_nothing}
use Rattle.records_join.specs.declared.RecordWords.{RecordWords}
use Rattle.records_join.specs.declared.TagWords.{TagWords}
use Rattle.records_join.specs.declared.VersionWords.{VersionWords}
use Rattle.records_join.specs.MethodJoin.{join_at, size_from, fronted}
use Rattle.records_join.specs.MethodWritten.{record_of}
use Rattle.records_join.proofs.Written.{record_table, record_placed, replaced_table}
use Rattle.store_open.specs.declared.KnowledgePart.{KnowledgePart}
use Rattle.store_open.specs.declared.OpenStore.{OpenStore}
use Rattle.store_open.proofs.Ids.{replica_at}
use Rattle.store_open.specs.Method.{store_opened}
use Rattle.store_open.proofs.Opened.{StoreOpen, store_open, store_closed, store_place, store_room_lem, store_slice}
use Rattle.lookup.specs.declared.View.{View}
use Rattle.layout.specs.declared.Limits as R
use Rattle.layout.specs.declared.ReplicaKey.{ReplicaKey}
use Rattle.results.specs.MethodOpened.{limits_of, result_of}
use Rattle.results_copied.specs.MethodRaised.{copied_end}
use Rattle.results_copied.proofs.Raised.{key_place, copy_raised}
use Rattle.store_write.specs.MethodClosing.{knowledge_reply, RoomFor, with_part, Inside}
use Rattle.store_write.proofs.Closing.{joined_inside}
use Rattle.edit.proofs.OneMore.{raise_more, over_11}
use Rattle.edit.specs.declared.Change.{Change}
use Rattle.edit.specs.MethodEditing.{item_of, content_of, version_replica, found_read, Becomes, Raises, Asked}

-- ---- ids

pub item_is : (s : List ℕ) (i : Item) → i ≡ item_read s → length s ≡ 24 → words3 i.high i.middle i.low ≡ be_at s 24 0
item_is s i e l = ap (λ (x : Item). words3 x.high x.middle x.low) e ∙ item_there s (omega arith)

pub tag_is : (s : List ℕ) (t0 t1 : ℕ) → length s ≡ 16 → t0 ≡ read_at s 8 0 → t1 ≡ read_at s 8 8 → words2 t0 t1 ≡ be_at s 16 0
tag_is s t0 t1 e a b = rw (a, b) (read_id2 s 0 (omega arith))

-- ---- the record of the item

-- what was found is the item's record in the table
pub found_is : (s : List ℕ) (found : Std.Option ℕ) (i at : ℕ) → found_place found ≡ place_of s i (places s at)
    → found_read s found ≡ find i (table_at s at)
unfolding found_read
found_is s (Std.Some a) i at h =
    let e : place_of s i (places s at) ≡ some a = sym h ∙ found_at_lem a in
    let w = found_place_lem s i at a e in
    ap some (read_whole s a (whole_at s a w.0)) ∙ sym (find_table s i at ∙ (ap (found_at s) e ∙ found_some s a))
found_is s Std.None i at h = sym (none_found s i at (sym h ∙ found_nothing))

module _ (s : List ℕ) (found : Std.Option ℕ) where
  pub gone_nothing : found ≡ Std.None → true ≡ gone (found_read s found)
  unfolding found_read gone
  gone_nothing e = sym (ap (λ (f : Std.Option ℕ). gone (found_read s f)) e)

  pub gone_at : (at : ℕ) → found ≡ Std.Some at → (b : Bool) → b ≡ (rec_at s at).content.deleted → b ≡ gone (found_read s found)
  unfolding found_read gone read_rec
  gone_at at e b h = h ∙ (sym (deleted_read s at (read_at s 1 at) refl) ∙ sym (ap (λ (f : Std.Option ℕ). gone (found_read s f)) e))

  module _ (what : Change) (change : VersionWords) where
    -- the code's record, by its create version
    abbrev pub words_of : VersionWords → RecordWords
    words_of create = record { item = what.item; change = change; create = create; deleted = what.deleted; tag = what.tag }

    abbrev pub of_change : Rec
    of_change = changed_rec (content_of what) (item_of what) (version_replica change) change.tick (found_read s found)

    pub record_new : found ≡ Std.None → record_of (words_of change) ≡ of_change
    unfolding record_of changed_rec found_read
    record_new e =
        sym (ap (λ (f : Std.Option ℕ). changed_rec (content_of what) (item_of what) (version_replica change) change.tick (found_read s f)) e)

    pub record_kept : (at : ℕ) → found ≡ Std.Some at → (create : VersionWords) → version_replica create ≡ read_at s 16 (at + create_replica_place)
        → create.tick ≡ read_at s 8 (at + create_tick_place) → record_of (words_of create) ≡ of_change
    unfolding record_of changed_rec found_read read_rec
    record_kept at e create p t =
        ap₂ (λ (q x : ℕ). record {
          item = item_of what;
          change_replica = version_replica change;
          change_tick = change.tick;
          create_replica = q;
          create_tick = x;
          content = content_of what;
        }) p t
        ∙ sym (ap (λ (f : Std.Option ℕ). changed_rec (content_of what) (item_of what) (version_replica change) change.tick (found_read s f)) e)

-- ---- what is written

-- the new record's bytes alone are the other table
pub put_becomes : (s k : List ℕ) (w : RecordWords) (d one : List ℕ) (st : Store) → length d ≡ rec_size
    → one ≡ placed d 0 (put_rec (record_of w) [])
    → Becomes s k (record_of w).change_replica (record_of w).change_tick (put_rec (record_of w) []) st
    → Becomes s k (version_replica w.change) w.change.tick one st
unfolding record_of
put_becomes s k w d one st e f h =
    subst (λ (x : List ℕ). Becomes s k (record_of w).change_replica (record_of w).change_tick x st)
    (sym (f ∙ record_placed d (record_of w) e)) h

-- what is known once the raised knowledge is written into its room
module _ (limits : R.Limits) (s k : List ℕ) (who tick : ℕ) (one : List ℕ) (bytes : Bytes s) (others : Bytes one) (d picks : List ℕ)
    (count size : ℕ) (counts : count ≡ length (join_at s (store_knowledge + length k) one 0))
    (sizes : size ≡ size_from s one (join_at s (store_knowledge + length k) one 0))
    (picked : picks ≡ fronted d (join_at s (store_knowledge + length k) one 0)) (most : largest_records ≤ length d) (first : List ℕ) (from to : ℕ)
    (room : RoomFor (length first) (clamp limits.records largest_records) count size from to) where
  pub change_inside : (part : List ℕ) (r : Answer)
      → Ended (knowledge_reply (limits_of limits) (raise who tick (decode k))) (take (to - from) (drop from first)) part r
      → (st : Store) → Becomes s k who tick one st
      → Inside (limits_of limits) st who r (clamp limits.records largest_records) s one picks count size first (with_part first from to part)
  change_inside part r e st b =
      joined_inside (limits_of limits) st who b.own limits.records refl s (store_knowledge + length k) one 0 bytes others b.records
      d picks count size counts sizes picked most first from to room part r
      (subst (λ x. Ended (knowledge_reply (limits_of limits) x) (take (to - from) (drop from first)) part r) b.knowledge e)

-- ---- the own tick raised

zero-item : words3 0 0 0 ≡ 0
unfolding words3
zero-item = refl

module _ (limits : R.Limits) (k : List ℕ) (v : View) (change : VersionWords) (h : Raises limits k v change) where
  abbrev who : ℕ
  who = version_replica change

  abbrev raised : Knowledge
  raised = raise who change.tick (decode k)

  -- where the own replica has a tick at the first item, the copy is the raised knowledge
  pub raised_copy : (x : ℕ) → x ≡ tick_from k v.r v.start (words3 0 0 0) who → (x ≡ 0 → ⊥) → (out u : List ℕ) (r : Answer)
      → end_of u r ≡ copied_end k v change.replica change.tick out → Ended (result_of limits raised) out u r
  raised_copy x e has out u r ends =
      let z : x ≡ known (decode k) 0 who =
      e ∙ leaf_known h.reads.rules k v.r v.start h.reads.opens (words3 0 0 0) who
      ∙ ap (λ (i : ℕ). known (decode k) i who) zero-item in
      let positive : 1 ≤ x = elim (order x 0) [ less l ↦ absurd (omega arith) | same l ↦ absurd (has l) | more l ↦ l ] in
      subst (λ (L : Limits). Ended (knowledge_reply L raised) out u r) h.reads.limits
      (copy_raised h.reads.rules k v h.reads.opens change.replica x change.tick h.normal
      (record { alike = λ i l. h.alike i l ∙ sym z; some = positive }) h.some out u r ends)

  -- where it is not in the map, there is one replica more
  pub raised_more : (m : ℕ) → m ≡ clamp limits.replicas largest_replicas → m ≤ v.r → (key : ReplicaKey) → key ≡ key_at k v.r who
      → key.0 ≡ v.r → (limits_of limits).replicas < length raised.replicas
  raised_more m is full key found last =
      let o = h.reads.opens in
      let size = (counts h.reads.rules k v.r o.v o.e o.g (opens_reading h.reads.rules k v.r v.start o)).replicas in
      let place : place who (decode k).replicas ≡ length (decode k).replicas =
      sym (key_place h.reads.rules k v o who) ∙ ap (λ (x : ReplicaKey). x.0) (sym found) ∙ last ∙ sym size in
      omega (
        arith,
        raise_more who change.tick (decode k) h.normal (λ m. omega (arith, among_place who (decode k).replicas m, place)) h.some,
        size,
      )

-- and then the changed store is refused with 11
pub change_11 : (limits : R.Limits) (s k one : List ℕ) (who tick : ℕ) → (limits_of limits).replicas < length (raise who tick (decode k)).replicas
    → (st : Store) → Becomes s k who tick one st → (out : List ℕ) → Ended (store_reply (limits_of limits) st) out out (Refused 11)
change_11 limits s k one who tick l st b out =
    let L = limits_of limits in
    ended_refused (store_reply L st) out 11
    (store_result L st 11
    (over_11 L st.knowledge _ (result_says L st.knowledge) (subst (λ (x : Knowledge). L.replicas < length x.replicas) b.knowledge l)))

-- ---- the changed store

module _ (a b n : ℕ) (s : List ℕ) (bytes : Bytes s) (k : List ℕ) (store : OpenStore) (found : Std.Option ℕ) (what : Change)
    (h : Asked (within a b n) s k store found what) where
  abbrev L : Limits
  L = within a b n

  abbrev st : Store
  st = store_at L s

  abbrev content : Content
  content = content_of what

  abbrev item : ℕ
  item = item_of what

  abbrev own : KnowledgePart
  own = store.own

  opened : StoreOpen L s own store.count
  opened = store_open a b n s bytes store h.valid

  lawful : LawfulStore L st
  lawful = ((store_exact L s st (within_permitted a b n) bytes).0 opened.value).1

  change_opens : Opens (any_id L) k own.view.r own.view.start
  change_opens = subst (λ (x : List ℕ). Opens (any_id L) x own.view.r own.view.start) (sym h.part) opened.opens

  decodes : decode k ≡ st.knowledge
  decodes = ap decode h.part ∙ sym opened.knowledge

  -- the own id is there
  pub own_there : 1 + 16 ≤ length s
  own_there = omega (arith, opened.tests.header)

  own_is : (p : Replica) → p ≡ replica_read (take (1 + 16 - 1) (drop 1 s)) → replica_of p ≡ st.own
  own_is p e = replica_at s 1 p e own_there ∙ sym (store_own L s)

  -- what raising asks for: the knowledge of a store is in normal form, and the own tick is the same for all items
  pub change_raises : (change : VersionWords) (p : Replica) (tick : ℕ) → change ≡ record { replica = p; tick = tick + 1 }
      → p ≡ replica_read (take (1 + 16 - 1) (drop 1 s)) → p.high < 2 ^ 64 → p.low < 2 ^ 64
      → Raises (record { replicas = a; ranges = b; records = n }) k own.view change
  change_raises change p tick e read high low =
      let is : (i : ℕ) → known (decode k) i (replica_of p) ≡ known st.knowledge i st.own =
      λ i. ap₂ (λ (q : Knowledge) (x : ℕ). known q i x) decodes (own_is p read) in
      subst (λ (x : VersionWords). Raises (record { replicas = a; ranges = b; records = n }) k own.view x) (sym e)
      (record {
        reads = record { rules = any_id L; limits = refl; opens = change_opens };
        normal = subst Normal (sym decodes) lawful.normal;
        alike = λ i l. is i ∙ lawful.alike i 0 l (omega arith) ∙ sym (is 0);
        high = high;
        low = low;
        some = omega arith;
      })

  part_size : length k ≡ own.length
  part_size =
      ap length h.part ∙ part_length_lem s (knowledge_length s) store_knowledge (omega (arith, opened.tests.inside)) ∙ sym opened.length

  walked : table_at s (store_knowledge + own.length) ≡ st.records
  walked = ap (table_at s) (store_place L s own store.count opened) ∙ store_walked L s opened.tests

  found_here : found_read s found ≡ find item st.records
  found_here = found_is s found item (store_knowledge + own.length) h.place ∙ ap (find item) walked

  module _ (t : ℕ) (e : t ≡ top_of k own.view.r own.view.start) where
    largest_is : t ≡ largest st.knowledge
    largest_is = e ∙ largest_from_lem (any_id L) k own.view.r own.view.start change_opens ∙ ap largest decodes

    pub change_20 : (out : List ℕ) → largest_tick ≤ t → Ended (change_reply L st content item) out out (Refused 20)
    change_20 out l = ended_refused (change_reply L st content item) out 20 (change_last L st content item (omega (arith, largest_is)))

    module _ (below : t < largest_tick) (p : Replica) (read : p ≡ replica_read (take (1 + 16 - 1) (drop 1 s))) (w : RecordWords)
        (f : record_of w ≡ changed_rec content item (replica_of p) (t + 1) (found_read s found)) where
      abbrev new : Rec
      new = changed_rec content item st.own (next_tick st) (find item st.records)

      tick_is : t + 1 ≡ next_tick st
      unfolding next_tick
      tick_is = omega (arith, largest_is)

      record_is : record_of w ≡ new
      record_is =
          f
          ∙ ap₂ (λ (q x : ℕ). changed_rec content item q x (found_read s found)) (own_is p read) tick_is
          ∙ ap (changed_rec content item st.own (next_tick st)) found_here

      new_is : NewRec content item st.own (next_tick st) (find item st.records) new
      new_is = changed_is content item st.own (next_tick st) (find item st.records)

      created : (o : Option Rec) → find item st.records ≡ o → NewRec content item st.own (next_tick st) o new
          → (new.create_replica < 256 ^ 16) × (new.create_tick < 256 ^ 8)
      created none g m =
          let c = m.absent refl in
          (subst (λ (x : ℕ). x < 256 ^ 16) (sym c.0) lawful.own, omega (arith, c.1, tick_is, below))
      created (some old) g m =
          let c = m.there old refl in
          let v = rec_fits old (find_all LawfulRec item st.records old lawful.records g) in
          (subst (λ (x : ℕ). x < 256 ^ 16) (sym c.0) v.create_replica, omega (arith, c.1, v.create_tick))

      fits : FitsRec new
      fits =
          let c = created (find item st.records) refl new_is in
          record {
            item = subst (λ (x : ℕ). x < 256 ^ 24) (sym new_is.item) h.item;
            change_replica = subst (λ (x : ℕ). x < 256 ^ 16) (sym new_is.change_replica) lawful.own;
            change_tick = omega (arith, new_is.change_tick, tick_is, below);
            create_replica = c.0;
            create_tick = c.1;
            tag = subst (λ (x : Content). x.tag < 256 ^ 16) (sym new_is.content) h.tag;
          }

      -- the new tick is above that of the item's record
      new_wins : (x : Rec) → find new.item (table_at s (store_knowledge + own.length)) ≡ some x → wins x new ≡ true
      new_wins x g =
          let v : ContainedIn st.knowledge x =
          find_all (ContainedIn st.knowledge) new.item st.records x lawful.versions (sym (ap (find new.item) walked) ∙ g) in
          wins_tick x new
          (omega (arith, v.change, largest_bounds st.knowledge x.item x.change_replica, largest_is, new_is.change_tick, tick_is))

      joins : join (table_at s (store_knowledge + length k)) (table_at (put_rec new []) 0) ≡ replace new st.records
      joins =
          ap (λ (m : ℕ). join (table_at s (store_knowledge + m)) (table_at (put_rec new []) 0)) part_size
          ∙ replaced_table s (store_knowledge + own.length) (put_rec new []) new (record_table new fits) new_wins
          ∙ ap (replace new) walked

      becomes : Becomes s k new.change_replica new.change_tick (put_rec new []) (changed content item st)
      unfolding changed
      becomes =
          record {
            own = new_is.change_replica;
            knowledge =
                ap₂ (λ (p x : ℕ). raise p x (decode k)) new_is.change_replica new_is.change_tick
                ∙ ap (raise st.own (next_tick st)) decodes;
            records = joins;
          }

      pub change_done : (out u : List ℕ) (x : Answer)
          → ((y : Store) → Becomes s k (record_of w).change_replica (record_of w).change_tick (put_rec (record_of w) []) y
          → Ended (store_reply L y) out u x)
          → Ended (change_reply L st content item) out u x
      change_done out u x g =
          subst (λ (r : Reply). Ended r out u x) (sym (change_on L st content item (omega (arith, largest_is, below))))
          (g (changed content item st)
          (subst (λ (r : Rec). Becomes s k r.change_replica r.change_tick (put_rec r []) (changed content item st)) (sym record_is) becomes))

-- ---- the calls, by what the check answered

-- a change of the words of an item and of a tag
abbrev pub change_of : Item → Bool → TagWords → Change
change_of i deleted t = record { item = i; deleted = deleted; tag = t }

module _ (a b n : ℕ) (s : List ℕ) (o : Result OpenStore Refusal) (e : o ≡ store_opened (within a b n) s) (item : List ℕ) (out : List ℕ) where
  pub edit_15 : (tag : List ℕ) (q : Refusal) → o ≡ Err q → Ended (edit_reply (within a b n) s item (brings tag)) out out (Refused (number q))
  edit_15 tag q f =
      ended_refused (edit_reply (within a b n) s item (brings tag)) out (number q)
      (edit_store (within a b n) s item (brings tag) (number q) (store_closed a b n s q (sym e ∙ f)))

  pub delete_15 : (q : Refusal) → o ≡ Err q → Ended (delete_reply (within a b n) s item) out out (Refused (number q))
  delete_15 q f =
      ended_refused (delete_reply (within a b n) s item) out (number q)
      (delete_store (within a b n) s item (number q) (store_closed a b n s q (sym e ∙ f)))

  module _ (bytes : Bytes s) (opened : OpenStore) (f : o ≡ Ok opened) where
    opens : StoreOpen (within a b n) s opened.own opened.count
    opens = store_open a b n s bytes opened (sym e ∙ f)

    -- where the records begin
    pub opened_end : store_knowledge + opened.own.length ≤ length s
    opened_end = store_room_lem (within a b n) s opened.own opened.count opens

    pub edit_no_item : (tag : List ℕ) → (length item ≡ 24 → ⊥)
        → Ended (edit_reply (within a b n) s item (brings tag)) out out (Refused 17)
    edit_no_item tag g =
        ended_refused (edit_reply (within a b n) s item (brings tag)) out 17
        ((edit_17 (within a b n) (within_permitted a b n) s item (brings tag) bytes (store_at (within a b n) s) opens.value).1 (inl g))

    pub edit_no_tag : (tag : List ℕ) → (length tag ≡ 16 → ⊥)
        → Ended (edit_reply (within a b n) s item (brings tag)) out out (Refused 17)
    edit_no_tag tag g =
        ended_refused (edit_reply (within a b n) s item (brings tag)) out 17
        ((edit_17 (within a b n) (within_permitted a b n) s item (brings tag) bytes (store_at (within a b n) s) opens.value).1
        (inr (λ b. g b.tag)))

    pub delete_no_item : (length item ≡ 24 → ⊥) → Ended (delete_reply (within a b n) s item) out out (Refused 17)
    delete_no_item g =
        ended_refused (delete_reply (within a b n) s item) out 17
        ((delete_17 (within a b n) (within_permitted a b n) s item bytes (store_at (within a b n) s) opens.value).1 g)

    module _ (octets : Bytes item) (long : length item ≡ 24) (i : Item) (is : words3 i.high i.middle i.low ≡ be_at item 24 0)
        (found : Std.Option ℕ)
        (place : found_place found ≡ place_of s (words3 i.high i.middle i.low) (places s (store_knowledge + opened.own.length))) where
      abbrev words : ℕ
      words = words3 i.high i.middle i.low

      words_id : words ≡ id_of 24 item
      words_id = is ∙ sym (id_is 24 item)

      -- the item was looked for in a store that was opened
      asked : (deleted : Bool) (t : TagWords) → words2 t.high t.low < 256 ^ 16
          → Asked (within a b n) s (take (store_knowledge + opened.own.length - store_knowledge) (drop store_knowledge s)) opened found (change_of i deleted t)
      asked deleted t small =
          record {
            valid = sym e ∙ f;
            part = store_slice (within a b n) s opened.own opened.count opens;
            place = place;
            item = subst (λ (x : ℕ). x < 256 ^ 24) (sym is) (be_below item 24 0 octets);
            tag = small;
          }

      pub edit_asked : (tag : List ℕ) → Bytes tag → (t : TagWords) → words2 t.high t.low ≡ be_at tag 16 0
          → Asked (within a b n) s (take (store_knowledge + opened.own.length - store_knowledge) (drop store_knowledge s)) opened found (change_of i false t)
      edit_asked tag y t tag-words = asked false t (subst (λ (x : ℕ). x < 256 ^ 16) (sym tag-words) (be_below tag 16 0 y))

      pub delete_asked : (t : TagWords) → words2 t.high t.low ≡ 0
          → Asked (within a b n) s (take (store_knowledge + opened.own.length - store_knowledge) (drop store_knowledge s)) opened found (change_of i true t)
      delete_asked t zeros = asked true t (subst (λ (x : ℕ). x < 256 ^ 16) (sym zeros) (power_positive 16))

      pub edit_done : (tag : List ℕ) → length tag ≡ 16 → (t : TagWords) → words2 t.high t.low ≡ be_at tag 16 0
          → (u : List ℕ) (x : Answer)
          → Ended (change_reply (within a b n) (store_at (within a b n) s) (content_of (change_of i false t)) (item_of (change_of i false t))) out u x
          → Ended (edit_reply (within a b n) s item (brings tag)) out u x
      unfolding live_content
      edit_done tag long16 t tag-words u x g =
          subst (λ (r : Reply). Ended r out u x)
          (ap₂ (λ (c j : ℕ). change_reply (within a b n) (store_at (within a b n) s) (record { deleted = false; tag = c }) j)
          (tag-words ∙ sym (id_is 16 tag)) words_id
          ∙ sym (edit_left (within a b n) s (store_at (within a b n) s) opens.value item (brings tag) long long16)) g

      -- the record that was found is the item's
      found_item : found_read s found ≡ find (id_of 24 item) (store_at (within a b n) s).records
      found_item =
          found_is s found words (store_knowledge + opened.own.length) place
          ∙ ap₂ find words_id
          (ap (table_at s) (store_place (within a b n) s opened.own opened.count opens) ∙ store_walked (within a b n) s opens.tests)

      module _ (g : Bool) (went : g ≡ gone (found_read s found)) where
        gone_is : g ≡ gone (find (id_of 24 item) (store_at (within a b n) s).records)
        gone_is = went ∙ ap gone found_item

        pub delete_19 : g ≡ true → Ended (delete_reply (within a b n) s item) out out (Refused 19)
        delete_19 went-off =
            ended_refused (delete_reply (within a b n) s item) out 19
            (delete_gone (within a b n) s (store_at (within a b n) s) opens.value item long (sym gone_is ∙ went-off))

        pub delete_done : g ≡ false → (t : TagWords) → words2 t.high t.low ≡ 0 → (u : List ℕ) (x : Answer)
            → Ended (change_reply (within a b n) (store_at (within a b n) s) (content_of (change_of i true t)) (item_of (change_of i true t))) out u x
            → Ended (delete_reply (within a b n) s item) out u x
        unfolding tombstone
        delete_done there t zeros u x z =
            subst (λ (r : Reply). Ended r out u x)
            (ap₂ (λ (c j : ℕ). change_reply (within a b n) (store_at (within a b n) s) (record { deleted = true; tag = c }) j) zeros words_id
            ∙ sym (delete_left (within a b n) s (store_at (within a b n) s) opens.value item long (sym gone_is ∙ there))) z

-- the words of a tombstone's tag
pub zero-tag : words2 0 0 ≡ 0
unfolding words2
zero-tag = refl

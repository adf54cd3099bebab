-- What edit and delete write, in plain numbers: a valid store of the same replica, in which the own tick is, for every
-- item, one more than the largest tick known before, every other tick is as it was, the item's record is the new one,
-- spelled out, and every other item's record is as it was. The store is valid since the one before was: the new tick is
-- above every tick known, so no version that was contained is lost, and the new version is contained by its tick.
use Prim.Native.Nat.{ℕ, suc, ◌≤◌, ◌<◌, ◌^◌}
use mathlib.Core.Path.{◌≡◌, refl, sym, ap, ◌∙◌, subst}
use mathlib.Core.Logic.{◌⊎◌, inl, inr, ⊎_elim}
use mathlib.Core.List.{List}
use mathlib.Core.Option.{Option, none, some}
use native.Mathlib.Omega.{arith}
use lib.ListN.{length}
use Rattle.codec.specs.Number.{Bytes, be_at}
use Rattle.codec.specs.Reply.{gives}
use Rattle.codec.proofs.Numbers.{power_positive}
use Rattle.layout.specs.Knowledge.{Limits, any_id, largest_tick, All}
use Rattle.layout.specs.Permitted.{Permitted}
use Rattle.ticks.specs.Meaning.{highest, known}
use Rattle.ticks.specs.Operations.{raise, largest}
use Rattle.ticks.specs.Calls.{id_of}
use Rattle.ticks.proofs.Operations.{known_raise_own, known_raise_other, normal_raise}
use Rattle.ticks.proofs.Largest.{largest_bounds, largest_attained}
use Rattle.ticks.proofs.LawfulResults.{below_top, lawful_raise}
use Rattle.ticks.proofs.ForCalls.{id_is}
use Rattle.replication.specs.Formats.{Store, encode_store, find}
use Rattle.replication.specs.Valid.{LawfulRec, ContainedIn, LawfulStore, LawfulContent}
use Rattle.replication.specs.OpenStore.{open_store}
use Rattle.replication.specs.Operate.{replace, next_tick, changed_rec, changed}
use Rattle.replication.specs.Calls.{edit_reply, delete_reply, live_content, tombstone}
use Rattle.replication.proofs.Tables.Rising.{find_item, find_all, all_find, all_replace, replace_rising, find_replace_same, find_replace_other}
use Rattle.replication.proofs.Agree.Lines.{gives_outcome, Room, edit_met, delete_met}
use Rattle.replication.proofs.Agree.Arguments.{same?, id_below}
use Rattle.replication.proofs.Contents.Valid.{store_exact}
use Rattle.codec.specs.Parsed.{accepted}
use Rattle.replication.specs.Record.{Content, Rec}
use Rattle.replication.specs.Call.{Brought, BytesBrought}
use mathlib.Core.Bool.{false, true}

-- the record of an edit or a delete at a tick, spelled out, with the item's record before it
pub record NewRec (new_content : Content) (new_item who new_tick : ℕ) (before : Option Rec) (r : Rec) : Type 0 where
  pub item : r.item ≡ new_item
  pub change_replica : r.change_replica ≡ who
  pub change_tick : r.change_tick ≡ new_tick
  pub content : r.content ≡ new_content
  -- "An absent item gets its create version from the edit; an item already there, tombstones too, keeps its own"
  pub absent : before ≡ none → (r.create_replica ≡ who) × (r.create_tick ≡ new_tick)
  pub there : (old : Rec) → before ≡ some old → (r.create_replica ≡ old.create_replica) × (r.create_tick ≡ old.create_tick)

pub record Changes (L : Limits) (st : Store) (content : Content) (item : ℕ) (bs : List ℕ) : Type 0 where
  pub store : Store
  pub bytes : bs ≡ encode_store store
  pub valid : LawfulStore L store
  pub own : store.own ≡ st.own
  -- "tick = 1 + the largest tick in the store's knowledge"
  pub tick : ℕ
  pub above : (i p : ℕ) → known st.knowledge i p < tick
  pub least : (tick ≡ 1) ⊎ ((i : ℕ) × ((p : ℕ) × ((i ≤ highest) × (suc (known st.knowledge i p) ≡ tick))))
  -- "The own tick becomes that in every range"
  pub own_tick : (i : ℕ) → i ≤ highest → known store.knowledge i st.own ≡ tick
  pub other_ticks : (i q : ℕ) → i ≤ highest → (q ≡ st.own → ⊥) → known store.knowledge i q ≡ known st.knowledge i q
  pub new : Rec
  pub new_found : find item store.records ≡ some new
  pub new_is_lem : NewRec content item st.own tick (find item st.records) new
  pub other_records : (i : ℕ) → (i ≡ item → ⊥) → find i store.records ≡ find i st.records

-- ---- the new record

pub changed_is : (content : Content) (item own t : ℕ) (o : Option Rec) → NewRec content item own t o (changed_rec content item own t o)
unfolding changed_rec
changed_is content item own t none =
    record {
      item = refl;
      change_replica = refl;
      change_tick = refl;
      content = refl;
      absent = λ e. (refl, refl);
      there = λ old e. let z : ◌≡◌ {A = ℕ} 0 1 = cc in absurd (omega arith);
    }
changed_is content item own t (some r) =
    record {
      item = refl;
      change_replica = refl;
      change_tick = refl;
      content = refl;
      absent = λ e. let z : ◌≡◌ {A = ℕ} 0 1 = cc in absurd (omega arith);
      there = λ old e. (ap (λ (x : Option Rec). replica x) e, ap (λ (x : Option Rec). tick_of x) e);
    }
  where
    replica : Option Rec → ℕ
    replica none = 0
    replica (some x) = x.create_replica

    tick_of : Option Rec → ℕ
    tick_of none = 0
    tick_of (some x) = x.create_tick

-- ---- the store

module _ (L : Limits) (st : Store) (v : LawfulStore L st) (t : ℕ) (above : (i p : ℕ) → known st.knowledge i p < t) where
  -- no known tick is lost
  raised : (i q : ℕ) → i ≤ highest → known st.knowledge i q ≤ known (raise st.own t st.knowledge) i q
  raised i q h =
      ⊎_elim
      (λ (e : q ≡ st.own). omega (arith, known_raise_own st.own t st.knowledge i q h e, above i q))
      (λ (n : q ≡ st.own → ⊥). omega (arith, known_raise_other st.own t st.knowledge i q h n))
      (same? q st.own)

  old_contained : (r : Rec) → LawfulRec r → ContainedIn st.knowledge r → ContainedIn (raise st.own t st.knowledge) r
  old_contained r a c =
      let h = below_top r.item a.item in
      record {
        change = omega (arith, c.change, raised r.item r.change_replica h);
        create = omega (arith, c.create, raised r.item r.create_replica h);
      }

  module _ (content : Content) (item : ℕ) (small : item < 256 ^ 24) (lawful16 : LawfulContent content) (top : t ≤ largest_tick) where
    -- of the new record's create version: as the edit made it, or kept
    record Created (r : Rec) : Type 0 where
      pub replica : r.create_replica < 256 ^ 16
      pub one : 1 ≤ r.create_tick
      pub order : r.create_tick ≤ t
      pub contained : r.create_tick ≤ known (raise st.own t st.knowledge) item r.create_replica

    new_created : (r : Rec) (o : Option Rec) → find item st.records ≡ o → NewRec content item st.own t o r → Created r
    new_created r none e n =
        let a = n.absent refl in
        record {
          replica = rw a.0 v.own;
          one = omega (arith, a.1, above item st.own);
          order = omega (arith, a.1);
          contained = omega (arith, a.1, known_raise_own st.own t st.knowledge item r.create_replica (below_top item small) a.0);
        }
    new_created r (some old) e n =
        let a = n.there old refl in
        let w : LawfulRec old = find_all LawfulRec item st.records old v.records e in
        let c : ContainedIn st.knowledge old = find_all (ContainedIn st.knowledge) item st.records old v.versions e in
        let at : old.item ≡ item = find_item item st.records old e in
        let h : old.create_tick ≤ known st.knowledge item old.create_replica =
        subst (λ (j : ℕ). old.create_tick ≤ known st.knowledge j old.create_replica) at c.create in
        let d : old.create_tick ≤ known (raise st.own t st.knowledge) item old.create_replica =
        omega (arith, h, raised item old.create_replica (below_top item small)) in
        record {
          replica = rw a.0 w.create_replica;
          one = omega (arith, a.1, w.create_tick);
          order = omega (arith, a.1, h, above item old.create_replica);
          contained = rw (a.0, a.1) d;
        }

    module _ (r : Rec) (n : NewRec content item st.own t (find item st.records) r) where
      new_lawful : LawfulRec r
      new_lawful =
          let c = new_created r (find item st.records) refl n in
          record {
            item = rw n.item small;
            change_replica = rw n.change_replica v.own;
            create_replica = c.replica;
            content = subst LawfulContent (sym n.content) lawful16;
            create_tick = c.one;
            order = omega (arith, c.order, n.change_tick);
            change_tick = omega (arith, n.change_tick, top);
          }

      new_contained : ContainedIn (raise st.own t st.knowledge) r
      new_contained =
          let c = new_created r (find item st.records) refl n in
          record {
            change = rw (n.item, n.change_replica, n.change_tick, known_raise_own st.own t st.knowledge item st.own (below_top item small) refl) (omega arith);
            create = rw n.item c.contained;
          }

module _ (L : Limits) (st : Store) (v : LawfulStore L st) (content : Content) (item : ℕ) (small : item < 256 ^ 24)
    (lawful16 : LawfulContent content) (below : largest st.knowledge < largest_tick) where
  next_above : (i p : ℕ) → known st.knowledge i p < next_tick st
  unfolding next_tick
  next_above i p = omega (arith, largest_bounds st.knowledge i p)

  next_top : next_tick st ≤ largest_tick
  unfolding next_tick
  next_top = omega (arith, below)

  next_least : (next_tick st ≡ 1) ⊎ ((i : ℕ) × ((p : ℕ) × ((i ≤ highest) × (suc (known st.knowledge i p) ≡ next_tick st))))
  unfolding next_tick
  next_least =
      ⊎_elim (λ e. inl (omega (arith, e))) (λ w. inr (w.0, (w.1.0, (w.1.1.0, omega (arith, w.1.1.1)))))
      (largest_attained st.knowledge v.normal.formed.sound)

  abbrev next : Rec
  next = changed_rec content item st.own (next_tick st) (find item st.records)

  next_is : NewRec content item st.own (next_tick st) (find item st.records) next
  next_is = changed_is content item st.own (next_tick st) (find item st.records)

  pub changed_lawful : Room L (changed content item st) → LawfulStore L (changed content item st)
  unfolding changed
  changed_lawful room =
      record {
        own = v.own;
        lawful =
            lawful_raise (any_id L) st.own (next_tick st) st.knowledge v.lawful (record { size = v.own; acceptable = refl }) next_top room.knowledge.replicas room.knowledge.ranges;
        normal = normal_raise st.own (next_tick st) st.knowledge;
        alike =
            λ i j a b. known_raise_own st.own (next_tick st) st.knowledge i st.own a refl ∙ sym (known_raise_own st.own (next_tick st) st.knowledge j st.own b refl);
        count = room.records;
        rising = replace_rising next 0 st.records (omega arith) v.rising;
        records =
            all_replace LawfulRec next st.records (new_lawful L st v (next_tick st) next_above content item small lawful16 next_top next next_is) v.records;
        versions =
            all_replace (ContainedIn (raise st.own (next_tick st) st.knowledge)) next st.records
            (new_contained L st v (next_tick st) next_above content item small lawful16 next_top next next_is) kept_versions;
      }
    where
      kept_versions : All (ContainedIn (raise st.own (next_tick st) st.knowledge)) st.records
      kept_versions =
          all_find (ContainedIn (raise st.own (next_tick st) st.knowledge)) 0 st.records v.rising
          (λ i r e.
          old_contained L st v (next_tick st) next_above r (find_all LawfulRec i st.records r v.records e) (find_all (ContainedIn st.knowledge) i st.records r v.versions e))

  pub changed_changes : (bs : List ℕ) → Room L (changed content item st) → bs ≡ encode_store (changed content item st) → Changes L st content item bs
  unfolding changed
  changed_changes bs room bytes =
      record {
        store = changed content item st;
        bytes = bytes;
        valid = changed_lawful room;
        own = refl;
        tick = next_tick st;
        above = next_above;
        least = next_least;
        own_tick = λ i h. known_raise_own st.own (next_tick st) st.knowledge i st.own h refl;
        other_ticks = λ i q h n. known_raise_other st.own (next_tick st) st.knowledge i q h n;
        new = next;
        new_found = subst (λ (i : ℕ). find i (replace next st.records) ≡ some next) next_is.item (find_replace_same next 0 st.records v.rising);
        new_is_lem = next_is;
        other_records = λ i n. find_replace_other next i 0 st.records v.rising (λ e. n (e ∙ next_is.item));
      }

-- ---- edit and delete

-- what they bring is lawful where it has its length
pub live_lawful : (b : Brought) → BytesBrought b → LawfulContent (live_content b)
unfolding live_content
live_lawful b y = record { tag = id_below 16 b.tag y.tag; bare = λ e. let z : ◌≡◌ {A = ℕ} 0 1 = cc in absurd (omega arith) }

pub tombstone_lawful : LawfulContent tombstone
unfolding tombstone
tombstone_lawful = record { tag = power_positive 16; bare = λ e. refl }

-- "An edit writes kind 1 with the given tag"
pub edit_writes : (L : Limits) (s item : List ℕ) (b : Brought) (bs : List ℕ) (st : Store) → Permitted L → Bytes s → Bytes item
    → BytesBrought b → open_store L s ≡ accepted st → edit_reply L s item b ≡ gives bs
    → Changes L st (record { deleted = false; tag = be_at b.tag 16 0 }) (be_at item 24 0) bs
unfolding live_content
edit_writes L s item b bs st permitted bytes_s bytes_i bytes_b o g =
    let m = edit_met L s item b st (length bs) bs o (gives_outcome (edit_reply L s item b) bs g) in
    subst (λ (x : ℕ). Changes L st (record { deleted = false; tag = be_at b.tag 16 0 }) x bs) (id_is 24 item)
    (subst (λ (x : ℕ). Changes L st (record { deleted = false; tag = x }) (id_of 24 item) bs) (id_is 16 b.tag)
    (changed_changes L st ((store_exact L s st permitted bytes_s).0 o).1 (live_content b) (id_of 24 item) (id_below 24 item bytes_i) (live_lawful b bytes_b) m.below bs m.room m.bytes))

-- "a delete kind 2", with a tag of zeros
pub delete_writes : (L : Limits) (s item bs : List ℕ) (st : Store) → Permitted L → Bytes s → Bytes item → open_store L s ≡ accepted st
    → delete_reply L s item ≡ gives bs → Changes L st (record { deleted = true; tag = 0 }) (be_at item 24 0) bs
unfolding tombstone
delete_writes L s item bs st permitted bytes_s bytes_i o g =
    let m = delete_met L s item st (length bs) bs o (gives_outcome (delete_reply L s item) bs g) in
    subst (λ (x : ℕ). Changes L st (record { deleted = true; tag = 0 }) x bs) (id_is 24 item)
    (changed_changes L st ((store_exact L s st permitted bytes_s).0 o).1 tombstone (id_of 24 item) (id_below 24 item bytes_i) tombstone_lawful m.below bs m.room m.bytes)

-- What apply writes, in plain numbers: a valid store of the same replica that knows, for every item and replica, the
-- larger of what the store and the batch's learned knowledge knew, outside the span what the store knew; its record of
-- an item is the one with the greater change tick, then the greater change replica, the store's where both are equal,
-- and the only one where one side alone has the item. The store is valid since store and batch were: no known tick is
-- lost, and the own tick stays alike for all items, as learned has no own tick above the store's.
use Prim.Native.Nat.{ℕ, ◌≤◌, ◌<◌, max}
use mathlib.Core.Path.{◌≡◌, refl, ap, ◌∙◌}
use mathlib.Core.Logic.{◌⊎◌, inl, ⊎_elim}
use mathlib.Core.Bool.{false}
use mathlib.Core.List.{List, [], ◌∷◌}
use mathlib.Core.Option.{Option, none, some}
use native.Mathlib.Omega.{arith}
use lib.ListN.{length}
use borrow.Author.Tests.{not-false}
use Rattle.codec.specs.Number.{Bytes}
use Rattle.codec.specs.Reply.{gives}
use Rattle.layout.specs.Knowledge.{Limits, any_id, All}
use Rattle.layout.specs.Permitted.{Permitted}
use Rattle.ticks.specs.Meaning.{highest, known}
use Rattle.ticks.specs.Operations.{merge, covers_for}
use Rattle.ticks.proofs.Operations.{known_merge, normal_merge}
use Rattle.ticks.proofs.LawfulResults.{below_top, lawful_merge}
use Rattle.ticks.proofs.ForCover.{covers_for_exact}
use Rattle.replication.specs.Formats.{Store, encode_store, find}
use Rattle.replication.specs.BatchFormat.{Batch}
use Rattle.replication.specs.Valid.{LawfulRec, ContainedIn, LawfulStore}
use Rattle.replication.specs.ValidBatch.{LawfulBatch}
use Rattle.replication.specs.OpenStore.{open_store}
use Rattle.replication.specs.OpenBatch.{open_batch}
use Rattle.replication.specs.Operate.{winner_of, join, applied}
use Rattle.replication.specs.Calls.{own_ahead, apply_reply}
use Rattle.replication.proofs.Tables.Rising.{find_all, all_find}
use Rattle.replication.proofs.Tables.Join.{winner_tick, winner_kept, winner_replica, winner_replica_kept, join_rising, all_join, joined, joined_right, joined_left, joined_both, find_join}
use Rattle.replication.proofs.Agree.Lines.{gives_outcome, Room, apply_met}
use Rattle.replication.proofs.Contents.Valid.{store_exact, batch_exact}
use Rattle.codec.specs.Parsed.{accepted}
use Rattle.replication.specs.Record.{Rec}

-- the second record wins: "the greater change tick, then the greater change replica"
abbrev pub Greater : Rec → Rec → Type 0
Greater x y = (x.change_tick < y.change_tick) ⊎ ((x.change_tick ≡ y.change_tick) × (x.change_replica < y.change_replica))

-- and the first one does not lose: "with both equal the store's record stays"
abbrev pub NotLess : Rec → Rec → Type 0
NotLess x y = (y.change_tick < x.change_tick) ⊎ ((x.change_tick ≡ y.change_tick) × (y.change_replica ≤ x.change_replica))

pub record Applies (L : Limits) (st : Store) (b : Batch) (bs : List ℕ) : Type 0 where
  pub store : Store
  pub bytes : bs ≡ encode_store store
  pub valid : LawfulStore L store
  pub own : store.own ≡ st.own
  -- "Knowledge is merged with learned"
  pub ticks : (i p : ℕ) → i ≤ highest → known store.knowledge i p ≡ max (known st.knowledge i p) (known b.learned i p)
  pub outside : (i p : ℕ) → i ≤ highest → (i < b.first) ⊎ (b.last < i) → known store.knowledge i p ≡ known st.knowledge i p
  -- "an item on one side only keeps that side's record"
  pub neither : (i : ℕ) → find i st.records ≡ none → find i b.records ≡ none → find i store.records ≡ none
  pub store_only : (i : ℕ) (x : Rec) → find i st.records ≡ some x → find i b.records ≡ none → find i store.records ≡ some x
  pub batch_only : (i : ℕ) (y : Rec) → find i st.records ≡ none → find i b.records ≡ some y → find i store.records ≡ some y
  -- the winner of two, "the whole record moves"
  pub batch_wins : (i : ℕ) (x y : Rec) → find i st.records ≡ some x → find i b.records ≡ some y → Greater x y → find i store.records ≡ some y
  pub store_wins : (i : ℕ) (x y : Rec) → find i st.records ≡ some x → find i b.records ≡ some y → NotLess x y → find i store.records ≡ some x

-- ---- the winner of two

pub winner_greater : (x y : Rec) → Greater x y → winner_of x y ≡ y
winner_greater x y g = ⊎_elim (λ (h : x.change_tick < y.change_tick). winner_tick x y h)
    (λ (h : (x.change_tick ≡ y.change_tick) × (x.change_replica < y.change_replica)). winner_replica x y h.0 h.1) g

pub winner_not_less : (x y : Rec) → NotLess x y → winner_of x y ≡ x
winner_not_less x y g = ⊎_elim (λ (h : y.change_tick < x.change_tick). winner_kept x y h)
    (λ (h : (x.change_tick ≡ y.change_tick) × (y.change_replica ≤ x.change_replica)). winner_replica_kept x y h.0 h.1) g

-- ---- the own tick

behind_known : (st : Store) (b : Batch) → own_ahead st b ≡ false → (i : ℕ) → i ≤ highest → known b.learned i st.own ≤ known st.knowledge i st.own
unfolding own_ahead
behind_known st b e i h =
    ((covers_for_exact (st.own ∷ []) st.knowledge b.learned 0 highest).0
    (not-false (covers_for (st.own ∷ []) st.knowledge b.learned 0 highest) e)).known i st.own (omega arith) h (inl refl)

-- ---- the store

module _ (L : Limits) (st : Store) (b : Batch) (v : LawfulStore L st) (w : LawfulBatch L b) where
  store_contained : (r : Rec) → LawfulRec r → ContainedIn st.knowledge r → ContainedIn (merge st.knowledge b.learned) r
  store_contained r a c =
      let h = below_top r.item a.item in
      record {
        change = omega (arith, c.change, known_merge st.knowledge b.learned r.item r.change_replica h);
        create = omega (arith, c.create, known_merge st.knowledge b.learned r.item r.create_replica h);
      }

  batch_contained : (r : Rec) → LawfulRec r → ContainedIn b.learned r → ContainedIn (merge st.knowledge b.learned) r
  batch_contained r a c =
      let h = below_top r.item a.item in
      record {
        change = omega (arith, c.change, known_merge st.knowledge b.learned r.item r.change_replica h);
        create = omega (arith, c.create, known_merge st.knowledge b.learned r.item r.create_replica h);
      }

  pub applied_lawful : own_ahead st b ≡ false → Room L (applied st b) → LawfulStore L (applied st b)
  unfolding applied
  applied_lawful behind room =
      record {
        own = v.own;
        lawful = lawful_merge (any_id L) st.knowledge b.learned v.lawful w.learned_lawful room.knowledge.replicas room.knowledge.ranges;
        normal = normal_merge st.knowledge b.learned;
        alike =
            λ i j a c. omega (
              arith,
              known_merge st.knowledge b.learned i st.own a,
              known_merge st.knowledge b.learned j st.own c,
              behind_known st b behind i a,
              behind_known st b behind j c,
              v.alike i j a c,
            );
        count = room.records;
        rising = join_rising 0 st.records b.records v.rising w.rising;
        records = all_join LawfulRec st.records b.records v.records w.records;
        versions = all_join (ContainedIn (merge st.knowledge b.learned)) st.records b.records from_store from_batch;
      }
    where
      from_store : All (ContainedIn (merge st.knowledge b.learned)) st.records
      from_store =
          all_find (ContainedIn (merge st.knowledge b.learned)) 0 st.records v.rising
          (λ i r e. store_contained r (find_all LawfulRec i st.records r v.records e) (find_all (ContainedIn st.knowledge) i st.records r v.versions e))

      from_batch : All (ContainedIn (merge st.knowledge b.learned)) b.records
      from_batch =
          all_find (ContainedIn (merge st.knowledge b.learned)) 0 b.records w.rising
          (λ i r e. batch_contained r (find_all LawfulRec i b.records r w.records e) (find_all (ContainedIn b.learned) i b.records r w.versions e))

  found : (i : ℕ) (m n : Option Rec) → find i st.records ≡ m → find i b.records ≡ n → find i (join st.records b.records) ≡ joined m n
  found i m n e f =
      find_join 0 i st.records b.records v.rising w.rising
      ∙ (ap (λ (o : Option Rec). joined o (find i b.records)) e ∙ ap (joined m) f)

  pub applied_applies : (bs : List ℕ) → own_ahead st b ≡ false → Room L (applied st b) → bs ≡ encode_store (applied st b) → Applies L st b bs
  unfolding applied
  applied_applies bs behind room bytes =
      record {
        store = applied st b;
        bytes = bytes;
        valid = applied_lawful behind room;
        own = refl;
        ticks = λ i p h. known_merge st.knowledge b.learned i p h;
        outside = λ i p h out. omega (arith, known_merge st.knowledge b.learned i p h, w.outside i p h out);
        neither = λ i e f. found i none none e f ∙ joined_right none;
        store_only = λ i x e f. found i (some x) none e f ∙ joined_left (some x);
        batch_only = λ i y e f. found i none (some y) e f ∙ joined_right (some y);
        batch_wins = λ i x y e f g. found i (some x) (some y) e f ∙ (joined_both x y ∙ ap some (winner_greater x y g));
        store_wins = λ i x y e f g. found i (some x) (some y) e f ∙ (joined_both x y ∙ ap some (winner_not_less x y g));
      }

-- ---- apply

pub apply_writes : (L : Limits) (s t bs : List ℕ) (st : Store) (b : Batch) → Permitted L → Bytes s → Bytes t → open_store L s ≡ accepted st
    → open_batch L t ≡ accepted b → apply_reply L s t ≡ gives bs → Applies L st b bs
apply_writes L s t bs st b permitted bytes_s bytes_t o p g =
    let m = apply_met L s t st b (length bs) bs o p (gives_outcome (apply_reply L s t) bs g) in
    applied_applies L st b ((store_exact L s st permitted bytes_s).0 o).1 ((batch_exact L t b permitted bytes_t).0 p).1 bs m.behind m.room m.bytes

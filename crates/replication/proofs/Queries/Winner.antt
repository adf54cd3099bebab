-- The winner and the learned knowledge, as parts of the bytes given. For a valid store, a valid batch and an item id of
-- 24 bytes: an item on neither side has no winner; one on one side only has that side's record; of two records the
-- batch's wins exactly where its change tick is greater, or the change ticks are equal and its change replica is greater.
-- The part is then exactly the bytes of the winning record, since the search goes over the table in its bytes, record by
-- record, just as it goes over the table's records. The learned knowledge of a valid batch is the part that its own
-- length field and that of needed show. Else the call is refused, by 15, 16 and 17 in this order. The part is empty on a
-- refusal and for an item on neither side.
use Prim.Native.Nat.{ℕ, zero, suc, ◌+◌, ◌≤◌, ◌<◌}
use mathlib.Core.Path.{◌≡◌, refl, sym, ap, ap₂, ◌∙◌, subst}
use mathlib.Core.Bool.{Bool, true, false}
use mathlib.Core.Logic.{◌⊎◌, inl, inr, ◌↔◌}
use mathlib.Core.List.{List, [], ◌∷◌}
use mathlib.Core.Option.{Option, none, some}
use native.Mathlib.Omega.{arith}
use lib.ListN.{length, take, drop}
use borrow.Author.Tests.{lt-ltb, le-ltb, eq-eqb, ne_eqb}
use Rattle.codec.specs.Number.{Bytes, be_at}
use Rattle.codec.specs.Reply.{first_fault}
use Rattle.codec.proofs.Replies.{fault_here, fault_none, read_fine, read_fault}
use Rattle.layout.specs.Knowledge.{Limits, any_id, All, encode}
use Rattle.layout.specs.Permitted.{Permitted}
use Rattle.ticks.specs.Calls.{id_of, wrong_length}
use Rattle.ticks.proofs.Lists.{less, same, more, order}
use Rattle.ticks.proofs.ForCalls.{id_is}
use Rattle.ticks.proofs.Answers.{length_exact}
use Rattle.replication.specs.Formats.{put_rec, Store, find}
use Rattle.replication.specs.BatchFormat.{Batch}
use Rattle.replication.specs.Reading.{rec_length, behind, rec_at, whole, recs_at}
use Rattle.replication.proofs.Tables.Places.{places_whole, places_step, store_table_lem, batch_table_lem}
use Rattle.replication.specs.OpenStore.{store_count, store_table, open_store}
use Rattle.replication.specs.OpenBatch.{learned_length, batch_count, batch_learned, batch_table, open_batch}
use Rattle.replication.specs.Operate.{wins}
use Rattle.replication.specs.Queries.{part_bytes, part_number, part_side, part_at_place, part_length, places, place_of, of_store, of_batch, winner_at, winner_part, learned_part}
use Rattle.replication.specs.MethodTable.{recs_of, table_at}
use Rattle.replication.proofs.Bytes.Part.{part_bytes_lem}
use Rattle.replication.proofs.Bytes.Record.{Whole, whole_back, rec_part, more_back, end_back}
use Rattle.replication.proofs.Bytes.Store.{store_read_lem}
use Rattle.replication.proofs.Bytes.Batch.{batch_read}
use Rattle.replication.proofs.Broken.Records.{OneOf, behind_all}
use Rattle.codec.specs.Parsed.{accepted, refused, Parsed, own_fault, line}
use Rattle.replication.specs.Part.{Part}
use Rattle.replication.specs.Part as P
use Rattle.replication.specs.Record.{Rec}
use Rattle.layout.specs.Parse.{parse}
use lib.Dec.{eqb}
use Rattle.layout.proofs.Exact.{exact}

-- ---- where the record of an item stands

some_same : {A : Type 0} (x y : A) → some x ≡ some y → x ≡ y
some_same x y e = cc

-- the item's record among the places, and in the table there: it is in both or in neither
data Placed (s : List ℕ) (i : ℕ) (ats : List ℕ) : Type 0 where
  absent : place_of s i ats ≡ none → find i (recs_of s ats) ≡ none → Placed s i ats
  present : (a : ℕ) → place_of s i ats ≡ some a → find i (recs_of s ats) ≡ some (rec_at s a) → whole s a ≡ true → Placed s i ats

placed : (s : List ℕ) (i : ℕ) (ats : List ℕ) → All (λ a. whole s a ≡ true) ats → Placed s i ats
unfolding place_of recs_of find
placed s i [] h = absent refl refl
placed s i (a ∷ ats) h = go (eqb (rec_at s a).item i) refl (placed s i ats h.1)
  where
    go : (t : Bool) → eqb (rec_at s a).item i ≡ t → Placed s i ats → Placed s i (a ∷ ats)
    go true e rest = present a (rw (e, place_of)) (rw (e, find)) h.0
    go false e (absent x y) = absent (rw (e, place_of) x) (rw (e, find) y)
    go false e (present b x y z) = present b (rw (e, place_of) x) (rw (e, find) y) z

-- the record of an item in a table, and where it stands
record Stood (s : List ℕ) (i at : ℕ) (rs : List Rec) (x : Rec) : Type 0 where
  place : ℕ
  is : place_of s i (places s at) ≡ some place
  reads : rec_at s place ≡ x
  whole : Whole s place
  one : OneOf x rs
  there : place ≡ behind_all s at (length one.before)

find_first : (i : ℕ) (y : Rec) (ys : List Rec) → eqb y.item i ≡ true → find i (y ∷ ys) ≡ some y
unfolding find
find_first i y ys e = rw (e, find)

find_behind : (i : ℕ) (y : Rec) (ys : List Rec) → eqb y.item i ≡ false → find i (y ∷ ys) ≡ find i ys
unfolding find
find_behind i y ys e = rw (e, find)

-- the first record is the item's, or the item's is one of those behind it
module _ (s : List ℕ) (i at : ℕ) (qs : List Rec) (x : Rec) (w : whole s at ≡ true) where
  stood_here : eqb (rec_at s at).item i ≡ true → find i (rec_at s at ∷ qs) ≡ some x → Stood s i at (rec_at s at ∷ qs) x
  unfolding place_of behind_all
  stood_here e f =
      let same : rec_at s at ≡ x = some_same (rec_at s at) x (sym (find_first i (rec_at s at) qs e) ∙ f) in
      record {
        place = at;
        is = ap (place_of s i) (places_step s at w) ∙ rw (e, place_of);
        reads = same;
        whole = whole_back s at w;
        one = record { before = []; after = qs; is = ap (λ (y : Rec). y ∷ qs) same };
        there = refl;
      }

  stood_later : eqb (rec_at s at).item i ≡ false → Stood s i (behind s at) qs x → Stood s i at (rec_at s at ∷ qs) x
  unfolding place_of behind_all
  stood_later e u =
      record {
        place = u.place;
        is = ap (place_of s i) (places_step s at w) ∙ rw (e, place_of) u.is;
        reads = u.reads;
        whole = u.whole;
        one = record { before = rec_at s at ∷ u.one.before; after = u.one.after; is = ap (λ (l : List Rec). rec_at s at ∷ l) u.one.is };
        there = u.there;
      }

stood : (s : List ℕ) (i n at : ℕ) (rs : List Rec) (x : Rec) → recs_at s n at ≡ some rs → find i rs ≡ some x → Stood s i at rs x
unfolding find
stood s i zero at rs x e f =
    let h : find i [] ≡ some x = ap (find i) (sym (end_back s at rs e).0) ∙ f in
    let o : ◌≡◌ {A = ℕ} 0 1 = cc in
    absurd (omega arith)
stood s i (suc n) at rs x e f =
    more_back s n at rs (Stood s i at rs x) e
    (λ qs w g h.
    subst (λ (l : List Rec). Stood s i at l x) h
    (by_first qs w (ap (find i) h ∙ f) (λ k. stood s i n (behind s at) qs x g k) (eqb (rec_at s at).item i) refl))
  where
    by_first : (qs : List Rec) → whole s at ≡ true → find i (rec_at s at ∷ qs) ≡ some x
        → (find i qs ≡ some x → Stood s i (behind s at) qs x) → (t : Bool) → eqb (rec_at s at).item i ≡ t → Stood s i at (rec_at s at ∷ qs) x
    by_first qs w k rest true d = stood_here s i at qs x w d k
    by_first qs w k rest false d = stood_later s i at qs x w d (rest (sym (find_behind i (rec_at s at) qs d) ∙ k))

module _ (s : List ℕ) (i at : ℕ) where
  not_placed : find i (table_at s at) ≡ none → place_of s i (places s at) ≡ none
  unfolding table_at
  not_placed e = go (placed s i (places s at) (places_whole s at))
    where
      go : Placed s i (places s at) → place_of s i (places s at) ≡ none
      go (absent x y) = x
      go (present a x y z) =
          let n : none ≡ some (rec_at s a) = sym e ∙ y in
          let o : ◌≡◌ {A = ℕ} 0 1 = cc in
          absurd (omega arith)

-- ---- what a call that returns a part says: the part, document 01's number beside it, and the values that tell its place

-- an item on neither side: the part is empty, the number is 0 and all values are 0
pub record NoPart (p : Part) : Type 0 where
  pub is : p ≡ P.Nothing
  pub part : (s batch : List ℕ) → part_bytes p s batch ≡ []
  pub number : part_number p ≡ 0
  pub side : (old : ℕ) → part_side p old ≡ 0
  pub place : (old : ℕ) → part_at_place p old ≡ 0
  pub size : (old : ℕ) → part_length p old ≡ 0

-- a part of the store's bytes s
pub record StorePart (s : List ℕ) (at count : ℕ) (p : Part) : Type 0 where
  pub is : p ≡ P.OfStore at count
  pub inside : at + count ≤ length s
  pub part : (batch : List ℕ) → part_bytes p s batch ≡ take count (drop at s)
  pub number : part_number p ≡ 0
  pub side : (old : ℕ) → part_side p old ≡ 1
  pub place : (old : ℕ) → part_at_place p old ≡ at
  pub size : (old : ℕ) → part_length p old ≡ count

-- a part of the batch's bytes t
pub record BatchPart (t : List ℕ) (at count : ℕ) (p : Part) : Type 0 where
  pub is : p ≡ P.OfBatch at count
  pub inside : at + count ≤ length t
  pub part : (s : List ℕ) → part_bytes p s t ≡ take count (drop at t)
  pub number : part_number p ≡ 0
  pub side : (old : ℕ) → part_side p old ≡ 2
  pub place : (old : ℕ) → part_at_place p old ≡ at
  pub size : (old : ℕ) → part_length p old ≡ count

-- the part is the record x of the store's records rs, at its own place: behind the header, the knowledge and the records before it
pub record StoreRecord (s : List ℕ) (rs : List Rec) (x : Rec) (p : Part) : Type 0 where
  pub at : ℕ
  pub one : OneOf x rs
  pub there : at ≡ behind_all s (25 + be_at s 4 17) (length one.before)
  pub whole : Whole s at
  pub reads : rec_at s at ≡ x
  pub part : StorePart s at (rec_length (be_at s 1 at)) p

pub record BatchRecord (t : List ℕ) (rs : List Rec) (y : Rec) (p : Part) : Type 0 where
  pub at : ℕ
  pub one : OneOf y rs
  pub there : at ≡ behind_all t (61 + be_at t 4 49 + be_at t 4 53) (length one.before)
  pub whole : Whole t at
  pub reads : rec_at t at ≡ y
  pub part : BatchPart t at (rec_length (be_at t 1 at)) p

-- a refusal: the part is empty, the number is the refusal's, and no value changes
pub record NoPartBut (n : ℕ) (p : Part) : Type 0 where
  pub is : p ≡ P.Refused n
  pub part : (s batch : List ℕ) → part_bytes p s batch ≡ []
  pub number : part_number p ≡ n
  pub side : (old : ℕ) → part_side p old ≡ old
  pub place : (old : ℕ) → part_at_place p old ≡ old
  pub size : (old : ℕ) → part_length p old ≡ old

no_part : (p : Part) → p ≡ P.Nothing → NoPart p
unfolding part_bytes part_number part_side part_at_place part_length
no_part p e = record {
  is = e;
  part = λ s batch. ap (λ (q : Part). part_bytes q s batch) e;
  number = ap part_number e;
  side = λ old. ap (λ (q : Part). part_side q old) e;
  place = λ old. ap (λ (q : Part). part_at_place q old) e;
  size = λ old. ap (λ (q : Part). part_length q old) e;
}

pub store_part : (s : List ℕ) (p : Part) (at n : ℕ) → p ≡ P.OfStore at n → at + n ≤ length s → StorePart s at n p
unfolding part_bytes part_number part_side part_at_place part_length
store_part s p at n e l = record {
  is = e;
  inside = l;
  part = λ batch. ap (λ (q : Part). part_bytes q s batch) e;
  number = ap part_number e;
  side = λ old. ap (λ (q : Part). part_side q old) e;
  place = λ old. ap (λ (q : Part). part_at_place q old) e;
  size = λ old. ap (λ (q : Part). part_length q old) e;
}

batch_part : (t : List ℕ) (p : Part) (at n : ℕ) → p ≡ P.OfBatch at n → at + n ≤ length t → BatchPart t at n p
unfolding part_bytes part_number part_side part_at_place part_length
batch_part t p at n e l = record {
  is = e;
  inside = l;
  part = λ s. ap (λ (q : Part). part_bytes q s t) e;
  number = ap part_number e;
  side = λ old. ap (λ (q : Part). part_side q old) e;
  place = λ old. ap (λ (q : Part). part_at_place q old) e;
  size = λ old. ap (λ (q : Part). part_length q old) e;
}

pub part_refused : (n : ℕ) (p : Part) → p ≡ P.Refused n → NoPartBut n p
unfolding part_bytes part_number part_side part_at_place part_length
part_refused n p e = record {
  is = e;
  part = λ s batch. ap (λ (q : Part). part_bytes q s batch) e;
  number = ap part_number e;
  side = λ old. ap (λ (q : Part). part_side q old) e;
  place = λ old. ap (λ (q : Part). part_at_place q old) e;
  size = λ old. ap (λ (q : Part). part_length q old) e;
}

-- ---- which of two records wins

-- the batch's record y wins over the store's record x
abbrev pub Beats : Rec → Rec → Type 0
Beats x y = (x.change_tick < y.change_tick) ⊎ ((x.change_tick ≡ y.change_tick) × (x.change_replica < y.change_replica))

wins_yes : (x y : Rec) → Beats x y → wins x y ≡ true
unfolding wins
wins_yes x y (inl h) = rw (lt-ltb x.change_tick y.change_tick h, wins)
wins_yes x y (inr h) =
    let l : y.change_tick ≤ x.change_tick = omega arith in
    rw (
      le-ltb x.change_tick y.change_tick l,
      eq-eqb x.change_tick y.change_tick h.0,
      lt-ltb x.change_replica y.change_replica h.1,
      wins,
    )

wins_kept : (x y : Rec) → y.change_tick < x.change_tick → wins x y ≡ false
unfolding wins
wins_kept x y h =
    let l : y.change_tick ≤ x.change_tick = omega arith in
    rw (le-ltb x.change_tick y.change_tick l, ne_eqb x.change_tick y.change_tick (omega arith), wins)

wins_stays : (x y : Rec) → x.change_tick ≡ y.change_tick → y.change_replica ≤ x.change_replica → wins x y ≡ false
unfolding wins
wins_stays x y e h =
    let l : y.change_tick ≤ x.change_tick = omega arith in
    rw (
      le-ltb x.change_tick y.change_tick l,
      eq-eqb x.change_tick y.change_tick e,
      le-ltb x.change_replica y.change_replica h,
      wins,
    )

pub wins_no : (x y : Rec) → (Beats x y → ⊥) → wins x y ≡ false
wins_no x y h =
    elim (order x.change_tick y.change_tick) [
      | less k ↦ absurd (h (inl k))
      | same k ↦ elim (order x.change_replica y.change_replica) [
        | less j ↦ absurd (h (inr (k, j)))
        | same j ↦ wins_stays x y k (omega arith)
        | more j ↦ wins_stays x y k (omega arith)
      ]
      | more k ↦ wins_kept x y k
    ]

-- ---- winner

-- what the winner of the item i is, for the store st in the bytes s and the batch b in the bytes t
pub record WinnerIs (s t : List ℕ) (i : ℕ) (st : Store) (b : Batch) (p : Part) : Type 0 where
  pub neither : find i st.records ≡ none → find i b.records ≡ none → NoPart p
  pub store_only : (x : Rec) → find i st.records ≡ some x → find i b.records ≡ none → StoreRecord s st.records x p
  pub batch_only : (y : Rec) → find i st.records ≡ none → find i b.records ≡ some y → BatchRecord t b.records y p
  pub batch_wins : (x y : Rec) → find i st.records ≡ some x → find i b.records ≡ some y → Beats x y → BatchRecord t b.records y p
  pub store_stays : (x y : Rec) → find i st.records ≡ some x → find i b.records ≡ some y → (Beats x y → ⊥) → StoreRecord s st.records x p

-- the winner for the places in the bytes
found : List ℕ → List ℕ → ℕ → Part
found s t i = winner_at s t (place_of s i (places s (store_table s))) (place_of t i (places t (batch_table t)))

told : List ℕ → List ℕ → List ℕ → Parsed Store → Parsed Batch → Part
told s t item o p =
    first_fault P.Refused (own_fault o ∷ own_fault p ∷ line 17 (wrong_length 24 item) ∷ []) (found s t (id_of 24 item))

told_is : (L : Limits) (s t item : List ℕ) (o : Parsed Store) (p : Parsed Batch) → open_store L s ≡ o → open_batch L t ≡ p → winner_part L s t item ≡ told s t item o p
unfolding winner_part told found
told_is L s t item o p e f = ap₂ (told s t item) e f

told_store : (s t item : List ℕ) (n : ℕ) (p : Parsed Batch) → told s t item (refused n) p ≡ P.Refused n
unfolding told
told_store s t item n p = read_fault Store P.Refused n (own_fault p ∷ line 17 (wrong_length 24 item) ∷ []) (found s t (id_of 24 item))

told_batch : (s t item : List ℕ) (st : Store) (n : ℕ) → told s t item (accepted st) (refused n) ≡ P.Refused n
unfolding told
told_batch s t item st n =
    let part = found s t (id_of 24 item) in
    read_fine P.Refused st (own_fault (refused n) ∷ line 17 (wrong_length 24 item) ∷ []) part
    ∙ read_fault Batch P.Refused n (line 17 (wrong_length 24 item) ∷ []) part

told_lines : (s t item : List ℕ) (st : Store) (b : Batch) → told s t item (accepted st) (accepted b) ≡ first_fault P.Refused (line 17 (wrong_length 24 item) ∷ []) (found s t (id_of 24 item))
unfolding told
told_lines s t item st b =
    read_fine P.Refused st (own_fault (accepted b) ∷ line 17 (wrong_length 24 item) ∷ []) (found s t (id_of 24 item))
    ∙ read_fine P.Refused b (line 17 (wrong_length 24 item) ∷ []) (found s t (id_of 24 item))

told_17 : (s t item : List ℕ) (st : Store) (b : Batch) → wrong_length 24 item ≡ true → told s t item (accepted st) (accepted b) ≡ P.Refused 17
told_17 s t item st b w =
    told_lines s t item st b ∙ fault_here P.Refused (line 17 (wrong_length 24 item)) [] (found s t (id_of 24 item)) w

told_found : (s t item : List ℕ) (st : Store) (b : Batch) → wrong_length 24 item ≡ false → told s t item (accepted st) (accepted b) ≡ found s t (id_of 24 item)
told_found s t item st b w =
    told_lines s t item st b ∙ fault_none P.Refused (line 17 (wrong_length 24 item) ∷ []) (found s t (id_of 24 item)) (w, tt)

-- the part that the record at a place is
of_store_lem : (s : List ℕ) (i : ℕ) (rs : List Rec) (x : Rec) (p : Part) (u : Stood s i (store_table s) rs x) → p ≡ of_store s u.place
    → StoreRecord s rs x p
unfolding of_store behind
of_store_lem s i rs x p u e =
    record {
      at = u.place;
      one = u.one;
      there = u.there;
      whole = u.whole;
      reads = u.reads;
      part = store_part s p u.place (rec_length (be_at s 1 u.place)) e u.whole.inside;
    }

of_batch_lem : (t : List ℕ) (i : ℕ) (rs : List Rec) (y : Rec) (p : Part) (u : Stood t i (batch_table t) rs y) → p ≡ of_batch t u.place
    → BatchRecord t rs y p
unfolding of_batch behind
of_batch_lem t i rs y p u e =
    record {
      at = u.place;
      one = u.one;
      there = u.there;
      whole = u.whole;
      reads = u.reads;
      part = batch_part t p u.place (rec_length (be_at t 1 u.place)) e u.whole.inside;
    }

-- the winner of two records, by the outcome of their comparison
either : List ℕ → List ℕ → ℕ → ℕ → Bool → Part
either s t a b w = elim w [ true ↦ of_batch t b | false ↦ of_store s a ]

won : (s t : List ℕ) (a b : ℕ) (x y : Rec) (w : Bool) → rec_at s a ≡ x → rec_at t b ≡ y → wins x y ≡ w → winner_at s t (some a) (some b) ≡ either s t a b w
unfolding winner_at either
won s t a b x y w e f h = ap (either s t a b) (ap₂ wins e f ∙ h)

module _ (L : Limits) (s t : List ℕ) (i : ℕ) (st : Store) (b : Batch) (p : Part) (o : open_store L s ≡ accepted st) (q : open_batch L t ≡ accepted b) (e : p ≡ found s t i) where
  in_store : (x : Rec) → find i st.records ≡ some x → Stood s i (store_table s) st.records x
  in_store x h = stood s i (store_count s) (store_table s) st.records x (store_read_lem L s st o).0.records h

  in_batch : (y : Rec) → find i b.records ≡ some y → Stood t i (batch_table t) b.records y
  in_batch y h = stood t i (batch_count t) (batch_table t) b.records y (batch_read L t b q).0.records h

  no_store : find i st.records ≡ none → place_of s i (places s (store_table s)) ≡ none
  no_store h = not_placed s i (store_table s) (ap (find i) (store_table_lem L s st o) ∙ h)

  no_batch : find i b.records ≡ none → place_of t i (places t (batch_table t)) ≡ none
  no_batch h = not_placed t i (batch_table t) (ap (find i) (batch_table_lem L t b q) ∙ h)

  found_is : WinnerIs s t i st b p
  unfolding found winner_at either
  found_is =
      record {
        neither = λ h k. no_part p (e ∙ ap₂ (winner_at s t) (no_store h) (no_batch k));
        store_only = λ x h k.
            let u = in_store x h in
            of_store_lem s i st.records x p u (e ∙ ap₂ (winner_at s t) u.is (no_batch k));
        batch_only = λ y h k.
            let v = in_batch y k in
            of_batch_lem t i b.records y p v (e ∙ ap₂ (winner_at s t) (no_store h) v.is);
        batch_wins = λ x y h k w.
            let u = in_store x h in
            let v = in_batch y k in
            of_batch_lem t i b.records y p v
            (e ∙ (ap₂ (winner_at s t) u.is v.is ∙ won s t u.place v.place x y true u.reads v.reads (wins_yes x y w)));
        store_stays = λ x y h k w.
            let u = in_store x h in
            let v = in_batch y k in
            of_store_lem s i st.records x p u
            (e ∙ (ap₂ (winner_at s t) u.is v.is ∙ won s t u.place v.place x y false u.reads v.reads (wins_no x y w)));
      }

-- the winner, where nothing is refused
pub winner_exact : (L : Limits) (s t item : List ℕ) (st : Store) (b : Batch) → open_store L s ≡ accepted st → open_batch L t ≡ accepted b
    → length item ≡ 24 → WinnerIs s t (be_at item 24 0) st b (winner_part L s t item)
winner_exact L s t item st b o q l =
    found_is L s t (be_at item 24 0) st b (winner_part L s t item) o q
    (told_is L s t item (accepted st) (accepted b) o q
    ∙ told_found s t item st b ((length_exact 24 item).1 l)
    ∙ ap (found s t) (id_is 24 item))

-- the same by the places of the item's records, for code
pub winner_found : (L : Limits) (s t item : List ℕ) (st : Store) (b : Batch) → open_store L s ≡ accepted st → open_batch L t ≡ accepted b
    → length item ≡ 24 → (i : ℕ) → i ≡ be_at item 24 0
    → winner_part L s t item ≡ winner_at s t (place_of s i (places s (store_table s))) (place_of t i (places t (batch_table t)))
unfolding found
winner_found L s t item st b o q l i e =
    told_is L s t item (accepted st) (accepted b) o q
    ∙ told_found s t item st b ((length_exact 24 item).1 l)
    ∙ ap (found s t) (id_is 24 item ∙ sym e)

-- the part's bytes are those of the record
pub store_record_bytes : (s : List ℕ) (rs : List Rec) (x : Rec) (p : Part) (batch : List ℕ) → Bytes s → StoreRecord s rs x p → part_bytes p s batch ≡ put_rec x []
store_record_bytes s rs x p batch b h = h.part.part batch ∙ (rec_part s h.at b h.whole ∙ ap (λ (r : Rec). put_rec r []) h.reads)

pub batch_record_bytes : (t : List ℕ) (rs : List Rec) (y : Rec) (p : Part) (s : List ℕ) → Bytes t → BatchRecord t rs y p → part_bytes p s t ≡ put_rec y []
batch_record_bytes t rs y p s b h = h.part.part s ∙ (rec_part t h.at b h.whole ∙ ap (λ (r : Rec). put_rec r []) h.reads)

-- the store's own number, then the batch's, then 17
pub winner_store : (L : Limits) (s t item : List ℕ) (n : ℕ) → open_store L s ≡ refused n → NoPartBut n (winner_part L s t item)
winner_store L s t item n o =
    part_refused n (winner_part L s t item) (told_is L s t item (refused n) (open_batch L t) o refl ∙ told_store s t item n (open_batch L t))

pub winner_batch : (L : Limits) (s t item : List ℕ) (st : Store) (n : ℕ) → open_store L s ≡ accepted st → open_batch L t ≡ refused n → NoPartBut n (winner_part L s t item)
winner_batch L s t item st n o q =
    part_refused n (winner_part L s t item) (told_is L s t item (accepted st) (refused n) o q ∙ told_batch s t item st n)

wrong : (item : List ℕ) → (length item ≡ 24 → ⊥) → wrong_length 24 item ≡ true
wrong item h = go (wrong_length 24 item) refl
  where
    go : (t : Bool) → wrong_length 24 item ≡ t → t ≡ true
    go true e = refl
    go false e = absurd (h ((length_exact 24 item).0 e))

pub winner_17 : (L : Limits) (s t item : List ℕ) (st : Store) (b : Batch) → open_store L s ≡ accepted st → open_batch L t ≡ accepted b → (length item ≡ 24 → ⊥) → NoPartBut 17 (winner_part L s t item)
winner_17 L s t item st b o q h =
    part_refused 17 (winner_part L s t item) (told_is L s t item (accepted st) (accepted b) o q ∙ told_17 s t item st b (wrong item h))

-- and on no other condition
abbrev pub WinnerRefused : Limits → List ℕ → List ℕ → List ℕ → ℕ → Type 0
WinnerRefused L s t item n =
    (open_store L s ≡ refused n)
    ⊎ ((((st : Store) × (open_store L s ≡ accepted st)) × (open_batch L t ≡ refused n))
    ⊎ ((n ≡ 17) × (((st : Store) × (open_store L s ≡ accepted st)) × (((b : Batch) × (open_batch L t ≡ accepted b)) × (length item ≡ 24 → ⊥)))))

-- what is found is never a refusal
never_refusal : (s t : List ℕ) (o p : Option ℕ) (n : ℕ) → winner_at s t o p ≡ P.Refused n → ⊥
unfolding winner_at of_store of_batch
never_refusal s t none none n e = let z : ◌≡◌ {A = ℕ} 0 1 = cc in omega arith
never_refusal s t none (some y) n e = let z : ◌≡◌ {A = ℕ} 0 1 = cc in omega arith
never_refusal s t (some x) none n e = let z : ◌≡◌ {A = ℕ} 0 1 = cc in omega arith
never_refusal s t (some x) (some y) n e = go (wins (rec_at s x) (rec_at t y)) e
  where
    go : (c : Bool) → ◌≡◌ {A = Part} (elim c [ true ↦ P.OfBatch y (rec_length (be_at t 1 y)) | false ↦ P.OfStore x (rec_length (be_at s 1 x)) ]) (P.Refused n) → ⊥
    go true e = let z : ◌≡◌ {A = ℕ} 0 1 = cc in omega arith
    go false e = let z : ◌≡◌ {A = ℕ} 0 1 = cc in omega arith

found_never : (s t : List ℕ) (i : ℕ) (n : ℕ) → found s t i ≡ P.Refused n → ⊥
unfolding found
found_never s t i n e = never_refusal s t (place_of s i (places s (store_table s))) (place_of t i (places t (batch_table t))) n e

pub winner_refused : (L : Limits) (s t item : List ℕ) (n : ℕ) → (winner_part L s t item ≡ P.Refused n) ↔ WinnerRefused L s t item n
winner_refused L s t item n = (go (open_store L s) (open_batch L t) (wrong_length 24 item) refl refl refl, back)
  where
    same_number : (m : ℕ) → winner_part L s t item ≡ P.Refused m → winner_part L s t item ≡ P.Refused n → n ≡ m
    same_number m e f = cc

    go : (o : Parsed Store) (p : Parsed Batch) (w : Bool) → open_store L s ≡ o → open_batch L t ≡ p → wrong_length 24 item ≡ w → winner_part L s t item ≡ P.Refused n → WinnerRefused L s t item n
    go (refused m) p w e f g h = inl (e ∙ ap refused (sym (same_number m (winner_store L s t item m e).is h)))
    go (accepted st) (refused m) w e f g h = inr (inl ((st, e), f ∙ ap refused (sym (same_number m (winner_batch L s t item st m e f).is h))))
    go (accepted st) (accepted b) true e f g h =
        let l : length item ≡ 24 → ⊥ = λ (k : length item ≡ 24). let z : ◌≡◌ {A = ℕ} 0 1 = cc ((length_exact 24 item).1 k) in omega arith in
        inr (inr (same_number 17 (winner_17 L s t item st b e f l).is h, ((st, e), ((b, f), l))))
    go (accepted st) (accepted b) false e f g h =
        absurd (found_never s t (id_of 24 item) n (sym (told_is L s t item (accepted st) (accepted b) e f ∙ told_found s t item st b g) ∙ h))

    back : WinnerRefused L s t item n → winner_part L s t item ≡ P.Refused n
    back (inl h) = (winner_store L s t item n h).is
    back (inr (inl h)) = (winner_batch L s t item h.0.0 n h.0.1 h.1).is
    back (inr (inr h)) =
        (winner_17 L s t item h.1.0.0 h.1.1.0.0 h.1.0.1 h.1.1.0.1 h.1.1.1).is ∙ ap P.Refused (sym h.0)

-- ---- learned

learned_told : (t : List ℕ) → Parsed Batch → Part
learned_told t p = first_fault P.Refused (own_fault p ∷ []) (P.OfBatch (batch_learned t) (learned_length t))

learned_is : (L : Limits) (t : List ℕ) (p : Parsed Batch) → open_batch L t ≡ p → learned_part L t ≡ learned_told t p
unfolding learned_part learned_told
learned_is L t p e = ap (learned_told t) e

learned_none : (t : List ℕ) (n : ℕ) → learned_told t (refused n) ≡ P.Refused n
unfolding learned_told
learned_none t n = read_fault Batch P.Refused n [] (P.OfBatch (batch_learned t) (learned_length t))

learned_some : (t : List ℕ) (b : Batch) → learned_told t (accepted b) ≡ P.OfBatch (batch_learned t) (learned_length t)
unfolding learned_told
learned_some t b =
    read_fine P.Refused b [] (P.OfBatch (batch_learned t) (learned_length t)) ∙ fault_none P.Refused [] (P.OfBatch (batch_learned t) (learned_length t)) tt

-- the learned knowledge of a batch that opens: the part that is read as it
pub record LearnedIs (L : Limits) (t : List ℕ) (b : Batch) (p : Part) : Type 0 where
  pub part : BatchPart t (batch_learned t) (learned_length t) p
  pub reads : parse (any_id L) (take (learned_length t) (drop (batch_learned t) t)) ≡ accepted b.learned

pub learned_exact : (L : Limits) (t : List ℕ) (b : Batch) → open_batch L t ≡ accepted b → LearnedIs L t b (learned_part L t)
learned_exact L t b o =
    let h = (batch_read L t b o).0 in
    record {
      part = batch_part t (learned_part L t) (batch_learned t) (learned_length t) (learned_is L t (accepted b) o ∙ learned_some t b) h.inside;
      reads = h.learned;
    }

-- its bytes are those of the knowledge
pub learned_bytes_lem : (L : Limits) (t s : List ℕ) (b : Batch) (p : Part) → Permitted L → Bytes t → LearnedIs L t b p → part_bytes p s t ≡ encode b.learned
learned_bytes_lem L t s b p m y h =
    h.part.part s ∙ ((exact (any_id L) m (take (learned_length t) (drop (batch_learned t) t)) b.learned (part_bytes_lem t (learned_length t) (batch_learned t) y)).0 h.reads).0

pub learned_batch : (L : Limits) (t : List ℕ) (n : ℕ) → open_batch L t ≡ refused n → NoPartBut n (learned_part L t)
learned_batch L t n o = part_refused n (learned_part L t) (learned_is L t (refused n) o ∙ learned_none t n)

-- and on no other condition
pub learned_refused : (L : Limits) (t : List ℕ) (n : ℕ) → (learned_part L t ≡ P.Refused n) ↔ (open_batch L t ≡ refused n)
learned_refused L t n = (go (open_batch L t) refl, λ h. (learned_batch L t n h).is)
  where
    go : (p : Parsed Batch) → open_batch L t ≡ p → learned_part L t ≡ P.Refused n → open_batch L t ≡ refused n
    go (refused m) e h =
        let w = (learned_batch L t m e).is in
        let q : m ≡ n = cc in
        e ∙ ap refused q
    go (accepted b) e h =
        let w : learned_part L t ≡ P.OfBatch (batch_learned t) (learned_length t) = learned_is L t (accepted b) e ∙ learned_some t b in
        absurd (let z : ◌≡◌ {A = ℕ} 0 1 = cc in omega arith)

-- What a call that was not refused has met. Each call is a table of refusals and then its bytes, so bytes come out
-- exactly where no line of the table holds; here the lines of each table are read back one by one. A store or batch
-- that opens stands for its value.
use Prim.Native.Nat.{ℕ, ◌≤◌, ◌<◌}
use mathlib.Core.Path.{◌≡◌, refl, sym, ap, ◌∙◌}
use mathlib.Core.Bool.{Bool, true, false}
use mathlib.Core.List.{List, [], ◌∷◌}
use mathlib.Core.Option.{none, some}
use native.Mathlib.Omega.{arith}
use lib.Dec.{leb}
use lib.ListN.{length}
use borrow.Author.Tests.{leb-false, ltb-false, not-false, le-leb}
use Rattle.codec.specs.Reply.{Reply, gives, refuses, Line, first_fault}
use Rattle.codec.proofs.Replies.{None, fault_gives}
use Rattle.layout.specs.Knowledge.{Limits, Rules, largest_tick, Knowledge}
use Rattle.layout.specs.Parse.{parse}
use Rattle.ticks.specs.Meaning.{empty_knowledge}
use Rattle.ticks.specs.Operations.{covers, largest}
use Rattle.ticks.specs.Calls.{id_of, read_as, wrong_length, wrong_span, result_lines}
use Rattle.ticks.proofs.ForCalls.{or_false, length_right, span_right, Within, within_lines}
use Rattle.codec.proofs.Replies.{read_accepted, fault_refused}
use Rattle.replication.specs.Formats.{Store, encode_store, find}
use Rattle.replication.specs.BatchFormat.{Batch, encode_batch}
use Rattle.replication.specs.Operate.{changed, made, applied}
use Rattle.replication.specs.OpenStore.{open_store}
use Rattle.replication.specs.OpenBatch.{open_batch}
use Rattle.replication.specs.Calls.{then, store_or, batch_or, uncovered, own_ahead, gone, exhausted, too_many_records, store_lines}
use Rattle.replication.specs.Calls.{edit_lines, edited, edit_reply, delete_lines, deleted, delete_reply, make_lines, makes, make_reply}
use Rattle.replication.specs.Calls.{apply_lines, apply_reply, tombstone, wrong_brought, live_content, RightBrought}
use Rattle.replication.specs.Lists.{outcome}
use Rattle.replication.specs.Record.{Rec}
use Rattle.replication.specs.Call.{Brought}
use Rattle.codec.specs.Parsed.{line, own_fault, read_or, Parsed, accepted, refused}

-- ---- the buffer

outcome_gives : (r : Reply) (room : ℕ) (bs : List ℕ) → outcome r room ≡ some bs → r ≡ gives bs
unfolding outcome
outcome_gives (refuses n) room bs e =
    let z : ◌≡◌ {A = ℕ} 0 1 = cc in
    absurd (omega arith)
outcome_gives (gives cs) room bs e = by_case (leb (length cs) room) refl
  where
    by_case : (t : Bool) → leb (length cs) room ≡ t → gives cs ≡ gives bs
    by_case true h =
        let f : outcome (gives cs) room ≡ some cs = rw (h, outcome) in
        cc
    by_case false h =
        let f : outcome (gives cs) room ≡ none = rw (h, outcome) in
        let z : ◌≡◌ {A = ℕ} 0 1 = cc in
        absurd (omega arith)

-- a reply that gives bytes writes them where there is room
pub gives_outcome : (r : Reply) (bs : List ℕ) → r ≡ gives bs → outcome r (length bs) ≡ some bs
unfolding outcome
gives_outcome r bs e = rw e (rw (le-leb (length bs) (length bs) (omega arith), outcome))

-- bytes that come out of a table: no line holds, and they are the bytes behind it
pub outcome_lines : (ls : List Line) (cs bs : List ℕ) (room : ℕ) → outcome (first_fault refuses ls (gives cs)) room ≡ some bs → None ls × (cs ≡ bs)
outcome_lines ls cs bs room e = fault_gives ls cs bs (outcome_gives (first_fault refuses ls (gives cs)) room bs e)

-- ---- pieces of tables

none_then : (ls ms : List Line) → None (then ls ms) → None ls × None ms
unfolding then
none_then [] ms h = (tt, h)
none_then (l ∷ ls) ms h = let r = none_then ls ms h.1 in ((h.0, r.0), r.1)

count_right : (L : Limits) (rs : List Rec) → too_many_records L rs ≡ false → length rs ≤ L.records
unfolding too_many_records
count_right L rs h = ltb-false L.records (length rs) h

-- a resulting store within the limits
pub record Room (L : Limits) (st : Store) : Type 0 where
  pub knowledge : Within L st.knowledge
  pub records : length st.records ≤ L.records

room_lines : (L : Limits) (st : Store) → None (store_lines L st) → Room L st
unfolding store_lines
room_lines L st h =
    let p = none_then (result_lines L st.knowledge) (line 13 (too_many_records L st.records) ∷ []) h in
    record { knowledge = within_lines L st.knowledge p.0; records = count_right L st.records p.1.0 }

exhausted_below : (st : Store) → exhausted st ≡ false → largest st.knowledge < largest_tick
unfolding exhausted
exhausted_below st h = leb-false largest_tick (largest st.knowledge) h

-- ---- edit

pub record EditMet (L : Limits) (st : Store) (item : List ℕ) (b : Brought) (bs : List ℕ) : Type 0 where
  pub item24 : length item ≡ 24
  pub brought : RightBrought b
  pub below : largest st.knowledge < largest_tick
  pub room : Room L (changed (live_content b) (id_of 24 item) st)
  pub bytes : bs ≡ encode_store (changed (live_content b) (id_of 24 item) st)

pub edit_reply_lem : (L : Limits) (s item : List ℕ) (b : Brought) (st : Store) → open_store L s ≡ accepted st
    → edit_reply L s item b ≡ first_fault refuses (edit_lines L (accepted st) item b (changed (live_content b) (id_of 24 item) st))
    (gives (encode_store (changed (live_content b) (id_of 24 item) st)))
unfolding edit_reply edited read_or own_fault
edit_reply_lem L s item b st e =
    ap (λ (o : Parsed Store). first_fault refuses (edit_lines L o item b (edited o item b)) (gives (encode_store (edited o item b)))) e

edit_lines_lem : (L : Limits) (st : Store) (item : List ℕ) (b : Brought) (bs : List ℕ) (result : Store)
    → None (edit_lines L (accepted st) item b result) → (length item ≡ 24) ×
    (RightBrought b × ((largest st.knowledge < largest_tick) × Room L result))
unfolding edit_lines wrong_brought read_or own_fault
edit_lines_lem L st item b bs result h =
    let w = or_false (wrong_length 24 item) (wrong_brought b) h.1.0 in
    (length_right 24 item w.0, (record { tag = length_right 16 b.tag w.1 }, (exhausted_below st h.1.1.0, room_lines L result h.1.1.1)))

pub edit_met : (L : Limits) (s item : List ℕ) (b : Brought) (st : Store) (room : ℕ) (bs : List ℕ) → open_store L s ≡ accepted st → outcome (edit_reply L s item b) room ≡ some bs → EditMet L st item b bs
edit_met L s item b st room bs o e =
    let result = changed (live_content b) (id_of 24 item) st in
    let m = outcome_lines (edit_lines L (accepted st) item b result) (encode_store result) bs room (ap (λ (r : Reply). outcome r room) (sym (edit_reply_lem L s item b st o)) ∙ e) in
    let l = edit_lines_lem L st item b bs result m.0 in
    record { item24 = l.0; brought = l.1.0; below = l.1.1.0; room = l.1.1.1; bytes = sym m.1 }

-- ---- delete

pub record DeleteMet (L : Limits) (st : Store) (item bs : List ℕ) : Type 0 where
  pub item24 : length item ≡ 24
  pub there : gone (find (id_of 24 item) st.records) ≡ false
  pub below : largest st.knowledge < largest_tick
  pub room : Room L (changed tombstone (id_of 24 item) st)
  pub bytes : bs ≡ encode_store (changed tombstone (id_of 24 item) st)

pub delete_reply_lem : (L : Limits) (s item : List ℕ) (st : Store) → open_store L s ≡ accepted st
    → delete_reply L s item ≡ first_fault refuses (delete_lines L (accepted st) item (changed tombstone (id_of 24 item) st))
    (gives (encode_store (changed tombstone (id_of 24 item) st)))
unfolding delete_reply deleted read_or own_fault
delete_reply_lem L s item st e =
    ap (λ (o : Parsed Store). first_fault refuses (delete_lines L o item (deleted o item)) (gives (encode_store (deleted o item)))) e

delete_lines_lem : (L : Limits) (st : Store) (item : List ℕ) (result : Store) → None (delete_lines L (accepted st) item result)
    → (length item ≡ 24) × ((gone (find (id_of 24 item) st.records) ≡ false) × ((largest st.knowledge < largest_tick) × Room L result))
unfolding delete_lines read_or own_fault
delete_lines_lem L st item result h =
    (length_right 24 item h.1.0, (h.1.1.0, (exhausted_below st h.1.1.1.0, room_lines L result h.1.1.1.1)))

pub delete_met : (L : Limits) (s item : List ℕ) (st : Store) (room : ℕ) (bs : List ℕ) → open_store L s ≡ accepted st → outcome (delete_reply L s item) room ≡ some bs → DeleteMet L st item bs
delete_met L s item st room bs o e =
    let result = changed tombstone (id_of 24 item) st in
    let m = outcome_lines (delete_lines L (accepted st) item result) (encode_store result) bs room (ap (λ (r : Reply). outcome r room) (sym (delete_reply_lem L s item st o)) ∙ e) in
    let l = delete_lines_lem L st item result m.0 in
    record { item24 = l.0; there = l.1.0; below = l.1.1.0; room = l.1.1.1; bytes = sym m.1 }

-- ---- make

pub record MakeMet (R : Rules) (st : Store) (knowledge first last bs : List ℕ) : Type 0 where
  pub given : Knowledge
  pub reads : parse R knowledge ≡ accepted given
  pub first24 : length first ≡ 24
  pub last24 : length last ≡ 24
  pub span : id_of 24 first ≤ id_of 24 last
  pub needed : Within R.limits (made st given (id_of 24 first) (id_of 24 last)).needed
  pub learned : Within R.limits (made st given (id_of 24 first) (id_of 24 last)).learned
  pub records : length (made st given (id_of 24 first) (id_of 24 last)).records ≤ R.limits.records
  pub bytes : bs ≡ encode_batch (made st given (id_of 24 first) (id_of 24 last))

pub make_reply_lem : (R : Rules) (s knowledge first last : List ℕ) (st : Store) → open_store R.limits s ≡ accepted st
    → make_reply R s knowledge first last ≡ first_fault refuses
    (make_lines R (accepted st) knowledge first last (makes R (accepted st) knowledge first last))
    (gives (encode_batch (makes R (accepted st) knowledge first last)))
unfolding make_reply
make_reply_lem R s knowledge first last st e =
    ap (λ (o : Parsed Store). first_fault refuses (make_lines R o knowledge first last (makes R o knowledge first last)) (gives (encode_batch (makes R o knowledge first last)))) e

unread : (n : ℕ) → (own_fault {A = Knowledge} (refused n)).holds ≡ false → ⊥
unread n h =
    let e : (own_fault {A = Knowledge} (refused n)).holds ≡ true = fault_refused Knowledge n in
    let z : ◌≡◌ {A = ℕ} 0 1 = cc in
    absurd (omega arith)

pub make_met : (R : Rules) (s knowledge first last : List ℕ) (st : Store) (room : ℕ) (bs : List ℕ) → open_store R.limits s ≡ accepted st
    → outcome (make_reply R s knowledge first last) room ≡ some bs → MakeMet R st knowledge first last bs
unfolding make_lines makes read_or own_fault
make_met R s knowledge first last st room bs o e =
    read (parse R knowledge) refl
    (outcome_lines (make_lines R (accepted st) knowledge first last (makes R (accepted st) knowledge first last)) (encode_batch (makes R (accepted st) knowledge first last)) bs room
    (ap (λ (r : Reply). outcome r room) (sym (make_reply_lem R s knowledge first last st o)) ∙ e))
  where
    lines :
        (b : Batch)
        → None (then (result_lines R.limits b.needed) (then (result_lines R.limits b.learned) (line 13 (too_many_records R.limits b.records) ∷ [])))
        → Within R.limits b.needed × (Within R.limits b.learned × (length b.records ≤ R.limits.records))
    lines b h =
        let p = none_then (result_lines R.limits b.needed) (then (result_lines R.limits b.learned) (line 13 (too_many_records R.limits b.records) ∷ [])) h in
        let q = none_then (result_lines R.limits b.learned) (line 13 (too_many_records R.limits b.records) ∷ []) p.1 in
        (within_lines R.limits b.needed p.0, (within_lines R.limits b.learned q.0, count_right R.limits b.records q.1.0))

    read :
        (p : Parsed Knowledge)
        → parse R knowledge ≡ p
        → None
        (own_fault (accepted st) ∷
        own_fault (parse R knowledge) ∷
        line 17 (wrong_span first last) ∷
        then (result_lines R.limits (made st (read_as (parse R knowledge)) (id_of 24 first) (id_of 24 last)).needed)
        (then (result_lines R.limits (made st (read_as (parse R knowledge)) (id_of 24 first) (id_of 24 last)).learned)
        (line 13 (too_many_records R.limits (made st (read_as (parse R knowledge)) (id_of 24 first) (id_of 24 last)).records) ∷ [])))
        × (encode_batch (made st (read_as (parse R knowledge)) (id_of 24 first) (id_of 24 last)) ≡ bs)
        → MakeMet R st knowledge first last bs
    read (refused n) h m = absurd (unread n (rw h at m.0.1.0))
    read (accepted k) h m =
        let w = span_right first last m.0.1.1.0 in
        let same : read_as (parse R knowledge) ≡ k = ap read_as h ∙ read_accepted empty_knowledge k in
        let l = lines (made st (read_as (parse R knowledge)) (id_of 24 first) (id_of 24 last)) m.0.1.1.1 in
        let l2 : Within R.limits (made st k (id_of 24 first) (id_of 24 last)).needed
        × (Within R.limits (made st k (id_of 24 first) (id_of 24 last)).learned
        × (length (made st k (id_of 24 first) (id_of 24 last)).records ≤ R.limits.records)) = rw same at l in
        record {
          given = k;
          reads = h;
          first24 = w.0;
          last24 = w.1.0;
          span = w.1.1;
          needed = l2.0;
          learned = l2.1.0;
          records = l2.1.1;
          bytes = sym m.1 ∙ ap (λ (x : Knowledge). encode_batch (made st x (id_of 24 first) (id_of 24 last))) same;
        }

-- ---- apply

pub record ApplyMet (L : Limits) (st : Store) (b : Batch) (bs : List ℕ) : Type 0 where
  pub covered : covers st.knowledge b.needed b.first b.last ≡ true
  pub behind : own_ahead st b ≡ false
  pub room : Room L (applied st b)
  pub bytes : bs ≡ encode_store (applied st b)

pub apply_reply_lem : (L : Limits) (s t : List ℕ) (st : Store) (b : Batch) → open_store L s ≡ accepted st → open_batch L t ≡ accepted b
    → apply_reply L s t ≡ first_fault refuses (apply_lines L (accepted st) (accepted b) (applied st b)) (gives (encode_store (applied st b)))
unfolding apply_reply read_or own_fault
apply_reply_lem L s t st b e f =
    ap (λ (o : Parsed Store). first_fault refuses (apply_lines L o (open_batch L t) (applied (store_or o) (batch_or (open_batch L t))))
    (gives (encode_store (applied (store_or o) (batch_or (open_batch L t)))))) e
    ∙ ap (λ (p : Parsed Batch). first_fault refuses (apply_lines L (accepted st) p (applied st (batch_or p))) (gives (encode_store (applied st (batch_or p))))) f

apply_lines_lem : (L : Limits) (st : Store) (b : Batch) (result : Store) → None (apply_lines L (accepted st) (accepted b) result)
    → (covers st.knowledge b.needed b.first b.last ≡ true) × ((own_ahead st b ≡ false) × Room L result)
unfolding apply_lines read_or own_fault uncovered
apply_lines_lem L st b result h =
    let w = or_false (uncovered st b) (own_ahead st b) h.1.1.0 in
    (not-false (covers st.knowledge b.needed b.first b.last) w.0, (w.1, room_lines L result h.1.1.1))

pub apply_met : (L : Limits) (s t : List ℕ) (st : Store) (b : Batch) (room : ℕ) (bs : List ℕ) → open_store L s ≡ accepted st
    → open_batch L t ≡ accepted b → outcome (apply_reply L s t) room ≡ some bs → ApplyMet L st b bs
apply_met L s t st b room bs o p e =
    let m = outcome_lines (apply_lines L (accepted st) (accepted b) (applied st b)) (encode_store (applied st b)) bs room (ap (λ (r : Reply). outcome r room) (sym (apply_reply_lem L s t st b o p)) ∙ e) in
    let l = apply_lines_lem L st b (applied st b) m.0 in
    record { covered = l.0; behind = l.1.0; room = l.1.1; bytes = sym m.1 }

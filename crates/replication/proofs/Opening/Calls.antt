-- The calls that write, decided step by step as code does it. Once the inputs are accepted and the lengths are right, what is left of an edit and
-- of a delete is `change_reply`, of an apply `store_reply` of the applied store, of a make `batch_reply` of the batch made (the first four laws).
-- Then each line of these in turn: a knowledge whose own lines refuse it refuses the call with the same number; where it is given, the next line
-- decides; where no line holds, the bytes are given. All of it by the clauses of `first_fault`.
use Prim.Native.Nat.{ℕ, ◌≤◌, ◌<◌}
use mathlib.Core.Path.{◌≡◌, refl, ap, ap₂, ◌∙◌}
use mathlib.Core.Logic.{inl, inr}
use mathlib.Core.Bool.{Bool, true, false, ◌||◌}
use mathlib.Core.List.{List, [], ◌∷◌}
use lib.ListN.{length}
use borrow.Author.Tests.{lt-ltb, le-ltb, le-leb, lt-leb}
use Rattle.codec.specs.Reply.{Reply, gives, refuses, Line, first_fault}
use Rattle.codec.specs.Parsed.{Parsed, accepted, line, own_fault, read_or}
use Rattle.codec.proofs.Replies.{First, None, fault_here, fault_later, fault_none, fault_gives, fault_first}
use Rattle.layout.specs.Knowledge.{Limits, Rules, largest_tick, Knowledge, encode}
use Rattle.layout.specs.Parse.{parse}
use Rattle.ticks.specs.Operations.{largest}
use Rattle.ticks.specs.Calls.{id_of, read_as, wrong_length, wrong_span, result_lines}
use Rattle.ticks.proofs.Answers.{length_exact}
use Rattle.replication.specs.Record.{Content}
use Rattle.replication.specs.Call.{Brought}
use Rattle.replication.specs.Formats.{Store, encode_store, find}
use Rattle.replication.specs.BatchFormat.{Batch, encode_batch}
use Rattle.replication.specs.Operate.{changed, made, applied}
use Rattle.replication.specs.OpenStore.{open_store}
use Rattle.replication.specs.OpenBatch.{open_batch}
use Rattle.replication.specs.Calls.{then, uncovered, own_ahead, gone, exhausted, too_many_records, store_lines, live_content, tombstone}
use Rattle.replication.specs.Calls.{store_or, batch_or, wrong_brought, edit_lines, edited, edit_reply, delete_lines, deleted, delete_reply}
use Rattle.replication.specs.Calls.{make_lines, makes, make_reply, apply_lines, apply_reply}
use Rattle.replication.specs.MethodReplies.{store_reply, change_reply, batch_reply}

-- ---- one list of lines after another

then_fault : (ls ms : List Line) (x y : Reply) (n : ℕ) → First n ls → first_fault refuses (then ls ms) y ≡ refuses n
unfolding then
then_fault [] ms x y n f = absurd f
then_fault (l ∷ ls) ms x y n (inl h) = fault_here refuses l (then ls ms) y h.0 ∙ ap refuses h.1
then_fault (l ∷ ls) ms x y n (inr h) = fault_later refuses l (then ls ms) y h.0 ∙ then_fault ls ms x y n h.1

then_on : (ls ms : List Line) (y : Reply) → None ls → first_fault refuses (then ls ms) y ≡ first_fault refuses ms y
unfolding then
then_on [] ms y n = refl
then_on (l ∷ ls) ms y n = fault_later refuses l (then ls ms) y n.0 ∙ then_on ls ms y n.1

-- what the lines of a knowledge alone come to
module _ (L : Limits) (k : Knowledge) (ms : List Line) (y : Reply) where
  result_refuses : (n : ℕ) → first_fault refuses (result_lines L k) (gives (encode k)) ≡ refuses n
      → first_fault refuses (then (result_lines L k) ms) y ≡ refuses n
  result_refuses n e = then_fault (result_lines L k) ms y y n (fault_first (result_lines L k) (encode k) n e)

  result_on : (bs : List ℕ) → first_fault refuses (result_lines L k) (gives (encode k)) ≡ gives bs
      → first_fault refuses (then (result_lines L k) ms) y ≡ first_fault refuses ms y
  result_on bs e = then_on (result_lines L k) ms y (fault_gives (result_lines L k) (encode k) bs e).0

-- ---- a store that is written

module _ (L : Limits) (st : Store) where
  abbrev own_lines : Reply
  own_lines = first_fault refuses (result_lines L st.knowledge) (gives (encode st.knowledge))

  pub store_result : (n : ℕ) → own_lines ≡ refuses n → store_reply L st ≡ refuses n
  unfolding store_reply store_lines
  store_result n e =
      result_refuses L st.knowledge (line 13 (too_many_records L st.records) ∷ []) (gives (encode_store st)) n e

  module _ (bs : List ℕ) (e : own_lines ≡ gives bs) where
    pub store_over : L.records < length st.records → store_reply L st ≡ refuses 13
    unfolding store_reply store_lines too_many_records
    store_over l =
        result_on L st.knowledge (line 13 (too_many_records L st.records) ∷ []) (gives (encode_store st)) bs e
        ∙ fault_here refuses (line 13 (too_many_records L st.records)) [] (gives (encode_store st))
        (lt-ltb L.records (length st.records) l)

    pub store_fits : length st.records ≤ L.records → store_reply L st ≡ gives (encode_store st)
    unfolding store_reply store_lines too_many_records
    store_fits l =
        result_on L st.knowledge (line 13 (too_many_records L st.records) ∷ []) (gives (encode_store st)) bs e
        ∙ (fault_later refuses (line 13 (too_many_records L st.records)) [] (gives (encode_store st))
        (le-ltb L.records (length st.records) l)
        ∙ fault_none refuses [] (gives (encode_store st)) tt)

    pub store_given : encode st.knowledge ≡ bs
    store_given = (fault_gives (result_lines L st.knowledge) (encode st.knowledge) bs e).1

-- ---- a changed store

module _ (L : Limits) (st : Store) (content : Content) (item : ℕ) where
  pub change_last : largest_tick ≤ largest st.knowledge → change_reply L st content item ≡ refuses 20
  unfolding change_reply exhausted
  change_last l =
      fault_here refuses (line 20 (exhausted st)) (store_lines L (changed content item st)) (gives (encode_store (changed content item st)))
      (le-leb largest_tick (largest st.knowledge) l)

  pub change_on : largest st.knowledge < largest_tick → change_reply L st content item ≡ store_reply L (changed content item st)
  unfolding change_reply store_reply exhausted
  change_on l =
      fault_later refuses (line 20 (exhausted st)) (store_lines L (changed content item st)) (gives (encode_store (changed content item st)))
      (lt-leb largest_tick (largest st.knowledge) l)

-- ---- a batch that is written

module _ (L : Limits) (b : Batch) where
  abbrev last_line : List Line
  last_line = line 13 (too_many_records L b.records) ∷ []

  abbrev needed_lines : Reply
  needed_lines = first_fault refuses (result_lines L b.needed) (gives (encode b.needed))

  abbrev learned_lines : Reply
  learned_lines = first_fault refuses (result_lines L b.learned) (gives (encode b.learned))

  pub batch_needed_result : (n : ℕ) → needed_lines ≡ refuses n → batch_reply L b ≡ refuses n
  unfolding batch_reply
  batch_needed_result n e = result_refuses L b.needed (then (result_lines L b.learned) last_line) (gives (encode_batch b)) n e

  module _ (bs : List ℕ) (e : needed_lines ≡ gives bs) where
    batch_learned_lines : batch_reply L b ≡ first_fault refuses (then (result_lines L b.learned) last_line) (gives (encode_batch b))
    unfolding batch_reply
    batch_learned_lines = result_on L b.needed (then (result_lines L b.learned) last_line) (gives (encode_batch b)) bs e

    pub batch_learned_result : (n : ℕ) → learned_lines ≡ refuses n → batch_reply L b ≡ refuses n
    batch_learned_result n f = batch_learned_lines ∙ result_refuses L b.learned last_line (gives (encode_batch b)) n f

    pub batch_fits : (cs : List ℕ) → learned_lines ≡ gives cs → length b.records ≤ L.records → batch_reply L b ≡ gives (encode_batch b)
    unfolding too_many_records
    batch_fits cs f l =
        batch_learned_lines
        ∙ (result_on L b.learned last_line (gives (encode_batch b)) cs f
        ∙ (fault_later refuses (line 13 (too_many_records L b.records)) [] (gives (encode_batch b))
        (le-ltb L.records (length b.records) l)
        ∙ fault_none refuses [] (gives (encode_batch b)) tt))

-- ---- from the inputs on

neither : (a b : Bool) → a ≡ false → b ≡ false → (a || b) ≡ false
neither a b e f = rw (e, f)

module _ (L : Limits) (s : List ℕ) (st : Store) (o : open_store L s ≡ accepted st) where
  edit_of : List ℕ → Brought → Parsed Store → Reply
  edit_of item b p = first_fault refuses (edit_lines L p item b (edited p item b)) (gives (encode_store (edited p item b)))

  pub edit_left : (item : List ℕ) (b : Brought) → length item ≡ 24 → length b.tag ≡ 16
      → edit_reply L s item b ≡ change_reply L st (live_content b) (id_of 24 item)
  unfolding edit_reply edit_of edit_lines edited change_reply wrong_brought own_fault read_or first_fault
  edit_left item b h k =
      let result = changed (live_content b) (id_of 24 item) st in
      ap (edit_of item b) o
      ∙ fault_later refuses (line 17 (wrong_length 24 item || wrong_length 16 b.tag)) (line 20 (exhausted st) ∷ store_lines L result)
      (gives (encode_store result))
      (neither (wrong_length 24 item) (wrong_length 16 b.tag) ((length_exact 24 item).1 h) ((length_exact 16 b.tag).1 k))

  delete_of : List ℕ → Parsed Store → Reply
  delete_of item p = first_fault refuses (delete_lines L p item (deleted p item)) (gives (encode_store (deleted p item)))

  module _ (item : List ℕ) (h : length item ≡ 24) where
    abbrev found : Bool
    found = gone (find (id_of 24 item) st.records)

    delete_lines_lem : delete_reply L s item
        ≡ first_fault refuses (line 19 found ∷ line 20 (exhausted st) ∷ store_lines L (changed tombstone (id_of 24 item) st))
        (gives (encode_store (changed tombstone (id_of 24 item) st)))
    unfolding delete_reply delete_of delete_lines deleted own_fault read_or first_fault
    delete_lines_lem =
        let result = changed tombstone (id_of 24 item) st in
        ap (delete_of item) o
        ∙ fault_later refuses (line 17 (wrong_length 24 item)) (line 19 found ∷ line 20 (exhausted st) ∷ store_lines L result)
        (gives (encode_store result)) ((length_exact 24 item).1 h)

    pub delete_gone : found ≡ true → delete_reply L s item ≡ refuses 19
    delete_gone g = delete_lines_lem ∙ fault_here refuses (line 19 found) _ _ g

    pub delete_left : found ≡ false → delete_reply L s item ≡ change_reply L st tombstone (id_of 24 item)
    unfolding change_reply
    delete_left g = delete_lines_lem ∙ fault_later refuses (line 19 found) _ _ g

  module _ (t : List ℕ) (b : Batch) (p : open_batch L t ≡ accepted b) where
    apply_of : Parsed Store → Parsed Batch → Reply
    apply_of x y =
        first_fault refuses (apply_lines L x y (applied (store_or x) (batch_or y))) (gives (encode_store (applied (store_or x) (batch_or y))))

    apply_lines_lem : apply_reply L s t
        ≡ first_fault refuses (line 18 (uncovered st b || own_ahead st b) ∷ store_lines L (applied st b)) (gives (encode_store (applied st b)))
    unfolding apply_reply apply_of apply_lines own_fault read_or first_fault
    apply_lines_lem = ap₂ apply_of o p

    pub apply_uncovered : uncovered st b ≡ true → apply_reply L s t ≡ refuses 18
    apply_uncovered e = apply_lines_lem ∙ fault_here refuses (line 18 (uncovered st b || own_ahead st b)) _ _ (rw e)

    pub apply_ahead : uncovered st b ≡ false → own_ahead st b ≡ true → apply_reply L s t ≡ refuses 18
    apply_ahead e f = apply_lines_lem ∙ fault_here refuses (line 18 (uncovered st b || own_ahead st b)) _ _ (rw (e, f))

    pub apply_left : uncovered st b ≡ false → own_ahead st b ≡ false → apply_reply L s t ≡ store_reply L (applied st b)
    unfolding store_reply
    apply_left e f =
        apply_lines_lem ∙ fault_later refuses (line 18 (uncovered st b || own_ahead st b)) _ _ (neither (uncovered st b) (own_ahead st b) e f)

module _ (R : Rules) (s : List ℕ) (st : Store) (o : open_store R.limits s ≡ accepted st) (knowledge : List ℕ) (k : Knowledge)
    (p : parse R knowledge ≡ accepted k) (first last : List ℕ) where
  make_of : Parsed Store → Parsed Knowledge → Reply
  make_of x y =
      let b = made (store_or x) (read_as y) (id_of 24 first) (id_of 24 last) in
      first_fault refuses
      (own_fault x ∷
      own_fault y ∷
      line 17 (wrong_span first last) ∷
      then (result_lines R.limits b.needed)
      (then (result_lines R.limits b.learned) (line 13 (too_many_records R.limits b.records) ∷ [])))
      (gives (encode_batch b))

  pub make_left : wrong_span first last ≡ false
      → make_reply R s knowledge first last ≡ batch_reply R.limits (made st k (id_of 24 first) (id_of 24 last))
  unfolding make_reply make_of make_lines makes batch_reply own_fault read_or first_fault
  make_left e =
      let b = made st k (id_of 24 first) (id_of 24 last) in
      ap₂ make_of o p
      ∙ fault_later refuses (line 17 (wrong_span first last))
      (then (result_lines R.limits b.needed)
      (then (result_lines R.limits b.learned) (line 13 (too_many_records R.limits b.records) ∷ [])))
      (gives (encode_batch b)) e

-- The calls that write, on bytes. Each is a table of refusals in document 01's order, "Inputs are checked as given: …
-- store before batch or knowledge, then 17; then 18, 19, 20; then the result (for make: needed before learned)", and
-- the bytes where no line holds. 14, the output buffer shorter than the result, is looked for last, by `answer`.
use Rattle.std.specs.Prelude.{ℕ, Bool, true, false, not, ◌||◌, List, [], ◌∷◌, ltb, leb, length, ◌≡◌}
use Rattle.codec.specs.Prelude.{Option, none, some}
use Rattle.codec.specs.Reply.{Reply, gives, Line, first_fault, refuses}
use Rattle.layout.specs.Knowledge.{Limits, Rules, largest_tick}
use Rattle.layout.specs.Parse.{parse}
use Rattle.ticks.specs.Meaning.{highest, empty_knowledge}
use Rattle.ticks.specs.Operations.{covers, covers_for, largest}
use Rattle.codec.specs.Parsed.{Parsed, read_or, line, own_fault}
use Rattle.ticks.specs.Calls.{id_of, read_as, wrong_length, wrong_span, result_lines}
use Rattle.replication.specs.Record.{Content, Rec}
use Rattle.replication.specs.Call.{Brought}
use Rattle.replication.specs.Formats.{Store, new_store, encode_store, find}
use Rattle.replication.specs.BatchFormat.{Batch, encode_batch}
use Rattle.replication.specs.Operate.{changed, made, applied}
use Rattle.replication.specs.OpenStore.{open_store}
use Rattle.replication.specs.OpenBatch.{open_batch}

-- one list of lines after the other
unfoldable pub then : List Line → List Line → List Line
then [] ms = ms
then (l ∷ ls) ms = l ∷ then ls ms

-- the store or batch that was opened; where it is refused, the value is of no account
abbrev pub store_or : Parsed Store → Store
store_or o = read_or (new_store 0) o

abbrev pub batch_or : Parsed Batch → Batch
batch_or p = read_or (record { first = 0; last = 0; needed = empty_knowledge; learned = empty_knowledge; records = [] }) p

-- 18: "store doesn't cover needed in the span"
unfoldable pub uncovered : Store → Batch → Bool
uncovered st b = not (covers st.knowledge b.needed b.first b.last)

-- 18: "or learned has, for some item, a tick of the store's own replica above the store's"
unfoldable pub own_ahead : Store → Batch → Bool
own_ahead st b = not (covers_for (st.own ∷ []) st.knowledge b.learned 0 highest)

-- 19: "item absent or tombstone"
unfoldable pub gone : Option Rec → Bool
gone none = true
gone (some r) = r.content.deleted

-- 20: "largest tick is 2^63 − 1"
unfoldable pub exhausted : Store → Bool
exhausted st = leb largest_tick (largest st.knowledge)

-- 13: "over 256 records"
unfoldable pub too_many_records : Limits → List Rec → Bool
too_many_records L rs = ltb L.records (length rs)

-- 11, 12 and 13 of a resulting store
unfoldable pub store_lines : Limits → Store → List Line
store_lines L st =
    then (result_lines L st.knowledge) (line 13 (too_many_records L st.records) ∷ [])

-- new
unfoldable pub new_reply : List ℕ → Reply
new_reply own = first_fault refuses (line 17 (wrong_length 16 own) ∷ []) (gives (encode_store (new_store (id_of 16 own))))

-- edit: what it brings, live with the given tag. 17: the tag is not 16 bytes long
unfoldable pub live_content : Brought → Content
live_content b = record { deleted = false; tag = id_of 16 b.tag }

-- 17: what an edit brings has its length
pub record RightBrought (b : Brought) : Type 0 where
  pub tag : length b.tag ≡ 16

unfoldable pub wrong_brought : Brought → Bool
wrong_brought b = wrong_length 16 b.tag

unfoldable pub edit_lines : Limits → Parsed Store → List ℕ → Brought → Store → List Line
edit_lines L o item b result =
    own_fault o ∷
    line 17 (wrong_length 24 item || wrong_brought b) ∷
    line 20 (exhausted (store_or o)) ∷
    store_lines L result

unfoldable pub edited : Parsed Store → List ℕ → Brought → Store
edited o item b = changed (live_content b) (id_of 24 item) (store_or o)

unfoldable pub edit_reply : Limits → List ℕ → List ℕ → Brought → Reply
edit_reply L s item b =
    let o = open_store L s in
    let result = edited o item b in
    first_fault refuses (edit_lines L o item b result) (gives (encode_store result))

-- delete: what it brings, a tombstone with a tag of zeros
unfoldable pub tombstone : Content
tombstone = record { deleted = true; tag = 0 }

unfoldable pub delete_lines : Limits → Parsed Store → List ℕ → Store → List Line
delete_lines L o item result =
    own_fault o ∷
    line 17 (wrong_length 24 item) ∷
    line 19 (gone (find (id_of 24 item) (store_or o).records)) ∷
    line 20 (exhausted (store_or o)) ∷
    store_lines L result

unfoldable pub deleted : Parsed Store → List ℕ → Store
deleted o item = changed tombstone (id_of 24 item) (store_or o)

unfoldable pub delete_reply : Limits → List ℕ → List ℕ → Reply
delete_reply L s item =
    let o = open_store L s in
    let result = deleted o item in
    first_fault refuses (delete_lines L o item result) (gives (encode_store result))

-- make: the store, the given knowledge's own fault, the span, then needed before learned
unfoldable pub make_lines : Rules → Parsed Store → List ℕ → List ℕ → List ℕ → Batch → List Line
make_lines R o knowledge first last result =
    own_fault o ∷
    own_fault (parse R knowledge) ∷
    line 17 (wrong_span first last) ∷
    then (result_lines R.limits result.needed)
    (then (result_lines R.limits result.learned) (line 13 (too_many_records R.limits result.records) ∷ []))

unfoldable pub makes : Rules → Parsed Store → List ℕ → List ℕ → List ℕ → Batch
makes R o knowledge first last = made (store_or o) (read_as (parse R knowledge)) (id_of 24 first) (id_of 24 last)

unfoldable pub make_reply : Rules → List ℕ → List ℕ → List ℕ → List ℕ → Reply
make_reply R s knowledge first last =
    let o = open_store R.limits s in
    let result = makes R o knowledge first last in
    first_fault refuses (make_lines R o knowledge first last result) (gives (encode_batch result))

-- apply
unfoldable pub apply_lines : Limits → Parsed Store → Parsed Batch → Store → List Line
apply_lines L o p result =
    own_fault o ∷
    own_fault p ∷
    line 18 (uncovered (store_or o) (batch_or p) || own_ahead (store_or o) (batch_or p)) ∷
    store_lines L result

unfoldable pub apply_reply : Limits → List ℕ → List ℕ → Reply
apply_reply L s batch =
    let o = open_store L s in
    let p = open_batch L batch in
    let result = applied (store_or o) (batch_or p) in
    first_fault refuses (apply_lines L o p result) (gives (encode_store result))

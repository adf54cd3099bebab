-- The table of document 01's instances. A row says what is asked and the whole reply.
use Rattle.std.specs.Prelude.{ℕ, ◌≡◌, List, [], ◌∷◌, ◌++◌, pos, negsuc, length, take, drop}
use Rattle.codec.specs.Reply.{Reply, gives, refuses}
use Rattle.layout.specs.Checked.{Checked}
use Rattle.layout.specs.Checked.{Accepted, Refused}
use Rattle.layout.specs.Knowledge.{basic, Knowledge, encode, base}
use Rattle.layout.specs.Parse.{parse, checked_by}
use Rattle.ticks.specs.Meaning.{highest, known}
use Rattle.ticks.specs.Calls.{contain_answer, lead_answer, merge_reply, project_reply}
use Rattle.ticks.specs.Contain.{Contain}
use Rattle.ticks.specs.Contain as C
use Rattle.ticks.specs.Lead.{Lead}
use Rattle.ticks.specs.Lead as D
use Rattle.replication.specs.Formats.{Store, encode_store}
use Rattle.replication.specs.BatchFormat.{Batch, encode_batch}
use Rattle.replication.specs.Operate.{next_tick}
use Rattle.replication.specs.Calls.{new_reply, edit_reply, delete_reply, make_reply, apply_reply}
use Rattle.replication.specs.Queries.{winner_part, learned_part}
use Rattle.instances.specs.Spelled.{bytes_k6, bytes_k10, bytes_k11, bytes_deleted, bytes_two_records, bytes_two_vectors}
use Rattle.instances.specs.Given.{empty_value, smallest, item_bytes, replica_bytes, tagged, ran, one, two, parts}
use Rattle.instances.specs.Given.{fresh, again, store, batch, p1, q1, p2, q2}
use Rattle.replication.specs.Part.{Part}
use Rattle.replication.specs.Part as W
use Rattle.codec.specs.Parsed.{Parsed, accepted, refused}

pub data Row : Type 0 where
  -- the bytes of a knowledge, and how many they are
  writes : Knowledge → List ℕ → ℕ → Row
  -- the answer of the check of bytes
  checks : List ℕ → Checked → Row
  -- the value that bytes are read as, or the refusal's number
  reads : List ℕ → Parsed Knowledge → Row
  -- a call that writes: the bytes, and how many they are
  gets : Reply → List ℕ → ℕ → Row
  -- a call that is refused
  refuses_with : Reply → ℕ → Row
  -- the tick known for an item and a replica
  knows : Knowledge → ℕ → ℕ → ℕ → Row
  -- is a version contained; by how much does one knowledge lead another
  contained : Contain → Contain → Row
  leads : Lead → Lead → Row
  -- the tick of a store's next edit
  next : Store → ℕ → Row
  -- the part that winner or learned hands out, and that part's bytes
  hands : Part → Part → Row
  bytes_are : List ℕ → List ℕ → Row

abbrev pub Holds : Row → Type 0
Holds (writes k bs n) = (encode k ≡ bs) × (length bs ≡ n)
Holds (checks s c) = checked_by basic s ≡ c
Holds (reads s p) = parse basic s ≡ p
Holds (gets r bs n) = (r ≡ gives bs) × (length bs ≡ n)
Holds (refuses_with r n) = r ≡ refuses n
Holds (knows k i p t) = known k i p ≡ t
Holds (contained x y) = x ≡ y
Holds (leads x y) = x ≡ y
Holds (next st t) = next_tick st ≡ t
Holds (hands x y) = x ≡ y
Holds (bytes_are x y) = x ≡ y

-- every row of a table holds
abbrev pub AllHold : List Row → Type 0
AllHold [] = Unit {0}
AllHold (x ∷ xs) = Holds x × AllHold xs

unfoldable pub alone : List Row
alone =
    -- K1 smallest knowledge: 113 bytes
    writes empty_value smallest 113 ∷
    checks smallest (Accepted 0 1 0 1) ∷
    reads smallest (accepted empty_value) ∷
    -- K2 without its last byte: 1
    checks (take 112 smallest) (Refused 1) ∷
    reads (take 112 smallest) (refused 1) ∷
    -- K3 one byte more: 10
    checks (smallest ++ (0 ∷ [])) (Refused 10) ∷
    reads (smallest ++ (0 ∷ [])) (refused 10) ∷
    []

-- all ids
abbrev pub everything : (List ℕ → List ℕ → Reply) → Reply
everything f = f (item_bytes 0) (item_bytes highest)

-- the rows that name P and Q. A is P 5 everywhere, B is P 3 and Q 2
unfoldable pub knowledge_rows : ℕ → ℕ → List Row
knowledge_rows P Q =
    -- K4 merged P 5, Q 2, 177 bytes
    gets (merge_reply basic (encode (one P 5)) (encode (two P 3 Q 2))) (encode (two P 5 Q 2)) 177 ∷
    reads (encode (one P 5)) (accepted (one P 5)) ∷
    reads (encode (two P 3 Q 2)) (accepted (two P 3 Q 2)) ∷
    reads (encode (two P 5 Q 2)) (accepted (two P 5 Q 2)) ∷
    knows (two P 5 Q 2) 0 P 5 ∷
    knows (two P 5 Q 2) highest P 5 ∷
    knows (two P 5 Q 2) 0 Q 2 ∷
    knows (two P 5 Q 2) highest Q 2 ∷
    -- K5 A contains P 5; not P 6, P 0
    contained (contain_answer basic (encode (one P 5)) (item_bytes 1) (replica_bytes P) 5) C.Contained ∷
    contained (contain_answer basic (encode (one P 5)) (item_bytes 1) (replica_bytes P) 6) C.Lacking ∷
    contained (contain_answer basic (encode (one P 5)) (item_bytes 1) (replica_bytes P) 0) C.Lacking ∷
    -- K6 A on span 1..1: 3 ranges, 205 bytes
    gets (project_reply basic (encode (one P 5)) (item_bytes 1) (item_bytes 1)) (encode (parts P 5 (ran 0 0 ∷ ran 1 1 ∷ ran 2 0 ∷ []))) 205 ∷
    -- K7 A from 1 to the top: 2 ranges, 177 bytes
    gets (project_reply basic (encode (one P 5)) (item_bytes 1) (item_bytes highest)) (encode (parts P 5 (ran 0 0 ∷ ran 1 1 ∷ []))) 177 ∷
    -- K8 lead of A over B: P 2, Q −2
    leads (lead_answer basic (encode (one P 5)) (encode (two P 3 Q 2)) (item_bytes 1) (replica_bytes P)) (D.Ahead (pos 2)) ∷
    leads (lead_answer basic (encode (one P 5)) (encode (two P 3 Q 2)) (item_bytes 1) (replica_bytes Q)) (D.Ahead (negsuc 1)) ∷
    []

-- stores and batches of K9 to K12
unfoldable pub new_of : ℕ → Store
new_of p = store p empty_value []

-- item 1 edited with a tag, the replica's first edit
unfoldable pub edited_once : ℕ → ℕ → Store
edited_once p tag = store p (one p 1) (fresh 1 p 1 tag ∷ [])

unfoldable pub edited_twice : ℕ → Store
edited_twice p = store p (one p 2) (fresh 1 p 1 9 ∷ fresh 2 p 2 8 ∷ [])

unfoldable pub batch_one : ℕ → ℕ → Batch
batch_one p tag = batch empty_value (one p 1) (fresh 1 p 1 tag ∷ [])

unfoldable pub batch_two : ℕ → Batch
batch_two p = batch (one p 1) (one p 2) (fresh 2 p 2 8 ∷ [])

unfoldable pub store_rows : ℕ → ℕ → List Row
store_rows P Q =
    -- K9 new store 138 bytes; after one edit 263
    gets (new_reply (replica_bytes P)) (encode_store (new_of P)) 138 ∷
    gets (edit_reply base (encode_store (new_of P)) (item_bytes 1) (tagged 9)) (encode_store (edited_once P 9)) 263 ∷
    -- K10 P and Q both edit item 1 first, P applies Q's batch: Q's record wins, P's next tick 2
    gets (edit_reply base (encode_store (new_of Q)) (item_bytes 1) (tagged 6)) (encode_store (edited_once Q 6)) 263 ∷
    gets (everything (make_reply basic (encode_store (edited_once Q 6)) smallest)) (encode_batch (batch_one Q 6)) 412 ∷
    gets (apply_reply base (encode_store (edited_once P 9)) (encode_batch (batch_one Q 6)))
    (encode_store (store P (two P 1 Q 1) (fresh 1 Q 1 6 ∷ []))) 291 ∷
    hands (winner_part base (encode_store (edited_once P 9)) (encode_batch (batch_one Q 6)) (item_bytes 1)) (W.OfBatch 323 89) ∷
    next (store P (two P 1 Q 1) (fresh 1 Q 1 6 ∷ [])) 2 ∷
    gets (edit_reply base (encode_store (store P (two P 1 Q 1) (fresh 1 Q 1 6 ∷ []))) (item_bytes 1) (tagged 7))
    (encode_store (store P (two P 2 Q 1) (again 1 P 2 Q 1 7 ∷ []))) 291 ∷
    -- K11 batch of K9's edited store for empty knowledge, all ids: 412 bytes
    gets (everything (make_reply basic (encode_store (edited_once P 9)) smallest)) (encode_batch (batch_one P 9)) 412 ∷
    -- K12 P edits item 1, makes batch one for empty knowledge (K11), edits item 2, and makes batch two for batch one's
    -- learned knowledge, both over all ids. A new Q refuses two (18), takes one, then two
    gets (edit_reply base (encode_store (edited_once P 9)) (item_bytes 2) (tagged 8)) (encode_store (edited_twice P)) 352 ∷
    hands (learned_part base (encode_batch (batch_one P 9))) (W.OfBatch 174 149) ∷
    bytes_are (take 149 (drop 174 (encode_batch (batch_one P 9)))) (encode (one P 1)) ∷
    gets (everything (make_reply basic (encode_store (edited_twice P)) (encode (one P 1)))) (encode_batch (batch_two P)) 448 ∷
    refuses_with (apply_reply base (encode_store (new_of Q)) (encode_batch (batch_two P))) 18 ∷
    gets (apply_reply base (encode_store (new_of Q)) (encode_batch (batch_one P 9))) (encode_store (store Q (one P 1) (fresh 1 P 1 9 ∷ []))) 263 ∷
    gets (apply_reply base (encode_store (store Q (one P 1) (fresh 1 P 1 9 ∷ []))) (encode_batch (batch_two P)))
    (encode_store (store Q (one P 2) (fresh 1 P 1 9 ∷ fresh 2 P 2 8 ∷ []))) 352 ∷
    []

-- replies with their bytes written out, for P1 and Q1
unfoldable pub spelled_rows : List Row
spelled_rows =
    gets (project_reply basic (encode (one p1 5)) (item_bytes 1) (item_bytes 1)) bytes_k6 205 ∷
    gets (edit_reply base (encode_store (store p1 (two p1 1 q1 1) (fresh 1 q1 1 6 ∷ []))) (item_bytes 1) (tagged 7)) bytes_k10 291 ∷
    gets (everything (make_reply basic (encode_store (edited_once p1 9)) smallest)) bytes_k11 412 ∷
    gets (delete_reply base (encode_store (edited_once p1 9)) (item_bytes 1)) bytes_deleted 263 ∷
    gets (edit_reply base (encode_store (edited_once p1 9)) (item_bytes 2) (tagged 8)) bytes_two_records 352 ∷
    gets (merge_reply basic bytes_k6 (encode (parts q1 2 (ran 0 1 ∷ ran 1 0 ∷ [])))) bytes_two_vectors 241 ∷
    []

unfoldable pub table : List (List Row)
table =
    alone ∷
    spelled_rows ∷
    knowledge_rows p1 q1 ∷
    knowledge_rows p2 q2 ∷
    store_rows p1 q1 ∷
    store_rows p2 q2 ∷
    []

abbrev pub Tables : List (List Row) → Type 0
Tables [] = Unit {0}
Tables (x ∷ xs) = AllHold x × Tables xs

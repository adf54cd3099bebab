-- A list that meets 11, over two replicas: seventeen calls on four new replicas. S takes the batches of P and of Q, so that its knowledge
-- has two replicas and its own id would be a third. The bytes at the end were made from the paper's text; of this repository's
-- definitions they rest only on `put`, a number as bytes.
use Rattle.std.specs.Prelude.{ℕ, ◌-◌, ◌^◌, Bool, true, false, List, [], ◌∷◌}
use Rattle.codec.specs.Answer.{Answer}
use Rattle.codec.specs.Answer.{Written, Refused}
use Rattle.layout.specs.Knowledge.{encode}
use Rattle.ticks.specs.Meaning.{highest}
use Rattle.replication.specs.Call.{Call, edit, delete, make, apply}
use Rattle.instances.specs.Given.{empty_value, item_bytes, tagged, one, p1, q1}
use Rattle.instances.specs.Longer.{s1, t1}
use Rattle.small_limits.specs.Small.{room, spelled}

unfoldable pub replicas_full : List Call
replicas_full =
    -- P edits item 1 and makes batch 0, Q edits item 2 and makes batch 1; S takes both
    edit p1 (item_bytes 1) (tagged 9) room ∷
    edit q1 (item_bytes 2) (tagged 8) room ∷
    make p1 (encode empty_value) (item_bytes 0) (item_bytes highest) room ∷
    make q1 (encode empty_value) (item_bytes 0) (item_bytes highest) room ∷
    apply s1 0 room ∷
    apply s1 1 room ∷
    -- S cannot edit item 1 (11), nor item 3, which would also be a record too many (11 before 13), nor delete item 2 (11)
    edit s1 (item_bytes 1) (tagged 7) room ∷
    edit s1 (item_bytes 3) (tagged 7) room ∷
    delete s1 (item_bytes 2) room ∷
    -- S makes batch 2 of both records
    make s1 (encode empty_value) (item_bytes 0) (item_bytes highest) room ∷
    -- T edits item 2: it cannot take batch 2, which knows of P and Q (11); it takes batch 0, which knows of P, and edits item 1
    edit t1 (item_bytes 2) (tagged 6) room ∷
    apply t1 2 room ∷
    apply t1 0 room ∷
    edit t1 (item_bytes 1) (tagged 5) room ∷
    -- P edits item 1 again and makes batch 3 of it, which S takes: no replica more
    edit p1 (item_bytes 1) (tagged 4) room ∷
    make p1 (encode (one p1 1)) (item_bytes 0) (item_bytes highest) room ∷
    apply s1 3 room ∷
    []

-- was each call refused
unfoldable pub replicas_full_flags : List Bool
replicas_full_flags =
    false ∷ false ∷ false ∷ false ∷ false ∷ false ∷
    true ∷ true ∷ true ∷ false ∷
    false ∷ true ∷ false ∷ false ∷
    false ∷ false ∷ false ∷
    []

-- what each call answers: the length that it wrote, or the number of its refusal
unfoldable pub replicas_full_answers : List Answer
replicas_full_answers =
    Written 263 ∷ Written 263 ∷ Written 412 ∷ Written 412 ∷ Written 263 ∷ Written 380 ∷
    Refused 11 ∷ Refused 11 ∷ Refused 11 ∷ Written 529 ∷
    Written 263 ∷ Refused 11 ∷ Written 380 ∷ Written 380 ∷
    Written 263 ∷ Written 448 ∷ Written 380 ∷
    []

-- P's store: 263 bytes
unfoldable pub bytes_p : List ℕ
bytes_p =
    spelled (
    -- a store: own id, knowledge length, record count
    (1, 3) ∷ (16, p1) ∷ (4, 149) ∷ (4, 1) ∷
    -- its knowledge: P 2 everywhere
    (4, 5) ∷ (4, 0) ∷ (4, 1) ∷ (4, 0) ∷ (4, 5) ∷ (1, 0) ∷ (2, 16) ∷ (4, 1) ∷ (16, p1) ∷
    (4, 24) ∷ (1, 0) ∷ (2, 16) ∷ (1, 0) ∷ (2, 24) ∷ (1, 0) ∷ (2, 1) ∷
    (4, 21) ∷ (4, 2) ∷ (4, 1) ∷ (4, 0) ∷ (4, 1) ∷ (4, 1) ∷ (4, 0) ∷ (8, 2) ∷
    (4, 23) ∷ (4, 1) ∷ (4, 22) ∷ (4, 1) ∷ (24, 0) ∷ (4, 1) ∷
    (4, 0) ∷ (4, 25) ∷ (1, 1) ∷ (4, 0) ∷
    -- its records
    (1, 1) ∷ (24, 1) ∷ (16, p1) ∷ (8, 2) ∷ (16, p1) ∷ (8, 1) ∷ (16, 4) ∷
    [])

-- Q's store: 263 bytes
unfoldable pub bytes_q : List ℕ
bytes_q =
    spelled (
    -- a store: own id, knowledge length, record count
    (1, 3) ∷ (16, q1) ∷ (4, 149) ∷ (4, 1) ∷
    -- its knowledge: Q 1 everywhere
    (4, 5) ∷ (4, 0) ∷ (4, 1) ∷ (4, 0) ∷ (4, 5) ∷ (1, 0) ∷ (2, 16) ∷ (4, 1) ∷ (16, q1) ∷
    (4, 24) ∷ (1, 0) ∷ (2, 16) ∷ (1, 0) ∷ (2, 24) ∷ (1, 0) ∷ (2, 1) ∷
    (4, 21) ∷ (4, 2) ∷ (4, 1) ∷ (4, 0) ∷ (4, 1) ∷ (4, 1) ∷ (4, 0) ∷ (8, 1) ∷
    (4, 23) ∷ (4, 1) ∷ (4, 22) ∷ (4, 1) ∷ (24, 0) ∷ (4, 1) ∷
    (4, 0) ∷ (4, 25) ∷ (1, 1) ∷ (4, 0) ∷
    -- its records
    (1, 1) ∷ (24, 2) ∷ (16, q1) ∷ (8, 1) ∷ (16, q1) ∷ (8, 1) ∷ (16, 8) ∷
    [])

-- S's store: 380 bytes
unfoldable pub bytes_s : List ℕ
bytes_s =
    spelled (
    -- a store: own id, knowledge length, record count
    (1, 3) ∷ (16, s1) ∷ (4, 177) ∷ (4, 2) ∷
    -- its knowledge: P 2 Q 1 everywhere
    (4, 5) ∷ (4, 0) ∷ (4, 1) ∷ (4, 0) ∷ (4, 5) ∷ (1, 0) ∷ (2, 16) ∷ (4, 2) ∷ (16, p1) ∷ (16, q1) ∷
    (4, 24) ∷ (1, 0) ∷ (2, 16) ∷ (1, 0) ∷ (2, 24) ∷ (1, 0) ∷ (2, 1) ∷
    (4, 21) ∷ (4, 2) ∷ (4, 1) ∷ (4, 0) ∷ (4, 1) ∷ (4, 2) ∷ (4, 0) ∷ (8, 2) ∷ (4, 1) ∷ (8, 1) ∷
    (4, 23) ∷ (4, 1) ∷ (4, 22) ∷ (4, 1) ∷ (24, 0) ∷ (4, 1) ∷
    (4, 0) ∷ (4, 25) ∷ (1, 1) ∷ (4, 0) ∷
    -- its records
    (1, 1) ∷ (24, 1) ∷ (16, p1) ∷ (8, 2) ∷ (16, p1) ∷ (8, 1) ∷ (16, 4) ∷
    (1, 1) ∷ (24, 2) ∷ (16, q1) ∷ (8, 1) ∷ (16, q1) ∷ (8, 1) ∷ (16, 8) ∷
    [])

-- T's store: 380 bytes
unfoldable pub bytes_t : List ℕ
bytes_t =
    spelled (
    -- a store: own id, knowledge length, record count
    (1, 3) ∷ (16, t1) ∷ (4, 177) ∷ (4, 2) ∷
    -- its knowledge: P 1 T 2 everywhere
    (4, 5) ∷ (4, 0) ∷ (4, 1) ∷ (4, 0) ∷ (4, 5) ∷ (1, 0) ∷ (2, 16) ∷ (4, 2) ∷ (16, p1) ∷ (16, t1) ∷
    (4, 24) ∷ (1, 0) ∷ (2, 16) ∷ (1, 0) ∷ (2, 24) ∷ (1, 0) ∷ (2, 1) ∷
    (4, 21) ∷ (4, 2) ∷ (4, 1) ∷ (4, 0) ∷ (4, 1) ∷ (4, 2) ∷ (4, 0) ∷ (8, 1) ∷ (4, 1) ∷ (8, 2) ∷
    (4, 23) ∷ (4, 1) ∷ (4, 22) ∷ (4, 1) ∷ (24, 0) ∷ (4, 1) ∷
    (4, 0) ∷ (4, 25) ∷ (1, 1) ∷ (4, 0) ∷
    -- its records
    (1, 1) ∷ (24, 1) ∷ (16, t1) ∷ (8, 2) ∷ (16, p1) ∷ (8, 1) ∷ (16, 5) ∷
    (1, 1) ∷ (24, 2) ∷ (16, t1) ∷ (8, 1) ∷ (16, t1) ∷ (8, 1) ∷ (16, 6) ∷
    [])

-- batch 0: 412 bytes
unfoldable pub bytes_batch0 : List ℕ
bytes_batch0 =
    spelled (
    -- a batch: its span, both knowledge lengths, record count
    (1, 4) ∷ (24, 0) ∷ (24, 256 ^ 24 - 1) ∷ (4, 113) ∷ (4, 149) ∷ (4, 1) ∷
    -- needed: nothing
    (4, 5) ∷ (4, 0) ∷ (4, 1) ∷ (4, 0) ∷ (4, 5) ∷ (1, 0) ∷ (2, 16) ∷ (4, 0) ∷
    (4, 24) ∷ (1, 0) ∷ (2, 16) ∷ (1, 0) ∷ (2, 24) ∷ (1, 0) ∷ (2, 1) ∷
    (4, 21) ∷ (4, 1) ∷ (4, 1) ∷ (4, 0) ∷
    (4, 23) ∷ (4, 1) ∷ (4, 22) ∷ (4, 1) ∷ (24, 0) ∷ (4, 0) ∷
    (4, 0) ∷ (4, 25) ∷ (1, 1) ∷ (4, 0) ∷
    -- learned: P 1 everywhere
    (4, 5) ∷ (4, 0) ∷ (4, 1) ∷ (4, 0) ∷ (4, 5) ∷ (1, 0) ∷ (2, 16) ∷ (4, 1) ∷ (16, p1) ∷
    (4, 24) ∷ (1, 0) ∷ (2, 16) ∷ (1, 0) ∷ (2, 24) ∷ (1, 0) ∷ (2, 1) ∷
    (4, 21) ∷ (4, 2) ∷ (4, 1) ∷ (4, 0) ∷ (4, 1) ∷ (4, 1) ∷ (4, 0) ∷ (8, 1) ∷
    (4, 23) ∷ (4, 1) ∷ (4, 22) ∷ (4, 1) ∷ (24, 0) ∷ (4, 1) ∷
    (4, 0) ∷ (4, 25) ∷ (1, 1) ∷ (4, 0) ∷
    -- its records
    (1, 1) ∷ (24, 1) ∷ (16, p1) ∷ (8, 1) ∷ (16, p1) ∷ (8, 1) ∷ (16, 9) ∷
    [])

-- batch 1: 412 bytes
unfoldable pub bytes_batch1 : List ℕ
bytes_batch1 =
    spelled (
    -- a batch: its span, both knowledge lengths, record count
    (1, 4) ∷ (24, 0) ∷ (24, 256 ^ 24 - 1) ∷ (4, 113) ∷ (4, 149) ∷ (4, 1) ∷
    -- needed: nothing
    (4, 5) ∷ (4, 0) ∷ (4, 1) ∷ (4, 0) ∷ (4, 5) ∷ (1, 0) ∷ (2, 16) ∷ (4, 0) ∷
    (4, 24) ∷ (1, 0) ∷ (2, 16) ∷ (1, 0) ∷ (2, 24) ∷ (1, 0) ∷ (2, 1) ∷
    (4, 21) ∷ (4, 1) ∷ (4, 1) ∷ (4, 0) ∷
    (4, 23) ∷ (4, 1) ∷ (4, 22) ∷ (4, 1) ∷ (24, 0) ∷ (4, 0) ∷
    (4, 0) ∷ (4, 25) ∷ (1, 1) ∷ (4, 0) ∷
    -- learned: Q 1 everywhere
    (4, 5) ∷ (4, 0) ∷ (4, 1) ∷ (4, 0) ∷ (4, 5) ∷ (1, 0) ∷ (2, 16) ∷ (4, 1) ∷ (16, q1) ∷
    (4, 24) ∷ (1, 0) ∷ (2, 16) ∷ (1, 0) ∷ (2, 24) ∷ (1, 0) ∷ (2, 1) ∷
    (4, 21) ∷ (4, 2) ∷ (4, 1) ∷ (4, 0) ∷ (4, 1) ∷ (4, 1) ∷ (4, 0) ∷ (8, 1) ∷
    (4, 23) ∷ (4, 1) ∷ (4, 22) ∷ (4, 1) ∷ (24, 0) ∷ (4, 1) ∷
    (4, 0) ∷ (4, 25) ∷ (1, 1) ∷ (4, 0) ∷
    -- its records
    (1, 1) ∷ (24, 2) ∷ (16, q1) ∷ (8, 1) ∷ (16, q1) ∷ (8, 1) ∷ (16, 8) ∷
    [])

-- batch 2: 529 bytes
unfoldable pub bytes_batch2 : List ℕ
bytes_batch2 =
    spelled (
    -- a batch: its span, both knowledge lengths, record count
    (1, 4) ∷ (24, 0) ∷ (24, 256 ^ 24 - 1) ∷ (4, 113) ∷ (4, 177) ∷ (4, 2) ∷
    -- needed: nothing
    (4, 5) ∷ (4, 0) ∷ (4, 1) ∷ (4, 0) ∷ (4, 5) ∷ (1, 0) ∷ (2, 16) ∷ (4, 0) ∷
    (4, 24) ∷ (1, 0) ∷ (2, 16) ∷ (1, 0) ∷ (2, 24) ∷ (1, 0) ∷ (2, 1) ∷
    (4, 21) ∷ (4, 1) ∷ (4, 1) ∷ (4, 0) ∷
    (4, 23) ∷ (4, 1) ∷ (4, 22) ∷ (4, 1) ∷ (24, 0) ∷ (4, 0) ∷
    (4, 0) ∷ (4, 25) ∷ (1, 1) ∷ (4, 0) ∷
    -- learned: P 1 Q 1 everywhere
    (4, 5) ∷ (4, 0) ∷ (4, 1) ∷ (4, 0) ∷ (4, 5) ∷ (1, 0) ∷ (2, 16) ∷ (4, 2) ∷ (16, p1) ∷ (16, q1) ∷
    (4, 24) ∷ (1, 0) ∷ (2, 16) ∷ (1, 0) ∷ (2, 24) ∷ (1, 0) ∷ (2, 1) ∷
    (4, 21) ∷ (4, 2) ∷ (4, 1) ∷ (4, 0) ∷ (4, 1) ∷ (4, 2) ∷ (4, 0) ∷ (8, 1) ∷ (4, 1) ∷ (8, 1) ∷
    (4, 23) ∷ (4, 1) ∷ (4, 22) ∷ (4, 1) ∷ (24, 0) ∷ (4, 1) ∷
    (4, 0) ∷ (4, 25) ∷ (1, 1) ∷ (4, 0) ∷
    -- its records
    (1, 1) ∷ (24, 1) ∷ (16, p1) ∷ (8, 1) ∷ (16, p1) ∷ (8, 1) ∷ (16, 9) ∷
    (1, 1) ∷ (24, 2) ∷ (16, q1) ∷ (8, 1) ∷ (16, q1) ∷ (8, 1) ∷ (16, 8) ∷
    [])

-- batch 3: 448 bytes
unfoldable pub bytes_batch3 : List ℕ
bytes_batch3 =
    spelled (
    -- a batch: its span, both knowledge lengths, record count
    (1, 4) ∷ (24, 0) ∷ (24, 256 ^ 24 - 1) ∷ (4, 149) ∷ (4, 149) ∷ (4, 1) ∷
    -- needed: P 1 everywhere
    (4, 5) ∷ (4, 0) ∷ (4, 1) ∷ (4, 0) ∷ (4, 5) ∷ (1, 0) ∷ (2, 16) ∷ (4, 1) ∷ (16, p1) ∷
    (4, 24) ∷ (1, 0) ∷ (2, 16) ∷ (1, 0) ∷ (2, 24) ∷ (1, 0) ∷ (2, 1) ∷
    (4, 21) ∷ (4, 2) ∷ (4, 1) ∷ (4, 0) ∷ (4, 1) ∷ (4, 1) ∷ (4, 0) ∷ (8, 1) ∷
    (4, 23) ∷ (4, 1) ∷ (4, 22) ∷ (4, 1) ∷ (24, 0) ∷ (4, 1) ∷
    (4, 0) ∷ (4, 25) ∷ (1, 1) ∷ (4, 0) ∷
    -- learned: P 2 everywhere
    (4, 5) ∷ (4, 0) ∷ (4, 1) ∷ (4, 0) ∷ (4, 5) ∷ (1, 0) ∷ (2, 16) ∷ (4, 1) ∷ (16, p1) ∷
    (4, 24) ∷ (1, 0) ∷ (2, 16) ∷ (1, 0) ∷ (2, 24) ∷ (1, 0) ∷ (2, 1) ∷
    (4, 21) ∷ (4, 2) ∷ (4, 1) ∷ (4, 0) ∷ (4, 1) ∷ (4, 1) ∷ (4, 0) ∷ (8, 2) ∷
    (4, 23) ∷ (4, 1) ∷ (4, 22) ∷ (4, 1) ∷ (24, 0) ∷ (4, 1) ∷
    (4, 0) ∷ (4, 25) ∷ (1, 1) ∷ (4, 0) ∷
    -- its records
    (1, 1) ∷ (24, 1) ∷ (16, p1) ∷ (8, 2) ∷ (16, p1) ∷ (8, 1) ∷ (16, 4) ∷
    [])

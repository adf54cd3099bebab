-- A list that meets 13, over two records: sixteen calls on three new replicas. A tombstone counts as a record. The bytes at the end
-- were made from the paper's text; of this repository's definitions they rest only on `put`, a number as bytes.
use Rattle.std.specs.Prelude.{ℕ, ◌-◌, ◌^◌, Bool, true, false, List, [], ◌∷◌}
use Rattle.codec.specs.Answer.{Answer}
use Rattle.codec.specs.Answer.{Written, Refused}
use Rattle.layout.specs.Knowledge.{encode}
use Rattle.ticks.specs.Meaning.{highest}
use Rattle.replication.specs.Call.{Call, edit, delete, make, apply}
use Rattle.instances.specs.Given.{empty_value, item_bytes, tagged, p1, q1}
use Rattle.instances.specs.Longer.{s1}
use Rattle.small_limits.specs.Small.{room, spelled}

unfoldable pub records_full : List Call
records_full =
    -- P edits items 1 and 2; it cannot edit item 3 (13), but item 1 again
    edit p1 (item_bytes 1) (tagged 9) room ∷
    edit p1 (item_bytes 2) (tagged 8) room ∷
    edit p1 (item_bytes 3) (tagged 7) room ∷
    edit p1 (item_bytes 1) (tagged 6) room ∷
    -- P deletes item 2, whose tombstone stays, so that it still cannot edit item 3 (13); batch 0: all of P's
    delete p1 (item_bytes 2) room ∷
    edit p1 (item_bytes 3) (tagged 7) room ∷
    make p1 (encode empty_value) (item_bytes 0) (item_bytes highest) room ∷
    -- Q edits item 3: it cannot take batch 0, of items 1 and 2 (13), but batch 1, of item 1; it deletes item 3 and makes batch 2 of it
    edit q1 (item_bytes 3) (tagged 5) room ∷
    apply q1 0 room ∷
    make p1 (encode empty_value) (item_bytes 1) (item_bytes 1) room ∷
    apply q1 1 room ∷
    delete q1 (item_bytes 3) room ∷
    make q1 (encode empty_value) (item_bytes 3) (item_bytes 3) room ∷
    -- P cannot take batch 2, which would be the tombstone of a third item (13); it edits item 2, whose create version stays
    apply p1 2 room ∷
    edit p1 (item_bytes 2) (tagged 4) room ∷
    -- S, which has no records, takes batch 0
    apply s1 0 room ∷
    []

-- was each call refused
unfoldable pub records_full_flags : List Bool
records_full_flags =
    false ∷ false ∷ true ∷ false ∷
    false ∷ true ∷ false ∷
    false ∷ true ∷ false ∷ false ∷ false ∷ false ∷
    true ∷ false ∷
    false ∷
    []

-- what each call answers: the length that it wrote, or the number of its refusal
unfoldable pub records_full_answers : List Answer
records_full_answers =
    Written 263 ∷ Written 352 ∷ Refused 13 ∷ Written 352 ∷
    Written 352 ∷ Refused 13 ∷ Written 501 ∷
    Written 263 ∷ Refused 13 ∷ Written 468 ∷ Written 456 ∷ Written 456 ∷ Written 468 ∷
    Refused 13 ∷ Written 352 ∷
    Written 352 ∷
    []

-- P's store: 352 bytes
unfoldable pub bytes_p : List ℕ
bytes_p =
    spelled (
    -- a store: own id, knowledge length, record count
    (1, 3) ∷ (16, p1) ∷ (4, 149) ∷ (4, 2) ∷
    -- its knowledge: P 5 everywhere
    (4, 5) ∷ (4, 0) ∷ (4, 1) ∷ (4, 0) ∷ (4, 5) ∷ (1, 0) ∷ (2, 16) ∷ (4, 1) ∷ (16, p1) ∷
    (4, 24) ∷ (1, 0) ∷ (2, 16) ∷ (1, 0) ∷ (2, 24) ∷ (1, 0) ∷ (2, 1) ∷
    (4, 21) ∷ (4, 2) ∷ (4, 1) ∷ (4, 0) ∷ (4, 1) ∷ (4, 1) ∷ (4, 0) ∷ (8, 5) ∷
    (4, 23) ∷ (4, 1) ∷ (4, 22) ∷ (4, 1) ∷ (24, 0) ∷ (4, 1) ∷
    (4, 0) ∷ (4, 25) ∷ (1, 1) ∷ (4, 0) ∷
    -- its records
    (1, 1) ∷ (24, 1) ∷ (16, p1) ∷ (8, 3) ∷ (16, p1) ∷ (8, 1) ∷ (16, 6) ∷
    (1, 1) ∷ (24, 2) ∷ (16, p1) ∷ (8, 5) ∷ (16, p1) ∷ (8, 2) ∷ (16, 4) ∷
    [])

-- Q's store: 456 bytes
unfoldable pub bytes_q : List ℕ
bytes_q =
    spelled (
    -- a store: own id, knowledge length, record count
    (1, 3) ∷ (16, q1) ∷ (4, 253) ∷ (4, 2) ∷
    -- its knowledge: Q 5 from 0, P 4 Q 5 from 1, Q 5 from 2
    (4, 5) ∷ (4, 0) ∷ (4, 1) ∷ (4, 0) ∷ (4, 5) ∷ (1, 0) ∷ (2, 16) ∷ (4, 2) ∷ (16, p1) ∷ (16, q1) ∷
    (4, 24) ∷ (1, 0) ∷ (2, 16) ∷ (1, 0) ∷ (2, 24) ∷ (1, 0) ∷ (2, 1) ∷
    (4, 21) ∷ (4, 3) ∷ (4, 1) ∷ (4, 0) ∷ (4, 1) ∷ (4, 1) ∷ (4, 1) ∷ (8, 5) ∷
    (4, 1) ∷ (4, 2) ∷ (4, 0) ∷ (8, 4) ∷ (4, 1) ∷ (8, 5) ∷
    (4, 23) ∷ (4, 1) ∷ (4, 22) ∷ (4, 3) ∷ (24, 0) ∷ (4, 1) ∷ (24, 1) ∷ (4, 2) ∷ (24, 2) ∷ (4, 1) ∷
    (4, 0) ∷ (4, 25) ∷ (1, 1) ∷ (4, 0) ∷
    -- its records
    (1, 1) ∷ (24, 1) ∷ (16, p1) ∷ (8, 3) ∷ (16, p1) ∷ (8, 1) ∷ (16, 6) ∷
    (1, 2) ∷ (24, 3) ∷ (16, q1) ∷ (8, 5) ∷ (16, q1) ∷ (8, 1) ∷ (16, 0) ∷
    [])

-- S's store: 352 bytes
unfoldable pub bytes_s : List ℕ
bytes_s =
    spelled (
    -- a store: own id, knowledge length, record count
    (1, 3) ∷ (16, s1) ∷ (4, 149) ∷ (4, 2) ∷
    -- its knowledge: P 4 everywhere
    (4, 5) ∷ (4, 0) ∷ (4, 1) ∷ (4, 0) ∷ (4, 5) ∷ (1, 0) ∷ (2, 16) ∷ (4, 1) ∷ (16, p1) ∷
    (4, 24) ∷ (1, 0) ∷ (2, 16) ∷ (1, 0) ∷ (2, 24) ∷ (1, 0) ∷ (2, 1) ∷
    (4, 21) ∷ (4, 2) ∷ (4, 1) ∷ (4, 0) ∷ (4, 1) ∷ (4, 1) ∷ (4, 0) ∷ (8, 4) ∷
    (4, 23) ∷ (4, 1) ∷ (4, 22) ∷ (4, 1) ∷ (24, 0) ∷ (4, 1) ∷
    (4, 0) ∷ (4, 25) ∷ (1, 1) ∷ (4, 0) ∷
    -- its records
    (1, 1) ∷ (24, 1) ∷ (16, p1) ∷ (8, 3) ∷ (16, p1) ∷ (8, 1) ∷ (16, 6) ∷
    (1, 2) ∷ (24, 2) ∷ (16, p1) ∷ (8, 4) ∷ (16, p1) ∷ (8, 2) ∷ (16, 0) ∷
    [])

-- batch 0: 501 bytes
unfoldable pub bytes_batch0 : List ℕ
bytes_batch0 =
    spelled (
    -- a batch: its span, both knowledge lengths, record count
    (1, 4) ∷ (24, 0) ∷ (24, 256 ^ 24 - 1) ∷ (4, 113) ∷ (4, 149) ∷ (4, 2) ∷
    -- needed: nothing
    (4, 5) ∷ (4, 0) ∷ (4, 1) ∷ (4, 0) ∷ (4, 5) ∷ (1, 0) ∷ (2, 16) ∷ (4, 0) ∷
    (4, 24) ∷ (1, 0) ∷ (2, 16) ∷ (1, 0) ∷ (2, 24) ∷ (1, 0) ∷ (2, 1) ∷
    (4, 21) ∷ (4, 1) ∷ (4, 1) ∷ (4, 0) ∷
    (4, 23) ∷ (4, 1) ∷ (4, 22) ∷ (4, 1) ∷ (24, 0) ∷ (4, 0) ∷
    (4, 0) ∷ (4, 25) ∷ (1, 1) ∷ (4, 0) ∷
    -- learned: P 4 everywhere
    (4, 5) ∷ (4, 0) ∷ (4, 1) ∷ (4, 0) ∷ (4, 5) ∷ (1, 0) ∷ (2, 16) ∷ (4, 1) ∷ (16, p1) ∷
    (4, 24) ∷ (1, 0) ∷ (2, 16) ∷ (1, 0) ∷ (2, 24) ∷ (1, 0) ∷ (2, 1) ∷
    (4, 21) ∷ (4, 2) ∷ (4, 1) ∷ (4, 0) ∷ (4, 1) ∷ (4, 1) ∷ (4, 0) ∷ (8, 4) ∷
    (4, 23) ∷ (4, 1) ∷ (4, 22) ∷ (4, 1) ∷ (24, 0) ∷ (4, 1) ∷
    (4, 0) ∷ (4, 25) ∷ (1, 1) ∷ (4, 0) ∷
    -- its records
    (1, 1) ∷ (24, 1) ∷ (16, p1) ∷ (8, 3) ∷ (16, p1) ∷ (8, 1) ∷ (16, 6) ∷
    (1, 2) ∷ (24, 2) ∷ (16, p1) ∷ (8, 4) ∷ (16, p1) ∷ (8, 2) ∷ (16, 0) ∷
    [])

-- batch 1: 468 bytes
unfoldable pub bytes_batch1 : List ℕ
bytes_batch1 =
    spelled (
    -- a batch: its span, both knowledge lengths, record count
    (1, 4) ∷ (24, 1) ∷ (24, 1) ∷ (4, 113) ∷ (4, 205) ∷ (4, 1) ∷
    -- needed: nothing
    (4, 5) ∷ (4, 0) ∷ (4, 1) ∷ (4, 0) ∷ (4, 5) ∷ (1, 0) ∷ (2, 16) ∷ (4, 0) ∷
    (4, 24) ∷ (1, 0) ∷ (2, 16) ∷ (1, 0) ∷ (2, 24) ∷ (1, 0) ∷ (2, 1) ∷
    (4, 21) ∷ (4, 1) ∷ (4, 1) ∷ (4, 0) ∷
    (4, 23) ∷ (4, 1) ∷ (4, 22) ∷ (4, 1) ∷ (24, 0) ∷ (4, 0) ∷
    (4, 0) ∷ (4, 25) ∷ (1, 1) ∷ (4, 0) ∷
    -- learned: nothing from 0, P 4 from 1, nothing from 2
    (4, 5) ∷ (4, 0) ∷ (4, 1) ∷ (4, 0) ∷ (4, 5) ∷ (1, 0) ∷ (2, 16) ∷ (4, 1) ∷ (16, p1) ∷
    (4, 24) ∷ (1, 0) ∷ (2, 16) ∷ (1, 0) ∷ (2, 24) ∷ (1, 0) ∷ (2, 1) ∷
    (4, 21) ∷ (4, 2) ∷ (4, 1) ∷ (4, 0) ∷ (4, 1) ∷ (4, 1) ∷ (4, 0) ∷ (8, 4) ∷
    (4, 23) ∷ (4, 1) ∷ (4, 22) ∷ (4, 3) ∷ (24, 0) ∷ (4, 0) ∷ (24, 1) ∷ (4, 1) ∷ (24, 2) ∷ (4, 0) ∷
    (4, 0) ∷ (4, 25) ∷ (1, 1) ∷ (4, 0) ∷
    -- its records
    (1, 1) ∷ (24, 1) ∷ (16, p1) ∷ (8, 3) ∷ (16, p1) ∷ (8, 1) ∷ (16, 6) ∷
    [])

-- batch 2: 468 bytes
unfoldable pub bytes_batch2 : List ℕ
bytes_batch2 =
    spelled (
    -- a batch: its span, both knowledge lengths, record count
    (1, 4) ∷ (24, 3) ∷ (24, 3) ∷ (4, 113) ∷ (4, 205) ∷ (4, 1) ∷
    -- needed: nothing
    (4, 5) ∷ (4, 0) ∷ (4, 1) ∷ (4, 0) ∷ (4, 5) ∷ (1, 0) ∷ (2, 16) ∷ (4, 0) ∷
    (4, 24) ∷ (1, 0) ∷ (2, 16) ∷ (1, 0) ∷ (2, 24) ∷ (1, 0) ∷ (2, 1) ∷
    (4, 21) ∷ (4, 1) ∷ (4, 1) ∷ (4, 0) ∷
    (4, 23) ∷ (4, 1) ∷ (4, 22) ∷ (4, 1) ∷ (24, 0) ∷ (4, 0) ∷
    (4, 0) ∷ (4, 25) ∷ (1, 1) ∷ (4, 0) ∷
    -- learned: nothing from 0, Q 5 from 3, nothing from 4
    (4, 5) ∷ (4, 0) ∷ (4, 1) ∷ (4, 0) ∷ (4, 5) ∷ (1, 0) ∷ (2, 16) ∷ (4, 1) ∷ (16, q1) ∷
    (4, 24) ∷ (1, 0) ∷ (2, 16) ∷ (1, 0) ∷ (2, 24) ∷ (1, 0) ∷ (2, 1) ∷
    (4, 21) ∷ (4, 2) ∷ (4, 1) ∷ (4, 0) ∷ (4, 1) ∷ (4, 1) ∷ (4, 0) ∷ (8, 5) ∷
    (4, 23) ∷ (4, 1) ∷ (4, 22) ∷ (4, 3) ∷ (24, 0) ∷ (4, 0) ∷ (24, 3) ∷ (4, 1) ∷ (24, 4) ∷ (4, 0) ∷
    (4, 0) ∷ (4, 25) ∷ (1, 1) ∷ (4, 0) ∷
    -- its records
    (1, 2) ∷ (24, 3) ∷ (16, q1) ∷ (8, 5) ∷ (16, q1) ∷ (8, 1) ∷ (16, 0) ∷
    [])

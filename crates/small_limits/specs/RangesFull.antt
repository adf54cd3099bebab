-- A list that meets 12, over three ranges: sixteen calls on two new replicas. S takes P's batch of the span 10..19, so that its
-- knowledge has three ranges, from 0, 10 and 20. The bytes at the end were made from the paper's text; of this repository's
-- definitions they rest only on `put`, a number as bytes.
use Rattle.std.specs.Prelude.{ℕ, ◌-◌, ◌^◌, Bool, true, false, List, [], ◌∷◌}
use Rattle.codec.specs.Answer.{Answer}
use Rattle.codec.specs.Answer.{Written, Refused}
use Rattle.layout.specs.Knowledge.{Knowledge, encode}
use Rattle.ticks.specs.Meaning.{highest}
use Rattle.replication.specs.Call.{Call, edit, make, apply}
use Rattle.instances.specs.Given.{empty_value, item_bytes, tagged, el, ran, p1}
use Rattle.instances.specs.Longer.{s1}
use Rattle.small_limits.specs.Small.{room, spelled}

-- P 1 from a bound on, P 2 from 10 and P 1 from 20: three ranges, and four in normal form where the bound is above 0
unfoldable pub turns_from : ℕ → Knowledge
turns_from bound =
    record {
      replicas = p1 ∷ [];
      vectors = [] ∷ (el 0 1 ∷ []) ∷ (el 0 2 ∷ []) ∷ [];
      ranges = ran bound 1 ∷ ran 10 2 ∷ ran 20 1 ∷ [];
    }

unfoldable pub ranges_full : List Call
ranges_full =
    -- P edits items 10 and 30 and makes batch 0 of the span 10..19; S takes it and edits item 10
    edit p1 (item_bytes 10) (tagged 9) room ∷
    edit p1 (item_bytes 30) (tagged 8) room ∷
    make p1 (encode empty_value) (item_bytes 10) (item_bytes 19) room ∷
    apply s1 0 room ∷
    edit s1 (item_bytes 10) (tagged 7) room ∷
    -- S's batch of the span 5..15 would learn in ranges from 0, 5, 10 and 16 (12); batch 1 of the span 10..15 has three
    make s1 (encode empty_value) (item_bytes 5) (item_bytes 15) room ∷
    make s1 (encode empty_value) (item_bytes 10) (item_bytes 15) room ∷
    -- the same span for a knowledge that starts at 5: needed would have ranges from 0, 5, 10 and 20 (12); batch 2 for one from 0
    make s1 (encode (turns_from 5)) (item_bytes 10) (item_bytes 15) room ∷
    make s1 (encode (turns_from 0)) (item_bytes 10) (item_bytes 15) room ∷
    -- batch 3, P's items from 30: S cannot take it, as its knowledge would have ranges from 0, 10, 20 and 30 (12)
    make p1 (encode empty_value) (item_bytes 30) (item_bytes highest) room ∷
    apply s1 3 room ∷
    -- batch 4, all of P's: S takes it, which leaves one range; so it takes batch 3 too, and edits item 30
    make p1 (encode empty_value) (item_bytes 0) (item_bytes highest) room ∷
    apply s1 4 room ∷
    apply s1 3 room ∷
    edit s1 (item_bytes 30) (tagged 6) room ∷
    -- P takes batch 2: ranges from 0, 10 and 16
    apply p1 2 room ∷
    []

-- was each call refused
unfoldable pub ranges_full_flags : List Bool
ranges_full_flags =
    false ∷ false ∷ false ∷ false ∷ false ∷
    true ∷ false ∷
    true ∷ false ∷
    false ∷ true ∷
    false ∷ false ∷ false ∷ false ∷
    false ∷
    []

-- what each call answers: the length that it wrote, or the number of its refusal
unfoldable pub ranges_full_answers : List Answer
ranges_full_answers =
    Written 263 ∷ Written 352 ∷ Written 468 ∷ Written 319 ∷ Written 367 ∷
    Refused 12 ∷ Written 496 ∷
    Refused 12 ∷ Written 608 ∷
    Written 440 ∷ Refused 12 ∷
    Written 501 ∷ Written 380 ∷ Written 380 ∷ Written 380 ∷
    Written 456 ∷
    []

-- P's store: 456 bytes
unfoldable pub bytes_p : List ℕ
bytes_p =
    spelled (
    -- a store: own id, knowledge length, record count
    (1, 3) ∷ (16, p1) ∷ (4, 253) ∷ (4, 2) ∷
    -- its knowledge: P 2 from 0, P 2 S 3 from 10, P 2 from 16
    (4, 5) ∷ (4, 0) ∷ (4, 1) ∷ (4, 0) ∷ (4, 5) ∷ (1, 0) ∷ (2, 16) ∷ (4, 2) ∷ (16, p1) ∷ (16, s1) ∷
    (4, 24) ∷ (1, 0) ∷ (2, 16) ∷ (1, 0) ∷ (2, 24) ∷ (1, 0) ∷ (2, 1) ∷
    (4, 21) ∷ (4, 3) ∷ (4, 1) ∷ (4, 0) ∷ (4, 1) ∷ (4, 1) ∷ (4, 0) ∷ (8, 2) ∷
    (4, 1) ∷ (4, 2) ∷ (4, 0) ∷ (8, 2) ∷ (4, 1) ∷ (8, 3) ∷
    (4, 23) ∷ (4, 1) ∷ (4, 22) ∷ (4, 3) ∷ (24, 0) ∷ (4, 1) ∷ (24, 10) ∷ (4, 2) ∷ (24, 16) ∷ (4, 1) ∷
    (4, 0) ∷ (4, 25) ∷ (1, 1) ∷ (4, 0) ∷
    -- its records
    (1, 1) ∷ (24, 10) ∷ (16, s1) ∷ (8, 3) ∷ (16, p1) ∷ (8, 1) ∷ (16, 7) ∷
    (1, 1) ∷ (24, 30) ∷ (16, p1) ∷ (8, 2) ∷ (16, p1) ∷ (8, 2) ∷ (16, 8) ∷
    [])

-- S's store: 380 bytes
unfoldable pub bytes_s : List ℕ
bytes_s =
    spelled (
    -- a store: own id, knowledge length, record count
    (1, 3) ∷ (16, s1) ∷ (4, 177) ∷ (4, 2) ∷
    -- its knowledge: P 2 S 4 everywhere
    (4, 5) ∷ (4, 0) ∷ (4, 1) ∷ (4, 0) ∷ (4, 5) ∷ (1, 0) ∷ (2, 16) ∷ (4, 2) ∷ (16, p1) ∷ (16, s1) ∷
    (4, 24) ∷ (1, 0) ∷ (2, 16) ∷ (1, 0) ∷ (2, 24) ∷ (1, 0) ∷ (2, 1) ∷
    (4, 21) ∷ (4, 2) ∷ (4, 1) ∷ (4, 0) ∷ (4, 1) ∷ (4, 2) ∷ (4, 0) ∷ (8, 2) ∷ (4, 1) ∷ (8, 4) ∷
    (4, 23) ∷ (4, 1) ∷ (4, 22) ∷ (4, 1) ∷ (24, 0) ∷ (4, 1) ∷
    (4, 0) ∷ (4, 25) ∷ (1, 1) ∷ (4, 0) ∷
    -- its records
    (1, 1) ∷ (24, 10) ∷ (16, s1) ∷ (8, 3) ∷ (16, p1) ∷ (8, 1) ∷ (16, 7) ∷
    (1, 1) ∷ (24, 30) ∷ (16, s1) ∷ (8, 4) ∷ (16, p1) ∷ (8, 2) ∷ (16, 6) ∷
    [])

-- batch 0: 468 bytes
unfoldable pub bytes_batch0 : List ℕ
bytes_batch0 =
    spelled (
    -- a batch: its span, both knowledge lengths, record count
    (1, 4) ∷ (24, 10) ∷ (24, 19) ∷ (4, 113) ∷ (4, 205) ∷ (4, 1) ∷
    -- needed: nothing
    (4, 5) ∷ (4, 0) ∷ (4, 1) ∷ (4, 0) ∷ (4, 5) ∷ (1, 0) ∷ (2, 16) ∷ (4, 0) ∷
    (4, 24) ∷ (1, 0) ∷ (2, 16) ∷ (1, 0) ∷ (2, 24) ∷ (1, 0) ∷ (2, 1) ∷
    (4, 21) ∷ (4, 1) ∷ (4, 1) ∷ (4, 0) ∷
    (4, 23) ∷ (4, 1) ∷ (4, 22) ∷ (4, 1) ∷ (24, 0) ∷ (4, 0) ∷
    (4, 0) ∷ (4, 25) ∷ (1, 1) ∷ (4, 0) ∷
    -- learned: nothing from 0, P 2 from 10, nothing from 20
    (4, 5) ∷ (4, 0) ∷ (4, 1) ∷ (4, 0) ∷ (4, 5) ∷ (1, 0) ∷ (2, 16) ∷ (4, 1) ∷ (16, p1) ∷
    (4, 24) ∷ (1, 0) ∷ (2, 16) ∷ (1, 0) ∷ (2, 24) ∷ (1, 0) ∷ (2, 1) ∷
    (4, 21) ∷ (4, 2) ∷ (4, 1) ∷ (4, 0) ∷ (4, 1) ∷ (4, 1) ∷ (4, 0) ∷ (8, 2) ∷
    (4, 23) ∷ (4, 1) ∷ (4, 22) ∷ (4, 3) ∷ (24, 0) ∷ (4, 0) ∷ (24, 10) ∷ (4, 1) ∷ (24, 20) ∷ (4, 0) ∷
    (4, 0) ∷ (4, 25) ∷ (1, 1) ∷ (4, 0) ∷
    -- its records
    (1, 1) ∷ (24, 10) ∷ (16, p1) ∷ (8, 1) ∷ (16, p1) ∷ (8, 1) ∷ (16, 9) ∷
    [])

-- batch 1: 496 bytes
unfoldable pub bytes_batch1 : List ℕ
bytes_batch1 =
    spelled (
    -- a batch: its span, both knowledge lengths, record count
    (1, 4) ∷ (24, 10) ∷ (24, 15) ∷ (4, 113) ∷ (4, 233) ∷ (4, 1) ∷
    -- needed: nothing
    (4, 5) ∷ (4, 0) ∷ (4, 1) ∷ (4, 0) ∷ (4, 5) ∷ (1, 0) ∷ (2, 16) ∷ (4, 0) ∷
    (4, 24) ∷ (1, 0) ∷ (2, 16) ∷ (1, 0) ∷ (2, 24) ∷ (1, 0) ∷ (2, 1) ∷
    (4, 21) ∷ (4, 1) ∷ (4, 1) ∷ (4, 0) ∷
    (4, 23) ∷ (4, 1) ∷ (4, 22) ∷ (4, 1) ∷ (24, 0) ∷ (4, 0) ∷
    (4, 0) ∷ (4, 25) ∷ (1, 1) ∷ (4, 0) ∷
    -- learned: nothing from 0, P 2 S 3 from 10, nothing from 16
    (4, 5) ∷ (4, 0) ∷ (4, 1) ∷ (4, 0) ∷ (4, 5) ∷ (1, 0) ∷ (2, 16) ∷ (4, 2) ∷ (16, p1) ∷ (16, s1) ∷
    (4, 24) ∷ (1, 0) ∷ (2, 16) ∷ (1, 0) ∷ (2, 24) ∷ (1, 0) ∷ (2, 1) ∷
    (4, 21) ∷ (4, 2) ∷ (4, 1) ∷ (4, 0) ∷ (4, 1) ∷ (4, 2) ∷ (4, 0) ∷ (8, 2) ∷ (4, 1) ∷ (8, 3) ∷
    (4, 23) ∷ (4, 1) ∷ (4, 22) ∷ (4, 3) ∷ (24, 0) ∷ (4, 0) ∷ (24, 10) ∷ (4, 1) ∷ (24, 16) ∷ (4, 0) ∷
    (4, 0) ∷ (4, 25) ∷ (1, 1) ∷ (4, 0) ∷
    -- its records
    (1, 1) ∷ (24, 10) ∷ (16, s1) ∷ (8, 3) ∷ (16, p1) ∷ (8, 1) ∷ (16, 7) ∷
    [])

-- batch 2: 608 bytes
unfoldable pub bytes_batch2 : List ℕ
bytes_batch2 =
    spelled (
    -- a batch: its span, both knowledge lengths, record count
    (1, 4) ∷ (24, 10) ∷ (24, 15) ∷ (4, 225) ∷ (4, 233) ∷ (4, 1) ∷
    -- needed: P 1 from 0, P 2 from 10, P 1 from 20
    (4, 5) ∷ (4, 0) ∷ (4, 1) ∷ (4, 0) ∷ (4, 5) ∷ (1, 0) ∷ (2, 16) ∷ (4, 1) ∷ (16, p1) ∷
    (4, 24) ∷ (1, 0) ∷ (2, 16) ∷ (1, 0) ∷ (2, 24) ∷ (1, 0) ∷ (2, 1) ∷
    (4, 21) ∷ (4, 3) ∷ (4, 1) ∷ (4, 0) ∷ (4, 1) ∷ (4, 1) ∷ (4, 0) ∷ (8, 1) ∷ (4, 1) ∷ (4, 1) ∷ (4, 0) ∷ (8, 2) ∷
    (4, 23) ∷ (4, 1) ∷ (4, 22) ∷ (4, 3) ∷ (24, 0) ∷ (4, 1) ∷ (24, 10) ∷ (4, 2) ∷ (24, 20) ∷ (4, 1) ∷
    (4, 0) ∷ (4, 25) ∷ (1, 1) ∷ (4, 0) ∷
    -- learned: nothing from 0, P 2 S 3 from 10, nothing from 16
    (4, 5) ∷ (4, 0) ∷ (4, 1) ∷ (4, 0) ∷ (4, 5) ∷ (1, 0) ∷ (2, 16) ∷ (4, 2) ∷ (16, p1) ∷ (16, s1) ∷
    (4, 24) ∷ (1, 0) ∷ (2, 16) ∷ (1, 0) ∷ (2, 24) ∷ (1, 0) ∷ (2, 1) ∷
    (4, 21) ∷ (4, 2) ∷ (4, 1) ∷ (4, 0) ∷ (4, 1) ∷ (4, 2) ∷ (4, 0) ∷ (8, 2) ∷ (4, 1) ∷ (8, 3) ∷
    (4, 23) ∷ (4, 1) ∷ (4, 22) ∷ (4, 3) ∷ (24, 0) ∷ (4, 0) ∷ (24, 10) ∷ (4, 1) ∷ (24, 16) ∷ (4, 0) ∷
    (4, 0) ∷ (4, 25) ∷ (1, 1) ∷ (4, 0) ∷
    -- its records
    (1, 1) ∷ (24, 10) ∷ (16, s1) ∷ (8, 3) ∷ (16, p1) ∷ (8, 1) ∷ (16, 7) ∷
    [])

-- batch 3: 440 bytes
unfoldable pub bytes_batch3 : List ℕ
bytes_batch3 =
    spelled (
    -- a batch: its span, both knowledge lengths, record count
    (1, 4) ∷ (24, 30) ∷ (24, 256 ^ 24 - 1) ∷ (4, 113) ∷ (4, 177) ∷ (4, 1) ∷
    -- needed: nothing
    (4, 5) ∷ (4, 0) ∷ (4, 1) ∷ (4, 0) ∷ (4, 5) ∷ (1, 0) ∷ (2, 16) ∷ (4, 0) ∷
    (4, 24) ∷ (1, 0) ∷ (2, 16) ∷ (1, 0) ∷ (2, 24) ∷ (1, 0) ∷ (2, 1) ∷
    (4, 21) ∷ (4, 1) ∷ (4, 1) ∷ (4, 0) ∷
    (4, 23) ∷ (4, 1) ∷ (4, 22) ∷ (4, 1) ∷ (24, 0) ∷ (4, 0) ∷
    (4, 0) ∷ (4, 25) ∷ (1, 1) ∷ (4, 0) ∷
    -- learned: nothing from 0, P 2 from 30
    (4, 5) ∷ (4, 0) ∷ (4, 1) ∷ (4, 0) ∷ (4, 5) ∷ (1, 0) ∷ (2, 16) ∷ (4, 1) ∷ (16, p1) ∷
    (4, 24) ∷ (1, 0) ∷ (2, 16) ∷ (1, 0) ∷ (2, 24) ∷ (1, 0) ∷ (2, 1) ∷
    (4, 21) ∷ (4, 2) ∷ (4, 1) ∷ (4, 0) ∷ (4, 1) ∷ (4, 1) ∷ (4, 0) ∷ (8, 2) ∷
    (4, 23) ∷ (4, 1) ∷ (4, 22) ∷ (4, 2) ∷ (24, 0) ∷ (4, 0) ∷ (24, 30) ∷ (4, 1) ∷
    (4, 0) ∷ (4, 25) ∷ (1, 1) ∷ (4, 0) ∷
    -- its records
    (1, 1) ∷ (24, 30) ∷ (16, p1) ∷ (8, 2) ∷ (16, p1) ∷ (8, 2) ∷ (16, 8) ∷
    [])

-- batch 4: 501 bytes
unfoldable pub bytes_batch4 : List ℕ
bytes_batch4 =
    spelled (
    -- a batch: its span, both knowledge lengths, record count
    (1, 4) ∷ (24, 0) ∷ (24, 256 ^ 24 - 1) ∷ (4, 113) ∷ (4, 149) ∷ (4, 2) ∷
    -- needed: nothing
    (4, 5) ∷ (4, 0) ∷ (4, 1) ∷ (4, 0) ∷ (4, 5) ∷ (1, 0) ∷ (2, 16) ∷ (4, 0) ∷
    (4, 24) ∷ (1, 0) ∷ (2, 16) ∷ (1, 0) ∷ (2, 24) ∷ (1, 0) ∷ (2, 1) ∷
    (4, 21) ∷ (4, 1) ∷ (4, 1) ∷ (4, 0) ∷
    (4, 23) ∷ (4, 1) ∷ (4, 22) ∷ (4, 1) ∷ (24, 0) ∷ (4, 0) ∷
    (4, 0) ∷ (4, 25) ∷ (1, 1) ∷ (4, 0) ∷
    -- learned: P 2 everywhere
    (4, 5) ∷ (4, 0) ∷ (4, 1) ∷ (4, 0) ∷ (4, 5) ∷ (1, 0) ∷ (2, 16) ∷ (4, 1) ∷ (16, p1) ∷
    (4, 24) ∷ (1, 0) ∷ (2, 16) ∷ (1, 0) ∷ (2, 24) ∷ (1, 0) ∷ (2, 1) ∷
    (4, 21) ∷ (4, 2) ∷ (4, 1) ∷ (4, 0) ∷ (4, 1) ∷ (4, 1) ∷ (4, 0) ∷ (8, 2) ∷
    (4, 23) ∷ (4, 1) ∷ (4, 22) ∷ (4, 1) ∷ (24, 0) ∷ (4, 1) ∷
    (4, 0) ∷ (4, 25) ∷ (1, 1) ∷ (4, 0) ∷
    -- its records
    (1, 1) ∷ (24, 10) ∷ (16, p1) ∷ (8, 1) ∷ (16, p1) ∷ (8, 1) ∷ (16, 9) ∷
    (1, 1) ∷ (24, 30) ∷ (16, p1) ∷ (8, 2) ∷ (16, p1) ∷ (8, 2) ∷ (16, 8) ∷
    [])

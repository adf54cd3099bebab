-- 15 and 16 by examples, under small limits. Each row has bytes that break one condition of "a valid store" or "a valid batch",
-- and the neighbour that mends it. Three conditions cannot be broken alone, since a version that breaks them is not contained
-- either: a change tick 0, a tick above 2^63 − 1, a record outside the span.
use Rattle.std.specs.Prelude.{ℕ, suc, ◌≡◌, true, List, [], ◌∷◌, ◌++◌, take, drop}
use Rattle.codec.specs.Parsed.{accepted, refused}
use Rattle.layout.specs.Knowledge.{Limits, Knowledge}
use Rattle.ticks.specs.Meaning.{highest}
use Rattle.replication.specs.Record.{Rec}
use Rattle.replication.specs.Formats.{Store, encode_store}
use Rattle.replication.specs.BatchFormat.{Batch, encode_batch}
use Rattle.replication.specs.OpenStore.{open_store}
use Rattle.replication.specs.OpenBatch.{open_batch}
use Rattle.instances.specs.Given.{empty_value, el, ran, one, two, again, fresh, store}

-- 2^63 − 1 and 2^63
abbrev pub most_tick : ℕ
most_tick = 9223372036854775807

abbrev pub over_tick : ℕ
over_tick = 9223372036854775808

abbrev pub small_limits : Limits
small_limits = record { replicas = 2; ranges = 3; records = 2 }

-- bytes that break one condition, and the store or batch that does not
pub data Pair : Type 0 where
  of_stores : List ℕ → Store → Pair
  of_batches : List ℕ → Batch → Pair

abbrev pub HoldsPair : Pair → Type 0
HoldsPair (of_stores s st) = (open_store small_limits s ≡ refused 15) × (open_store small_limits (encode_store st) ≡ accepted st)
HoldsPair (of_batches s b) = (open_batch small_limits s ≡ refused 16) × (open_batch small_limits (encode_batch b) ≡ accepted b)

abbrev pub AllPairs : List Pair → Type 0
AllPairs [] = Unit {0}
AllPairs (x ∷ xs) = HoldsPair x × AllPairs xs

abbrev pub store_pair : Store → Store → Pair
store_pair broken mended = of_stores (encode_store broken) mended

abbrev pub batch_pair : Batch → Batch → Pair
batch_pair broken mended = of_batches (encode_batch broken) mended

-- a tombstone with a tag
unfoldable pub tombstoned : ℕ → ℕ → ℕ → ℕ → ℕ → ℕ → Rec
tombstoned item p t q u tag =
    record { item = item; change_replica = p; change_tick = t; create_replica = q; create_tick = u; content = record { deleted = true; tag = tag } }

-- the byte x at a place
unfoldable pub with_byte : ℕ → ℕ → List ℕ → List ℕ
with_byte n x s = take n s ++ (x ∷ drop (suc n) s)

-- a store of replica 5 that knows its own tick 3 and tick 2 of replica 8, for every item
unfoldable pub holding : List Rec → Store
holding rs = store 5 (two 5 3 8 2) rs

-- the ticks of replica 5 and of replica 8 below item 7, and from there on
unfoldable pub from_seven : ℕ → ℕ → ℕ → ℕ → Knowledge
from_seven t u v w =
    record {
      replicas = 5 ∷ 8 ∷ [];
      vectors = [] ∷ (el 0 t ∷ el 1 u ∷ []) ∷ (el 0 v ∷ el 1 w ∷ []) ∷ [];
      ranges = ran 0 1 ∷ ran 7 2 ∷ [];
    }

-- no normal form: replica 8 is not used; a tick 0
unfoldable pub unused_eight : Knowledge
unused_eight = record { replicas = 5 ∷ 8 ∷ []; vectors = [] ∷ (el 0 3 ∷ []) ∷ []; ranges = ran 0 1 ∷ [] }

unfoldable pub zero_eight : Knowledge
zero_eight = record { replicas = 5 ∷ 8 ∷ []; vectors = [] ∷ (el 0 3 ∷ el 1 0 ∷ []) ∷ []; ranges = ran 0 1 ∷ [] }

-- in normal form, but over the limits: three replicas
unfoldable pub three_replicas : Knowledge
three_replicas = record { replicas = 5 ∷ 8 ∷ 9 ∷ []; vectors = [] ∷ (el 0 3 ∷ el 1 2 ∷ el 2 1 ∷ []) ∷ []; ranges = ran 0 1 ∷ [] }

unfoldable pub broken_stores : List Pair
broken_stores =
    -- a tombstone with tag 1
    store_pair (holding (tombstoned 4 8 2 5 1 1 ∷ [])) (holding (tombstoned 4 8 2 5 1 0 ∷ [])) ∷
    -- three records
    store_pair (holding (fresh 1 5 1 9 ∷ fresh 2 5 2 9 ∷ fresh 3 5 3 9 ∷ [])) (holding (fresh 1 5 1 9 ∷ fresh 2 5 2 9 ∷ [])) ∷
    -- the same item twice; falling items
    store_pair (holding (fresh 1 5 1 9 ∷ fresh 1 5 2 9 ∷ [])) (holding (fresh 1 5 1 9 ∷ fresh 2 5 2 9 ∷ [])) ∷
    store_pair (holding (fresh 2 5 2 9 ∷ fresh 1 5 1 9 ∷ [])) (holding (fresh 1 5 1 9 ∷ fresh 2 5 2 9 ∷ [])) ∷
    -- a create tick 0; both ticks 0
    store_pair (holding (again 1 5 3 8 0 9 ∷ [])) (holding (again 1 5 3 8 1 9 ∷ [])) ∷
    store_pair (holding (fresh 1 5 0 9 ∷ [])) (holding (fresh 1 5 1 9 ∷ [])) ∷
    -- a change tick 2^63, and one at the largest
    store_pair (store 5 (one 5 most_tick) (again 1 5 over_tick 5 1 9 ∷ [])) (store 5 (one 5 most_tick) (again 1 5 most_tick 5 1 9 ∷ [])) ∷
    -- a create tick above the change tick
    store_pair (holding (again 1 8 1 5 2 9 ∷ [])) (holding (again 1 8 2 5 2 9 ∷ [])) ∷
    -- a change version, and a create version, above the tick known
    store_pair (holding (again 1 8 3 5 1 9 ∷ [])) (holding (again 1 8 2 5 1 9 ∷ [])) ∷
    store_pair (holding (again 1 5 3 8 3 9 ∷ [])) (holding (again 1 5 3 8 2 9 ∷ [])) ∷
    -- the own tick is 3 below item 7 and 2 from there on; the other's may be
    store_pair (store 5 (from_seven 3 2 2 2) []) (store 5 (from_seven 3 2 3 1) []) ∷
    -- knowledge that is no normal form
    store_pair (store 5 unused_eight []) (store 5 (one 5 3) []) ∷
    store_pair (store 5 zero_eight []) (store 5 (one 5 3) []) ∷
    -- knowledge that is not lawful: three replicas; a tick 2^63
    store_pair (store 5 three_replicas []) (store 5 (two 5 3 8 2) []) ∷
    store_pair (store 5 (one 5 over_tick) []) (store 5 (one 5 most_tick) []) ∷
    -- a byte behind the records; a byte missing; a count of one record more
    of_stores (encode_store (holding (fresh 1 5 3 9 ∷ [])) ++ (0 ∷ [])) (holding (fresh 1 5 3 9 ∷ [])) ∷
    of_stores (take 290 (encode_store (holding (fresh 1 5 3 9 ∷ [])))) (holding (fresh 1 5 3 9 ∷ [])) ∷
    of_stores (with_byte 24 2 (encode_store (holding (fresh 1 5 3 9 ∷ [])))) (holding (fresh 1 5 3 9 ∷ [])) ∷
    -- the byte of kind is 4, or 2; a record's is 3, or 0
    of_stores (with_byte 0 4 (encode_store (holding (fresh 1 5 3 9 ∷ [])))) (holding (fresh 1 5 3 9 ∷ [])) ∷
    of_stores (with_byte 0 2 (encode_store (holding (fresh 1 5 3 9 ∷ [])))) (holding (fresh 1 5 3 9 ∷ [])) ∷
    of_stores (with_byte 202 3 (encode_store (holding (fresh 1 5 3 9 ∷ [])))) (holding (fresh 1 5 3 9 ∷ [])) ∷
    of_stores (with_byte 202 0 (encode_store (holding (fresh 1 5 3 9 ∷ [])))) (holding (fresh 1 5 3 9 ∷ [])) ∷
    []

-- a batch with the span first..last
unfoldable pub spanning : ℕ → ℕ → Knowledge → Knowledge → List Rec → Batch
spanning first last needed learned rs = record { first = first; last = last; needed = needed; learned = learned; records = rs }

-- tick 3 of replica 5 and tick 2 of replica 8 from item 1 to item 9
unfoldable pub one_to_nine : Knowledge
one_to_nine = record { replicas = 5 ∷ 8 ∷ []; vectors = [] ∷ (el 0 3 ∷ el 1 2 ∷ []) ∷ []; ranges = ran 0 0 ∷ ran 1 1 ∷ ran 10 0 ∷ [] }

-- a batch over all ids, for a knowledge
unfoldable pub over_all : Knowledge → Knowledge → List Rec → Batch
over_all needed learned rs = spanning 0 highest needed learned rs

-- a batch of the span 1..9 for empty knowledge
unfoldable pub carrying : List Rec → Batch
carrying rs = spanning 1 9 empty_value one_to_nine rs

unfoldable pub broken_batches : List Pair
broken_batches =
    -- a tombstone with tag 1
    batch_pair (carrying (tombstoned 4 8 2 5 1 1 ∷ [])) (carrying (tombstoned 4 8 2 5 1 0 ∷ [])) ∷
    -- three records
    batch_pair (carrying (fresh 1 5 1 9 ∷ fresh 2 5 2 9 ∷ fresh 3 5 3 9 ∷ [])) (carrying (fresh 1 5 1 9 ∷ fresh 2 5 2 9 ∷ [])) ∷
    -- the same item twice; falling items
    batch_pair (carrying (fresh 1 5 1 9 ∷ fresh 1 5 2 9 ∷ [])) (carrying (fresh 1 5 1 9 ∷ fresh 2 5 2 9 ∷ [])) ∷
    batch_pair (carrying (fresh 2 5 2 9 ∷ fresh 1 5 1 9 ∷ [])) (carrying (fresh 1 5 1 9 ∷ fresh 2 5 2 9 ∷ [])) ∷
    -- a create tick 0; both ticks 0
    batch_pair (carrying (again 1 5 3 8 0 9 ∷ [])) (carrying (again 1 5 3 8 1 9 ∷ [])) ∷
    batch_pair (carrying (fresh 1 5 0 9 ∷ [])) (carrying (fresh 1 5 1 9 ∷ [])) ∷
    -- a change tick 2^63, and one at the largest
    batch_pair (over_all empty_value (one 5 most_tick) (again 1 5 over_tick 5 1 9 ∷ []))
    (over_all empty_value (one 5 most_tick) (again 1 5 most_tick 5 1 9 ∷ [])) ∷
    -- a create tick above the change tick
    batch_pair (carrying (again 1 8 1 5 2 9 ∷ [])) (carrying (again 1 8 2 5 2 9 ∷ [])) ∷
    -- first above last
    batch_pair (spanning 2 1 empty_value empty_value []) (spanning 1 1 empty_value empty_value []) ∷
    -- needed, and learned, that is no normal form
    batch_pair (over_all unused_eight (two 5 4 8 2) (fresh 1 5 4 9 ∷ [])) (over_all (one 5 3) (two 5 4 8 2) (fresh 1 5 4 9 ∷ [])) ∷
    batch_pair (over_all empty_value zero_eight (fresh 1 5 3 9 ∷ [])) (over_all empty_value (one 5 3) (fresh 1 5 3 9 ∷ [])) ∷
    -- needed, and learned, that is not lawful
    batch_pair (over_all three_replicas (one 5 4) []) (over_all (two 5 3 8 2) (one 5 4) []) ∷
    batch_pair (over_all (one 5 4) three_replicas []) (over_all (one 5 4) (two 5 3 8 2) []) ∷
    -- learned has ticks below the span, or above it
    batch_pair (spanning 2 9 empty_value one_to_nine []) (spanning 1 9 empty_value one_to_nine []) ∷
    batch_pair (spanning 1 8 empty_value one_to_nine []) (spanning 1 9 empty_value one_to_nine []) ∷
    -- a record below the span, or above it
    batch_pair (carrying (fresh 0 5 3 9 ∷ [])) (carrying (fresh 1 5 3 9 ∷ [])) ∷
    batch_pair (carrying (fresh 10 5 3 9 ∷ [])) (carrying (fresh 9 5 3 9 ∷ [])) ∷
    -- a change version, and a create version, above the tick that learned knows
    batch_pair (carrying (again 1 8 3 5 1 9 ∷ [])) (carrying (again 1 8 2 5 1 9 ∷ [])) ∷
    batch_pair (carrying (again 1 5 3 8 3 9 ∷ [])) (carrying (again 1 5 3 8 2 9 ∷ [])) ∷
    -- a change version that needed contains
    batch_pair (spanning 1 9 (one 5 3) one_to_nine (fresh 1 5 3 9 ∷ [])) (spanning 1 9 (one 5 2) one_to_nine (fresh 1 5 3 9 ∷ [])) ∷
    -- a byte behind the records; a byte missing; a count of one record more
    of_batches (encode_batch (carrying (fresh 1 5 3 9 ∷ [])) ++ (0 ∷ [])) (carrying (fresh 1 5 3 9 ∷ [])) ∷
    of_batches (take 495 (encode_batch (carrying (fresh 1 5 3 9 ∷ [])))) (carrying (fresh 1 5 3 9 ∷ [])) ∷
    of_batches (with_byte 60 2 (encode_batch (carrying (fresh 1 5 3 9 ∷ [])))) (carrying (fresh 1 5 3 9 ∷ [])) ∷
    -- the byte of kind is 3, or 1; a record's is 3, or 0
    of_batches (with_byte 0 3 (encode_batch (carrying (fresh 1 5 3 9 ∷ [])))) (carrying (fresh 1 5 3 9 ∷ [])) ∷
    of_batches (with_byte 0 1 (encode_batch (carrying (fresh 1 5 3 9 ∷ [])))) (carrying (fresh 1 5 3 9 ∷ [])) ∷
    of_batches (with_byte 407 3 (encode_batch (carrying (fresh 1 5 3 9 ∷ [])))) (carrying (fresh 1 5 3 9 ∷ [])) ∷
    of_batches (with_byte 407 0 (encode_batch (carrying (fresh 1 5 3 9 ∷ [])))) (carrying (fresh 1 5 3 9 ∷ [])) ∷
    []

-- The knowledges, stores and batches that the instances are about, as values and, for the smallest knowledge, as bytes
-- written out, which rest on no definition of the layout. P and Q are replica ids, P below Q.
use Rattle.std.specs.Prelude.{ℕ, ◌+◌, ◌*◌, ◌^◌, List, [], ◌∷◌, false}
use Rattle.codec.specs.Number.{put}
use Rattle.layout.specs.Knowledge.{Element, Range, Knowledge}
use Rattle.ticks.specs.Meaning.{highest}
use Rattle.replication.specs.Record.{Rec}
use Rattle.replication.specs.Call.{Brought}
use Rattle.replication.specs.Formats.{Store}
use Rattle.replication.specs.BatchFormat.{Batch}

-- the empty knowledge as a value: r = 0, v = 1, g = 1
unfoldable pub empty_value : Knowledge
empty_value =
    record { replicas = []; vectors = [] ∷ []; ranges = record { bound = 0; index = record { 0 = 0 } } ∷ [] }

-- its bytes: the fixed fields, the replica map, the fields up to the vectors, one vector, the fields up to the
-- ranges, one range, and the end
unfoldable pub smallest : List ℕ
smallest =
    0 ∷ 0 ∷ 0 ∷ 5 ∷ 0 ∷ 0 ∷ 0 ∷ 0 ∷ 0 ∷ 0 ∷ 0 ∷ 1 ∷ 0 ∷ 0 ∷ 0 ∷ 0 ∷
    0 ∷ 0 ∷ 0 ∷ 5 ∷ 0 ∷ 0 ∷ 16 ∷ 0 ∷ 0 ∷ 0 ∷ 0 ∷
    0 ∷ 0 ∷ 0 ∷ 24 ∷ 0 ∷ 0 ∷ 16 ∷ 0 ∷ 0 ∷ 24 ∷ 0 ∷ 0 ∷ 1 ∷
    0 ∷ 0 ∷ 0 ∷ 21 ∷ 0 ∷ 0 ∷ 0 ∷ 1 ∷ 0 ∷ 0 ∷ 0 ∷ 1 ∷ 0 ∷ 0 ∷ 0 ∷ 0 ∷
    0 ∷ 0 ∷ 0 ∷ 23 ∷ 0 ∷ 0 ∷ 0 ∷ 1 ∷ 0 ∷ 0 ∷ 0 ∷ 22 ∷ 0 ∷ 0 ∷ 0 ∷ 1 ∷
    0 ∷ 0 ∷ 0 ∷ 0 ∷ 0 ∷ 0 ∷ 0 ∷ 0 ∷ 0 ∷ 0 ∷ 0 ∷ 0 ∷ 0 ∷ 0 ∷
    0 ∷ 0 ∷ 0 ∷ 0 ∷ 0 ∷ 0 ∷ 0 ∷ 0 ∷ 0 ∷ 0 ∷ 0 ∷ 0 ∷ 0 ∷ 0 ∷
    0 ∷ 0 ∷ 0 ∷ 0 ∷ 0 ∷ 0 ∷ 0 ∷ 25 ∷ 1 ∷ 0 ∷ 0 ∷ 0 ∷ 0 ∷
    []

-- the id bytes that calls are given
unfoldable pub item_bytes : ℕ → List ℕ
item_bytes i = put 24 i []

unfoldable pub replica_bytes : ℕ → List ℕ
replica_bytes p = put 16 p []

unfoldable pub tag_bytes : ℕ → List ℕ
tag_bytes t = put 16 t []

-- what an edit with a tag brings
unfoldable pub tagged : ℕ → Brought
tagged t = record { tag = tag_bytes t }

abbrev pub el : ℕ → ℕ → Element
el key tick = record { key = record { 0 = key }; tick = tick }

abbrev pub ran : ℕ → ℕ → Range
ran bound index = record { bound = bound; index = record { 0 = index } }

-- one replica with a tick everywhere, and two
unfoldable pub one : ℕ → ℕ → Knowledge
one p t = record { replicas = p ∷ []; vectors = [] ∷ (el 0 t ∷ []) ∷ []; ranges = ran 0 1 ∷ [] }

unfoldable pub two : ℕ → ℕ → ℕ → ℕ → Knowledge
two p t q u = record { replicas = p ∷ q ∷ []; vectors = [] ∷ (el 0 t ∷ el 1 u ∷ []) ∷ []; ranges = ran 0 1 ∷ [] }

-- the tick t of p in the ranges given
unfoldable pub parts : ℕ → ℕ → List Range → Knowledge
parts p t rs = record { replicas = p ∷ []; vectors = [] ∷ (el 0 t ∷ []) ∷ []; ranges = rs }

-- a live record of replica p at tick t that keeps a create version
unfoldable pub again : ℕ → ℕ → ℕ → ℕ → ℕ → ℕ → Rec
again item p t q u tag =
    record { item = item; change_replica = p; change_tick = t; create_replica = q; create_tick = u; content = record { deleted = false; tag = tag } }

-- a live record made and created by replica p at tick t
unfoldable pub fresh : ℕ → ℕ → ℕ → ℕ → Rec
fresh item p t tag = again item p t p t tag

unfoldable pub store : ℕ → Knowledge → List Rec → Store
store p k rs = record { own = p; knowledge = k; records = rs }

-- a batch over all ids
unfoldable pub batch : Knowledge → Knowledge → List Rec → Batch
batch needed learned rs = record { first = 0; last = highest; needed = needed; learned = learned; records = rs }

-- two pairs of ids P and Q: one differs in the first byte, one in the last
unfoldable pub p1 : ℕ
p1 = 1 * 256 ^ 15 + 7

unfoldable pub q1 : ℕ
q1 = 2 * 256 ^ 15 + 7

unfoldable pub p2 : ℕ
p2 = 7 * 256 ^ 15 + 1

unfoldable pub q2 : ℕ
q2 = 7 * 256 ^ 15 + 2

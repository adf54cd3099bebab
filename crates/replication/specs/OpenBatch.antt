-- The value of a valid batch, from its bytes. There is nothing to believe here: the law `batch_exact` says that the bytes of a
-- batch are read as its value exactly where the batch meets document 01's list (specs/Valid.antt).
use Rattle.std.specs.Prelude.{ℕ, ◌+◌, Bool, true, false, not, List, eqb, leb, length, take, drop}
use Rattle.codec.specs.Prelude.{Option, none, some}
use Rattle.codec.specs.Number.{be_at}
use Rattle.layout.specs.Knowledge.{Limits, any_id, Knowledge}
use Rattle.layout.specs.Parse.{parse}
use Rattle.ticks.specs.Meaning.{contains}
use Rattle.ticks.specs.Written.{is_normal, eq_knowledge}
use Rattle.ticks.specs.Table.{in_span}
use Rattle.ticks.specs.Operations.{project}
use Rattle.replication.specs.Record.{Rec}
use Rattle.replication.specs.BatchFormat.{Batch}
use Rattle.replication.specs.Reading.{both, recs_at, valid_recs}
use Rattle.replication.specs.OpenStore.{versions_in}
use Rattle.codec.specs.Parsed.{Parsed, accepted, refused}

-- the fields of a batch's header, by their places; where its knowledges begin, and its first record
abbrev pub first_id : List ℕ → ℕ
first_id s = be_at s 24 1

abbrev pub last_id : List ℕ → ℕ
last_id s = be_at s 24 25

abbrev pub needed_length : List ℕ → ℕ
needed_length s = be_at s 4 49

abbrev pub learned_length : List ℕ → ℕ
learned_length s = be_at s 4 53

abbrev pub batch_count : List ℕ → ℕ
batch_count s = be_at s 4 57

abbrev pub batch_needed : ℕ
batch_needed = 61

abbrev pub batch_learned : List ℕ → ℕ
batch_learned s = batch_needed + needed_length s

abbrev pub batch_table : List ℕ → ℕ
batch_table s = batch_learned s + learned_length s

unfoldable pub batch_with : List ℕ → Knowledge → Knowledge → Option (List Rec) → Option Batch
batch_with s needed learned none = none
batch_with s needed learned (some rs) =
    some (record { first = first_id s; last = last_id s; needed = needed; learned = learned; records = rs })

unfoldable pub batch_after : List ℕ → Knowledge → Parsed Knowledge → Option Batch
batch_after s needed (refused n) = none
batch_after s needed (accepted k) = batch_with s needed k (recs_at s (batch_count s) (batch_table s))

unfoldable pub batch_from : Limits → List ℕ → Parsed Knowledge → Option Batch
batch_from L s (refused n) = none
batch_from L s (accepted k) = batch_after s k (parse (any_id L) (take (learned_length s) (drop (batch_learned s) s)))

unfoldable pub decode_batch : Limits → List ℕ → Option Batch
decode_batch L s =
    elim (eqb (be_at s 1 0) 4) [
      | true ↦ elim (leb (batch_table s) (length s)) [
        | true ↦ batch_from L s (parse (any_id L) (take (needed_length s) (drop batch_needed s)))
        | false ↦ none
      ]
      | false ↦ none
    ]

-- a change version that a knowledge lacks
unfoldable pub lacks_change : Knowledge → Rec → Bool
lacks_change k r = not (contains k r.item r.change_replica r.change_tick)

-- what a record of a batch must meet
unfoldable pub carried : Batch → Rec → Bool
carried b r = both (in_span b.first b.last r.item) (both (versions_in b.learned r) (lacks_change b.needed r))

unfoldable pub valid_batch : Limits → Batch → Bool
valid_batch L b =
    both (leb (length b.records) L.records)
    (both (leb b.first b.last)
    (both (is_normal b.needed)
    (both (is_normal b.learned)
    (both (eq_knowledge (project b.first b.last b.learned) b.learned) (valid_recs (carried b) 0 b.records)))))

unfoldable pub if_valid_batch : Limits → Option Batch → Parsed Batch
if_valid_batch L none = refused 16
if_valid_batch L (some b) = elim (valid_batch L b) [ true ↦ accepted b | false ↦ refused 16 ]

-- the value of a valid batch, or 16
unfoldable pub open_batch : Limits → List ℕ → Parsed Batch
open_batch L s = if_valid_batch L (decode_batch L s)

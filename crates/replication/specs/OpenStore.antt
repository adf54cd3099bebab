-- The value of a valid store, from its bytes. There is nothing to believe here: the law `store_exact` says that the bytes of a
-- store are read as its value exactly where the store meets document 01's list (specs/Valid.antt).
use Rattle.std.specs.Prelude.{ℕ, ◌+◌, Bool, true, false, List, eqb, leb, length, take, drop}
use Rattle.codec.specs.Prelude.{Option, none, some}
use Rattle.codec.specs.Number.{be_at}
use Rattle.layout.specs.Knowledge.{Limits, any_id, Knowledge}
use Rattle.layout.specs.Parse.{parse}
use Rattle.ticks.specs.Meaning.{contains}
use Rattle.ticks.specs.Written.{is_normal}
use Rattle.ticks.specs.Operations.{own_alike}
use Rattle.replication.specs.Record.{Rec}
use Rattle.replication.specs.Formats.{Store}
use Rattle.replication.specs.Reading.{both, recs_at, valid_recs}
use Rattle.codec.specs.Parsed.{Parsed, accepted, refused}

-- the fields of a store's header, by their places; where its knowledge begins, and its first record
abbrev pub own_id : List ℕ → ℕ
own_id s = be_at s 16 1

abbrev pub knowledge_length : List ℕ → ℕ
knowledge_length s = be_at s 4 17

abbrev pub store_count : List ℕ → ℕ
store_count s = be_at s 4 21

abbrev pub store_knowledge : ℕ
store_knowledge = 25

abbrev pub store_table : List ℕ → ℕ
store_table s = store_knowledge + knowledge_length s

-- the value in store bytes, of any contents but of exact length
unfoldable pub store_with : ℕ → Knowledge → Option (List Rec) → Option Store
store_with own k none = none
store_with own k (some rs) = some (record { own = own; knowledge = k; records = rs })

unfoldable pub store_from : List ℕ → Parsed Knowledge → Option Store
store_from s (refused n) = none
store_from s (accepted k) = store_with (own_id s) k (recs_at s (store_count s) (store_table s))

unfoldable pub decode_store : Limits → List ℕ → Option Store
decode_store L s =
    elim (eqb (be_at s 1 0) 3) [
      | true ↦ elim (leb (store_table s) (length s)) [
        | true ↦ store_from s (parse (any_id L) (take (knowledge_length s) (drop store_knowledge s)))
        | false ↦ none
      ]
      | false ↦ none
    ]

-- a record's change and create versions are contained in a knowledge
unfoldable pub versions_in : Knowledge → Rec → Bool
versions_in k r =
    both (contains k r.item r.change_replica r.change_tick) (contains k r.item r.create_replica r.create_tick)

unfoldable pub valid_store : Limits → Store → Bool
valid_store L st =
    both (leb (length st.records) L.records)
    (both (is_normal st.knowledge)
    (both (own_alike st.own st.knowledge) (valid_recs (versions_in st.knowledge) 0 st.records)))

unfoldable pub if_valid : Limits → Option Store → Parsed Store
if_valid L none = refused 15
if_valid L (some st) = elim (valid_store L st) [ true ↦ accepted st | false ↦ refused 15 ]

-- the value of a valid store, or 15
unfoldable pub open_store : Limits → List ℕ → Parsed Store
open_store L s = if_valid L (decode_store L s)

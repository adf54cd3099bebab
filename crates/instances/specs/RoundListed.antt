-- One round through the centre as a list of calls, and what it comes to. P is the centre, Q and S are the districts. Before it each of
-- the three edits once: P edits item 2, Q and S both edit item 1.
use Rattle.std.specs.Prelude.{ℕ, true, false, List, [], ◌∷◌, eqb}
use Rattle.layout.specs.Knowledge.{Knowledge, encode}
use Rattle.ticks.specs.Meaning.{highest}
use Rattle.replication.specs.Record.{Rec}
use Rattle.replication.specs.Call.{Call, edit, make, apply}
use Rattle.replication.specs.Formats.{Store}
use Rattle.replication.specs.BatchFormat.{Batch}
use Rattle.instances.specs.Given.{item_bytes, tagged, el, ran, one, two, fresh, store, batch, p1, q1}
use Rattle.instances.specs.Longer.{s1}

unfoldable pub round_before : List Call
round_before =
    edit p1 (item_bytes 2) (tagged 9) 2000 ∷
    edit q1 (item_bytes 1) (tagged 8) 2000 ∷
    edit s1 (item_bytes 1) (tagged 7) 2000 ∷
    []

-- each district makes a batch for the knowledge that the centre has then, and the centre applies it
unfoldable pub round_gather : List Call
round_gather =
    make q1 (encode (one p1 1)) (item_bytes 0) (item_bytes highest) 2000 ∷
    apply p1 0 2000 ∷
    make s1 (encode (two p1 1 q1 1)) (item_bytes 0) (item_bytes highest) 2000 ∷
    apply p1 1 2000 ∷
    []

-- the centre makes a batch for the knowledge that each district has then, and the district applies it
unfoldable pub round_spread : List Call
round_spread =
    make p1 (encode (one q1 1)) (item_bytes 0) (item_bytes highest) 2000 ∷
    apply q1 2 2000 ∷
    make p1 (encode (one s1 1)) (item_bytes 0) (item_bytes highest) 2000 ∷
    apply s1 3 2000 ∷
    []

-- the record of each of the three edits
unfoldable pub by_p : Rec
by_p = fresh 2 p1 1 9

unfoldable pub by_q : Rec
by_q = fresh 1 q1 1 8

unfoldable pub by_s : Rec
by_s = fresh 1 s1 1 7

-- the three stores after the edits
unfoldable pub edited_by : ℕ → Rec → Store
edited_by p r = store p (one p 1) (r ∷ [])

unfoldable pub begins : ℕ → Store
begins p =
    elim (eqb p p1) [
      | true ↦ edited_by p by_p
      | false ↦ elim (eqb p q1) [ true ↦ edited_by p by_q | false ↦ edited_by p by_s ]
    ]

-- P's after the first of the two batches
unfoldable pub halfway : Store
halfway = store p1 (two p1 1 q1 1) (by_q ∷ by_p ∷ [])

-- tick 1 of P, Q and S everywhere
unfoldable pub all_three : Knowledge
all_three =
    record {
      replicas = p1 ∷ q1 ∷ s1 ∷ [];
      vectors = [] ∷ (el 0 1 ∷ el 1 1 ∷ el 2 1 ∷ []) ∷ [];
      ranges = ran 0 1 ∷ [];
    }

-- the stores that have taken in all three edits. Of item 1 they hold S's record: both have tick 1, and S is the greater replica id
unfoldable pub finishes : ℕ → Store
finishes p = store p all_three (by_s ∷ by_p ∷ [])

-- the batches in the order made. S knows its own record, so the last has P's only
unfoldable pub from_q : Batch
from_q = batch (one p1 1) (one q1 1) (by_q ∷ [])

unfoldable pub from_s : Batch
from_s = batch (two p1 1 q1 1) (one s1 1) (by_s ∷ [])

unfoldable pub for_q : Batch
for_q = batch (one q1 1) all_three (by_s ∷ by_p ∷ [])

unfoldable pub for_s : Batch
for_s = batch (one s1 1) all_three (by_p ∷ [])

-- The calls that write nothing: winner, learned, what a walker has still to give, and coverage.
use Rattle.std.specs.Prelude.{ℕ, zero, suc, ◌+◌, ◌*◌, ◌/◌, true, false, List, [], ◌∷◌, eqb, length, take, drop}
use Rattle.codec.specs.Prelude.{Option, none, some}
use Rattle.codec.specs.Number.{be_at}
use Rattle.codec.specs.Reply.{first_fault}
use Rattle.layout.specs.Knowledge.{Limits, Rules, Knowledge}
use Rattle.layout.specs.Parse.{parse}
use Rattle.ticks.specs.Meaning.{contains}
use Rattle.ticks.specs.Calls.{id_of, read_as, wrong_length}
use Rattle.replication.specs.Record.{Rec}
use Rattle.replication.specs.Reading.{whole, rec_at, rec_length, behind}
use Rattle.replication.specs.OpenStore.{knowledge_length, store_knowledge, store_table, open_store}
use Rattle.replication.specs.OpenBatch.{learned_length, batch_learned, batch_table, open_batch}
use Rattle.replication.specs.Operate.{wins}
use Rattle.replication.specs.Calls.{store_or}
use Rattle.replication.specs.Part.{Part}
use Rattle.replication.specs.Part as P
use Rattle.replication.specs.Coverage.{Coverage}
use Rattle.replication.specs.Coverage as G
use Rattle.codec.specs.Parsed.{line, own_fault}

-- "Calls that return a part give the number beside it; the part is empty on a refusal and for an item on neither side": the
-- part, of the store's bytes s or of the batch's
unfoldable pub part_bytes : Part → List ℕ → List ℕ → List ℕ
part_bytes P.Nothing s batch = []
part_bytes (P.OfStore at n) s batch = take n (drop at s)
part_bytes (P.OfBatch at n) s batch = take n (drop at batch)
part_bytes (P.Refused k) s batch = []

-- `part_number` is document 01's number, 0 where nothing is refused. `part_side` (0 nobody's, 1 the store's, 2 the batch's),
-- `part_at_place` and `part_length` are how a caller that is given places instead of a part is told: place and length are both 0
-- for an item on neither side, and all three are the old values where the call is refused (our choice, not document 01's)
unfoldable pub part_number : Part → ℕ
part_number P.Nothing = 0
part_number (P.OfStore at n) = 0
part_number (P.OfBatch at n) = 0
part_number (P.Refused k) = k

unfoldable pub part_side : Part → ℕ → ℕ
part_side P.Nothing old = 0
part_side (P.OfStore at n) old = 1
part_side (P.OfBatch at n) old = 2
part_side (P.Refused k) old = old

unfoldable pub part_at_place : Part → ℕ → ℕ
part_at_place P.Nothing old = 0
part_at_place (P.OfStore at n) old = at
part_at_place (P.OfBatch at n) old = at
part_at_place (P.Refused k) old = old

unfoldable pub part_length : Part → ℕ → ℕ
part_length P.Nothing old = 0
part_length (P.OfStore at n) old = n
part_length (P.OfBatch at n) old = n
part_length (P.Refused k) old = old

-- beyond document 01: the length of the whole record of a known kind at a place, 0 where none stands there
unfoldable pub length_at : List ℕ → ℕ → ℕ
length_at s at = elim (whole s at) [ true ↦ rec_length (be_at s 1 at) | false ↦ 0 ]

-- the places of the records that a walker goes through from a place on; "it ends where no whole record of a known kind follows". A
-- record has at least one byte, so the table's length bounds how many there can be
unfoldable pub places_from : ℕ → List ℕ → ℕ → List ℕ
places_from zero s at = []
places_from (suc n) s at = elim (whole s at) [ true ↦ at ∷ places_from n s (behind s at) | false ↦ [] ]

unfoldable pub places : List ℕ → ℕ → List ℕ
places s at = places_from (length s) s at

-- the parts of s that are the records at the given places
unfoldable pub parts_at : List ℕ → List ℕ → List (List ℕ)
parts_at s [] = []
parts_at s (at ∷ ats) = take (rec_length (be_at s 1 at)) (drop at s) ∷ parts_at s ats

-- "A walker over a lent table hands out records in turn": what it has still to give at a place
unfoldable pub to_give : List ℕ → ℕ → List (List ℕ)
to_give s at = parts_at s (places s at)

-- the first of the given places whose record is the item's
unfoldable pub place_of : List ℕ → ℕ → List ℕ → Option ℕ
place_of s i [] = none
place_of s i (at ∷ ats) = elim (eqb (rec_at s at).item i) [ true ↦ some at | false ↦ place_of s i ats ]

-- the part of the store's bytes that is the record at a place, and of the batch's
unfoldable pub of_store : List ℕ → ℕ → Part
of_store s at = P.OfStore at (rec_length (be_at s 1 at))

unfoldable pub of_batch : List ℕ → ℕ → Part
of_batch s at = P.OfBatch at (rec_length (be_at s 1 at))

-- the winner's part, by where the item's record stands on each side
unfoldable pub winner_at : List ℕ → List ℕ → Option ℕ → Option ℕ → Part
winner_at s batch none none = P.Nothing
winner_at s batch none (some b) = of_batch batch b
winner_at s batch (some a) none = of_store s a
winner_at s batch (some a) (some b) = elim (wins (rec_at s a) (rec_at batch b)) [ true ↦ of_batch batch b | false ↦ of_store s a ]

-- "The winner is returned as a part of the store's or of the batch's bytes"
unfoldable pub winner_part : Limits → List ℕ → List ℕ → List ℕ → Part
winner_part L s batch item =
    let i = id_of 24 item in
    first_fault P.Refused (own_fault (open_store L s) ∷ own_fault (open_batch L batch) ∷ line 17 (wrong_length 24 item) ∷ [])
    (winner_at s batch (place_of s i (places s (store_table s))) (place_of batch i (places batch (batch_table batch))))

-- "From a checked batch the learned knowledge is handed out as a part of the batch, uncopied"
unfoldable pub learned_part : Limits → List ℕ → Part
learned_part L batch =
    first_fault P.Refused (own_fault (open_batch L batch) ∷ []) (P.OfBatch (batch_learned batch) (learned_length batch))

-- beyond document 01: a store's own knowledge, handed out in the same way
unfoldable pub knowledge_part : Limits → List ℕ → Part
knowledge_part L s = first_fault P.Refused (own_fault (open_store L s) ∷ []) (P.OfStore store_knowledge (knowledge_length s))

-- document 01's number and values of a coverage, from the values before the call
unfoldable pub coverage_number : Coverage → ℕ
coverage_number (G.Covered contained all t) = 0
coverage_number (G.Refused k) = k

unfoldable pub coverage_contained : Coverage → ℕ → ℕ
coverage_contained (G.Covered contained all t) old = contained
coverage_contained (G.Refused k) old = old

unfoldable pub coverage_all : Coverage → ℕ → ℕ
coverage_all (G.Covered contained all t) old = all
coverage_all (G.Refused k) old = old

unfoldable pub coverage_thousandths : Coverage → ℕ → ℕ
coverage_thousandths (G.Covered contained all t) old = t
coverage_thousandths (G.Refused k) old = old

unfoldable pub count_in : Knowledge → List Rec → ℕ
count_in k [] = 0
count_in k (r ∷ rs) =
    elim (contains k r.item r.change_replica r.change_tick) [ true ↦ suc (count_in k rs) | false ↦ count_in k rs ]

-- "1000 × contained / all", "the nearest, an exact half going up"; 1000 "for no records"
unfoldable pub thousandths : ℕ → ℕ → ℕ
thousandths contained all = elim (eqb all 0) [ true ↦ 1000 | false ↦ (2000 * contained + all) / (2 * all) ]

unfoldable pub coverage_answer : Rules → List ℕ → List ℕ → Coverage
coverage_answer R s knowledge =
    let o = open_store R.limits s in
    let p = parse R knowledge in
    let rs = (store_or o).records in
    let contained = count_in (read_as p) rs in
    first_fault G.Refused (own_fault o ∷ own_fault p ∷ []) (G.Covered contained (length rs) (thousandths contained (length rs)))

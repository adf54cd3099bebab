-- The calls on bytes: contain, lead, cover, normalise, merge and project. Each is the table of document 01, "Where a
-- fault is caught", line by line in its order ("first knowledge, then second", then 17, then the result's 11 and
-- 12; 14 is looked for last, by the codec's `answer`), and else what the operation gives.
use Rattle.std.specs.Prelude.{ℕ, Bool, true, false, not, ◌||◌, List, [], ◌∷◌, eqb, ltb, length, ℤ, pos, ◌-ℤ◌}
use Rattle.codec.specs.Number.{be_at}
use Rattle.codec.specs.Reply.{Reply, gives, refuses, Line, first_fault}
use Rattle.codec.specs.Parsed.{Parsed, line, own_fault, read_or}
use Rattle.layout.specs.Knowledge.{Limits, Rules, Knowledge, encode}
use Rattle.layout.specs.Parse.{parse}
use Rattle.ticks.specs.Meaning.{known, contains, empty_knowledge}
use Rattle.ticks.specs.Operations.{normalise, merge, project, covers, too_many_replicas, too_many_ranges}
use Rattle.ticks.specs.Contain.{Contain}
use Rattle.ticks.specs.Contain as C
use Rattle.ticks.specs.Lead.{Lead}
use Rattle.ticks.specs.Lead as D
use Rattle.ticks.specs.Cover.{Cover}
use Rattle.ticks.specs.Cover as E

-- the number of each answer, 0 where nothing is refused; and its value, from the value before the call, which stays on a
-- refusal
unfoldable pub contain_number : Contain → ℕ
contain_number C.Contained = 0
contain_number C.Lacking = 0
contain_number (C.Refused n) = n

unfoldable pub contain_value : Contain → ℕ → ℕ
contain_value C.Contained old = 1
contain_value C.Lacking old = 0
contain_value (C.Refused n) old = old

unfoldable pub lead_number : Lead → ℕ
lead_number (D.Ahead x) = 0
lead_number (D.Refused n) = n

unfoldable pub lead_value : Lead → ℤ → ℤ
lead_value (D.Ahead x) old = x
lead_value (D.Refused n) old = old

unfoldable pub cover_number : Cover → ℕ
cover_number E.Covers = 0
cover_number E.Lacks = 0
cover_number (E.Refused n) = n

unfoldable pub cover_value : Cover → ℕ → ℕ
cover_value E.Covers old = 1
cover_value E.Lacks old = 0
cover_value (E.Refused n) old = old

-- an item id of 24 bytes or a replica id of 16, as a number
unfoldable pub id_of : ℕ → List ℕ → ℕ
id_of n s = be_at s n 0

-- the knowledge that a reading gives; where it refuses, the value is of no account
abbrev pub read_as : Parsed Knowledge → Knowledge
read_as p = read_or empty_knowledge p

-- 17: an item id, replica id or tag not 24, 16 or 16 bytes long, or first above last
unfoldable pub wrong_length : ℕ → List ℕ → Bool
wrong_length n s = not (eqb (length s) n)

unfoldable pub wrong_ids : List ℕ → List ℕ → Bool
wrong_ids item replica = wrong_length 24 item || wrong_length 16 replica

unfoldable pub wrong_span : List ℕ → List ℕ → Bool
wrong_span first last = wrong_length 24 first || (wrong_length 24 last || ltb (id_of 24 last) (id_of 24 first))

-- what contain and cover find, as their answers
unfoldable pub contain_found : Bool → Contain
contain_found true = C.Contained
contain_found false = C.Lacking

unfoldable pub cover_found : Bool → Cover
cover_found true = E.Covers
cover_found false = E.Lacks

-- Contain: is the version of an item, a replica and a tick contained
unfoldable pub contain_answer : Rules → List ℕ → List ℕ → List ℕ → ℕ → Contain
contain_answer R s item replica t =
    let p = parse R s in
    first_fault C.Refused (own_fault p ∷ line 17 (wrong_ids item replica) ∷ [])
    (contain_found (contains (read_as p) (id_of 24 item) (id_of 16 replica) t))

-- "Lead: for an item and a replica, the first's tick minus the second's, a signed number, 0 for absent."
unfoldable pub lead_of : Knowledge → Knowledge → ℕ → ℕ → ℤ
lead_of a b i p = pos (known a i p) -ℤ pos (known b i p)

unfoldable pub lead_answer : Rules → List ℕ → List ℕ → List ℕ → List ℕ → Lead
lead_answer R s t item replica =
    let p = parse R s in
    let q = parse R t in
    first_fault D.Refused (own_fault p ∷ own_fault q ∷ line 17 (wrong_ids item replica) ∷ [])
    (D.Ahead (lead_of (read_as p) (read_as q) (id_of 24 item) (id_of 16 replica)))

-- Cover: does the first knowledge know at least as much as the second throughout the span
unfoldable pub cover_answer : Rules → List ℕ → List ℕ → List ℕ → List ℕ → Cover
cover_answer R s t first last =
    let p = parse R s in
    let q = parse R t in
    first_fault E.Refused (own_fault p ∷ own_fault q ∷ line 17 (wrong_span first last) ∷ [])
    (cover_found (covers (read_as p) (read_as q) (id_of 24 first) (id_of 24 last)))

-- the lines of a result: 11 over the most replicas, 12 over the most ranges
unfoldable pub result_lines : Limits → Knowledge → List Line
result_lines L k = line 11 (too_many_replicas L k) ∷ line 12 (too_many_ranges L k) ∷ []

unfoldable pub normalise_reply : Rules → List ℕ → Reply
normalise_reply R s =
    let p = parse R s in
    let k = normalise (read_as p) in
    first_fault refuses (own_fault p ∷ result_lines R.limits k) (gives (encode k))

unfoldable pub merge_reply : Rules → List ℕ → List ℕ → Reply
merge_reply R s t =
    let p = parse R s in
    let q = parse R t in
    let k = merge (read_as p) (read_as q) in
    first_fault refuses (own_fault p ∷ own_fault q ∷ result_lines R.limits k) (gives (encode k))

unfoldable pub project_reply : Rules → List ℕ → List ℕ → List ℕ → Reply
project_reply R s first last =
    let p = parse R s in
    let k = project (id_of 24 first) (id_of 24 last) (read_as p) in
    first_fault refuses (own_fault p ∷ line 17 (wrong_span first last) ∷ result_lines R.limits k) (gives (encode k))

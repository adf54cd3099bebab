-- The reading of a whole knowledge: document 01's table "Knowledge, left to right, first faulty field", then
-- "Knowledge, end". `checked` decides and counts; `parse` also gives the value that the accepted bytes stand for.
use Rattle.std.specs.Prelude.{ℕ, ◌+◌, ◌-◌, true, false, List, eqb, length}
use Rattle.codec.specs.Parsed.{Parsed, accepted, refused}
use Rattle.layout.specs.Got.{Got}
use Rattle.layout.specs.Got.{Num, Fault}
use Rattle.layout.specs.Checked.{Checked}
use Rattle.layout.specs.Checked.{Accepted, Refused}
use Rattle.layout.specs.Knowledge.{Rules, Knowledge, opening, before_vectors, before_ranges, closing}
use Rattle.layout.specs.Decode.{decode}
use Rattle.layout.specs.Read.{◌▷◌, repeat, number, fields, limit, replica_id, first_vector, vector, range}

-- the bytes up to the last replica id, with the most replicas: r, and the place after them
unfoldable pub replica_map : ℕ → (ℕ → ℕ) → List ℕ → Got
replica_map most judge s =
    fields s opening 0 0 ▷ number s 4 ▷ limit 0 most ▷ λ r start.
    repeat (replica_id judge s start) r 0 start

-- the fields up to the count v, with the most ranges: a vector for each, and vector 0
unfoldable pub vector_count : ℕ → List ℕ → ℕ → Got
vector_count most s at = fields s before_vectors 0 at ▷ number s 4 ▷ limit 1 (most + 1)

-- the v clock vectors: e
unfoldable pub vector_list : List ℕ → ℕ → ℕ → ℕ → Got
vector_list s r v at = first_vector s 0 at ▷ repeat (vector s r) (v - 1)

-- the bytes up to the end of the ranges, with the most ranges: g
unfoldable pub range_list : ℕ → List ℕ → ℕ → ℕ → Got
range_list most s v at =
    fields s before_ranges 0 at ▷ number s 4 ▷ limit 1 most ▷ λ g start.
    repeat (range s v) g 0 start ▷ λ low next. Num g next

infixl 40 ◌▶◌
-- the next part, where the whole answer is the check's
abbrev pub ◌▶◌ : Got → (ℕ → ℕ → Checked) → Checked
Num x at ▶ f = f x at
Fault n ▶ f = Refused n

-- 10: bytes left over, where everything before is without fault
unfoldable pub ended : List ℕ → Checked → ℕ → ℕ → Checked
ended s c x at = elim (eqb at (length s)) [ true ↦ c | false ↦ Refused 10 ]

-- the check, with the most replicas, the most ranges and the judgement of ids
unfoldable pub checked : ℕ → ℕ → (ℕ → ℕ) → List ℕ → Checked
checked replicas ranges judge s =
    replica_map replicas judge s ▶ λ r at.
    vector_count ranges s at ▶ λ v at.
    vector_list s r v at ▶ λ e at.
    range_list ranges s v at ▶ λ g at.
    fields s closing 0 at ▶ ended s (Accepted r v e g)

-- the same by rules
abbrev pub checked_by : Rules → List ℕ → Checked
checked_by R s = checked R.limits.replicas R.limits.ranges R.judge s

unfoldable pub told : List ℕ → Checked → Parsed Knowledge
told s (Accepted r v e g) = accepted (decode s)
told s (Refused n) = refused n

-- the answer of reading: the knowledge, or the refusal's number
unfoldable pub parse : Rules → List ℕ → Parsed Knowledge
parse R s = told s (checked_by R s)

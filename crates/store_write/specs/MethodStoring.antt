-- How a call ends that writes bytes where its buffer has room for them, and the records that are written: those at chosen addresses. There is
-- nothing to believe here: the laws say that around a knowledge this is how the reply of a store or batch ends.
use Rattle.std.specs.Prelude.{ℕ, ◌+◌, ◌≤◌, ◌≡◌, true, false, List, [], leb, length, take}
use Rattle.codec.specs.Part.{placed}
use Rattle.codec.specs.Answer.{Answer}
use Rattle.codec.specs.Answer.{Written, Refused}
use Rattle.replication.specs.Record.{Rec}
use Rattle.replication.specs.Formats.{put_recs}
use Rattle.records_join.specs.MethodJoin.{copied}

-- how a call ends that writes n bytes where it has room
unfoldable pub ends_with : ℕ → ℕ → Answer
ends_with n room = elim (leb n room) [ true ↦ Written n | false ↦ Refused 14 ]

unfoldable pub leaves : ℕ → List ℕ → List ℕ → List ℕ
leaves n out written = elim (leb n (length out)) [ true ↦ written | false ↦ out ]

-- the records at the first addresses of a list are these
pub record Chosen (s other picks : List ℕ) (count size : ℕ) (rs : List Rec) : Type 0 where
  pub counted : count ≡ length rs
  pub sized : size ≡ length (put_recs rs [])
  pub copies : (d : List ℕ) (at : ℕ) → at + size ≤ length d → copied s other d at (take count picks) ≡ placed d at (put_recs rs [])

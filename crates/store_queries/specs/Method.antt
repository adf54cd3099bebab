-- A part that is inside the bytes that it is of, and the count of one record. There is nothing to believe here.
use Rattle.std.specs.Prelude.{ℕ, ◌+◌, ◌≤◌, ◌≡◌, Bool, true, false, List, length}
use Rattle.replication.specs.Part.{Part}
use Rattle.replication.specs.Part as P

pub record Inside (p : Part) (s t : List ℕ) : Type 0 where
  pub of_store : (at n : ℕ) → p ≡ P.OfStore at n → at + n ≤ length s
  pub of_batch : (at n : ℕ) → p ≡ P.OfBatch at n → at + n ≤ length t

-- 1 where a test holds, else 0
unfoldable pub tally : Bool → ℕ
tally true = 1
tally false = 0

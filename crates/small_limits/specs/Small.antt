-- Limits so small that a few calls reach them: at most two replicas, three ranges and two records. The laws of lists of calls hold
-- for all permitted limits, so also for these. And fields in turn as bytes, by which stores and batches are written out.
use Rattle.std.specs.Prelude.{ℕ, List, [], ◌∷◌}
use Rattle.codec.specs.Number.{put}
use Rattle.layout.specs.Knowledge.{Limits, Rules, any_id}

abbrev pub small : Limits
small = record { replicas = 2; ranges = 3; records = 2 }

abbrev pub small_rules : Rules
small_rules = any_id small

-- the length of every output buffer: enough for each result of the lists, so that none is refused with 14
abbrev pub room : ℕ
room = 1000

-- fields in turn, each by its size in bytes and its value
unfoldable pub spelled : List (ℕ × ℕ) → List ℕ
spelled [] = []
spelled (f ∷ fs) = put f.0 f.1 (spelled fs)

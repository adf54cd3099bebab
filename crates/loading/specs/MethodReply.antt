-- What an operation comes to once its inputs are accepted, and a table that is ready to be written. There is nothing to believe here:
-- the laws say that the first is the call's reply.
use Rattle.std.specs.Prelude.{ℕ, ◌+◌, ◌≤◌, ◌≡◌, List, length}
use Rattle.codec.specs.Part.{placed}
use Rattle.codec.specs.Reply.{Reply, gives, refuses, first_fault}
use Rattle.layout.specs.Knowledge.{Limits, Knowledge, encode}
use Rattle.ticks.specs.Calls.{result_lines}
use Rattle.tables.specs.declared.Sizes.{Sizes}
use Rattle.tables.specs.MethodPlan.{length_of}
use Rattle.tables.specs.MethodPieces.{laid, page_pieces}

-- the lines of the result, and else its bytes
unfoldable pub result_reply : Limits → Knowledge → Reply
result_reply L k = first_fault refuses (result_lines L k) (gives (encode k))

-- a planned table of n rows: its sizes are those of a knowledge, and what is written for it are that knowledge's bytes
pub record Tabled (k : Knowledge) (z : Sizes) (ids bounds t : List ℕ) (n : ℕ) (cols firsts numbers : List ℕ) : Type 0 where
  pub replicas : z.replicas ≡ length k.replicas
  pub ranges : z.ranges ≡ length k.ranges
  pub size : length (encode k) ≡ length_of z
  pub writes : (d : List ℕ) (at : ℕ) → at + length_of z ≤ length d
      → laid d at (page_pieces z ids bounds t n cols firsts numbers) ≡ placed d at (encode k)

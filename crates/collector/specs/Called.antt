-- What an exported function leaves behind: the number that it returns, the value behind each pointer, and each byte of the buffer, those past
-- the result too. A name with ' is what is there after the call, the name without what was there before it.
use Rattle.std.specs.Prelude.{ℕ, ◌≡◌, List, length}
use Rattle.codec.specs.Reply.{Reply, answer, after, number_of, written_of}
use Rattle.replication.specs.Part.{Part}
use Rattle.replication.specs.Queries.{part_number, part_side, part_at_place, part_length}

-- a call that writes: the reply's number, its length, and its bytes in front of what was there
abbrev pub Called : Reply → ℕ → ℕ → ℕ → List ℕ → List ℕ → Type 0
Called reply number written written' out out' =
    (number ≡ number_of (answer reply (length out)))
    × ((written' ≡ written_of (answer reply (length out)) written) × (out' ≡ after reply out))

-- a call that returns a part: the part's number, its place and its length
abbrev pub PartCalled : Part → ℕ → ℕ → ℕ → ℕ → ℕ → Type 0
PartCalled p number at at' size size' = (number ≡ part_number p) × ((at' ≡ part_at_place p at) × (size' ≡ part_length p size))

-- and its side
abbrev pub SideCalled : Part → ℕ → ℕ → ℕ → ℕ → ℕ → ℕ → ℕ → Type 0
SideCalled p number side side' at at' size size' =
    (number ≡ part_number p) × ((side' ≡ part_side p side) × ((at' ≡ part_at_place p at) × (size' ≡ part_length p size)))

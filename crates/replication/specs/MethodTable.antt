-- The code's tables: the records at the places that a walker goes through. There is nothing to believe here: the laws say that for a valid
-- store or batch they are its records.
use Rattle.std.specs.Prelude.{ℕ, List, [], ◌∷◌}
use Rattle.replication.specs.Record.{Rec}
use Rattle.replication.specs.Reading.{rec_at}
use Rattle.replication.specs.Queries.{places}

unfoldable pub recs_of : List ℕ → List ℕ → List Rec
recs_of s [] = []
recs_of s (at ∷ ats) = rec_at s at ∷ recs_of s ats

unfoldable pub table_at : List ℕ → ℕ → List Rec
table_at s at = recs_of s (places s at)

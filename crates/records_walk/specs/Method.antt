-- Where a walker goes on. There is nothing to believe here: the contracts say what is left to give by `to_give`, and this says in numbers
-- where that stands.
use Rattle.std.specs.Prelude.{ℕ, true, false, List}
use Rattle.replication.specs.Reading.{behind, whole}

-- the place behind the whole record at a place, the place itself where none stands there
unfoldable pub after_at : List ℕ → ℕ → ℕ
after_at s at = elim (whole s at) [ true ↦ behind s at | false ↦ at ]

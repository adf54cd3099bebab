-- A walker over a lent table. Document 01: "A walker over a lent table hands out records in turn and remembers its place; it ends where no
-- whole record of a known kind follows". What it has still to give at a place is `to_give`: the parts that are the records from there on.
use Rattle.std.specs.Prelude.{ℕ, ◌+◌, ◌≡◌, true, false, List, [], ◌∷◌}
use Rattle.std.specs.Borrow.{Bor}
use Rattle.replication.specs.Reading.{whole}
use Rattle.replication.specs.Queries.{to_give}
use Rattle.records_walk.specs.declared.Walker.{Walker}

-- what a walker has still to give
abbrev pub still_gives : Walker → List (List ℕ)
still_gives w = to_give w.table.now w.at

-- of the parts that are still to be given: the one that is given next, the empty part where there is none, and those that are left then
unfoldable pub next_part : List (List ℕ) → List ℕ
next_part [] = []
next_part (p ∷ ps) = p

unfoldable pub later_parts : List (List ℕ) → List (List ℕ)
later_parts [] = []
later_parts (p ∷ ps) = ps

-- where the part begins: at the place itself; the empty part, where no whole record stands there, at the front of the table
unfoldable pub part_place : List ℕ → ℕ → ℕ
part_place s at = elim (whole s at) [ true ↦ at | false ↦ 0 ]

-- r is the part of the lent table that a walker at a place hands out: its bytes, and that it lies in the table itself, uncopied
abbrev pub PartOf : Bor (List ℕ) → ℕ → Bor (List ℕ) → Type 0
PartOf table at r = (r.now ≡ next_part (to_give table.now at)) × (r.ref_ptr ≡ (table.ref_ptr.0, part_place table.now at + table.ref_ptr.1))

-- Two tables of records joined by addresses. An address is a place of the store's bytes s or, from the length of s on, a place of the
-- other bytes t, counted from there. There is nothing to believe here: the laws `joined_table`, `joined_count`, `joined_size` and
-- `joined_copied` say what these are in the terms of `replication`.
use Rattle.std.specs.Prelude.{ℕ, ◌+◌, ◌-◌, true, false, ◌≤◌, ◌<◌, ◌≡◌, List, [], ◌∷◌, ◌++◌, ltb, length, take, drop}
use Rattle.codec.specs.Part.{placed, part}
use Rattle.replication.specs.Record.{Rec}
use Rattle.replication.specs.Reading.{rec_at}
use Rattle.replication.specs.Operate.{wins}
use Rattle.replication.specs.Queries.{places, length_at}
use Rattle.records.specs.Method.{record_part}
use Rattle.records_join.specs.declared.Step.{Step}

-- ---- addresses

-- what f says at an address
unfoldable pub at_address : {A : Type 0} → (List ℕ → ℕ → A) → List ℕ → List ℕ → ℕ → A
at_address f s t x = elim (ltb x (length s)) [ true ↦ f s x | false ↦ f t (x - length s) ]

-- the records at addresses, and how many bytes they have together
unfoldable pub recs_from : List ℕ → List ℕ → List ℕ → List Rec
recs_from s t [] = []
recs_from s t (x ∷ xs) = at_address rec_at s t x ∷ recs_from s t xs

unfoldable pub size_from : List ℕ → List ℕ → List ℕ → ℕ
size_from s t [] = 0
size_from s t (x ∷ xs) = at_address length_at s t x + size_from s t xs

-- the addresses of places of t
unfoldable pub addresses : List ℕ → List ℕ → List ℕ
addresses s [] = []
addresses s (b ∷ vs) = (length s + b) ∷ addresses s vs

-- ---- the join

-- the address of the winner of two records of one item
unfoldable pub winner_from : List ℕ → ℕ → List ℕ → ℕ → ℕ
winner_from s a t b = elim (wins (rec_at s a) (rec_at t b)) [ true ↦ length s + b | false ↦ a ]

-- the place a of s and those after it, joined with places of t, rest being what joins those after a
unfoldable pub join_on : List ℕ → List ℕ → ℕ → List ℕ → (List ℕ → List ℕ) → List ℕ → List ℕ
join_on s t a us rest [] = a ∷ us
join_on s t a us rest (b ∷ vs) =
    elim (ltb (rec_at s a).item (rec_at t b).item) [
      | true ↦ a ∷ rest (b ∷ vs)
      | false ↦ elim (ltb (rec_at t b).item (rec_at s a).item) [
        | true ↦ (length s + b) ∷ join_on s t a us rest vs
        | false ↦ winner_from s a t b ∷ rest vs
      ]
    ]

-- the addresses of the joined tables, whose records stand at places of s and of t
unfoldable pub join_places : List ℕ → List ℕ → List ℕ → List ℕ → List ℕ
join_places s t [] vs = addresses s vs
join_places s t (a ∷ us) vs = join_on s t a us (join_places s t us) vs

-- the tables are those that a walker goes through from a place of s and from a place of t
unfoldable pub join_at : List ℕ → ℕ → List ℕ → ℕ → List ℕ
join_at s a t b = join_places s t (places s a) (places t b)

-- what a step of the join comes to where a record is left: the next address with the length of its record, and the places from
-- which the rest is joined; and it takes the bytes that it passes
pub record Steps (s : List ℕ) (a : ℕ) (t : List ℕ) (b : ℕ) (r : Step) : Type 0 where
  pub next : join_at s a t b ≡ r.chosen ∷ join_at s r.first t r.second
  pub sized : r.size ≡ at_address length_at s t r.chosen
  pub some : 0 < r.size
  pub left : r.size + ((length s - r.first) + (length t - r.second)) ≤ (length s - a) + (length t - b)

-- ---- what is written

-- the n bytes from an address on, none where there are fewer
unfoldable pub run_part : List ℕ → List ℕ → ℕ → ℕ → List ℕ
run_part s t x n = at_address (λ u y. part u y n) s t x

-- a list with numbers at its front, as many as it has room for
unfoldable pub fronted : List ℕ → List ℕ → List ℕ
fronted d xs = take (length d) xs ++ drop (length xs) d

-- a buffer with the records at addresses one after the other from a place on; one that has no room is not written
unfoldable pub copied : List ℕ → List ℕ → List ℕ → ℕ → List ℕ → List ℕ
copied s t d at [] = d
copied s t d at (x ∷ xs) = copied s t (placed d at (at_address record_part s t x)) (at + at_address length_at s t x) xs

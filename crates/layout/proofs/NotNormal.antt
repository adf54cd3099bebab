-- What is accepted though it is no normal form, by closed examples, each with its sizes; they are computed. Acceptance asks
-- for none of normal form's conditions but an empty first vector: a tick may be 0, replicas and vectors may be unused, and
-- order is free but for the bounds. What normalise makes of each is computed in `ticks`.
use Prim.Native.Nat.{ℕ}
use mathlib.Core.Path.{◌≡◌, refl}
use mathlib.Core.List.{List, [], ◌∷◌}
use Rattle.codec.specs.Number.{be_from, be_at, put}
use Rattle.layout.specs.Checked.{Accepted}
use Rattle.layout.specs.Knowledge.{basic, Element, Range, Knowledge, encode}
use Rattle.layout.specs.Knowledge.{opening, before_vectors, before_elements, before_ranges, closing, put_fields, put_ids, put_elements, put_vectors, put_ranges}
use Rattle.layout.specs.Read.{repeat, number, same, fields, limit, empty, among, judged, replica_id, tick, element, first_vector, vector, index, range}
use Rattle.layout.specs.Parse.{replica_map, vector_count, vector_list, range_list, ended, checked, checked_by}

-- an element of a key and a tick, a range of a bound and an index, a knowledge of its parts
abbrev pub el : ℕ → ℕ → Element
el key tick = record { key = record { 0 = key }; tick = tick }

abbrev pub ran : ℕ → ℕ → Range
ran bound index = record { bound = bound; index = record { 0 = index } }

abbrev pub knowledge : List ℕ → List (List Element) → List Range → Knowledge
knowledge ids vs rs = record { replicas = ids; vectors = vs; ranges = rs }

-- a tick is 0
unfoldable pub tick_zero : Knowledge
tick_zero = knowledge (3 ∷ 5 ∷ []) ([] ∷ (el 0 7 ∷ el 1 0 ∷ []) ∷ []) (ran 0 1 ∷ [])

-- no element uses replica 3
unfoldable pub unused_replica : Knowledge
unused_replica = knowledge (3 ∷ 5 ∷ []) ([] ∷ (el 1 4 ∷ []) ∷ []) (ran 0 1 ∷ [])

-- no range uses vector 1
unfoldable pub unused_vector : Knowledge
unused_vector = knowledge (3 ∷ []) ([] ∷ (el 0 4 ∷ []) ∷ (el 0 7 ∷ []) ∷ []) (ran 0 2 ∷ [])

-- vectors 1 and 2 are equal
unfoldable pub equal_vectors : Knowledge
equal_vectors = knowledge (3 ∷ []) ([] ∷ (el 0 7 ∷ []) ∷ (el 0 7 ∷ []) ∷ []) (ran 0 1 ∷ ran 9 0 ∷ ran 20 2 ∷ [])

-- vector 1 is empty, as vector 0 is
unfoldable pub empty_twice : Knowledge
empty_twice = knowledge (3 ∷ []) ([] ∷ [] ∷ (el 0 7 ∷ []) ∷ []) (ran 0 1 ∷ ran 9 2 ∷ [])

-- the first two ranges have the same vector
unfoldable pub equal_neighbours : Knowledge
equal_neighbours = knowledge (3 ∷ []) ([] ∷ (el 0 7 ∷ []) ∷ []) (ran 0 1 ∷ ran 9 1 ∷ ran 20 0 ∷ [])

-- the first bound is above 0
unfoldable pub first_above_lem : Knowledge
first_above_lem = knowledge (3 ∷ []) ([] ∷ (el 0 7 ∷ []) ∷ []) (ran 9 1 ∷ [])

-- vector 2 is used before vector 1
unfoldable pub later_first_lem : Knowledge
later_first_lem = knowledge (3 ∷ []) ([] ∷ (el 0 4 ∷ []) ∷ (el 0 7 ∷ []) ∷ []) (ran 0 2 ∷ ran 9 1 ∷ [])

-- the replicas do not rise
unfoldable pub replicas_fall : Knowledge
replicas_fall = knowledge (5 ∷ 3 ∷ []) ([] ∷ (el 0 4 ∷ el 1 7 ∷ []) ∷ []) (ran 0 1 ∷ [])

-- the keys of a vector do not rise
unfoldable pub keys_fall : Knowledge
keys_fall = knowledge (3 ∷ 5 ∷ []) ([] ∷ (el 1 4 ∷ el 0 7 ∷ []) ∷ []) (ran 0 1 ∷ [])

-- r, v, e and g of each
pub record AllAccepted : Type 0 where
  pub tick-zero : checked_by basic (encode tick_zero) ≡ Accepted 2 2 2 1
  pub unused_replica_lem : checked_by basic (encode unused_replica) ≡ Accepted 2 2 1 1
  pub unused_vector_lem : checked_by basic (encode unused_vector) ≡ Accepted 1 3 2 1
  pub equal_vectors_lem : checked_by basic (encode equal_vectors) ≡ Accepted 1 3 2 3
  pub empty_twice_lem : checked_by basic (encode empty_twice) ≡ Accepted 1 3 1 2
  pub equal_neighbours_lem : checked_by basic (encode equal_neighbours) ≡ Accepted 1 2 1 3
  pub first_above : checked_by basic (encode first_above_lem) ≡ Accepted 1 2 1 1
  pub later_first : checked_by basic (encode later_first_lem) ≡ Accepted 1 3 2 2
  pub replicas_fall_lem : checked_by basic (encode replicas_fall) ≡ Accepted 2 2 2 1
  pub keys_fall_lem : checked_by basic (encode keys_fall) ≡ Accepted 2 2 2 1

pub all_accepted : AllAccepted
unfolding tick_zero unused_replica unused_vector equal_vectors empty_twice equal_neighbours first_above_lem later_first_lem replicas_fall keys_fall be_from
    be_at put opening before_vectors before_elements before_ranges closing put_fields put_ids put_elements put_vectors put_ranges encode repeat
    number same fields limit empty among judged replica_id tick element first_vector vector index range replica_map vector_count vector_list
    range_list ended checked
all_accepted = record {
  tick-zero = refl;
  unused_replica_lem = refl;
  unused_vector_lem = refl;
  equal_vectors_lem = refl;
  empty_twice_lem = refl;
  equal_neighbours_lem = refl;
  first_above = refl;
  later_first = refl;
  replicas_fall_lem = refl;
  keys_fall_lem = refl;
}

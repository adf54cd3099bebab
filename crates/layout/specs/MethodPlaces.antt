-- Where the parts of an accepted knowledge stand, from its sizes r, v, e and g. There is nothing to believe here: the law
-- `places` says that the value that is read stands there.
use Rattle.std.specs.Prelude.{ℕ, ◌+◌, ◌*◌, List}
use Rattle.codec.specs.Number.{be_at}
use Rattle.layout.specs.Knowledge.{Knowledge}
use Rattle.layout.specs.Decode.{ids_at, vectors_at, after_vectors, ranges_at}

-- the replica ids, of 16 bytes
abbrev pub ids_place : ℕ
ids_place = 27

-- the first clock vector
abbrev pub vectors_place : ℕ → ℕ
vectors_place r = 48 + 16 * r

-- the first range, of 28 bytes: 16 bytes after the vectors
abbrev pub ranges_place : ℕ → ℕ → ℕ → ℕ
ranges_place r v e = 64 + 16 * r + 8 * v + 12 * e

abbrev pub whole_length : ℕ → ℕ → ℕ → ℕ → ℕ
whole_length r v e g = 77 + 16 * r + 8 * v + 12 * e + 28 * g

-- vector number j, by stepping over those before it
abbrev pub vector_place : List ℕ → ℕ → ℕ → ℕ
vector_place s r j = after_vectors s j (vectors_place r)

-- the element count of the vector at a place; its elements, of 12 bytes, begin 8 bytes after the place
abbrev pub count_at : List ℕ → ℕ → ℕ
count_at s at = be_at s 4 (at + 4)

-- the value at these places
unfoldable pub value_at : List ℕ → ℕ → ℕ → ℕ → ℕ → Knowledge
value_at s r v e g = record {
  replicas = ids_at s r ids_place;
  vectors = vectors_at s v (vectors_place r);
  ranges = ranges_at s g (ranges_place r v e);
}

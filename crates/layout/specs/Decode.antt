-- The value in accepted bytes, by the places of its fields. There is nothing to believe here: the law `exact` says that this is
-- the one knowledge whose encoding the bytes are.
use Rattle.std.specs.Prelude.{ℕ, zero, suc, ◌+◌, ◌*◌, List, [], ◌∷◌}
use Rattle.codec.specs.Number.{be_at}
use Rattle.layout.specs.Knowledge.{Element, Range, Knowledge}

-- the values in accepted bytes, by their places
unfoldable pub ids_at : List ℕ → ℕ → ℕ → List ℕ
ids_at s zero at = []
ids_at s (suc n) at = be_at s 16 at ∷ ids_at s n (at + 16)

unfoldable pub elements_at : List ℕ → ℕ → ℕ → List Element
elements_at s zero at = []
elements_at s (suc n) at = record { key = record { 0 = be_at s 4 at }; tick = be_at s 8 (at + 4) } ∷ elements_at s n (at + 12)

unfoldable pub vectors_at : List ℕ → ℕ → ℕ → List (List Element)
vectors_at s zero at = []
vectors_at s (suc n) at =
    elements_at s (be_at s 4 (at + 4)) (at + 8) ∷ vectors_at s n (at + 8 + 12 * be_at s 4 (at + 4))

unfoldable pub after_vectors : List ℕ → ℕ → ℕ → ℕ
after_vectors s zero at = at
after_vectors s (suc n) at = after_vectors s n (at + 8 + 12 * be_at s 4 (at + 4))

unfoldable pub ranges_at : List ℕ → ℕ → ℕ → List Range
ranges_at s zero at = []
ranges_at s (suc n) at = record { bound = be_at s 24 at; index = record { 0 = be_at s 4 (at + 24) } } ∷ ranges_at s n (at + 28)

-- r stands at 23, after the opening; v 17 bytes after the ids; g 12 bytes after the vectors
unfoldable pub decode : List ℕ → Knowledge
decode s =
    let r = be_at s 4 23 in
    let v = be_at s 4 (44 + 16 * r) in
    let after = after_vectors s v (48 + 16 * r) in
    record {
      replicas = ids_at s r 27;
      vectors = vectors_at s v (48 + 16 * r);
      ranges = ranges_at s (be_at s 4 (after + 12)) (after + 16);
    }

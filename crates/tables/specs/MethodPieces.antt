-- What is written for a plan, piece by piece, each at the place after the one before: as code writes it. There is nothing to
-- believe here: the laws say that with room for all pieces they are the bytes of the planned knowledge.
use Rattle.std.specs.Prelude.{ℕ, ◌+◌, ◌*◌, true, false, List, [], ◌∷◌, ◌++◌, eqb, length, get_or}
use Rattle.codec.specs.Part.{placed, bytes}
use Rattle.layout.specs.Knowledge.{put_fields, opening, before_vectors, before_elements, before_ranges, closing}
use Rattle.tables.specs.declared.Sizes.{Sizes}
use Rattle.tables.specs.MethodWords.{cell, numbers_at}
use Rattle.tables.specs.MethodPlan.{elements_from}

-- a buffer with the pieces from a place on; a piece that has no room is not written
unfoldable pub laid : List ℕ → ℕ → List (List ℕ) → List ℕ
laid d at [] = d
laid d at (p ∷ ps) = laid (placed d at p) (at + length p) ps

-- the pieces as one list of bytes
unfoldable pub joined : List (List ℕ) → List ℕ
joined [] = []
joined (p ∷ ps) = p ++ joined ps

-- the ids of columns
unfoldable pub id_pieces : List ℕ → List ℕ → List (List ℕ)
id_pieces ids [] = []
id_pieces ids (c ∷ cs) = bytes 8 (get_or ids (2 * c) 0) ∷ bytes 8 (get_or ids (2 * c + 1) 0) ∷ id_pieces ids cs

-- the elements of a row, over columns whose keys begin with the given one
unfoldable pub element_pieces : (ℕ → ℕ) → ℕ → List ℕ → List (List ℕ)
element_pieces g key [] = []
element_pieces g key (c ∷ cs) =
    elim (eqb (g c) 0) [ true ↦ element_pieces g (key + 1) cs | false ↦ bytes 4 key ∷ bytes 8 (g c) ∷ element_pieces g (key + 1) cs ]

-- a row as a clock vector
unfoldable pub vector_pieces : (ℕ → ℕ) → List ℕ → List (List ℕ)
vector_pieces g cols = put_fields before_elements [] ∷ bytes 4 (length (elements_from g 0 cols)) ∷ element_pieces g 0 cols

unfoldable pub vectors_pieces : (ℕ → ℕ → ℕ) → List ℕ → List ℕ → List (List ℕ)
vectors_pieces T cols [] = []
vectors_pieces T cols (k ∷ ks) = vector_pieces (T k) cols ++ vectors_pieces T cols ks

-- the range of a row: its bound and the number of its vector
unfoldable pub range_pieces : List ℕ → ℕ → ℕ → List (List ℕ)
range_pieces bounds k x =
    bytes 8 (get_or bounds (3 * k) 0) ∷ bytes 8 (get_or bounds (3 * k + 1) 0) ∷ bytes 8 (get_or bounds (3 * k + 2) 0) ∷ bytes 4 x ∷ []

unfoldable pub ranges_pieces : List ℕ → ℕ → ℕ → List ℕ → List (List ℕ)
ranges_pieces bounds k before [] = []
ranges_pieces bounds k before (x ∷ xs) =
    elim (eqb x before) [
      | true ↦ ranges_pieces bounds (k + 1) x xs
      | false ↦ range_pieces bounds k x ++ ranges_pieces bounds (k + 1) x xs
    ]

-- all of it: the counts are those of the sizes, n is the count of rows
unfoldable pub page_pieces : Sizes → List ℕ → List ℕ → List ℕ → ℕ → List ℕ → List ℕ → List ℕ → List (List ℕ)
page_pieces z ids bounds t n cols firsts numbers =
    let columns = numbers_at cols 0 z.replicas in
    put_fields opening [] ∷ bytes 4 z.replicas ∷ id_pieces ids columns
    ++ (put_fields before_vectors [] ∷ bytes 4 z.vectors ∷ vectors_pieces (cell t) columns (numbers_at firsts 0 z.vectors)
    ++ (put_fields before_ranges [] ∷ bytes 4 z.ranges ∷ ranges_pieces bounds 1 (n + 1) (numbers_at numbers 0 n)
    ++ (put_fields closing [] ∷ [])))

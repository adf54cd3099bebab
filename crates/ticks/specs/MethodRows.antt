-- How code goes through rows of ticks. There is nothing to believe here: the laws of `proofs/ForRows.antt` say that the first
-- lacking place, the largest tick and the test of a tick alike in all ranges are found so.
use Rattle.std.specs.Prelude.{ℕ, max, Bool, true, false, List, [], ◌∷◌, eqb, ltb, leb}
use Rattle.codec.specs.Prelude.{Option, none, some}
use Rattle.layout.specs.declared.ReplicaKey.{ReplicaKey}
use Rattle.layout.specs.declared.VectorIndex.{VectorIndex}
use Rattle.layout.specs.Knowledge.{Element, Range}
use Rattle.ticks.specs.Meaning.{tick_at}

-- The least replica that lacks

-- the least id so far, with one more
unfoldable pub lesser : Option ℕ → ℕ → Option ℕ
lesser none p = some p
lesser (some q) p = elim (ltb p q) [ true ↦ some p | false ↦ some q ]

-- the least id so far with the id of one element, where its tick is above the level of its key
unfoldable pub least_with : (ℕ → ℕ) → (ℕ → ℕ) → Option ℕ → Element → Option ℕ
least_with level id best x = elim (leb x.tick (level x.key.0)) [ true ↦ best | false ↦ lesser best (id x.key.0) ]

-- the same over elements
unfoldable pub least_of : (ℕ → ℕ) → (ℕ → ℕ) → Option ℕ → List Element → Option ℕ
least_of level id best [] = best
least_of level id best (x ∷ xs) = least_of level id (least_with level id best x) xs

-- The largest tick

unfoldable pub top_tick : ℕ → List Element → ℕ
top_tick top [] = top
top_tick top (x ∷ xs) = top_tick (max top x.tick) xs

-- range by range, with the elements of each index
unfoldable pub top_from : (VectorIndex → List Element) → ℕ → List Range → ℕ
top_from vector top [] = top
top_from vector top (x ∷ xs) = top_from vector (top_tick top (vector x.index)) xs

-- A tick alike in all ranges

unfoldable pub alike_rows : (VectorIndex → List Element) → ReplicaKey → ℕ → List Range → Bool
alike_rows vector key t [] = true
alike_rows vector key t (x ∷ xs) =
    elim (eqb (tick_at (vector x.index) key.0) t) [ true ↦ alike_rows vector key t xs | false ↦ false ]

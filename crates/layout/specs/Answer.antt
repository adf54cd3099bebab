-- The answer of the check as document 01 gives it: the refusal's number, 0 where nothing is refused, and the sizes
-- r, v, e and g. On a refusal only the number returns: where the sizes are put, nothing changes.
use Rattle.std.specs.Prelude.{ℕ, ◌+◌, List, [], ◌∷◌, length}
use Rattle.std.proofs.lemmas.List.Edits.{sets}
use Rattle.layout.specs.Knowledge.{Element}
use Rattle.layout.specs.Checked.{Checked}
use Rattle.layout.specs.Checked.{Accepted, Refused}

unfoldable pub checked_number : Checked → ℕ
checked_number (Accepted r v e g) = 0
checked_number (Refused n) = n

-- the four numbers after the call, from the four before it
unfoldable pub checked_sizes : Checked → List ℕ → List ℕ
checked_sizes (Accepted r v e g) old = sets old 0 (r ∷ v ∷ e ∷ g ∷ [])
checked_sizes (Refused n) old = old

-- e, the elements of all vectors
unfoldable pub elements : List (List Element) → ℕ
elements [] = 0
elements (es ∷ vs) = length es + elements vs

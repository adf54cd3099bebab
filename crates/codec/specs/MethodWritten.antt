-- Bytes one after the other. There is nothing to believe here: it says how a format that is written field by field comes to be placed
-- as a whole.
use Rattle.std.specs.Prelude.{ℕ, ◌+◌, ◌≤◌, ◌≡◌, List, length}
use Rattle.codec.specs.Part.{placed}

-- what f puts in front is written from a place on, and p is the place after it
pub record Wrote (d : List ℕ) (at : ℕ) (f : List ℕ → List ℕ) (u : List ℕ) (p : ℕ) : Type 0 where
  pub same : length u ≡ length d
  pub size : (t : List ℕ) → at + length (f t) ≡ p + length t
  pub is : (t : List ℕ) → at + length (f t) ≤ length d → placed d at (f t) ≡ placed u p t

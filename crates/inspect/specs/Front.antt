-- The answer for an input of which only the first bytes were read.
use Rattle.std.specs.Prelude.{ℕ, ◌≡◌, List, take}
use Rattle.layout.specs.Knowledge.{basic}
use Rattle.layout.specs.Parse.{checked_by}
use Rattle.layout.specs.Checked.{Checked}

-- the answer is the check's for every input whose first bytes, at most `most` of them, are these
abbrev pub DecidesAll : ℕ → List ℕ → Checked → Type 0
DecidesAll most front answer = (input : List ℕ) → take most input ≡ front → answer ≡ checked_by basic input

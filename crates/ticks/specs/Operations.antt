-- Document 01, "Operations on knowledge", on values. Each result is the normal form of its ticks; an operation says
-- what the ticks are, at which items they may change and for which replicas they may be above 0.
use Rattle.std.specs.Prelude.{ℕ, suc, max, Bool, true, false, List, [], ◌∷◌, ◌++◌, eqb, ltb, length}
use Rattle.layout.specs.Knowledge.{Limits, Range, Knowledge, bounds}
use Rattle.ticks.specs.Meaning.{known}
use Rattle.ticks.specs.Table.{in_span, within, sorted}
use Rattle.ticks.specs.Written.{normal_of}

unfoldable pub normalise : Knowledge → Knowledge
normalise k = normal_of (bounds k.ranges) k.replicas (known k)

-- "Merge: the larger known tick everywhere."
unfoldable pub larger : Knowledge → Knowledge → ℕ → ℕ → ℕ
larger a b i p = max (known a i p) (known b i p)

unfoldable pub merge : Knowledge → Knowledge → Knowledge
merge a b = normal_of (bounds a.ranges ++ bounds b.ranges) (a.replicas ++ b.replicas) (larger a b)

-- "Project onto a span first..last, both ends included: the known ticks inside, 0 outside"
unfoldable pub known_inside : ℕ → ℕ → Knowledge → ℕ → ℕ → ℕ
known_inside first last k i p = elim (in_span first last i) [ true ↦ known k i p | false ↦ 0 ]

unfoldable pub project : ℕ → ℕ → Knowledge → Knowledge
project first last k = normal_of (first ∷ suc last ∷ bounds k.ranges) k.replicas (known_inside first last k)

-- the tick of replica p becomes t for every item. Document 01, of an edit: "The own tick becomes that in every range."
unfoldable pub known_raised : ℕ → ℕ → Knowledge → ℕ → ℕ → ℕ
known_raised p t k i q = elim (eqb q p) [ true ↦ t | false ↦ known k i q ]

unfoldable pub raise : ℕ → ℕ → Knowledge → Knowledge
raise p t k = normal_of (bounds k.ranges) (p ∷ k.replicas) (known_raised p t k)

-- an item and a replica of which a knowledge lacks a tick, or none
pub data Lack : Type 0 where
  nowhere : Lack
  here : ℕ → ℕ → Lack

-- the first of the given replicas of which a knows less than b at item i
unfoldable pub lacking_at : Knowledge → Knowledge → ℕ → List ℕ → Lack
lacking_at a b i [] = nowhere
lacking_at a b i (p ∷ ps) = elim (ltb (known a i p) (known b i p)) [ true ↦ here i p | false ↦ lacking_at a b i ps ]

unfoldable pub or_else : Lack → Lack → Lack
or_else nowhere y = y
or_else (here i p) y = here i p

-- the first such item and replica of the given ones
unfoldable pub lacking_from : Knowledge → Knowledge → List ℕ → List ℕ → Lack
lacking_from a b ps [] = nowhere
lacking_from a b ps (i ∷ is) = let y = lacking_from a b ps is in or_else (lacking_at a b i ps) y

-- the first of the span first..last, by item and then by replica, where a knows less than b: ticks change at bounds
-- only, so it is looked for at `first` and at the bounds inside
unfoldable pub lacking : Knowledge → Knowledge → ℕ → ℕ → Lack
lacking a b first last =
    lacking_from a b (sorted b.replicas) (sorted (within first last (first ∷ bounds a.ranges ++ bounds b.ranges)))

unfoldable pub is_nowhere : Lack → Bool
is_nowhere nowhere = true
is_nowhere (here i p) = false

-- "Cover: does one knowledge know at least as much as another throughout a span."
unfoldable pub covers : Knowledge → Knowledge → ℕ → ℕ → Bool
covers a b first last = is_nowhere (lacking a b first last)

-- the same for the given replicas only
unfoldable pub covers_for : List ℕ → Knowledge → Knowledge → ℕ → ℕ → Bool
covers_for ps a b first last =
    is_nowhere (lacking_from a b ps (sorted (within first last (first ∷ bounds a.ranges ++ bounds b.ranges))))

-- the largest tick of a knowledge, over every range and every replica
unfoldable pub largest_at : Knowledge → ℕ → List ℕ → ℕ
largest_at k i [] = 0
largest_at k i (p ∷ ps) = max (known k i p) (largest_at k i ps)

unfoldable pub largest_from : Knowledge → List Range → ℕ
largest_from k [] = 0
largest_from k (x ∷ xs) = max (largest_at k x.bound k.replicas) (largest_from k xs)

unfoldable pub largest : Knowledge → ℕ
largest k = largest_from k k.ranges

-- is the tick of p alike in all ranges; where p is not in the map it is 0 in all
unfoldable pub alike_from : ℕ → Knowledge → ℕ → List Range → Bool
alike_from p k t [] = true
alike_from p k t (x ∷ xs) = elim (eqb (known k x.bound p) t) [ true ↦ alike_from p k t xs | false ↦ false ]

unfoldable pub own_alike : ℕ → Knowledge → Bool
own_alike p k = alike_from p k (known k 0 p) k.ranges

-- of a result, 11: over the most replicas; 12: over the most ranges
unfoldable pub too_many_replicas : Limits → Knowledge → Bool
too_many_replicas L k = ltb L.replicas (length k.replicas)

unfoldable pub too_many_ranges : Limits → Knowledge → Bool
too_many_ranges L k = ltb L.ranges (length k.ranges)

-- How long the bytes of a lawful knowledge can be: each vector but the first has at most as many elements as there are
-- replicas, and the first has none, so no sum of sizes is above the length at all limits.
use Prim.Native.Nat.{ℕ, suc, ◌-◌, ◌*◌, ◌≤◌}
use mathlib.Core.Path.{◌≡◌, ap}
use mathlib.Core.List.{List, [], ◌∷◌}
use native.Mathlib.Nat.{mul-suc, mul-le-mul}
use native.Mathlib.Omega.{arith}
use lib.ListN.{length, get_or}
use Rattle.layout.specs.Knowledge.{Rules, Element, Knowledge, encode, All, Lawful}
use Rattle.layout.proofs.Parts.{LawfulVector, Parts, parts}
use Rattle.layout.specs.Permitted.{longest}
use Rattle.layout.specs.Answer.{elements}
use Rattle.layout.proofs.Forward.{encode-length}

elements_most : (r : ℕ) (vs : List (List Element)) → All (LawfulVector r) vs → elements vs ≤ r * length vs
unfolding elements
elements_most r [] l = omega arith
elements_most r (es ∷ vs) l = omega (arith, elements_most r vs l.1, l.0.count, mul-suc r (length vs))

elements_later : (r : ℕ) (vs : List (List Element)) → get_or vs 0 [] ≡ [] → All (LawfulVector r) vs →
    elements vs ≤ r * (length vs - 1)
unfolding elements
elements_later r [] f l = omega arith
elements_later r (es ∷ vs) f l =
    let n : suc (length vs) - 1 ≡ length vs = omega arith in
    rw n (omega (arith, elements_most r vs l.1, ap length f))

pub lawful-length : (R : Rules) (k : Knowledge) → Lawful R k → length (encode k) ≤ longest R.limits
unfolding longest
lawful-length R k lawful =
    let l : Parts R k = parts R k lawful in
    omega (
      arith,
      encode-length k,
      elements_later (length k.replicas) k.vectors l.first l.clocks,
      mul-le-mul {n₁ = length k.replicas} {m₁ = length k.vectors - 1} {n₂ = R.limits.replicas} {m₂ = R.limits.ranges} l.replicas (omega arith),
    )

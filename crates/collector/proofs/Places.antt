-- What the calls that return a part, and coverage, leave behind their pointers, for each answer: the values that the definitions name, and
-- on a refusal those that were there.
use Prim.Native.Nat.{ℕ}
use mathlib.Core.Path.{◌≡◌, refl, sym, subst}
use Rattle.replication.specs.Part.{Part}
use Rattle.replication.specs.Part as P
use Rattle.replication.specs.Coverage.{Coverage}
use Rattle.replication.specs.Coverage as G
use Rattle.replication.specs.Queries.{part_number, part_side, part_at_place, part_length}
use Rattle.collector.specs.Called.{PartCalled, SideCalled}
use Rattle.replication.specs.Queries.{coverage_number, coverage_contained, coverage_all, coverage_thousandths}

module _ (p : Part) (side at size : ℕ) where
  pub part_nothing : p ≡ P.Nothing → SideCalled p 0 side 0 at 0 size 0
  unfolding part_number part_side part_at_place part_length
  part_nothing e = subst (λ (q : Part). SideCalled q 0 side 0 at 0 size 0) (sym e) (refl, (refl, (refl, refl)))

  pub part_store : (x n : ℕ) → p ≡ P.OfStore x n → SideCalled p 0 side 1 at x size n
  unfolding part_number part_side part_at_place part_length
  part_store x n e = subst (λ (q : Part). SideCalled q 0 side 1 at x size n) (sym e) (refl, (refl, (refl, refl)))

  pub part_batch : (x n : ℕ) → p ≡ P.OfBatch x n → SideCalled p 0 side 2 at x size n
  unfolding part_number part_side part_at_place part_length
  part_batch x n e = subst (λ (q : Part). SideCalled q 0 side 2 at x size n) (sym e) (refl, (refl, (refl, refl)))

  pub part_refusal : (k : ℕ) → p ≡ P.Refused k → SideCalled p k side side at at size size
  unfolding part_number part_side part_at_place part_length
  part_refusal k e = subst (λ (q : Part). SideCalled q k side side at at size size) (sym e) (refl, (refl, (refl, refl)))

-- of the part that a call's definition gives
module _ (p q : Part) (e : p ≡ q) (r side side' at at' size size' : ℕ) (h : SideCalled p r side side' at at' size size') where
  pub side_called : SideCalled q r side side' at at' size size'
  side_called = subst (λ (x : Part). SideCalled x r side side' at at' size size') e h

  -- where the side is not asked for
  pub part_called : PartCalled q r at at' size size'
  part_called = (side_called.0, (side_called.1.1.0, side_called.1.1.1))

abbrev pub Covers : Coverage → ℕ → ℕ → ℕ → ℕ → ℕ → ℕ → ℕ → Type 0
Covers c r inside all rate inside₀ all₀ rate₀ =
    (r ≡ coverage_number c)
    × ((inside ≡ coverage_contained c inside₀) × ((all ≡ coverage_all c all₀) × (rate ≡ coverage_thousandths c rate₀)))

module _ (c : Coverage) (inside all rate : ℕ) where
  pub covers_these : (i n t : ℕ) → c ≡ G.Covered i n t → Covers c 0 i n t inside all rate
  unfolding coverage_number coverage_contained coverage_all coverage_thousandths
  covers_these i n t e = subst (λ (x : Coverage). Covers x 0 i n t inside all rate) (sym e) (refl, (refl, (refl, refl)))

  pub covers_refusal : (k : ℕ) → c ≡ G.Refused k → Covers c k inside all rate inside all rate
  unfolding coverage_number coverage_contained coverage_all coverage_thousandths
  covers_refusal k e = subst (λ (x : Coverage). Covers x k inside all rate inside all rate) (sym e) (refl, (refl, (refl, refl)))

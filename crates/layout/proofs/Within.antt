-- Limits and rules given as numbers: each is clamped to 1 to its largest, so they are permitted whatever the numbers are, since the longest
-- knowledge at the largest limits has room in its fields. Document 01's are themselves such, and numbers that lie in there stay.
use Prim.Native.Nat.{ℕ, ◌+◌, ◌*◌, ◌≤◌}
use mathlib.Core.Path.{◌≡◌, refl, ap}
use native.Mathlib.Nat.{mul-le-mul}
use native.Mathlib.Omega.{arith}
use Rattle.codec.specs.Total.{clamp}
use Rattle.codec.proofs.Total.{clamp_within, clamp_inside}
use Rattle.layout.specs.Knowledge.{any_id, basic, base}
use Rattle.layout.specs.Permitted.{longest, Permitted, largest_replicas, largest_ranges, largest_records, within, rules_within}

pub within_permitted : (replicas ranges records : ℕ) → Permitted (within replicas ranges records)
unfolding longest
within_permitted replicas ranges records =
    let r = clamp_within replicas largest_replicas (omega arith) in
    let g = clamp_within ranges largest_ranges (omega arith) in
    let n = clamp_within records largest_records (omega arith) in
    let m : clamp replicas largest_replicas * clamp ranges largest_ranges ≤ largest_replicas * largest_ranges = mul-le-mul r.1 g.1 in
    record {
      some_replica = r.0;
      some_range = g.0;
      replicas = omega arith;
      ranges = omega arith;
      records = omega arith;
      lengths = omega arith;
    }

-- a knowledge within any such limits is at most as long as one at the largest
pub longest_within : (replicas ranges records : ℕ) → longest (within replicas ranges records)
    ≤ 77 + 16 * largest_replicas + 8 * (largest_ranges + 1) + 12 * (largest_replicas * largest_ranges) + 28 * largest_ranges
unfolding longest
longest_within replicas ranges records =
    let r = clamp_within replicas largest_replicas (omega arith) in
    let g = clamp_within ranges largest_ranges (omega arith) in
    let m : clamp replicas largest_replicas * clamp ranges largest_ranges ≤ largest_replicas * largest_ranges = mul-le-mul r.1 g.1 in
    omega (arith, r, g, m)

pub base_within : within base.replicas base.ranges base.records ≡ base
unfolding clamp
base_within = refl

-- document 01's rules are those of its two numbers
pub basic_within : rules_within base.replicas base.ranges ≡ basic
basic_within = ap any_id base_within

-- numbers inside 1 to the largest are the limits themselves
module _ (replicas ranges records : ℕ) where
  pub within_replicas : 1 ≤ replicas → replicas ≤ largest_replicas → (within replicas ranges records).replicas ≡ replicas
  within_replicas a b = omega (arith, clamp_inside replicas largest_replicas a b)

  pub within_ranges : 1 ≤ ranges → ranges ≤ largest_ranges → (within replicas ranges records).ranges ≡ ranges
  within_ranges a b = omega (arith, clamp_inside ranges largest_ranges a b)

  pub within_records : 1 ≤ records → records ≤ largest_records → (within replicas ranges records).records ≡ records
  within_records a b = omega (arith, clamp_inside records largest_records a b)

-- what rules of two numbers allow has room in scratch of the largest size
pub few_replicas : (replicas ranges : ℕ) → (rules_within replicas ranges).limits.replicas ≤ largest_replicas
few_replicas replicas ranges = (clamp_within replicas largest_replicas (omega arith)).1

pub few_ranges : (replicas ranges : ℕ) → (rules_within replicas ranges).limits.ranges ≤ largest_ranges
few_ranges replicas ranges = (clamp_within ranges largest_ranges (omega arith)).1

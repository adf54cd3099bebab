-- The limits that the laws hold for, and limits and rules given as numbers. There is nothing to believe here: document 01's
-- limits are permitted (`base_permitted`), so are all limits given as numbers (`within_permitted`), and document 01's limits
-- and rules are such (`base_within`, `basic_within`).
use Rattle.std.specs.Prelude.{ℕ, ◌+◌, ◌*◌, ◌≤◌}
use Rattle.codec.specs.Total.{clamp}
use Rattle.layout.specs.Knowledge.{Limits, Rules, any_id, base}

-- one vector for each range, and vector 0
abbrev pub most_vectors : Limits → ℕ
most_vectors L = L.ranges + 1

-- the length of a knowledge at all limits: 77 + 16r + 8v + 12e + 28g, with r elements in each vector but the first
unfoldable pub longest : Limits → ℕ
longest L = 77 + 16 * L.replicas + 8 * most_vectors L + 12 * (L.replicas * L.ranges) + 28 * L.ranges

-- the most that a count or a length of four bytes leaves room for, with one vector more than ranges
abbrev pub most_count : ℕ
most_count = 4294967294

-- the only premise of the laws on the limits: counts and lengths have room in their fields, and a knowledge may have
-- the one range that every knowledge has, and a replica
pub record Permitted (L : Limits) : Type 0 where
  pub some_replica : 1 ≤ L.replicas
  pub some_range : 1 ≤ L.ranges
  pub replicas : L.replicas ≤ most_count
  pub ranges : L.ranges ≤ most_count
  pub records : L.records ≤ most_count
  pub lengths : longest L ≤ most_count

-- the largest limits that a call may be given
abbrev pub largest_replicas : ℕ
largest_replicas = 16

abbrev pub largest_ranges : ℕ
largest_ranges = 64

abbrev pub largest_records : ℕ
largest_records = 256

-- limits given as numbers: each is clamped to 1 to its largest
abbrev pub within : ℕ → ℕ → ℕ → Limits
within replicas ranges records = record {
  replicas = clamp replicas largest_replicas;
  ranges = clamp ranges largest_ranges;
  records = clamp records largest_records;
}

-- rules given as numbers: the most replicas and the most ranges. How many records there may be is nothing that reading a
-- knowledge goes by
abbrev pub rules_within : ℕ → ℕ → Rules
rules_within replicas ranges = any_id (within replicas ranges base.records)

-- What the filling of a table needs of accepted bytes: the ids of the map stand in their places and are unlike, the bounds of
-- the ranges that the first cursor has before it rise, and both are the knowledge's. Rules of two numbers keep all counts inside scratch of
-- the largest sizes.
use Prim.Native.Nat.{ℕ, ◌+◌, ◌*◌, ◌≤◌}
use mathlib.Core.Path.{◌≡◌, refl, sym, ap, ◌∙◌, subst}
use mathlib.Core.List.{List, []}
use native.Mathlib.Omega.{arith}
use lib.ListN.{length}
use Rattle.codec.specs.Parsed.{accepted}
use Rattle.layout.specs.Knowledge.{Limits, Rules, Distinct, Rising, bounds}
use Rattle.layout.specs.Permitted.{largest_replicas, largest_ranges, within}
use Rattle.layout.specs.Parse.{parse}
use Rattle.layout.specs.Decode.{ids_at, ranges_at, decode}
use Rattle.layout.specs.MethodPlaces.{ids_place, ranges_place}
use Rattle.layout.proofs.Within.{few_replicas, few_ranges}
use Rattle.layout.proofs.Places.{Reading, Places, places, ids-length}
use Rattle.lookup.specs.declared.Cursor.{Cursor}
use Rattle.lookup.specs.Method.{start_at, Opens, Open}
use Rattle.lookup.proofs.Leaf.{opens_reading, read_lawful, read_ids, read_ranges, ids_room}
use Rattle.sampling.proofs.Bounds.{bounds_at}

pub bounds_none : (s : List ℕ) (at : ℕ) → bounds_at s 0 at ≡ []
unfolding ranges_at bounds
bounds_none s at = refl

module _ (R : Rules) (s : List ℕ) (r : ℕ) (c : Cursor) (o : Opens R s r c) where
  reading : Reading R s r o.v o.e o.g
  reading = opens_reading R s r c o

  stand : Places R s r o.v o.e o.g
  stand = places R s r o.v o.e o.g reading

  left_is : c.left ≡ o.g
  unfolding start_at
  left_is = ap (λ (d : Cursor). d.left) o.start

  next_is : c.next ≡ ranges_place r o.v o.e
  unfolding start_at
  next_is = ap (λ (d : Cursor). d.next) o.start

  pub opened_read : parse R s ≡ accepted (decode s)
  opened_read = stand.read ∙ ap accepted (sym stand.value)

  pub opened_ids : (decode s).replicas ≡ ids_at s r ids_place
  opened_ids = read_ids R s r o.v o.e o.g reading

  pub opened_distinct : Distinct (ids_at s r ids_place)
  opened_distinct = subst Distinct opened_ids (read_lawful R s r o.v o.e o.g reading).distinct

  pub opened_count : length (decode s).replicas ≡ r
  opened_count = ap length opened_ids ∙ ids-length s r ids_place

  pub opened_ids_room : ids_place + 16 * r ≤ length s
  opened_ids_room = ids_room R s r o.v o.e o.g reading

  pub opened_bounds : bounds (decode s).ranges ≡ bounds_at s c.left c.next
  opened_bounds =
      ap bounds (read_ranges R s r o.v o.e o.g reading)
      ∙ sym (ap (λ n. bounds_at s n (ranges_place r o.v o.e)) left_is)
      ∙ sym (ap (bounds_at s c.left) next_is)

  pub opened_rising : Rising 0 (bounds_at s c.left c.next)
  opened_rising = subst (Rising 0) opened_bounds (read_lawful R s r o.v o.e o.g reading).rising

  pub opened_room : c.next + 28 * c.left ≤ length s
  opened_room = omega (arith, left_is, next_is, stand.whole)

  pub opened_replicas : r ≤ R.limits.replicas
  opened_replicas = stand.replicas

  pub opened_ranges : c.left ≤ R.limits.ranges
  opened_ranges = omega (arith, left_is, stand.ranges)

-- any rules whose limits are given as numbers
module _ (R : Rules) (replicas ranges records : ℕ) (e : R.limits ≡ within replicas ranges records) (s : List ℕ) (r : ℕ) (c : Cursor)
    (o : Opens R s r c) where
  pub scratch_replicas : r ≤ largest_replicas
  scratch_replicas = omega (arith, opened_replicas R s r c o, ap (λ (L : Limits). L.replicas) e, few_replicas replicas ranges)

  pub scratch_ranges : c.left ≤ largest_ranges
  scratch_ranges = omega (arith, opened_ranges R s r c o, ap (λ (L : Limits). L.ranges) e, few_ranges replicas ranges)

  pub scratch_open : Open s r c
  scratch_open = record { rules = R; opens = o; small = scratch_replicas }

-- What the steps of filling ask of opened bytes

module _ (s : List ℕ) (r : ℕ) (c : Cursor) (o : Open s r c) where
  pub ids_asked : (ids_place + 16 * r ≤ length s) × Distinct (ids_at s r ids_place)
  ids_asked = (opened_ids_room o.rules s r c o.opens, opened_distinct o.rules s r c o.opens)

  pub bounds_asked : (c.next + 28 * c.left ≤ length s) × Rising 0 (bounds_at s c.left c.next)
  bounds_asked = (opened_room o.rules s r c o.opens, opened_rising o.rules s r c o.opens)

  pub nothing_asked : (c.next + 28 * 0 ≤ length s) × Rising 0 (bounds_at s 0 c.next)
  unfolding ranges_at bounds
  nothing_asked = (omega (arith, opened_room o.rules s r c o.opens), tt)

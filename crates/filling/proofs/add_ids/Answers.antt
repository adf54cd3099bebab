-- `filling::add_ids` meets its contract. The loop's invariant: the columns of the keys that are left are still to be added.
use native.Mathlib.Omega.{arith}
use mathlib.Core.Path.{refl}
use lib.ListN.{length-set}
use Rattle.sampling.proofs.Parts.{high_read, low_read}
use Rattle.sampling.proofs.Columns.{map-starts, map-ends, map_next}
use Rattle.filling.proofs.add_ids.Goals as goal

pub loop-k-init : goal.loop-k-init
loop-k-init c = (map-starts _ _ _ _ _, omega arith, omega arith, omega arith, refl, refl, omega arith, omega arith, omega arith, omega arith)

pub join_id-joined-requires : goal.join_id-joined-requires
join_id-joined-requires c = (omega arith, omega arith, omega arith)

pub loop-k-preserved : goal.loop-k-preserved
loop-k-preserved c = let j = c.join_id-joined.ensures in (
  map_next _ _ _ _ _ _ _ _ c.loop-k.invariant.0 c.loop-k-test.true _ _
      (high_read _ _ _ c.from_bytes.ensures.value (omega arith)) (low_read _ _ _ c.from_bytes.ensures.value (omega arith)) _ _ _ j.0,
  omega arith,
  omega (arith, j.2),
  omega (arith, j.3),
  omega (arith, j.4),
  simp length-set (omega arith),
  omega arith,
  omega arith,
  omega arith,
  omega arith,
)

pub returns : goal.returns
returns c = (map-ends _ _ _ _ _ _ _ _ c.loop-k.invariant.0 (omega arith), omega arith, omega arith, omega arith)

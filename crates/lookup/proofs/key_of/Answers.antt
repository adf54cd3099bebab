-- `lookup::key_of` meets its contract. The loop's invariant: the place of the id among all ids is the index and the place
-- among those that are left.
use Rattle.std.proofs.Common.{◌≡◌, ◌+◌, ◌*◌, arith}
use Rattle.layout.specs.MethodPlaces.{ids_place}
use Rattle.leaves.proofs.Compare.{same_part}
use Rattle.lookup.proofs.Loops.{ids_found, ids_next, ids_none, key_short, key_there}
use Rattle.lookup.proofs.key_of.Goals as goal

pub returns-then-s-r : goal.returns-then-s-r
returns-then-s-r c = key_short _ _ _ c.if-s-r.true

pub returns-then-is_replica : goal.returns-then-is_replica
returns-then-is_replica c =
    let l = c.loop-k in
    key_there _ _ _ (record { 0 = l.k }) (omega arith)
    (ids_found _ _ _ _ _ _ l.invariant.0 _ (same_part _ _ _ _ c.is_replica.ensures (omega arith)) c.loop-k-test.true
    c.if-is_replica.true)

pub loop-k-preserved : goal.loop-k-preserved
loop-k-preserved c =
    let l = c.loop-k in
    let step : ids_place + 16 * (l.k + 1) ≡ ids_place + 16 * l.k + 16 = omega arith in (
      rw step
          (ids_next _ _ _ _ _ _ l.invariant.0 _ (same_part _ _ _ _ c.is_replica.ensures (omega arith)) c.loop-k-test.true
          c.if-is_replica.false),
      l.invariant.1,
    )

pub returns : goal.returns
returns c =
    let l = c.loop-k in
    key_there _ _ _ (record { 0 = c.args.r }) l.invariant.1
    (omega (arith, ids_none _ _ _ _ _ _ l.invariant.0 c.loop-k-test.false))

-- `apply::write_applied` meets its contract: the merged knowledge in its room, and both tables joined, make the applied store.
use native.Mathlib.Omega.{arith}
use Rattle.layout.specs.Permitted.{largest_records}
use Rattle.replication.specs.Operate.{applied}
use Rattle.replication.specs.MethodOpening.{store_at, batch_at}
use Rattle.codec.proofs.Writing.{zeros-length}
use Rattle.results.specs.MethodOpened.{limits_of}
use Rattle.store_write.proofs.Closing.{store_room_lem, close_store_refused}
use Rattle.apply.proofs.Applying.{apply_inside, own_and_learned}
use Rattle.apply.proofs.write_applied.Goals as goal

pub write_merged-merged-requires : goal.write_merged-merged-requires
write_merged-merged-requires c = own_and_learned c.args.limits _ _ _ _ _ _ _ _ c.requires

pub returns : goal.returns
returns c = let a = c.args in
    let m = c.requires in
    let L = limits_of a.limits in
    close_store_refused L (applied (store_at L a.store.now) (batch_at L a.batch.now)) a.out.now _ _
    (apply_inside a.limits.replicas a.limits.ranges a.limits.records _ _ _ _ _ _ _ _ m _ _ _ _
    c.join-e.ensures.count_value.0 c.join-e.ensures.count_value.1 c.join-e.ensures.chosen_after
    (omega (arith, zeros-length largest_records)) _ _ _
    (store_room_lem _ c.room_in_store-room.ensures.value) _ _
    c.write_merged-merged.ensures)
    (c.close_store.ensures.value, c.close_store.ensures.out_after)

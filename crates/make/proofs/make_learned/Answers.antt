-- `make::make_learned` meets its contract: learned in its room, needed and the selected records make the batch.
use native.Mathlib.Omega.{arith}
use Rattle.codec.proofs.Writing.{zeros-length}
use Rattle.layout.specs.Permitted.{largest_records}
use Rattle.results.specs.MethodOpened.{limits_of}
use Rattle.store_write.proofs.ClosingBatch.{batch_room_lem, close_batch_refused}
use Rattle.make.specs.Method.{made_of}
use Rattle.make.proofs.Batches.{made_inside}
use Rattle.make.proofs.make_learned.Goals as goal

pub returns : goal.returns
returns c = let a = c.args in
    let x = c.select_records-e.ensures in
    close_batch_refused (limits_of a.w.limits) (made_of a.store.now a.knowledge.now a.w) a.out.now _ _
    (made_inside a.store.now a.mine.now a.knowledge.now a.w c.requires.0 a.needed.now c.requires.1 _ _ _ _
    x.count_value.0 x.count_value.1 x.picks_after (omega (arith, zeros-length largest_records)) a.out.now _ _ (batch_room_lem _ c.room_in_batch-room.ensures.value) _ _
    c.write_learned-learned.ensures)
    (c.close_batch.ensures.value, c.close_batch.ensures.out_after)

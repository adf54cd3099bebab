-- `edit::write_changed` meets its contract: 11, or the raised knowledge in its room, and the records joined with the new one, make the changed store.
use native.Mathlib.Omega.{arith}
use Rattle.codec.specs.Number.{Bytes}
use Rattle.codec.specs.Answer.{answer_of}
use Rattle.codec.specs.Refusal.{number}
use Rattle.layout.specs.Permitted.{largest_records}
use Rattle.codec.proofs.Writing.{zeros-length}
use Rattle.results.specs.MethodOpened.{limits_of}
use Rattle.store_write.proofs.Closing.{store_room_lem, close_store_refused}
use Rattle.edit.proofs.Changing.{change_11, change_inside}
use Rattle.edit.proofs.write_changed.Goals as goal

pub returns-then-one_too_many : goal.returns-then-one_too_many
unfolding answer_of number
returns-then-one_too_many c = let a = c.args in
    λ st b. change_11 a.limits _ _ _ _ _ (c.one_too_many.ensures c.if-one_too_many.true) st b a.out.now

pub returns : goal.returns
returns c = let a = c.args in
    let bytes : Bytes a.store.now = record { below = λ i. omega (arith, c.type_inv.store i) } in
    let others : Bytes a.one.now = record { below = λ i. omega (arith, c.type_inv.one i) } in
    λ st b. close_store_refused (limits_of a.limits) st a.out.now _ _
    (change_inside a.limits _ _ _ _ _ bytes others _ _ _ _ c.join-e.ensures.count_value.0 c.join-e.ensures.count_value.1 c.join-e.ensures.chosen_after
    (omega (arith, zeros-length largest_records)) _ _ _ (store_room_lem _ c.room_in_store-room.ensures.value) _ _
    c.raise_own-raised.ensures st b)
    (c.close_store.ensures.value, c.close_store.ensures.out_after)

-- `edit::delete_within` meets its contract: 15, 17, 19, or the change of the item.
use native.Mathlib.Omega.{arith}
use Rattle.std.proofs.lemmas.Result.{err_from_is_err_and}
use Rattle.codec.specs.Number.{Bytes}
use Rattle.codec.specs.Answer.{answer_of}
use Rattle.codec.specs.Refusal.{number}
use Rattle.edit.proofs.Changing.{item_is, delete_15, delete_no_item, opened_end, delete_19, delete_asked, delete_done, zero-tag}
use Rattle.edit.proofs.delete_within.Goals as goal

pub returns-in_err-opened : goal.returns-in_err-opened
unfolding answer_of number
returns-in_err-opened c = let a = c.args in
    let p = err_from_is_err_and c.from_residual.result c.from_residual.ensures.1 in
    rw (p.1, p.2)
    (delete_15 a.limits.replicas a.limits.ranges a.limits.records a.store.now _ c.open_store.ensures
    a.item.now a.out.now _ c.in_err-opened.was)

pub returns-then-item-ne24 : goal.returns-then-item-ne24
unfolding answer_of number
returns-then-item-ne24 c = let a = c.args in
    let bytes : Bytes a.store.now = record { below = λ i. omega (arith, c.type_inv.store i) } in
    delete_no_item a.limits.replicas a.limits.ranges a.limits.records a.store.now _ c.open_store.ensures
    a.item.now a.out.now bytes _ c.in_ok-opened.was c.if-item-ne24.true

pub overflow_add-end : goal.overflow_add-end
overflow_add-end c = let a = c.args in
    let bytes : Bytes a.store.now = record { below = λ i. omega (arith, c.type_inv.store i) } in
    let end = opened_end a.limits.replicas a.limits.ranges a.limits.records a.store.now _
    c.open_store.ensures a.item.now a.out.now bytes _ c.in_ok-opened.was in
    omega (arith, end)

pub returns-then-gone : goal.returns-then-gone
unfolding answer_of number
returns-then-gone c = let a = c.args in
    let bytes : Bytes a.store.now = record { below = λ i. omega (arith, c.type_inv.store i) } in
    let octets : Bytes a.item.now = record { below = λ i. omega (arith, c.type_inv.item i) } in
    delete_19 a.limits.replicas a.limits.ranges a.limits.records a.store.now _ c.open_store.ensures
    a.item.now a.out.now bytes _ c.in_ok-opened.was octets c.if-item-ne24.false _
    (item_is _ _ c.from_bytes-item.ensures.value c.if-item-ne24.false) _ c.place_of-found.ensures
    _ c.gone.ensures c.if-gone.true

pub slice_bounds-change_item-end : goal.slice_bounds-change_item-end
slice_bounds-change_item-end c = let a = c.args in
    let bytes : Bytes a.store.now = record { below = λ i. omega (arith, c.type_inv.store i) } in
    let end = opened_end a.limits.replicas a.limits.ranges a.limits.records a.store.now _
    c.open_store.ensures a.item.now a.out.now bytes _ c.in_ok-opened.was in
    omega (arith, end)

pub change_item-requires : goal.change_item-requires
change_item-requires c = let a = c.args in
    let bytes : Bytes a.store.now = record { below = λ i. omega (arith, c.type_inv.store i) } in
    let octets : Bytes a.item.now = record { below = λ i. omega (arith, c.type_inv.item i) } in
    delete_asked a.limits.replicas a.limits.ranges a.limits.records a.store.now _
    c.open_store.ensures a.item.now a.out.now bytes _ c.in_ok-opened.was octets
    c.if-item-ne24.false _ (item_is _ _ c.from_bytes-item.ensures.value c.if-item-ne24.false) _ c.place_of-found.ensures _ zero-tag

pub returns : goal.returns
returns c = let a = c.args in
    let bytes : Bytes a.store.now = record { below = λ i. omega (arith, c.type_inv.store i) } in
    let octets : Bytes a.item.now = record { below = λ i. omega (arith, c.type_inv.item i) } in
    delete_done a.limits.replicas a.limits.ranges a.limits.records a.store.now _
    c.open_store.ensures a.item.now a.out.now bytes _ c.in_ok-opened.was octets
    c.if-item-ne24.false _ (item_is _ _ c.from_bytes-item.ensures.value c.if-item-ne24.false) _ c.place_of-found.ensures
    _ c.gone.ensures c.if-gone.false _ zero-tag _ _ c.change_item.ensures

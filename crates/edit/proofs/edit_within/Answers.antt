-- `edit::edit_within` meets its contract: 15, 17, or the change of the item.
use native.Mathlib.Omega.{arith}
use Rattle.std.proofs.lemmas.Result.{err_from_is_err_and}
use Rattle.codec.specs.Number.{Bytes}
use Rattle.codec.specs.Answer.{answer_of}
use Rattle.codec.specs.Refusal.{number}
use Rattle.edit.proofs.Changing.{item_is, edit_15, edit_no_item, edit_no_tag, opened_end, edit_asked, edit_done}
use Rattle.edit.proofs.edit_within.Goals as goal

pub returns-in_err-opened : goal.returns-in_err-opened
unfolding answer_of number
returns-in_err-opened c = let a = c.args in
    let p = err_from_is_err_and c.from_residual.result c.from_residual.ensures.1 in
    rw (p.1, p.2)
    (edit_15 a.limits.replicas a.limits.ranges a.limits.records a.store.now _ c.open_store.ensures
    a.item.now a.out.now a.tag.now _ c.in_err-opened.was)

pub returns-then-item-ne24 : goal.returns-then-item-ne24
unfolding answer_of number
returns-then-item-ne24 c = let a = c.args in
    let bytes : Bytes a.store.now = record { below = λ i. omega (arith, c.type_inv.store i) } in
    edit_no_item a.limits.replicas a.limits.ranges a.limits.records a.store.now _ c.open_store.ensures
    a.item.now a.out.now bytes _ c.in_ok-opened.was a.tag.now c.if-item-ne24.true

pub returns-then-tag-ne16 : goal.returns-then-tag-ne16
unfolding answer_of number
returns-then-tag-ne16 c = let a = c.args in
    let bytes : Bytes a.store.now = record { below = λ i. omega (arith, c.type_inv.store i) } in
    edit_no_tag a.limits.replicas a.limits.ranges a.limits.records a.store.now _ c.open_store.ensures
    a.item.now a.out.now bytes _ c.in_ok-opened.was a.tag.now c.if-tag-ne16.true

pub overflow_add-end : goal.overflow_add-end
overflow_add-end c = let a = c.args in
    let bytes : Bytes a.store.now = record { below = λ i. omega (arith, c.type_inv.store i) } in
    let end = opened_end a.limits.replicas a.limits.ranges a.limits.records a.store.now _
    c.open_store.ensures a.item.now a.out.now bytes _ c.in_ok-opened.was in
    omega (arith, end)

pub tag_words-requires : goal.tag_words-requires
tag_words-requires c = c.if-tag-ne16.false

pub slice_bounds-change_item-end : goal.slice_bounds-change_item-end
slice_bounds-change_item-end c = let a = c.args in
    let bytes : Bytes a.store.now = record { below = λ i. omega (arith, c.type_inv.store i) } in
    let end = opened_end a.limits.replicas a.limits.ranges a.limits.records a.store.now _
    c.open_store.ensures a.item.now a.out.now bytes _ c.in_ok-opened.was in
    omega (arith, end)

pub change_item-requires : goal.change_item-requires
change_item-requires c = let a = c.args in
    let bytes : Bytes a.store.now = record { below = λ i. omega (arith, c.type_inv.store i) } in
    let octets : Bytes a.item.now = record { below = λ i. omega (arith, c.type_inv.item i) } in
    let tags : Bytes a.tag.now = record { below = λ i. omega (arith, c.type_inv.tag i) } in
    edit_asked a.limits.replicas a.limits.ranges a.limits.records a.store.now _
    c.open_store.ensures a.item.now a.out.now bytes _ c.in_ok-opened.was octets
    c.if-item-ne24.false _ (item_is _ _ c.from_bytes-item.ensures.value c.if-item-ne24.false) _ c.place_of-found.ensures
    a.tag.now tags _ c.tag_words.ensures

pub returns : goal.returns
returns c = let a = c.args in
    let bytes : Bytes a.store.now = record { below = λ i. omega (arith, c.type_inv.store i) } in
    let octets : Bytes a.item.now = record { below = λ i. omega (arith, c.type_inv.item i) } in
    edit_done a.limits.replicas a.limits.ranges a.limits.records a.store.now _
    c.open_store.ensures a.item.now a.out.now bytes _ c.in_ok-opened.was octets
    c.if-item-ne24.false _ (item_is _ _ c.from_bytes-item.ensures.value c.if-item-ne24.false) _ c.place_of-found.ensures
    a.tag.now c.if-tag-ne16.false _ c.tag_words.ensures _ _ c.change_item.ensures

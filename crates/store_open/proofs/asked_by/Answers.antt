-- `store_open::asked_by` meets its contract: the create version is asked only where the change version is there, and only where it does not
-- follow.
use native.Mathlib.Omega.{arith}
use mathlib.Core.Path.{sym, ◌∙◌}
use borrow.Author.Tests.{not-true, not-false, eqb-true}
use Rattle.codec.proofs.Ids.{replica_eq}
use Rattle.leaves.proofs.Part.{part_is}
use Rattle.store_open.proofs.Ids.{replica_at}
use Rattle.store_open.proofs.Asked.{asked_lacking, asked_none, asked_create, asked_same}
use Rattle.store_open.proofs.asked_by.Goals as goal

pub returns-in-Lacking : goal.returns-in-Lacking
returns-in-Lacking c =
    let w = c.requires.0 in
    asked_lacking _ _ w _ _ _ _ _ _ (replica_at _ _ _ c.from_bytes-p.ensures.value (omega (arith, w.change_replica)))
    (part_is _ _ _ _ c.first-tick.ensures.0 (omega (arith, w.change_tick))) _ c.tick_by-there.ensures _ c.in-Lacking.is

pub returns-then-not-there : goal.returns-then-not-there
returns-then-not-there c =
    let w = c.requires.0 in
    asked_none _ _ w _ _ _ _ _ _ (replica_at _ _ _ c.from_bytes-p.ensures.value (omega (arith, w.change_replica)))
    (part_is _ _ _ _ c.first-tick.ensures.0 (omega (arith, w.change_tick))) _ c.tick_by-there.ensures _
    c.in_default.is (not-true _ c.if-not-there.true-raw)

pub returns-then-t-tick : goal.returns-then-t-tick
returns-then-t-tick c =
    let w = c.requires.0 in
    asked_same _ _ w _ _ _ _ _ _ (replica_at _ _ _ c.from_bytes-p.ensures.value (omega (arith, w.change_replica)))
    (part_is _ _ _ _ c.first-tick.ensures.0 (omega (arith, w.change_tick))) _ c.tick_by-there.ensures _
    c.in_default.is (not-false _ c.if-not-there.false-raw) _ _ _
    (replica_at _ _ _ c.from_bytes-q.ensures.value (omega (arith, w.create_replica)))
    (part_is _ _ _ _ c.first-t.ensures.0 (omega (arith, w.create_tick)))
    (eqb-true _ _
    (sym (c.eq.ensures ∙ replica_eq _ _ c.from_bytes-p.ensures.high_bound.1 c.from_bytes-q.ensures.high_bound.1) ∙ c.if-eq.true))
    c.if-t-tick.true

pub returns : goal.returns
returns c =
    let w = c.requires.0 in
    asked_create _ _ w _ _ _ _ _ _ (replica_at _ _ _ c.from_bytes-p.ensures.value (omega (arith, w.change_replica)))
    (part_is _ _ _ _ c.first-tick.ensures.0 (omega (arith, w.change_tick))) _ c.tick_by-there.ensures _
    c.in_default.is (not-false _ c.if-not-there.false-raw) _ _ _
    (replica_at _ _ _ c.from_bytes-q.ensures.value (omega (arith, w.create_replica)))
    (part_is _ _ _ _ c.first-t.ensures.0 (omega (arith, w.create_tick))) _ c.tick_by.ensures

-- `store_open::batch_learned` meets its contract: one test after the other.
use native.Mathlib.Omega.{arith}
use Rattle.layout.specs.Permitted.{within}
use Rattle.store_open.proofs.Judged.{normal_open}
use Rattle.store_open.proofs.Batch.{batch_room_lem, batch_ordered, batch_learned_lem, batch_outside, batch_lacks, batch_valid}
use borrow.Author.Tests.{not-true, not-false}
use Rattle.store_open.proofs.batch_learned.Goals as goal

pub returns-in_default : goal.returns-in_default
returns-in_default c = λ m few. batch_learned_lem _ _ m _ _ _ _ c.requires.0 few _ (c.normal_part.ensures m)
    c.in_default.is

pub inside_span-requires : goal.inside_span-requires
inside_span-requires c = c.requires.0.header

pub returns-then-not-inside_span : goal.returns-then-not-inside_span
returns-then-not-inside_span c = λ m few.
    batch_outside _ _ m _ _ _ _ c.requires.0 few _ _ (c.requires.1 m)
    ((c.normal_part.ensures m).normal _ c.in-Some.is) _
    c.inside_span.ensures (not-true _ c.if-not-inside_span.true-raw)

pub overflow_add-at : goal.overflow_add-at
overflow_add-at c = omega (arith, batch_room_lem _ _ _ _ c.requires.0)

pub overflow_add-at-2 : goal.overflow_add-at-2
overflow_add-at-2 c = omega (arith, batch_room_lem _ _ _ _ c.requires.0)

pub each_carried-requires : goal.each_carried-requires
each_carried-requires c = let a = c.args in (
  batch_ordered _ _ _ _ c.requires.0,
  normal_open (within a.limits.replicas a.limits.ranges 0) _ _ (c.requires.1 0),
  normal_open (within a.limits.replicas a.limits.ranges 0) _ _ ((c.normal_part.ensures 0).normal _
      c.in-Some.is),
)

pub returns-then-not-each_carried : goal.returns-then-not-each_carried
returns-then-not-each_carried c = λ m few.
    batch_lacks _ _ m _ _ _ _ c.requires.0 few _ _ (c.requires.1 m)
    ((c.normal_part.ensures m).normal _ c.in-Some.is) _
    c.inside_span.ensures (not-false _ c.if-not-inside_span.false-raw) _ c.each_carried.ensures
    (not-true _ c.if-not-each_carried.true-raw)

pub returns : goal.returns
returns c = λ m few.
    batch_valid _ _ m _ _ _ _ c.requires.0 few _ _ (c.requires.1 m)
    ((c.normal_part.ensures m).normal _ c.in-Some.is) _
    c.inside_span.ensures (not-false _ c.if-not-inside_span.false-raw) _ c.each_carried.ensures
    (not-false _ c.if-not-each_carried.false-raw)

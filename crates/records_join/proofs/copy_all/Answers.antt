-- `records_join::copy_all` meets its contract. The loop's invariant: copying all is writing the pending run and copying what is left behind
-- it. The loop ends behind the last address, or where a record has no room: there no later one has.
use mathlib.Core.Path.{refl, ap, ◌∙◌}
use native.Mathlib.Omega.{arith}
use Rattle.std.proofs.Common.{rules}
use lib.ListN.{length}
use Rattle.codec.proofs.Writing.{placed-length}
use Rattle.records_join.proofs.Runs.{copied_empty, pending_none, pending_longer, pending_begun, pending_end, pending_full}
use Rattle.records_join.proofs.copy_all.Goals as goal
use Rattle.records_join.proofs.copy_all.Goals.{then-goes_on, else-goes_on, else-loop-y-test, then-loop-y-test+then-beyond}

pub returns-then-is_empty : goal.returns-then-is_empty
returns-then-is_empty c = copied_empty _ _ _ _ _ (search rules)

pub loop-y-init : goal.loop-y-init
loop-y-init c = pending_none _ _ _ _ _ _ (omega arith)

pub loop-y-preserved : goal.loop-y-preserved
loop-y-preserved c = let l = c.loop-y in
    let e = c.beyond.ensures.1 c.if-beyond.false in
    elim c.if-goes_on.branch [
      | then-goes_on w ↦
          pending_longer _ _ _ _ _ _ _ _ _ _ l.invariant (omega arith) _ _ refl c.length_from-k.ensures e _ _ _ _
          (c.goes_on.ensures w.if-goes_on.true) w.out-is w.p-is w.x-is w.m-is
      | else-goes_on w ↦
          pending_begun _ _ _ _ _ _ _ _ _ _ l.invariant (omega arith) _ _ refl c.length_from-k.ensures e _ _ _ _
          _ w.copy_run.ensures w.out-is w.p-is w.x-is w.m-is
    ]

pub shape_of-out : goal.shape_of-out
shape_of-out c = ap length c.copy_run-2.ensures ∙ (placed-length _ _ _ ∙ c.loop-y.invariant.kept)

pub returns : goal.returns
returns c = let l = c.loop-y in
    elim c.loop-y-test.branch [
      | else-loop-y-test w ↦ pending_end _ _ _ _ _ _ _ _ _ _ l.invariant (omega (arith, w.loop-y-test.false)) _ c.copy_run-2.ensures
      | then-loop-y-test+then-beyond w ↦
          pending_full _ _ _ _ _ _ _ _ _ _ l.invariant (omega (arith, w.loop-y-test.true)) _ _ refl w.length_from-k.ensures
          (w.beyond.ensures.0 w.if-beyond.true) _ c.copy_run-2.ensures
    ]

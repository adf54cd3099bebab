-- `check_parts::more_vectors` meets its contract.
use Rattle.std.proofs.Common.{refl, arith}
use Rattle.layout.specs.Got.{got_of}
use Rattle.check_fields.proofs.Repeat.{repeat_fault, repeat_on, repeat_end}
use Rattle.check_fields.proofs.Vector.{vector_below}
use Rattle.check_parts.proofs.Lists.{vector_more, vector_faulty}
use Rattle.check_parts.proofs.more_vectors.Goals as goal

pub returns-in_err-n : goal.returns-in_err-n
unfolding got_of
returns-in_err-n c =
    repeat_fault _ _ _ _ _ _ c.loop.invariant.rest (omega arith) _ _ c.from_residual.ensures.1
    (vector_faulty _ _ _ _ _ c.in_err-n.ensures _ refl)

pub overflow_add-x : goal.overflow_add-x
unfolding got_of
overflow_add-x c =
    let w = vector_more _ _ c.loop.x.number _ _ c.in_ok-n.ensures _ _ refl in
    omega (arith, vector_below _ _ _ _ _ w _ _ refl c.loop.invariant.few)

pub loop-preserved : goal.loop-preserved
unfolding got_of
loop-preserved c =
    let w = vector_more _ _ c.loop.x.number _ _ c.in_ok-n.ensures _ _ refl in
    record {
      rest = repeat_on _ _ _ _ _ _ c.loop.invariant.rest (omega arith) _ w;
      few = vector_below _ _ _ _ _ w _ _ refl c.loop.invariant.few;
    }

pub returns : goal.returns
unfolding got_of
returns c = repeat_end _ _ _ _ _ _ c.loop.invariant.rest (omega arith)

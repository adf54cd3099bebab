-- `store_write::put_batch_around` meets its contract: 14 where there is no room around the learned knowledge, else all is written.
use mathlib.Core.List.{[]}
use Prim.Native.Nat.{◌+◌}
use native.Mathlib.Omega.{arith}
use lib.ListN.{length}
use Rattle.replication.specs.OpenBatch.{batch_needed}
use Rattle.codec.specs.Answer.{answer_of}
use Rattle.codec.specs.Refusal.{number}
use Rattle.store_write.proofs.Storing.{put_short, put_whole}
use Rattle.store_write.proofs.ClosingBatch.{batch_around_lem}
use Rattle.store_write.proofs.put_batch_around.Goals as goal

pub returns-then-beyond-clause-value : goal.returns-then-beyond-clause-value
unfolding answer_of number
returns-then-beyond-clause-value c = let a = c.args in
    (put_short (batch_needed + length a.needed.now + a.n + a.e.length) a.out.now []
    (omega (arith, c.beyond.ensures.0 c.if-beyond.true))).0

pub returns-then-beyond-clause-out_after : goal.returns-then-beyond-clause-out_after
returns-then-beyond-clause-out_after c = let a = c.args in
    (put_short (batch_needed + length a.needed.now + a.n + a.e.length) a.out.now _
    (omega (arith, c.beyond.ensures.0 c.if-beyond.true))).1

pub returns-then-beyond-2-clause-value : goal.returns-then-beyond-2-clause-value
unfolding answer_of number
returns-then-beyond-2-clause-value c = let a = c.args in
    (put_short (batch_needed + length a.needed.now + a.n + a.e.length) a.out.now []
    (omega (arith, c.beyond-2.ensures.0 c.if-beyond-2.true))).0

pub returns-then-beyond-2-clause-out_after : goal.returns-then-beyond-2-clause-out_after
returns-then-beyond-2-clause-out_after c = let a = c.args in
    (put_short (batch_needed + length a.needed.now + a.n + a.e.length) a.out.now _
    (omega (arith, c.beyond-2.ensures.0 c.if-beyond-2.true))).1

pub overflow_add-end : goal.overflow_add-end
overflow_add-end c = omega (arith, c.beyond-2.ensures.1 c.if-beyond-2.false)

pub returns-then-beyond-3-clause-value : goal.returns-then-beyond-3-clause-value
unfolding answer_of number
returns-then-beyond-3-clause-value c = let a = c.args in
    (put_short (batch_needed + length a.needed.now + a.n + a.e.length) a.out.now []
    (omega (arith, c.beyond-3.ensures.0 c.if-beyond-3.true))).0

pub returns-then-beyond-3-clause-out_after : goal.returns-then-beyond-3-clause-out_after
returns-then-beyond-3-clause-out_after c = let a = c.args in
    (put_short (batch_needed + length a.needed.now + a.n + a.e.length) a.out.now _
    (omega (arith, c.beyond-3.ensures.0 c.if-beyond-3.true))).1

pub overflow_add-total : goal.overflow_add-total
overflow_add-total c = omega (arith, c.beyond-3.ensures.1 c.if-beyond-3.false)

pub returns-clause-value : goal.returns-clause-value
unfolding answer_of
returns-clause-value c = let a = c.args in
    (put_whole (batch_needed + length a.needed.now + a.n + a.e.length) a.out.now _ _
    (c.beyond-3.ensures.1 c.if-beyond-3.false)
    (batch_around_lem a.out.now _ _ _ a.s.now a.picks.now a.needed.now _ a.n a.e.count
    c.write_batch_header.ensures c.copy_part.ensures c.copy_picked.ensures)).0

pub returns-clause-out_after : goal.returns-clause-out_after
returns-clause-out_after c = let a = c.args in
    (put_whole (batch_needed + length a.needed.now + a.n + a.e.length) a.out.now _ _
    (c.beyond-3.ensures.1 c.if-beyond-3.false)
    (batch_around_lem a.out.now _ _ _ a.s.now a.picks.now a.needed.now _ a.n a.e.count
    c.write_batch_header.ensures c.copy_part.ensures c.copy_picked.ensures)).1

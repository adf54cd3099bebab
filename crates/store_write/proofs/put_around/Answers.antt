-- `store_write::put_around` meets its contract: 14 where header and records have no room around the knowledge, else both are written.
use Prim.Native.Nat.{ℕ, ◌+◌}
use mathlib.Core.Path.{ap, ◌∙◌}
use mathlib.Core.List.{List}
use native.Mathlib.Omega.{arith}
use mathlib.Core.List.{[]}
use lib.ListN.{take}
use Rattle.replication.specs.OpenStore.{store_knowledge}
use Rattle.records_join.specs.MethodJoin.{copied}
use Rattle.codec.specs.Answer.{answer_of}
use Rattle.codec.specs.Refusal.{number}
use Rattle.store_write.proofs.Storing.{put_short, put_whole}
use Rattle.store_write.proofs.put_around.Goals as goal

pub returns-then-beyond-clause-value : goal.returns-then-beyond-clause-value
unfolding answer_of number
returns-then-beyond-clause-value c = let a = c.args in
    (put_short (store_knowledge + a.n + a.e.length) a.out.now [] (omega (arith, c.beyond.ensures.0 c.if-beyond.true))).0

pub returns-then-beyond-clause-out_after : goal.returns-then-beyond-clause-out_after
returns-then-beyond-clause-out_after c = let a = c.args in
    (put_short (store_knowledge + a.n + a.e.length) a.out.now _ (omega (arith, c.beyond.ensures.0 c.if-beyond.true))).1

pub overflow_add-end : goal.overflow_add-end
overflow_add-end c = omega (arith, c.beyond.ensures.1 c.if-beyond.false)

pub returns-then-beyond-2-clause-value : goal.returns-then-beyond-2-clause-value
unfolding answer_of number
returns-then-beyond-2-clause-value c = let a = c.args in
    (put_short (store_knowledge + a.n + a.e.length) a.out.now [] (omega (arith, c.beyond-2.ensures.0 c.if-beyond-2.true))).0

pub returns-then-beyond-2-clause-out_after : goal.returns-then-beyond-2-clause-out_after
returns-then-beyond-2-clause-out_after c = let a = c.args in
    (put_short (store_knowledge + a.n + a.e.length) a.out.now _ (omega (arith, c.beyond-2.ensures.0 c.if-beyond-2.true))).1

pub overflow_add-total : goal.overflow_add-total
overflow_add-total c = omega (arith, c.beyond-2.ensures.1 c.if-beyond-2.false)

pub returns-clause-value : goal.returns-clause-value
unfolding answer_of
returns-clause-value c = let a = c.args in
    (put_whole (store_knowledge + a.n + a.e.length) a.out.now _ _ (c.beyond-2.ensures.1 c.if-beyond-2.false)
    (c.copy_picked.ensures
    ∙ ap (λ (x : List ℕ). copied a.s.now a.other.now x (store_knowledge + a.n) (take a.e.count a.picks.now))
    c.write_store_header.ensures)).0

pub returns-clause-out_after : goal.returns-clause-out_after
returns-clause-out_after c = let a = c.args in
    (put_whole (store_knowledge + a.n + a.e.length) a.out.now _ _ (c.beyond-2.ensures.1 c.if-beyond-2.false)
    (c.copy_picked.ensures
    ∙ ap (λ (x : List ℕ). copied a.s.now a.other.now x (store_knowledge + a.n) (take a.e.count a.picks.now))
    c.write_store_header.ensures)).1

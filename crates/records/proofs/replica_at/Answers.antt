-- `records::replica_at` meets its contract: the words are read where all bytes of the id are there.
use Rattle.std.proofs.Common.{arith}
use Rattle.records.proofs.Fields.{replica_part, replica_missing}
use Rattle.records.proofs.replica_at.Goals as goal

pub returns-then-beyond-clause-value : goal.returns-then-beyond-clause-value
returns-then-beyond-clause-value c = replica_missing _ _ (omega (arith, c.beyond.ensures.0 c.if-beyond.true))

pub overflow_add-at : goal.overflow_add-at
overflow_add-at c = omega (arith, c.beyond.ensures.1 c.if-beyond.false)

pub overflow_add-at-2 : goal.overflow_add-at-2
overflow_add-at-2 c = omega (arith, c.beyond.ensures.1 c.if-beyond.false)

pub overflow_add-at-3 : goal.overflow_add-at-3
overflow_add-at-3 c = omega (arith, c.beyond.ensures.1 c.if-beyond.false)

pub slice_bounds-from_bytes-end : goal.slice_bounds-from_bytes-end
slice_bounds-from_bytes-end c = omega (arith, c.beyond.ensures.1 c.if-beyond.false)

pub returns-clause-value : goal.returns-clause-value
returns-clause-value c =
    replica_part _ _ (omega (arith, c.beyond.ensures.1 c.if-beyond.false)) _ c.from_bytes.ensures.value

pub returns-clause-low_bound : goal.returns-clause-low_bound
returns-clause-low_bound c = c.from_bytes.ensures.high_bound.1

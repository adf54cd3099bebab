-- `records_join::RecordWords::write` meets its contract: without room nothing is written; with it, the fields one after the other.
use native.Mathlib.Omega.{arith}
use Rattle.records_join.proofs.Written.{record_out, record_wrote}
use Rattle.records_join.proofs.RecordWords.write.Goals as goal

pub returns-then-beyond : goal.returns-then-beyond
returns-then-beyond c = record_out _ _ _ (c.beyond.ensures.0 c.if-beyond.true)

pub overflow_add-at : goal.overflow_add-at
overflow_add-at c = omega (arith, c.beyond.ensures.1 c.if-beyond.false)

pub overflow_add-at-2 : goal.overflow_add-at-2
overflow_add-at-2 c = omega (arith, c.beyond.ensures.1 c.if-beyond.false)

pub write_versions-requires : goal.write_versions-requires
write_versions-requires c = omega (arith, c.beyond.ensures.1 c.if-beyond.false)

pub overflow_add-at-3 : goal.overflow_add-at-3
overflow_add-at-3 c = omega (arith, c.beyond.ensures.1 c.if-beyond.false)

pub overflow_add-at-4 : goal.overflow_add-at-4
overflow_add-at-4 c = omega (arith, c.beyond.ensures.1 c.if-beyond.false)

pub returns : goal.returns
returns c = record_wrote _ _ _ _ _ _ _ _ (c.beyond.ensures.1 c.if-beyond.false) c.kind-kind.ensures
    c.write.ensures c.write_item.ensures c.write_versions.ensures _ c.write-2.ensures (omega arith) c.write-3.ensures

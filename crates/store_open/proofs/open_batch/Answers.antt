-- `store_open::open_batch` meets its contract: one test after the other up to the knowledges, and then their parts of the bytes.
use native.Mathlib.Omega.{arith}
use borrow.Author.Tests.{not-true, not-false}
use Rattle.store_open.proofs.Batch.{batch_short, batch_kind, batch_falls, batch_over, batch_many, batch_unshaped, batch_header}
use Rattle.store_open.proofs.open_batch.Goals as goal

pub returns-then-s-lt-BATCH_NEEDED : goal.returns-then-s-lt-BATCH_NEEDED
returns-then-s-lt-BATCH_NEEDED c = batch_short _ _ (omega arith)

pub returns-then-read-ne4 : goal.returns-then-read-ne4
returns-then-read-ne4 c = batch_kind _ (omega arith) _ _ c.read.ensures.value c.if-read-ne4.true

pub returns-then-s-n : goal.returns-then-s-n
returns-then-s-n c = batch_over _ (omega arith) _ _ c.read-n.ensures.value c.read-m.ensures.value _ c.if-s-n.true

pub returns-then-clamp-count : goal.returns-then-clamp-count
returns-then-clamp-count c = batch_many _ (omega arith) _ _ c.read-n.ensures.value c.read-m.ensures.value _
    c.read-count.ensures.value _ _
    c.clamp.ensures c.if-clamp-count.true

pub returns-then-span_falls : goal.returns-then-span_falls
returns-then-span_falls c = batch_falls _ (omega arith) _ _ c.span_falls.ensures c.if-span_falls.true

pub returns-then-not-shaped : goal.returns-then-not-shaped
returns-then-not-shaped c = batch_unshaped _ (omega arith) _ _ c.read-n.ensures.value
    c.read-m.ensures.value _ c.read-count.ensures.value _
    c.shaped.ensures _ (not-true _ c.if-not-shaped.true-raw)

pub batch_needed-requires : goal.batch_needed-requires
batch_needed-requires c = batch_header _ (omega arith) _ _ c.read-n.ensures.value c.read-m.ensures.value _
    c.read-count.ensures.value _
    c.shaped.ensures (record { below = λ i. omega (arith, c.type_inv.s i) }) _
    c.read.ensures.value
    c.if-read-ne4.false _ c.span_falls.ensures c.if-span_falls.false (omega arith)
    (not-false _ c.if-not-shaped.false-raw)

pub returns : goal.returns
returns c = c.batch_needed.ensures c.args.limits.records (omega (arith, c.clamp.ensures))

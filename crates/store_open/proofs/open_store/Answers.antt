-- `store_open::open_store` meets its contract: one test after the other up to the knowledge, and then its part of the bytes.
use native.Mathlib.Omega.{arith}
use borrow.Author.Tests.{not-true, not-false}
use Rattle.store_open.proofs.Store.{store_short, store_kind, store_over, store_many, store_unshaped, store_header}
use Rattle.store_open.proofs.open_store.Goals as goal

pub returns-then-s-lt-STORE_KNOWLEDGE : goal.returns-then-s-lt-STORE_KNOWLEDGE
returns-then-s-lt-STORE_KNOWLEDGE c = store_short _ _ (omega arith)

pub returns-then-read-ne3 : goal.returns-then-read-ne3
returns-then-read-ne3 c = store_kind _ (omega arith) _ _ c.read.ensures.value c.if-read-ne3.true

pub returns-then-s-n : goal.returns-then-s-n
returns-then-s-n c = store_over _ (omega arith) _ c.read-n.ensures.value _ c.if-s-n.true

pub returns-then-most-count : goal.returns-then-most-count
returns-then-most-count c = store_many _ (omega arith) _ c.read-n.ensures.value _ c.read-count.ensures.value _
    _ c.clamp-most.ensures c.if-most-count.true

pub returns-then-not-shaped : goal.returns-then-not-shaped
returns-then-not-shaped c = store_unshaped _ (omega arith) _ c.read-n.ensures.value _ c.read-count.ensures.value _
    c.shaped.ensures _ (not-true _ c.if-not-shaped.true-raw)

pub store_from-requires : goal.store_from-requires
store_from-requires c = store_header _ (omega arith) _ c.read-n.ensures.value _ c.read-count.ensures.value _
    c.shaped.ensures _
    c.read.ensures.value c.if-read-ne3.false (omega arith)
    (not-false _ c.if-not-shaped.false-raw)

pub returns : goal.returns
returns c = c.store_from.ensures c.args.limits.records (omega (arith, c.clamp-most.ensures))

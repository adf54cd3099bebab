-- `store_open::store_from` meets its contract: one test after the other.
use native.Mathlib.Omega.{arith}
use Rattle.layout.specs.Permitted.{within}
use Rattle.store_open.proofs.Ids.{replica_at}
use Rattle.store_open.proofs.Judged.{normal_open}
use Rattle.store_open.proofs.Store.{store_other, store_ordered, store_unlike, store_lacks, store_valid}
use borrow.Author.Tests.{not-true, not-false}
use Rattle.store_open.proofs.store_from.Goals as goal

pub returns-in_default : goal.returns-in_default
returns-in_default c = λ m few. store_other _ _ m _ _ _ c.requires few _ (c.normal_part.ensures m) c.in_default.is

pub returns-then-not-own_alike : goal.returns-then-not-own_alike
returns-then-not-own_alike c = λ m few.
    store_unlike _ _ m _ _ _ c.requires few _ ((c.normal_part.ensures m).normal _ c.in-Some.is) _ (replica_at _ 1 _ c.from_bytes.ensures.value (omega (arith, c.requires.header))) _ c.own_alike.ensures (not-true _ c.if-not-own_alike.true-raw)

pub slice_bounds-from_bytes-end : goal.slice_bounds-from_bytes-end
slice_bounds-from_bytes-end c = omega (arith, c.requires.header)

pub each_contained-requires : goal.each_contained-requires
each_contained-requires c = let a = c.args in (
  store_ordered _ _ _ c.requires,
  normal_open (within a.limits.replicas a.limits.ranges 0) _ _ ((c.normal_part.ensures 0).normal _
      c.in-Some.is),
)

pub returns-then-not-each_contained : goal.returns-then-not-each_contained
returns-then-not-each_contained c = λ m few.
    store_lacks _ _ m _ _ _ c.requires few _ ((c.normal_part.ensures m).normal _
    c.in-Some.is) _ (replica_at _ 1 _ c.from_bytes.ensures.value (omega (arith, c.requires.header))) _ c.own_alike.ensures
    (not-false _ c.if-not-own_alike.false-raw) _ c.each_contained.ensures (not-true _ c.if-not-each_contained.true-raw)

pub returns : goal.returns
returns c = λ m few.
    store_valid _ _ m _ _ _ c.requires few _ ((c.normal_part.ensures m).normal _
    c.in-Some.is) _ (replica_at _ 1 _ c.from_bytes.ensures.value (omega (arith, c.requires.header))) _ c.own_alike.ensures
    (not-false _ c.if-not-own_alike.false-raw) _ c.each_contained.ensures (not-false _ c.if-not-each_contained.false-raw)

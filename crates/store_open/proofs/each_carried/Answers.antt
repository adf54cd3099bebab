-- `store_open::each_carried` meets its contract: learned is asked first, and then needed.
use borrow.Author.Tests.{not-true, not-false}
use Rattle.store_open.proofs.Asked.{carried_yes, carried_no}
use Rattle.store_open.proofs.each_carried.Goals as goal

pub returns-then-not-each_contained : goal.returns-then-not-each_contained
returns-then-not-each_contained c = carried_no _ _ _ _ c.each_contained.ensures (not-true _ c.if-not-each_contained.true-raw)

pub returns : goal.returns
returns c = carried_yes _ _ _ _ c.each_contained.ensures (not-false _ c.if-not-each_contained.false-raw) _ c.each_lacking.ensures

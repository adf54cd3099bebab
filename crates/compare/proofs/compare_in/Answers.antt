-- `compare::compare_in` meets its contract: 14, or both places written, the first's before the second's.
use native.Mathlib.Omega.{arith}
use Rattle.compare.proofs.Calls.{size_small, ends_short, ends_written}
use borrow.Author.Rules.{rules}
use Rattle.compare.proofs.compare_in.Goals as goal

pub overflow_add-length : goal.overflow_add-length
overflow_add-length c = omega (arith, size_small _ _ c.size_of-second.ensures, size_small _ _ c.size_of.ensures)

pub returns-then-out-length : goal.returns-then-out-length
returns-then-out-length c = λ R o q.
    ends_short R _ _ _ _ _ _ o _ _ q _ _ c.lacking_place-x.ensures c.lacking_place-y.ensures _ _
    c.size_of-second.ensures c.size_of.ensures c.if-out-length.true

pub put_lack-requires-2 : goal.put_lack-requires-2
put_lack-requires-2 c = (search rules, search rules, omega (arith, size_small _ _ c.size_of-second.ensures))

pub returns : goal.returns
returns c = λ R o q.
    ends_written R _ _ _ _ _ _ o _ _ q _ _ c.lacking_place-x.ensures c.lacking_place-y.ensures _ _
    c.size_of-second.ensures c.size_of.ensures _ _ _ c.put_lack.ensures
    c.put_lack-2.ensures c.order_of.ensures c.if-out-length.false

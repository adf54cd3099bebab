-- `store_queries::count_in` meets its contract. The loop's invariant: the cursor has passed just the ranges below the next record, and
-- those contained in all are those counted and those among the records that are left.
use Rattle.store_queries.proofs.Counting.{Counted}
use Rattle.store_queries.proofs.count_in.Given as goal

abbrev pub invariant-loop-i : goal.invariant-loop-i
invariant-loop-i l = Counted l.s l.k l.r l.n l.at l._i l.p l.c l.contained

-- `records_join::copy_all` meets its contract. The loop's invariant: copying all is writing the pending run and copying what is left behind
-- it. The loop ends behind the last address, or where a record has no room: there no later one has.
use Rattle.records_join.proofs.Runs.{Pending}
use Rattle.records_join.proofs.copy_all.Given as goal

abbrev pub invariant-loop-y : goal.invariant-loop-y
invariant-loop-y l = Pending l.s l.t l.chosen l.initial.out l.at l.out l.p l.x l.m l.y-index

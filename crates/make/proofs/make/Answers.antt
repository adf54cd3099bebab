-- `make::make` meets its contract: document 01's limits are those of its three numbers.
use Rattle.layout.specs.Knowledge.{any_id}
use Rattle.replication.specs.Calls.{make_reply}
use Rattle.store_write.proofs.Storing.{ended_base}
use Rattle.make.proofs.make.Goals as goal

pub returns-clause-value : goal.returns-clause-value
returns-clause-value c = let a = c.args in
    (ended_base (λ L. make_reply (any_id L) a.store.now a.knowledge.now a.first.now a.last.now) _ _ _
    c.make_within.ensures).0

pub returns-clause-out_after : goal.returns-clause-out_after
returns-clause-out_after c = let a = c.args in
    (ended_base (λ L. make_reply (any_id L) a.store.now a.knowledge.now a.first.now a.last.now) _ _ _
    c.make_within.ensures).1

-- `edit::edit` meets its contract: document 01's limits are those of its three numbers.
use Rattle.replication.specs.Calls.{edit_reply}
use Rattle.replication.specs.Call.{brings}
use Rattle.store_write.proofs.Storing.{ended_base}
use Rattle.edit.proofs.edit.Goals as goal

pub returns-clause-value : goal.returns-clause-value
returns-clause-value c = let a = c.args in
    (ended_base (λ L. edit_reply L a.store.now a.item.now (brings a.tag.now)) _ _ _ c.edit_within.ensures).0

pub returns-clause-out_after : goal.returns-clause-out_after
returns-clause-out_after c = let a = c.args in
    (ended_base (λ L. edit_reply L a.store.now a.item.now (brings a.tag.now)) _ _ _ c.edit_within.ensures).1

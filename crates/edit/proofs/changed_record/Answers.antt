-- `edit::changed_record` meets its contract, for an item that is there and for one that is absent.
use mathlib.Core.Path.{refl}
use Rattle.edit.proofs.Changing.{record_kept, record_new}
use Rattle.edit.proofs.changed_record.Goals as goal

pub returns-in-Some-clause-result_value : goal.returns-in-Some-clause-result_value
returns-in-Some-clause-result_value c = let a = c.args in record_kept a.s.now a.found a.what a.change _ c.in-Some.is _
    c.create_replica.ensures c.create_tick.ensures

pub returns-in-Some-clause-change_value : goal.returns-in-Some-clause-change_value
returns-in-Some-clause-change_value c = let a = c.args in refl

pub returns-in-None-clause-result_value : goal.returns-in-None-clause-result_value
returns-in-None-clause-result_value c = let a = c.args in
    record_new a.s.now a.found a.what a.change c.in-None.is

pub returns-in-None-clause-change_value : goal.returns-in-None-clause-change_value
returns-in-None-clause-change_value c = let a = c.args in
    refl

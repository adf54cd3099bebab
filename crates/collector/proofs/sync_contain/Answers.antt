-- `collector::sync_contain` meets its contract: in each arm of the match, number and value are those that the definitions give for
-- the answer that `contain` ensures. Assumes nothing.
use Rattle.std.proofs.Common.{sym, ◌∙◌}
use Rattle.ticks.proofs.Told.{told_contain, contain_stays, contain_refusal}
use Rattle.collector.proofs.sync_contain.Goals as goal

pub returns-in-Ok : goal.returns-in-Ok
returns-in-Ok c =
    let t = told_contain _ _ c.in-Ok.yes (sym c.in-Ok.ensures) in
    (t.0, c.from.ensures ∙ t.1)

pub returns-in-Err : goal.returns-in-Err
returns-in-Err c =
    let t = contain_stays _ _ _ (sym c.in-Err.ensures ∙ contain_refusal c.in-Err.e) in
    (c.from-in-Err.ensures ∙ t.0, t.1)

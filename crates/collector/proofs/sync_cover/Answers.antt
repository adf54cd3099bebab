-- `collector::sync_cover` meets its contract: in each arm of the match, number and value are those that the definitions give for
-- the answer that `cover` ensures. Assumes nothing.
use Rattle.std.proofs.Common.{sym, ◌∙◌}
use Rattle.ticks.proofs.Told.{told_cover, cover_stays, cover_refusal}
use Rattle.collector.proofs.sync_cover.Goals as goal

pub returns-in-Ok : goal.returns-in-Ok
returns-in-Ok c =
    let t = told_cover _ _ c.in-Ok.yes (sym c.in-Ok.ensures) in
    (t.0, c.from.ensures ∙ t.1)

pub returns-in-Err : goal.returns-in-Err
returns-in-Err c =
    let t = cover_stays _ _ _ (sym c.in-Err.ensures ∙ cover_refusal c.in-Err.e) in
    (c.from-in-Err.ensures ∙ t.0, t.1)

-- `collector::sync_lead` meets its contract: in each arm of the match, number and value are those that the definitions give for the
-- answer that `lead` ensures. Assumes nothing.
use Rattle.std.proofs.Common.{sym, ◌∙◌}
use mir.Facts.{to_z-of_z}
use mir.Syntax.{w64}
use borrow.Author.Rules.{rules}
use Rattle.ticks.proofs.Told.{value_ahead, lead_stays, ahead_given, lead_refusal}
use Rattle.collector.proofs.sync_lead.Goals as goal

pub returns-in-Ok : goal.returns-in-Ok
returns-in-Ok c =
    let x = c.in-Ok.x in
    let v = value_ahead _ _ x (sym c.in-Ok.ensures ∙ ahead_given x) in
    (v.0, to_z-of_z {w = w64} {z = x} (record { sfits = search rules }) ∙ v.1)

pub returns-in-Err : goal.returns-in-Err
returns-in-Err c =
    let t = lead_stays _ _ _ (sym c.in-Err.ensures ∙ lead_refusal c.in-Err.e) in
    (c.from.ensures ∙ t.0, t.1)

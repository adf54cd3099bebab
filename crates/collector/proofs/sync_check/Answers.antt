-- `collector::sync_check` meets its contract: in each arm of the match, the number and the four sizes are those that the
-- definitions give for the answer that `check` ensures. Assumes nothing.
use Rattle.std.proofs.Common.{sym, ◌∙◌}
use Rattle.codec.specs.Refusal.{number}
use Rattle.layout.proofs.Told.{number_accepted, sizes_accepted, number_refused, sizes_refused, checked_counts, checked_refusal}
use Rattle.collector.proofs.sync_check.Goals as goal

pub returns-in-Ok : goal.returns-in-Ok
returns-in-Ok c =
    let n = c.in-Ok.n in
    let is = sym c.in-Ok.ensures ∙ checked_counts n in
    (number_accepted _ n.r n.v n.e n.g is, sizes_accepted _ n.r n.v n.e n.g is _)

pub returns-in-Err : goal.returns-in-Err
returns-in-Err c =
    let is = sym c.in-Err.ensures ∙ checked_refusal c.in-Err.fault in
    (c.from.ensures ∙ number_refused _ (number c.in-Err.fault) is, sizes_refused _ (number c.in-Err.fault) is _)

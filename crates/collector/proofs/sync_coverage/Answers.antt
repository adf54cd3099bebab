-- `collector::sync_coverage` meets its contract: in each arm of the match, number and values are those that the definitions give for
-- the answer.
use Rattle.std.proofs.Common.{sym, ◌∙◌}
use Rattle.codec.specs.Refusal.{number}
use Rattle.replication.specs.Coverage.{coverage_of}
use Rattle.collector.proofs.Places.{covers_these, covers_refusal}
use Rattle.collector.proofs.sync_coverage.Goals as goal

pub returns-in-Ok : goal.returns-in-Ok
unfolding coverage_of
returns-in-Ok c = covers_these _ _ _ _ _ _ _ (sym c.in-Ok.ensures)

pub returns-in-Err : goal.returns-in-Err
unfolding coverage_of
returns-in-Err c =
    let t = covers_refusal _ _ _ _ (number c.in-Err.e) (sym c.in-Err.ensures) in
    (c.from.ensures ∙ t.0, t.1)

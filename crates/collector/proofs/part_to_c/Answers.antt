-- `collector::part_to_c` meets its contract, in each of the answers.
use Rattle.std.proofs.Common.{◌≡◌, ap, ◌∙◌, sym, subst, Ok, Some}
use Rattle.codec.specs.Refusal.{number}
use Rattle.replication.specs.declared.Location.{Location}
use Rattle.replication.specs.declared.Side.{Side}
use Rattle.replication.specs.Part.{Part, part_of, located}
use Rattle.collector.proofs.Places.{part_nothing, part_store, part_batch, part_refusal}
use Rattle.collector.proofs.part_to_c.Goals as goal

pub returns-in-Err : goal.returns-in-Err
unfolding part_of
returns-in-Err c =
    let t = part_refusal _ c.args.side.now c.args.at.now c.args.length.now (number c.in-Err.e) (ap part_of c.in-Err.is) in
    (c.from.ensures ∙ t.0, t.1)

pub returns-in-None : goal.returns-in-None
unfolding part_of
returns-in-None c =
    part_nothing _ c.args.side.now c.args.at.now c.args.length.now (ap part_of (c.in-Ok.is ∙ ap Ok c.in-None.is))

pub returns-in-Store : goal.returns-in-Store
unfolding part_of located
returns-in-Store c =
    part_store _ c.args.side.now c.args.at.now c.args.length.now c.in-Some.l.at c.in-Some.l.length
    (ap part_of (c.in-Ok.is ∙ ap Ok c.in-Some.is) ∙ ap (λ (b : Side). located b c.in-Some.l.at c.in-Some.l.length) c.in-Store.is)

pub returns-in-Batch : goal.returns-in-Batch
unfolding part_of located
returns-in-Batch c =
    part_batch _ c.args.side.now c.args.at.now c.args.length.now c.in-Some.l.at c.in-Some.l.length
    (ap part_of (c.in-Ok.is ∙ ap Ok c.in-Some.is) ∙ ap (λ (b : Side). located b c.in-Some.l.at c.in-Some.l.length) c.in-Batch.is)

-- `store_write::close_store` meets its contract, by what the knowledge part has answered, whichever numbers its errors have.
use Rattle.std.proofs.Common.{◌<◌, ◌≤◌, ◌∙◌, ap, true, arith}
use Rattle.std.proofs.lemmas.Result.{err_from_is_err_and}
use borrow.Author.Tests.{le-leb, lt-leb}
use Rattle.codec.specs.declared.Refusal.TheVariants.{TooManyRecords}
use Rattle.codec.specs.Answer.{Refused}
use Rattle.codec.specs.Ids.{replica_of}
use Rattle.codec.specs.MethodEnded.{answer_under}
use Rattle.codec.proofs.Ended.{written_under, refused_under}
use Rattle.codec.specs.Refusal.{number}
use Rattle.codec.specs.Total.{clamp}
use Rattle.layout.specs.Permitted.{largest_records}
use Rattle.store_write.specs.MethodClosing.{store_around}
use Rattle.store_write.proofs.Around.{closed_stays, closed_fits, closed_other, closed_over, closed_written, put_handed, put_kept, small, large}
use Rattle.store_write.proofs.close_store.Goals as goal

pub returns-in_err-put_around-in-Ok-clause-value : goal.returns-in_err-put_around-in-Ok-clause-value
returns-in_err-put_around-in-Ok-clause-value g c =
    let a = c.args in
    let N = g.E.Numbered.number_of in
    let p = err_from_is_err_and c.from_residual.result c.from_residual.ensures.1 in
    (closed_written _ _ _ (store_around (replica_of a.own) a.s.now a.other.now a.picks.now a.e.count a.out.now) _ _ _
    (ap (answer_under N) c.in-Ok.is ∙ written_under _ _) _ _
    (put_handed N c.put_around.result _ _ _ c.in_err-put_around-in-Ok.was p.1 (g.met.E.Numbered.of_refusal _ _ p.2) ∙ c.put_around.ensures.value)
    c.put_around.ensures.out_after).0

pub returns-in_err-put_around-in-Ok-clause-out_after : goal.returns-in_err-put_around-in-Ok-clause-out_after
returns-in_err-put_around-in-Ok-clause-out_after g c =
    (closed_written true _ _ _ _ _ _ (ap (answer_under g.E.Numbered.number_of) c.in-Ok.is ∙ written_under _ _) _ _ c.put_around.ensures.value
    c.put_around.ensures.out_after).1

pub returns-in_ok-put_around-in-Ok-clause-value : goal.returns-in_ok-put_around-in-Ok-clause-value
returns-in_ok-put_around-in-Ok-clause-value g c =
    let a = c.args in
    let N = g.E.Numbered.number_of in
    (closed_written _ _ _ (store_around (replica_of a.own) a.s.now a.other.now a.picks.now a.e.count a.out.now) _ _ _
    (ap (answer_under N) c.in-Ok.is ∙ written_under _ _) _ _
    (put_kept N c.put_around.result _ c.in_ok-put_around-in-Ok.was ∙ c.put_around.ensures.value) c.put_around.ensures.out_after).0

pub returns-in_ok-put_around-in-Ok-clause-out_after : goal.returns-in_ok-put_around-in-Ok-clause-out_after
returns-in_ok-put_around-in-Ok-clause-out_after g c =
    (closed_written true _ _ _ _ _ _ (ap (answer_under g.E.Numbered.number_of) c.in-Ok.is ∙ written_under _ _) _ _ c.put_around.ensures.value
    c.put_around.ensures.out_after).1

pub returns-then-e-most-clause-value : goal.returns-then-e-most-clause-value
returns-then-e-most-clause-value g c =
    let a = c.args in
    refused_under _ _
    ∙ (closed_fits _ _ _ (store_around (replica_of a.own) a.s.now a.other.now a.picks.now a.e.count a.out.now) _ _ _
    (ap (answer_under g.E.Numbered.number_of) c.in-Err.is ∙ refused_under _ _)
    (le-leb a.e.count (clamp a.records largest_records) (omega (arith, c.clamp-most.ensures, c.if-e-most.true)))).0

pub returns-then-e-most-clause-out_after : goal.returns-then-e-most-clause-out_after
returns-then-e-most-clause-out_after g c = closed_stays true _ _ _ _ _ _ (ap (answer_under g.E.Numbered.number_of) c.in-Err.is ∙ refused_under _ _)

pub returns-then-number-from-clause-value : goal.returns-then-number-from-clause-value
returns-then-number-from-clause-value g c =
    let a = c.args in
    let N = g.E.Numbered.number_of in
    let is = g.met.E.Numbered.as_number _ _ c.into-number.ensures in
    let below : N c.in-Err.r < 14 = small _ _ _ is c.from.ensures c.if-number-from.true in
    refused_under _ _
    ∙ (closed_other _ _ _ (store_around (replica_of a.own) a.s.now a.other.now a.picks.now a.e.count a.out.now) _ _ _
    (ap (answer_under N) c.in-Err.is ∙ refused_under _ _) below).0

pub returns-then-number-from-clause-out_after : goal.returns-then-number-from-clause-out_after
returns-then-number-from-clause-out_after g c = closed_stays true _ _ _ _ _ _ (ap (answer_under g.E.Numbered.number_of) c.in-Err.is ∙ refused_under _ _)

pub returns-else-number-from-clause-value : goal.returns-else-number-from-clause-value
unfolding number
returns-else-number-from-clause-value g c =
    let a = c.args in
    let N = g.E.Numbered.number_of in
    let is = g.met.E.Numbered.as_number _ _ c.into-number.ensures in
    let above : 14 ≤ N c.in-Err.r = large _ _ _ is c.from.ensures c.if-number-from.false in
    refused_under _ _ ∙ ap Refused (g.met.E.Numbered.of_refusal TooManyRecords _ c.from-in-Err.ensures)
    ∙ (closed_over _ _ _ (store_around (replica_of a.own) a.s.now a.other.now a.picks.now a.e.count a.out.now) _ _ _
    (ap (answer_under N) c.in-Err.is ∙ refused_under _ _)
    (lt-leb a.e.count (clamp a.records largest_records) (omega (arith, c.clamp-most.ensures, c.if-e-most.false))) above).0

pub returns-else-number-from-clause-out_after : goal.returns-else-number-from-clause-out_after
returns-else-number-from-clause-out_after g c = closed_stays true _ _ _ _ _ _ (ap (answer_under g.E.Numbered.number_of) c.in-Err.is ∙ refused_under _ _)

-- `store_write::close_batch` meets its contract, by what the knowledge part has answered, whichever numbers its errors have.
use Rattle.std.proofs.Common.{◌∙◌, refl, ap, true}
use Rattle.std.proofs.lemmas.Result.{err_from_is_err_and}
use Rattle.codec.specs.Ids.{item_of}
use Rattle.codec.specs.MethodEnded.{answer_under}
use Rattle.codec.proofs.Ended.{written_under, refused_under}
use Rattle.store_write.specs.MethodClosing.{batch_around}
use Rattle.store_write.proofs.Around.{closed_written, closed_stays, closed_fits, put_handed, put_kept}
use Rattle.store_write.proofs.close_batch.Goals as goal

-- what the knowledge part has refused is handed on: there may always be a part for learned, so that no refusal of it stands
-- for another one
pub returns-in_err-n-clause-value : goal.returns-in_err-n-clause-value
returns-in_err-n-clause-value g c =
    let a = c.args in
    let p = err_from_is_err_and c.from_residual.result c.from_residual.ensures.1 in
    rw (p.1, p.2)
    (refused_under _ _
    ∙ (closed_fits _ _ _ (batch_around (item_of a.first) (item_of a.last) a.needed.now a.s.now a.picks.now a.e.count a.out.now) _ _ _
    (ap (answer_under g.E.Numbered.number_of) c.in_err-n.was ∙ refused_under _ _) refl).0)

-- and the buffer stays, as nothing is written around a knowledge
-- that was refused
pub returns-in_err-n-clause-out_after : goal.returns-in_err-n-clause-out_after
returns-in_err-n-clause-out_after g c = closed_stays true _ _ _ _ _ _ (ap (answer_under g.E.Numbered.number_of) c.in_err-n.was ∙ refused_under _ _)

pub returns-in_err-put_batch_around-clause-value : goal.returns-in_err-put_batch_around-clause-value
returns-in_err-put_batch_around-clause-value g c =
    let a = c.args in
    let N = g.E.Numbered.number_of in
    let p = err_from_is_err_and c.from_residual-in_err-put_batch_around.result c.from_residual-in_err-put_batch_around.ensures.1 in
    (closed_written _ _ _ (batch_around (item_of a.first) (item_of a.last) a.needed.now a.s.now a.picks.now a.e.count a.out.now) _ _ _
    (ap (answer_under N) c.in_ok-n.was ∙ written_under _ _) _ _
    (put_handed N c.put_batch_around.result _ _ _ c.in_err-put_batch_around.was p.1 (g.met.E.Numbered.of_refusal _ _ p.2)
    ∙ c.put_batch_around.ensures.value)
    c.put_batch_around.ensures.out_after).0

pub returns-in_err-put_batch_around-clause-out_after : goal.returns-in_err-put_batch_around-clause-out_after
returns-in_err-put_batch_around-clause-out_after g c =
    (closed_written true _ _ _ _ _ _ (ap (answer_under g.E.Numbered.number_of) c.in_ok-n.was ∙ written_under _ _) _ _
    c.put_batch_around.ensures.value c.put_batch_around.ensures.out_after).1

pub returns-clause-value : goal.returns-clause-value
returns-clause-value g c =
    let a = c.args in
    let N = g.E.Numbered.number_of in
    (closed_written _ _ _ (batch_around (item_of a.first) (item_of a.last) a.needed.now a.s.now a.picks.now a.e.count a.out.now) _ _ _
    (ap (answer_under N) c.in_ok-n.was ∙ written_under _ _) _ _
    (put_kept N c.put_batch_around.result _ c.in_ok-put_batch_around.was ∙ c.put_batch_around.ensures.value)
    c.put_batch_around.ensures.out_after).0

pub returns-clause-out_after : goal.returns-clause-out_after
returns-clause-out_after g c =
    (closed_written true _ _ _ _ _ _ (ap (answer_under g.E.Numbered.number_of) c.in_ok-n.was ∙ written_under _ _) _ _
    c.put_batch_around.ensures.value c.put_batch_around.ensures.out_after).1

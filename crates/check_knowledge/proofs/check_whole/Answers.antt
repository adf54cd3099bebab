-- `check_knowledge::check_whole` meets its contract: the parts are read in the order of the definition, and then no byte is left.
use Rattle.codec.specs.Refusal.{number as refusal}
use Rattle.layout.specs.Checked.{checked_of}
use Rattle.layout.specs.Parse.{checked}
use Rattle.check_knowledge.proofs.Answers.{told_fault, told_on, ended_there, ended_before}
use Rattle.check_knowledge.proofs.check_whole.Goals as goal

pub returns-in_err-r : goal.returns-in_err-r
unfolding checked
returns-in_err-r c =
    told_fault _ _ c.from_residual.ensures.1 _ _ c.in_err-r.ensures

pub returns-in_err-v : goal.returns-in_err-v
unfolding checked
returns-in_err-v c =
    told_on _ _ _ _ c.in_ok-r.ensures
    (told_fault _ _ c.from_residual-in_err-v.ensures.1 _ _ c.in_err-v.ensures)

pub returns-in_err-e : goal.returns-in_err-e
unfolding checked
returns-in_err-e c =
    told_on _ _ _ _ c.in_ok-r.ensures
    (told_on _ _ _ _ c.in_ok-v.ensures
    (told_fault _ _ c.from_residual-in_err-e.ensures.1 _ _ c.in_err-e.ensures))

pub returns-in_err-g : goal.returns-in_err-g
unfolding checked
returns-in_err-g c =
    told_on _ _ _ _ c.in_ok-r.ensures
    (told_on _ _ _ _ c.in_ok-v.ensures
    (told_on _ _ _ _ c.in_ok-e.ensures
    (told_fault _ _ c.from_residual-in_err-g.ensures.1 _ _ c.in_err-g.ensures)))

pub returns-in_err-end : goal.returns-in_err-end
unfolding checked
returns-in_err-end c =
    told_on _ _ _ _ c.in_ok-r.ensures
    (told_on _ _ _ _ c.in_ok-v.ensures
    (told_on _ _ _ _ c.in_ok-e.ensures
    (told_on _ _ _ _ c.in_ok-g.ensures
    (told_fault _ _ c.from_residual-in_err-end.ensures.1 _ _ c.in_err-end.ensures))))

pub returns-then-end-s : goal.returns-then-end-s
unfolding checked checked_of refusal
returns-then-end-s c =
    told_on _ _ _ _ c.in_ok-r.ensures
    (told_on _ _ _ _ c.in_ok-v.ensures
    (told_on _ _ _ _ c.in_ok-e.ensures
    (told_on _ _ _ _ c.in_ok-g.ensures
    (told_on _ _ _ _ c.in_ok-end.ensures
    (ended_before _ _ _ _ c.if-end-s.true)))))

pub returns : goal.returns
unfolding checked checked_of
returns c =
    told_on _ _ _ _ c.in_ok-r.ensures
    (told_on _ _ _ _ c.in_ok-v.ensures
    (told_on _ _ _ _ c.in_ok-e.ensures
    (told_on _ _ _ _ c.in_ok-g.ensures
    (told_on _ _ _ _ c.in_ok-end.ensures
    (ended_there _ _ _ _ c.if-end-s.false)))))

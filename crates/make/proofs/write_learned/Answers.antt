-- `make::write_learned` meets its contract: a copy where the span is all ids, and else the projection.
use Rattle.make.proofs.Learned.{learned_copied, learned_projected}
use Rattle.make.proofs.write_learned.Goals as goal

pub returns-then-is_all : goal.returns-then-is_all
returns-then-is_all c = let a = c.args in
    learned_copied a.mine.now a.w a.out.now _ c.is_all.ensures _ _ c.if-is_all.true
    c.copy_whole.ensures

pub returns : goal.returns
returns c = let a = c.args in
    learned_projected a.mine.now a.w a.out.now _ c.is_all.ensures _ c.if-is_all.false
    c.project_opened.ensures

-- `results::normalise_opened` meets its contract: a copy of what is in normal form, and else what is written from a table.
use Rattle.results.proofs.Copied.{normalised_copied, normalised_by_table}
use Rattle.results.proofs.normalise_opened.Goals as goal

pub returns-then-normal_opened : goal.returns-then-normal_opened
returns-then-normal_opened c = let a = c.args in
    normalised_copied a.limits a.s.now a.v a.out.now _ c.normal_opened.ensures _ _
    c.if-normal_opened.true c.copy_whole.ensures

pub returns : goal.returns
returns c = let a = c.args in
    normalised_by_table a.limits a.s.now a.v a.out.now _ c.normal_opened.ensures _
    c.if-normal_opened.false c.normalise_by_table.ensures

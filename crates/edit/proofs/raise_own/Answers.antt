-- `edit::raise_own` meets its contract: the own replica has no tick, or the copy is the raised knowledge.
use Rattle.results.proofs.Opened.{raise_opened}
use Rattle.edit.proofs.Changing.{raised_copy}
use Rattle.edit.proofs.raise_own.Goals as goal

pub returns-then-before-eq0 : goal.returns-then-before-eq0
returns-then-before-eq0 c = let h = c.requires in
    raise_opened c.args.limits _ _ _ _ _ _ _ c.raise_opened.ensures h.reads h.high h.low

pub returns : goal.returns
returns c = let a = c.args in
    raised_copy a.limits a.k.now a.v a.change c.requires _ c.known_tick-before.ensures c.if-before-eq0.false a.out.now _ _
    c.copy_raised.ensures

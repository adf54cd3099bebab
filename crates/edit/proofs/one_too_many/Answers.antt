-- `edit::one_too_many` meets its contract: the own replica is not in the map, so the raised knowledge has one replica more.
use mathlib.Core.Path.{refl}
use mathlib.Core.Bool.{false}
use borrow.Author.Tests.{eqb-true}
use Rattle.ticks.proofs.Equality.{clash}
use Rattle.edit.proofs.Changing.{raised_more}
use Rattle.edit.proofs.one_too_many.Goals as goal

pub returns-then-v-clamp : goal.returns-then-v-clamp
returns-then-v-clamp c = λ e. clash false e refl

pub returns : goal.returns
returns c = let a = c.args in
    λ e. raised_more a.limits a.k.now a.v a.change c.requires _ c.clamp.ensures
    c.if-v-clamp.false _ c.key_of.ensures (eqb-true _ _ e)

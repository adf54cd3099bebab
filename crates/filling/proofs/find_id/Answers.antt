-- `filling::find_id` meets its contract. The loop's invariant: the column is looked for among those that are left.
use native.Mathlib.Omega.{arith}
use Prim.Native.Nat.{◌+◌, ◌*◌}
use mathlib.Core.Path.{refl, sym, ◌∙◌}
use Rattle.codec.proofs.Ids.{replica_eq}
use Rattle.sampling.proofs.Columns.{find_starts, find_here, find_next, find_ends}
use Rattle.filling.proofs.find_id.Goals as goal

pub loop-c-init : goal.loop-c-init
loop-c-init c = find_starts _ _ _

pub returns-then-eq : goal.returns-then-eq
returns-then-eq c = (find_here _ _ _ _ _ c.loop-c.invariant c.loop-c-test.true _ _ refl refl _ (c.eq.ensures ∙ replica_eq _ _ (omega (arith, c.type_inv.ids (2 * c.loop-c.c + 1))) (omega arith)) c.if-eq.true, c.loop-c-test.true)

pub loop-c-preserved : goal.loop-c-preserved
loop-c-preserved c = find_next _ _ _ _ _ c.loop-c.invariant c.loop-c-test.true _ _ refl refl _ (c.eq.ensures ∙ replica_eq _ _ (omega (arith, c.type_inv.ids (2 * c.loop-c.c + 1))) (omega arith)) c.if-eq.false

pub returns : goal.returns
returns c = let e = find_ends _ _ _ _ _ c.loop-c.invariant (omega arith) in sym e ∙ omega arith

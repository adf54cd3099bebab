-- `store_open::key_by` meets its contract: a guess is taken where its id is the one.
use native.Mathlib.Omega.{arith}
use Rattle.leaves.proofs.Compare.{same_part}
use Rattle.store_open.proofs.Keys.{guess_is}
use Rattle.store_open.proofs.key_by.Goals as goal

pub overflow_cast-guess : goal.overflow_cast-guess
overflow_cast-guess c = omega (arith, c.type_inv.slots c.slot_of.result)

pub returns-then-is_replica : goal.returns-then-is_replica
returns-then-is_replica c = guess_is _ _ c.requires.0 _ _ (omega arith) _ (same_part _ _ _ _ c.is_replica.ensures (omega arith)) c.if-is_replica.true

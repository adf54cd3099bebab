-- `compare::order_of` meets its contract, in each of the four cases.
use Rattle.compare.proofs.Calls.{order_alike, order_behind, order_ahead, order_apart}
use Rattle.compare.proofs.order_of.Goals as goal

pub returns-in-None-None : goal.returns-in-None-None
returns-in-None-None c = order_alike _ _ c.in-None-None.is-0 c.in-None-None.is-1

pub returns-in-None-Some : goal.returns-in-None-Some
returns-in-None-Some c = order_ahead _ _ _ c.in-None-Some.is-0 c.in-None-Some.is-1

pub returns-in-Some-None : goal.returns-in-Some-None
returns-in-Some-None c = order_behind _ _ _ c.in-Some-None.is-0 c.in-Some-None.is-1

pub returns-in-Some-Some : goal.returns-in-Some-Some
returns-in-Some-Some c = order_apart _ _ _ _ c.in-Some-Some.is-0 c.in-Some-Some.is-1

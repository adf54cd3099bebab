-- `compare::compare` meets its contract: document 01's rules are those of its two numbers.
use Rattle.compare.proofs.Calls.{ends_basic}
use Rattle.compare.proofs.compare.Goals as goal

pub returns-clause-value : goal.returns-clause-value
returns-clause-value c = let e = ends_basic _ _ _ _ _ _ _ c.compare_within.ensures in
    e.is

pub returns-clause-out_after : goal.returns-clause-out_after
returns-clause-out_after c = let e = ends_basic _ _ _ _ _ _ _ c.compare_within.ensures in
    e.buffer

pub returns-clause-order_after : goal.returns-clause-order_after
returns-clause-order_after c = let e = ends_basic _ _ _ _ _ _ _ c.compare_within.ensures in
    e.order

-- `lookup::step_over` meets its contract. The loop's invariant: the place after all vectors is the place after those that
-- are left.
use Rattle.std.proofs.Common.{◌≡◌, ◌+◌, ◌-◌, length}
use Rattle.lookup.specs.Method.{stepped}
use Rattle.lookup.proofs.step_over.Given as goal

abbrev pub invariant-loop : goal.invariant-loop
invariant-loop l = (stepped l.s l.n l.start ≡ stepped l.s (l.n - l.counter) l.at) × (l.end + 8 ≡ length l.s)

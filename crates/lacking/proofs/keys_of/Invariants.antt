-- `lacking::keys_of` meets its contract. The loop's invariant: the keys of the ids up to here.
use Rattle.lacking.specs.Method.{Keyed}
use Rattle.lacking.proofs.keys_of.Given as goal

abbrev pub invariant-loop-k : goal.invariant-loop-k
invariant-loop-k l = Keyed l.s l.r l.t l.k l.keys

-- `raising::raise_row` meets its contract. The loop's invariant: the whole row is what the elements that are left raise.
use Rattle.lookup.specs.Method.{elements_here}
use Rattle.sampling.specs.MethodCells.{raised_by}
use Rattle.sampling.proofs.Cells.{Rest}
use Rattle.raising.proofs.raise_row.Given as goal

abbrev pub invariant-loop-i : goal.invariant-loop-i
invariant-loop-i l = Rest (raised_by l.keys (elements_here l.s l.vector) l.initial.t l.k) l.s l.vector l.n l.i l.keys l.t l.k

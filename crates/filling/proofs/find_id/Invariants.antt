-- `filling::find_id` meets its contract. The loop's invariant: the column is looked for among those that are left.
use Prim.Native.Nat.{◌-◌}
use mathlib.Core.Path.{◌≡◌}
use Rattle.codec.specs.Words.{words2}
use Rattle.sampling.specs.MethodColumns.{find_from, column_of}
use Rattle.filling.proofs.find_id.Given as goal

abbrev pub invariant-loop-c : goal.invariant-loop-c
invariant-loop-c l = column_of l.ids l.n (words2 l.p.high l.p.low) ≡ find_from l.ids (words2 l.p.high l.p.low) (l.n - l.c) l.c

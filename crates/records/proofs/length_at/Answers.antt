-- `records::length_at` meets its contract: the kind has a length, and so many bytes are left.
use native.Mathlib.Omega.{arith}
use Rattle.std.proofs.Common.{rules}
use Rattle.records.proofs.Fields.{length-past, length_cut, length-there}
use Rattle.records.proofs.length_at.Goals as goal

pub returns-in_default : goal.returns-in_default
returns-in_default c = length-past _ _ (search rules)

pub returns-then-s-at : goal.returns-then-s-at
returns-then-s-at c = length_cut _ _ _ _ (search rules) c.record_length-n.ensures (search rules) c.if-s-at.true

pub returns : goal.returns
returns c = length-there _ _ _ _ (search rules) c.record_length-n.ensures (search rules) (omega arith)

-- `records::shaped` meets its contract: bytes of another length hold no such table, and then the records are looked at.
use native.Mathlib.Omega.{arith}
use Rattle.records.proofs.Lengths.{table_past, table_other}
use Rattle.records.proofs.shaped.Goals as goal

pub returns-then-s-at : goal.returns-then-s-at
returns-then-s-at c = table_past _ _ _ c.if-s-at.true

pub returns-then-s-at-2 : goal.returns-then-s-at-2
returns-then-s-at-2 c = table_other _ _ _ (omega arith) c.if-s-at-2.true

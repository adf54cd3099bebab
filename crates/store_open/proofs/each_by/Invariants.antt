-- `store_open::each_by` meets its contract. The loop's invariant: the answer is the one for the records that are left, and the cursor has come
-- to the last record's item.
use Prim.Native.Nat.{◌-◌}
use Rattle.layout.specs.Decode.{decode}
use Rattle.records_versions.proofs.Passing.{Passes}
use Rattle.store_open.specs.MethodEach.{asked}
use Rattle.store_open.proofs.each_by.Given as goal

abbrev pub invariant-loop-i : goal.invariant-loop-i
invariant-loop-i l = Passes (asked l.what (decode l.k)) l.s l.k l.r l.n l.at (l.n - l._i) l.p l.c

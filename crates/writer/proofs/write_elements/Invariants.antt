-- `writer::write_elements` meets its contract. The loop's invariant: the elements in the columns from here on are left to write,
-- and the place is by as many elements before the end.
use Rattle.std.proofs.Common.{◌≡◌, ◌+◌, ◌-◌, ◌*◌, ◌≤◌, length}
use Rattle.tables.specs.MethodWords.{cell, numbers_at}
use Rattle.tables.specs.MethodPlan.{elements_from}
use Rattle.tables.specs.MethodPieces.{element_pieces}
use Rattle.writer.specs.Method.{Left, listed}
use Rattle.writer.proofs.write_elements.Given as goal

abbrev pub invariant-loop-key : goal.invariant-loop-key
invariant-loop-key l = record {
  left :
      Left l.initial.out l.at (element_pieces (cell l.t l.k) 0 (listed l.cols)) l.out l.p
      (element_pieces (cell l.t l.k) l.key (numbers_at l.cols.list.now l.key (l.cols.count - l.key)));
  place :
      l.p + 12 * length (elements_from (cell l.t l.k) l.key (numbers_at l.cols.list.now l.key (l.cols.count - l.key)))
      ≡ l.at + 12 * length (elements_from (cell l.t l.k) 0 (listed l.cols));
  most : l.p ≤ l.at + 12 * l.key;
  room : length l.out ≡ length l.initial.out;
}

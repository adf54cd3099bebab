-- `writer::write_ranges` meets its contract. The loop's invariant: the ranges of the rows from here on are left to write.
use Rattle.std.proofs.Common.{◌≡◌, ◌+◌, ◌-◌, ◌*◌, ◌≤◌, length}
use Rattle.tables.specs.MethodWords.{numbers_at}
use Rattle.tables.specs.MethodPieces.{ranges_pieces}
use Rattle.writer.specs.Method.{Left, listed}
use Rattle.writer.proofs.write_ranges.Given as goal

abbrev pub invariant-loop-i : goal.invariant-loop-i
invariant-loop-i l = record {
  left :
      Left l.initial.out l.at (ranges_pieces l.bounds 1 (l.numbers.count + 1) (listed l.numbers)) l.out l.p
      (ranges_pieces l.bounds (l.i + 1) l.before (numbers_at l.numbers.list.now l.i (l.numbers.count - l.i)));
  most : l.p ≤ l.at + 28 * l.i;
  room : length l.out ≡ length l.initial.out;
}

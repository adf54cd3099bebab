-- `writer::write_vectors` meets its contract. The loop's invariant: the vectors of the rows from here on are left to write.
use Rattle.std.proofs.Common.{◌≡◌, ◌-◌, length}
use Rattle.tables.specs.MethodWords.{cell, numbers_at}
use Rattle.tables.specs.MethodPieces.{vectors_pieces}
use Rattle.writer.specs.Method.{Left, listed}
use Rattle.writer.proofs.write_vectors.Given as goal

abbrev pub invariant-loop-i : goal.invariant-loop-i
invariant-loop-i l = record {
  left :
      Left l.initial.out l.at (vectors_pieces (cell l.t) (listed l.cols) (listed l.firsts)) l.out l.p
      (vectors_pieces (cell l.t) (listed l.cols) (numbers_at l.firsts.list.now l.i (l.firsts.count - l.i)));
  room : length l.out ≡ length l.initial.out;
}

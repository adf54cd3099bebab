-- `writer::write_ids` meets its contract. The loop's invariant: the ids from here on are left to write.
use Rattle.std.proofs.Common.{◌≡◌, ◌+◌, ◌-◌, ◌*◌, length}
use Rattle.tables.specs.MethodWords.{numbers_at}
use Rattle.tables.specs.MethodPieces.{id_pieces}
use Rattle.writer.specs.Method.{Left, listed}
use Rattle.writer.proofs.write_ids.Given as goal

abbrev pub invariant-loop-i : goal.invariant-loop-i
invariant-loop-i l = record {
  left : Left l.initial.out l.at (id_pieces l.ids (listed l.cols)) l.out (l.at + 16 * l.i) (id_pieces l.ids (numbers_at l.cols.list.now l.i (l.cols.count - l.i)));
  room : length l.out ≡ length l.initial.out;
}

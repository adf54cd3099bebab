-- `writer::write_elements` meets its contract. The loop's invariant: the elements in the columns from here on are left to write,
-- and the place is by as many elements before the end.
use Rattle.std.proofs.Common.{arith}
use Rattle.tables.specs.MethodWords.{cell}
use Rattle.writer.proofs.Laying.{elements_more, elements_end, elements_of_most, places_more, places_end}
use Rattle.writer.proofs.write_elements.Goals as goal

pub loop-key-preserved : goal.loop-key-preserved
loop-key-preserved c = let i = c.loop-key.invariant in
    let l = c.loop-key-test.true in
    let w = c.write_cell-p.ensures in
    record {
      left = elements_more _ _ _ _ _ _ _ _ _ i.left _ _ _ l c.at.ensures w.0;
      place = places_more _ _ _ _ _ _ i.place _ _ l c.at.ensures w.1;
      most = omega (arith, w.1, elements_of_most (cell c.args.t.now c.args.k c.at.result));
      room = omega arith;
    }

pub returns : goal.returns
returns c = (
  elements_end _ _ _ _ _ _ _ _ _ c.loop-key.invariant.left (omega arith),
  places_end _ _ _ _ _ _ c.loop-key.invariant.place (omega arith),
)

-- `writer::write_ranges` meets its contract. The loop's invariant: the ranges of the rows from here on are left to write.
use Rattle.std.proofs.Common.{arith}
use Rattle.writer.proofs.Laying.{ranges_more, ranges_end}
use Rattle.writer.proofs.write_ranges.Goals as goal

pub loop-i-preserved : goal.loop-i-preserved
loop-i-preserved c = record {
  left =
      ranges_more _ _ _ _ _ _ _ _ _ _ _ c.loop-i.invariant.left _ _ _ c.loop-i-test.true c.at-x.ensures c.write_row-p.ensures.0;
  most = omega arith;
  room = omega arith;
}

pub returns : goal.returns
returns c = ranges_end _ _ _ _ _ _ _ _ _ _ _ c.loop-i.invariant.left (omega arith)

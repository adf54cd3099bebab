-- `writer::write_vectors` meets its contract. The loop's invariant: the vectors of the rows from here on are left to write.
use Rattle.std.proofs.Common.{arith}
use Rattle.writer.proofs.Laying.{vectors_more, vectors_end}
use Rattle.writer.proofs.write_vectors.Goals as goal

pub loop-i-preserved : goal.loop-i-preserved
loop-i-preserved c = record {
  left = vectors_more _ _ _ _ _ _ _ _ _ _ c.loop-i.invariant.left _ _ _ c.loop-i-test.true c.at.ensures c.write_vector-p.ensures;
  room = omega arith;
}

pub returns : goal.returns
returns c = vectors_end _ _ _ _ _ _ _ _ _ _ c.loop-i.invariant.left (omega arith)

-- `writer::write_ids` meets its contract. The loop's invariant: the ids from here on are left to write.
use Rattle.std.proofs.Common.{◌≡◌, ◌+◌, ◌*◌, arith}
use Rattle.writer.proofs.Laying.{ids_more, ids_end}
use Rattle.writer.proofs.write_ids.Goals as goal

pub loop-i-preserved : goal.loop-i-preserved
loop-i-preserved c = record {
  left =
      let e : c.args.at + 16 * (c.loop-i.i + 1) ≡ c.args.at + 16 * c.loop-i.i + 16 = omega arith in
      rw e (ids_more _ _ _ _ _ _ _ _ _ c.loop-i.invariant.left _ _ _ c.loop-i-test.true c.at.ensures c.write_id.ensures);
  room = omega arith;
}

pub returns : goal.returns
returns c =
    let e : c.loop-i.i ≡ c.args.cols.count = omega arith in
    rw e at (ids_end _ _ _ _ _ _ _ _ _ c.loop-i.invariant.left (omega arith))

-- `codec::big_endian` meets its contract: one byte more is one more digit.
use Rattle.std.proofs.Common.{◌<◌, sym, arith}
use Rattle.codec.proofs.Numbers.{be_zero}
use Rattle.codec.proofs.Reading.{be_more, more_below, more_fits}
use Rattle.codec.proofs.big_endian.Goals as goal

pub loop-b-init : goal.loop-b-init
loop-b-init c = (sym (be_zero _ 0), omega arith)

pub overflow_mul-x : goal.overflow_mul-x
overflow_mul-x c = let l = more_fits _ _ 0 c.loop-b.invariant.1 (omega arith) (omega arith) in omega arith

pub loop-b-preserved : goal.loop-b-preserved
loop-b-preserved c =
    let b : c.from.result < 256 = omega (arith, c.from.ensures, c.type_inv.w c.loop-b.b-index) in (
      omega (arith, be_more c.args.w.now c.loop-b.b-index),
      more_below _ _ _ c.loop-b.invariant.1 b,
    )

-- `codec::four` meets its contract: the sum is the number that the four bytes make.
use Rattle.std.proofs.Common.{arith}
use Rattle.codec.proofs.Reading.{be_four}
use Rattle.codec.proofs.four.Goals as goal

pub returns : goal.returns
returns c = simp be_four (omega arith)

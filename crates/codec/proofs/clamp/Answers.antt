-- `codec::clamp` meets its contract, case by case of its definition.
use Rattle.codec.specs.Total.{clamp}
use Rattle.std.proofs.Common.{rules, arith}
use Rattle.codec.proofs.Total.{clamp_low}
use Rattle.codec.proofs.clamp.Goals as goal

pub returns-then-n-lt1 : goal.returns-then-n-lt1
returns-then-n-lt1 c = clamp_low _ _ (omega arith)

pub returns-else-n-lt1 : goal.returns-else-n-lt1
unfolding clamp
returns-else-n-lt1 c = search rules

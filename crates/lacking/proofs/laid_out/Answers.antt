-- `lacking::laid_out` meets its contract: the tests one after the other.
use Rattle.lacking.proofs.Walking.{laid_many, laid_ids, laid_before, laid_ranges}
use mathlib.Core.Path.{refl}
use native.Mathlib.Omega.{arith}
use Rattle.lacking.proofs.laid_out.Goals as goal

pub returns-then-v-gt-LARGEST_REPLICAS : goal.returns-then-v-gt-LARGEST_REPLICAS
returns-then-v-gt-LARGEST_REPLICAS c = laid_many _ _ _ (omega arith)

pub returns-then-s-v : goal.returns-then-s-v
returns-then-s-v c = laid_ids _ _ _ (omega arith) (omega arith)

pub returns-then-s-c : goal.returns-then-s-c
returns-then-s-c c = laid_before _ _ _ (omega arith) (omega arith) (omega arith)

pub returns : goal.returns
returns c = laid_ranges _ _ _ (omega arith) (omega arith) (omega arith) _ refl

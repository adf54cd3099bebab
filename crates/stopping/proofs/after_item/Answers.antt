-- `stopping::after_item` meets its contract: the item after, by the words that are full.
use native.Mathlib.Omega.{arith}
use Rattle.sampling.proofs.Span.{after_one_low, after_one_middle, after_one_high, high_room}
use Rattle.stopping.proofs.after_item.Goals as goal

pub returns-then-b-lt-TOP : goal.returns-then-b-lt-TOP
returns-then-b-lt-TOP c = after_one_low _ _ _ (omega arith)

pub returns-then-b-lt-TOP-2 : goal.returns-then-b-lt-TOP-2
returns-then-b-lt-TOP-2 c = after_one_middle _ _ _ (omega arith) (omega arith)

pub overflow_add-result-2 : goal.overflow_add-result-2
overflow_add-result-2 c = omega (arith, high_room _ _ _ c.requires (omega arith) (omega arith))

pub returns : goal.returns
returns c = after_one_high _ _ _ (omega arith) (omega arith)

-- `results_copied::copy_whole` meets its contract: 14, or all bytes at the front.
use Rattle.codec.specs.Answer.{answer_of}
use Rattle.codec.specs.Refusal.{number}
use Rattle.results_copied.proofs.Whole.{whole_short, whole_copied}
use Rattle.results_copied.proofs.copy_whole.Goals as goal

pub returns-then-out-n : goal.returns-then-out-n
unfolding answer_of number
returns-then-out-n c = whole_short _ _ c.if-out-n.true

pub returns : goal.returns
unfolding answer_of
returns c = whole_copied _ _ _ c.if-out-n.false c.copy_part.ensures

-- `results_copied::copy_raised` meets its contract: 14, or the copy with the tick written over in each vector.
use mathlib.Core.Path.{refl}
use Rattle.codec.specs.Answer.{answer_of}
use Rattle.codec.specs.Refusal.{number}
use Rattle.results_copied.proofs.Loops.{copied_short, copied_raised}
use Rattle.results_copied.proofs.copy_raised.Goals as goal

pub returns-then-out-n : goal.returns-then-out-n
unfolding answer_of number
returns-then-out-n c = copied_short _ _ _ _ _ c.if-out-n.true

pub returns : goal.returns
unfolding answer_of
returns c = copied_raised _ _ c.args.p _ _ _ _ _ _ _ c.if-out-n.false
    c.copy_part.ensures c.key_of-key.ensures refl c.read-vectors.ensures.value c.write_ticks.ensures

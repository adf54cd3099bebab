-- `check_fields::seen_key` meets its contract.
use Rattle.std.proofs.Common.{◌∙◌, arith}
use Rattle.codec.proofs.Total.{read_there}
use Rattle.check_fields.proofs.Among.{among_meets, among_misses, among_end}
use Rattle.check_fields.proofs.seen_key.Goals as goal

pub returns-then-read-key : goal.returns-then-read-key
returns-then-read-key c =
    among_meets _ _ _ _ _ _ _ _ c.loop-i.invariant (omega arith) _ (c.read.ensures.value ∙ read_there _ 4 _ (omega arith)) c.if-read-key.true

pub loop-i-preserved : goal.loop-i-preserved
loop-i-preserved c =
    among_misses _ _ _ _ _ _ _ _ c.loop-i.invariant (omega arith) _ (c.read.ensures.value ∙ read_there _ 4 _ (omega arith))
    c.if-read-key.false _ (omega arith)

pub returns : goal.returns
returns c = among_end _ _ _ _ _ _ _ _ c.loop-i.invariant (omega arith)

-- `collector::answer_to_c` meets its contract, in both cases of the answer.
use Rattle.std.proofs.Common.{sym, ap, ◌∙◌}
use Rattle.codec.specs.Answer.{answer_of}
use Rattle.collector.proofs.Endings.{answer_written, answer_refused}
use Rattle.collector.proofs.answer_to_c.Goals as goal

pub returns-in-Ok-clause-number : goal.returns-in-Ok-clause-number
unfolding answer_of
returns-in-Ok-clause-number c = (answer_written _ c.in-Ok.n c.args.written.now (ap answer_of c.in-Ok.is)).0

pub returns-in-Ok-clause-count : goal.returns-in-Ok-clause-count
unfolding answer_of
returns-in-Ok-clause-count c = (answer_written _ c.in-Ok.n c.args.written.now (ap answer_of c.in-Ok.is)).1

pub returns-in-Err-clause-number : goal.returns-in-Err-clause-number
unfolding answer_of
returns-in-Err-clause-number c = c.from.ensures ∙ (answer_refused _ _ c.args.written.now (ap answer_of c.in-Err.is)).0

pub returns-in-Err-clause-count : goal.returns-in-Err-clause-count
unfolding answer_of
returns-in-Err-clause-count c = (answer_refused _ _ c.args.written.now (ap answer_of c.in-Err.is)).1

-- `edit::new` meets its contract: 17 for an id of another length, 14 for a short buffer, else header and empty knowledge.
use Rattle.codec.specs.Answer.{answer_of}
use Rattle.codec.specs.Refusal.{number}
use Rattle.edit.proofs.NewStore.{new_wrong, new_short, new_written}
use Rattle.edit.proofs.new.Goals as goal

pub returns-then-own-ne16-clause-value : goal.returns-then-own-ne16-clause-value
unfolding answer_of number
returns-then-own-ne16-clause-value c = (new_wrong _ _ c.if-own-ne16.true).0

pub returns-then-own-ne16-clause-out_after : goal.returns-then-own-ne16-clause-out_after
unfolding answer_of number
returns-then-own-ne16-clause-out_after c = (new_wrong _ _ c.if-own-ne16.true).1

pub returns-then-out-clause-value : goal.returns-then-out-clause-value
unfolding answer_of number
returns-then-out-clause-value c = (new_short _ _ c.if-own-ne16.false c.if-out.true).0

pub returns-then-out-clause-out_after : goal.returns-then-out-clause-out_after
unfolding answer_of number
returns-then-out-clause-out_after c = (new_short _ _ c.if-own-ne16.false c.if-out.true).1

pub returns-clause-value : goal.returns-clause-value
unfolding answer_of number
returns-clause-value c = (new_written _ _ c.if-own-ne16.false _ _ _ c.if-out.false c.from_bytes-p.ensures.value c.write_store_header.ensures
    c.write_empty.ensures).0

pub returns-clause-out_after : goal.returns-clause-out_after
unfolding answer_of number
returns-clause-out_after c = (new_written _ _ c.if-own-ne16.false _ _ _ c.if-out.false c.from_bytes-p.ensures.value c.write_store_header.ensures
    c.write_empty.ensures).1

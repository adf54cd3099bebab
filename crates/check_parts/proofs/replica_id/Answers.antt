-- `check_parts::replica_id` meets its contract: each return has the test that the definition makes there.
use Rattle.std.proofs.Common.{arith}
use Rattle.codec.specs.Refusal.{number as refusal}
use Rattle.layout.specs.Got.{got_of}
use Rattle.check_parts.proofs.Ids.{replica_here, id_short, id_seen, id_new}
use Rattle.check_parts.proofs.replica_id.Goals as goal

pub returns-then-s-at-lt16 : goal.returns-then-s-at-lt16
unfolding got_of refusal
returns-then-s-at-lt16 c = id_short _ _ _ _ c.requires.1 c.if-s-at-lt16.true

pub returns-then-seen_id : goal.returns-then-seen_id
unfolding got_of refusal
returns-then-seen_id c =
    id_seen _ _ _ _ _ _ c.requires.1 c.if-s-at-lt16.false (replica_here _ _ _ (omega arith) c.from_bytes.ensures.value)
    c.seen_id.ensures c.if-seen_id.true

pub returns : goal.returns
unfolding got_of
returns c =
    id_new _ _ _ _ _ _ c.requires.1 c.if-s-at-lt16.false (replica_here _ _ _ (omega arith) c.from_bytes.ensures.value)
    c.seen_id.ensures c.if-seen_id.false

-- `store_headers::write_batch_header` meets its contract: without room nothing is written; with it, the fields one behind the other.
use Rattle.store_headers.proofs.Headers.{batch_head_short, batch_head_wrote}
use Rattle.store_headers.proofs.write_batch_header.Goals as goal

pub returns-then-out-lt-BATCH : goal.returns-then-out-lt-BATCH
returns-then-out-lt-BATCH c = batch_head_short _ _ _ _ _ _ c.if-out-lt-BATCH.true

pub returns : goal.returns
returns c = batch_head_wrote _ _ _ _ _ _ _ _ _ _ c.if-out-lt-BATCH.false c.write.ensures c.write_span.ensures
    c.write_sizes.ensures c.write-2.ensures

-- `store_headers::write_store_header` meets its contract: without room nothing is written; with it, the fields one behind the other.
use Rattle.store_headers.proofs.Headers.{store_head_short, store_head_wrote}
use Rattle.store_headers.proofs.write_store_header.Goals as goal

pub returns-then-out-lt-STORE : goal.returns-then-out-lt-STORE
returns-then-out-lt-STORE c = store_head_short _ _ _ _ c.if-out-lt-STORE.true

pub returns : goal.returns
returns c = store_head_wrote _ _ _ _ _ _ _ c.if-out-lt-STORE.false c.write.ensures c.write_replica.ensures
    c.write_sizes.ensures

-- `edit::put_changed` meets its contract: the array that was written is the new record's bytes.
use lib.ListN.{replicate}
use Rattle.replication.proofs.Bytes.Record.{rec_size}
use Rattle.codec.proofs.Writing.{zeros-length}
use Rattle.edit.proofs.Changing.{put_becomes}
use Rattle.edit.proofs.put_changed.Goals as goal

pub returns : goal.returns
returns c = let a = c.args in
    λ st b. c.write_changed.ensures st
    (put_becomes a.store.now a.k.now a.new (replicate rec_size 0) _ st (zeros-length rec_size) c.write.ensures b)

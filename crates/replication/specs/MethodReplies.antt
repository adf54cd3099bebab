-- What is left of a call's table of refusals once its inputs are accepted: the code decides in these steps. There is nothing to believe here:
-- the laws say that each is the call's reply.
use Rattle.std.specs.Prelude.{ℕ, [], ◌∷◌}
use Rattle.codec.specs.Reply.{Reply, gives, first_fault, refuses}
use Rattle.codec.specs.Parsed.{line}
use Rattle.layout.specs.Knowledge.{Limits}
use Rattle.ticks.specs.Calls.{result_lines}
use Rattle.replication.specs.Record.{Content}
use Rattle.replication.specs.Formats.{Store, encode_store}
use Rattle.replication.specs.BatchFormat.{Batch, encode_batch}
use Rattle.replication.specs.Operate.{changed}
use Rattle.replication.specs.Calls.{then, exhausted, store_lines, too_many_records}

-- of a call that writes a store: 11, 12 and 13, and else its bytes
unfoldable pub store_reply : Limits → Store → Reply
store_reply L st = first_fault refuses (store_lines L st) (gives (encode_store st))

-- of an edit or a delete: 20 first
unfoldable pub change_reply : Limits → Store → Content → ℕ → Reply
change_reply L st content item =
    first_fault refuses (line 20 (exhausted st) ∷ store_lines L (changed content item st)) (gives (encode_store (changed content item st)))

-- of a make: 11 and 12 of needed, then of learned, then 13
unfoldable pub batch_reply : Limits → Batch → Reply
batch_reply L b =
    first_fault refuses
    (then (result_lines L b.needed) (then (result_lines L b.learned) (line 13 (too_many_records L b.records) ∷ [])))
    (gives (encode_batch b))

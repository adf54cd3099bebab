-- Batches as values and as bytes. Document 01, "Records, store, batch".
use Rattle.std.specs.Prelude.{ℕ, List, [], ◌∷◌, ◌++◌, length}
use Rattle.layout.specs.Knowledge.{Field, field, put_fields, Knowledge, encode}
use Rattle.replication.specs.Record.{Rec}
use Rattle.replication.specs.Formats.{put_recs}

pub record Batch : Type 0 where
  pub first : ℕ
  pub last : ℕ
  pub needed : Knowledge
  pub learned : Knowledge
  pub records : List Rec

-- "Kind 4 batch, body 60: first 24, last 24, needed length 4, learned length 4, record count 4; then needed knowledge, learned
-- knowledge, records."
unfoldable pub batch_fields : Batch → List Field
batch_fields b =
    field 1 4 ∷
    field 24 b.first ∷
    field 24 b.last ∷
    field 4 (length (encode b.needed)) ∷
    field 4 (length (encode b.learned)) ∷
    field 4 (length b.records) ∷
    []

unfoldable pub encode_batch : Batch → List ℕ
encode_batch b = put_fields (batch_fields b) (encode b.needed ++ (encode b.learned ++ put_recs b.records []))

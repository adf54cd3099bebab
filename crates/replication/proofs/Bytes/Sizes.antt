-- How long records, stores and batches are in bytes: a record has as many bytes as its kind says, and a store or batch is the fields in
-- front, then its knowledges, then its records.
use Prim.Native.Nat.{◌+◌, ◌*◌}
use mathlib.Core.Path.{◌≡◌, refl}
use mathlib.Core.List.{List, [], ◌∷◌, ◌++◌}
use native.Mathlib.Nat.{mul-suc}
use native.Mathlib.Omega.{arith}
use lib.ListN.{length, length-append}
use Rattle.layout.specs.Knowledge.{encode}
use Rattle.layout.proofs.Runs.{run_length}
use Rattle.replication.specs.Record.{Rec}
use Rattle.replication.specs.Formats.{put_recs, Store, store_fields, encode_store}
use Rattle.replication.specs.BatchFormat.{Batch, batch_fields, encode_batch}
use Rattle.replication.specs.OpenStore.{store_knowledge}
use Rattle.replication.specs.OpenBatch.{batch_needed}
use Rattle.replication.proofs.Bytes.Record.{rec_size, rec-length}

pub recs_size : (rs : List Rec) → length (put_recs rs []) ≡ rec_size * length rs
unfolding put_recs
recs_size [] = refl
recs_size (r ∷ rs) = omega (arith, rec-length r (put_recs rs []), recs_size rs, mul-suc rec_size (length rs))

pub store_size : (st : Store) → length (encode_store st) ≡ store_knowledge + length (encode st.knowledge) + rec_size * length st.records
unfolding encode_store store_fields
store_size st =
    let k = encode st.knowledge in
    omega (
      arith,
      run_length (store_fields st) (k ++ put_recs st.records []),
      length-append k (put_recs st.records []),
      recs_size st.records,
    )

pub batch_size : (b : Batch) →
    length (encode_batch b)
    ≡ batch_needed + length (encode b.needed) + length (encode b.learned) + rec_size * length b.records
unfolding encode_batch batch_fields
batch_size b =
    let n = encode b.needed in
    let l = encode b.learned in
    let t = put_recs b.records [] in
    omega (
      arith,
      run_length (batch_fields b) (n ++ (l ++ t)),
      length-append n (l ++ t),
      length-append l t,
      recs_size b.records,
    )

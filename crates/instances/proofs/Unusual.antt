-- Unusual stores and batches that are valid, because document 01's list asks nothing more: an own id of zeros that is not in the map;
-- replica ids of zeros and of 16 bytes 255; item ids of zeros and of 24 bytes 255; ticks at their limit; two records with one change version; a
-- create version of another replica at the change tick; a live tag of zeros; a span of one id; needed that knows more than
-- learned, inside the span and outside; no records with much learned, and with nothing. Each is closed: the definitions are computed.
use Prim.Native.Nat.{ℕ}
use mathlib.Core.Path.{◌≡◌, refl}
use mathlib.Core.Bool.{Bool, true, false}
use mathlib.Core.List.{[], ◌∷◌}
use Rattle.codec.specs.Number.{be_from, be_at, put}
use Rattle.codec.specs.Parsed.{accepted}
use Rattle.layout.specs.Knowledge.{Element, Range, Knowledge, largest_tick, base}
use Rattle.layout.specs.Knowledge.{opening, before_vectors, before_elements, before_ranges, closing, put_fields, put_ids, put_elements, put_vectors, put_ranges, encode, bounds}
use Rattle.layout.specs.Decode.{ids_at, elements_at, vectors_at, after_vectors, ranges_at, decode}
use Rattle.layout.specs.Parse.{replica_map, vector_count, vector_list, range_list, ended, checked, told, parse}
use Rattle.layout.specs.Read.{repeat, number, same, fields, limit, empty, among, judged, replica_id, tick, element, first_vector, vector, index, range}
use Rattle.ticks.specs.Meaning.{highest, place_by, tick_at, index_from, vector_found, vector_at, known, contains, empty_knowledge}
use Rattle.ticks.specs.Operations.{known_inside, project, alike_from, own_alike}
use Rattle.ticks.specs.Table.{get, at, eq_list, eq_pair, insert, sorted, in_span, within, sample, build, canonical, row_ids, step_ids, used_ids}
use Rattle.ticks.specs.Written.{vector_from, vector_steps_from, vector_steps, eq_element, grown, vectors_of, ranges_of, indexed, knowledge_of, normal_of, eq_range, eq_knowledge, is_normal}
use Rattle.replication.specs.Record.{Rec}
use Rattle.replication.specs.Formats.{Store, kind_of, rec_fields, put_rec, put_recs, store_fields, encode_store}
use Rattle.replication.specs.BatchFormat.{Batch, batch_fields, encode_batch}
use Rattle.replication.specs.Reading.{rec_length, behind, content_at, rec_at, whole, front, recs_at, tag_kept, valid_rec, valid_recs}
use Rattle.replication.specs.OpenStore.{store_with, store_from, decode_store, versions_in, valid_store, if_valid, open_store}
use Rattle.replication.specs.OpenBatch.{batch_with, batch_after, batch_from, decode_batch, lacks_change, carried, valid_batch, if_valid_batch, open_batch}

abbrev el : ℕ → ℕ → Element
el key tick = record { key = record { 0 = key }; tick = tick }

abbrev ran : ℕ → ℕ → Range
ran bound index = record { bound = bound; index = record { 0 = index } }

-- 16 and 24 bytes 255
abbrev top_replica : ℕ
top_replica = 340282366920938463463374607431768211455

abbrev top_item : ℕ
top_item = 6277101735386680763835789423207666416102355444464034512895

abbrev rec : ℕ → ℕ → ℕ → ℕ → ℕ → Bool → ℕ → Rec
rec item p t q u deleted tag =
    record { item = item; change_replica = p; change_tick = t; create_replica = q; create_tick = u; content = record { deleted = deleted; tag = tag } }

-- replica 5 and that of 255s, each at the largest tick everywhere
abbrev most_known : Knowledge
most_known =
    record {
      replicas = 5 ∷ top_replica ∷ [];
      vectors = [] ∷ (el 0 largest_tick ∷ el 1 largest_tick ∷ []) ∷ [];
      ranges = ran 0 1 ∷ [];
    }

-- the own id is that of zeros, of which nothing is known
unfoldable pub unusual_store : Store
unusual_store =
    record {
      own = 0;
      knowledge = most_known;
      -- a live tag of zeros; the same change version again, and a create version of another replica at its tick; a tombstone
      records =
          rec 0 5 largest_tick 5 1 false 0 ∷
          rec 7 5 largest_tick top_replica largest_tick false top_replica ∷
          rec top_item top_replica 1 5 1 true 0 ∷ [];
    }

-- tick t of replica 5 for item 7 alone
abbrev seven_only : ℕ → Knowledge
seven_only t = record { replicas = 5 ∷ []; vectors = [] ∷ (el 0 t ∷ []) ∷ []; ranges = ran 0 0 ∷ ran 7 1 ∷ ran 8 0 ∷ [] }

-- a span of one id, for a knowledge that knows nothing of its item and all of the others
unfoldable pub unusual_batch : Batch
unusual_batch =
    record {
      first = 7;
      last = 7;
      needed =
          record {
            replicas = 0 ∷ 5 ∷ [];
            vectors = [] ∷ (el 0 9 ∷ el 1 largest_tick ∷ []) ∷ (el 0 9 ∷ []) ∷ [];
            ranges = ran 0 1 ∷ ran 7 2 ∷ ran 8 1 ∷ [];
          };
      learned = seven_only largest_tick;
      records = rec 7 5 largest_tick 5 largest_tick false 0 ∷ [];
    }

-- the top id alone: nothing learned, no records, though all was needed
unfoldable pub empty_batch : Batch
empty_batch = record { first = top_item; last = top_item; needed = most_known; learned = empty_knowledge; records = [] }

-- much learned and no records, needed knowing all of it
unfoldable pub silent_batch : Batch
silent_batch = record { first = 0; last = top_item; needed = most_known; learned = most_known; records = [] }

pub unusual_store_lem : open_store base (encode_store unusual_store) ≡ accepted unusual_store
unfolding be_from be_at put opening before_vectors before_elements before_ranges closing put_fields put_ids put_elements put_vectors put_ranges encode
    bounds ids_at elements_at vectors_at after_vectors ranges_at decode replica_map vector_count vector_list range_list ended checked told parse
    repeat number same fields limit empty among judged replica_id tick element first_vector vector index range highest place_by tick_at
    index_from vector_found vector_at known contains empty_knowledge known_inside project alike_from own_alike get at eq_list eq_pair insert sorted
    in_span within sample build canonical row_ids step_ids used_ids vector_from vector_steps_from vector_steps eq_element grown vectors_of ranges_of
    indexed knowledge_of normal_of eq_range eq_knowledge is_normal kind_of rec_fields put_rec put_recs store_fields encode_store batch_fields
    encode_batch rec_length behind content_at rec_at whole front recs_at tag_kept valid_rec valid_recs store_with store_from decode_store versions_in
    valid_store if_valid open_store batch_with batch_after batch_from decode_batch lacks_change carried valid_batch if_valid_batch open_batch
    unusual_store
unusual_store_lem = refl

pub unusual_batches : (open_batch base (encode_batch unusual_batch) ≡ accepted unusual_batch)
    × ((open_batch base (encode_batch empty_batch) ≡ accepted empty_batch) × (open_batch base (encode_batch silent_batch) ≡ accepted silent_batch))
unfolding be_from be_at put opening before_vectors before_elements before_ranges closing put_fields put_ids put_elements put_vectors put_ranges encode
    bounds ids_at elements_at vectors_at after_vectors ranges_at decode replica_map vector_count vector_list range_list ended checked told parse
    repeat number same fields limit empty among judged replica_id tick element first_vector vector index range highest place_by tick_at
    index_from vector_found vector_at known contains empty_knowledge known_inside project alike_from own_alike get at eq_list eq_pair insert sorted
    in_span within sample build canonical row_ids step_ids used_ids vector_from vector_steps_from vector_steps eq_element grown vectors_of ranges_of
    indexed knowledge_of normal_of eq_range eq_knowledge is_normal kind_of rec_fields put_rec put_recs store_fields encode_store batch_fields
    encode_batch rec_length behind content_at rec_at whole front recs_at tag_kept valid_rec valid_recs store_with store_from decode_store versions_in
    valid_store if_valid open_store batch_with batch_after batch_from decode_batch lacks_change carried valid_batch if_valid_batch open_batch
    unusual_batch empty_batch silent_batch
unusual_batches = (refl, (refl, refl))

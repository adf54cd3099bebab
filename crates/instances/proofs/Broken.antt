-- 15 and 16 by examples: each row's bytes are refused, and its neighbour opens. All is closed. Where the bytes are those of a value that has
-- room in its fields, they are read as that value (`store_decode`, `batch_decode`), and the tests on the value are computed; where its
-- knowledge is over the limits, or the bytes were changed, they are read and tested by computing.
use Prim.Native.Nat.{ℕ, ◌<◌}
use mathlib.Core.Path.{◌≡◌, refl, ap, ◌∙◌}
use mathlib.Core.Bool.{Bool, true}
use mathlib.Core.List.{List, [], ◌∷◌, ◌++◌}
use mathlib.Core.Option.{some}
use lib.Dec.{lit≤, ltb}
use lib.ListN.{length, get_or, take}
use borrow.Author.Tests.{ltb-true}
use Rattle.codec.specs.Number.{be_from, be_at, put}
use Rattle.codec.specs.Parsed.{Parsed, accepted, refused}
use Rattle.layout.specs.Knowledge.{Knowledge, All, Lawful, any_id, opening, before_vectors, before_elements, before_ranges, closing, put_fields}
use Rattle.layout.specs.Knowledge.{put_ids, put_elements, put_vectors, put_ranges, encode, bounds}
use Rattle.layout.specs.Decode.{ids_at, elements_at, vectors_at, after_vectors, ranges_at, decode}
use Rattle.layout.specs.Parse.{replica_map, vector_count, vector_list, range_list, ended, checked, told, parse}
use Rattle.layout.specs.Permitted.{longest, Permitted}
use Rattle.layout.specs.Read.{repeat, number, same, fields, limit, empty, among, judged, replica_id, tick, element, first_vector, vector, index}
use Rattle.layout.specs.Read.{range}
use Rattle.layout.proofs.Exact.{exact}
use Rattle.layout.proofs.Forward.{encode_bytes}
use Rattle.ticks.specs.Meaning.{highest, place_by, tick_at, index_from, vector_found, vector_at, known, contains, empty_knowledge}
use Rattle.ticks.specs.Operations.{known_inside, project, alike_from, own_alike}
use Rattle.ticks.specs.Table.{get, at, eq_list, eq_pair, insert, sorted, in_span, within, sample, build, canonical, row_ids, step_ids, used_ids}
use Rattle.ticks.specs.Written.{vector_from, vector_steps_from, vector_steps, eq_element, grown, vectors_of, ranges_of, indexed, knowledge_of, normal_of}
use Rattle.ticks.specs.Written.{eq_range, eq_knowledge, is_normal}
use Rattle.replication.specs.Record.{Rec}
use Rattle.replication.specs.Formats.{Store, kind_of, rec_fields, put_rec, put_recs, store_fields, encode_store}
use Rattle.replication.specs.BatchFormat.{Batch, batch_fields, encode_batch}
use Rattle.replication.specs.Reading.{both, rec_length, behind, content_at, rec_at, whole, front, recs_at, tag_kept, valid_rec, valid_recs}
use Rattle.replication.specs.OpenStore.{store_with, store_from, decode_store, versions_in, valid_store, if_valid, open_store}
use Rattle.replication.specs.OpenBatch.{batch_with, batch_after, batch_from, decode_batch, lacks_change, carried, valid_batch, if_valid_batch, open_batch}
use Rattle.replication.proofs.Bytes.Part.{both_left, both_right}
use Rattle.replication.proofs.Bytes.Record.{FitsRec}
use Rattle.replication.proofs.Bytes.Store.{FitsStore, store_decode}
use Rattle.replication.proofs.Bytes.Batch.{FitsBatch, batch_decode}
use Rattle.instances.specs.Given.{empty_value, one, two, fresh, again, store}
use Rattle.instances.specs.MethodFitting.{fitting, all_fitting, fitting_table, fitting_store, fitting_batch}
use Rattle.instances.specs.Broken.{most_tick, over_tick, small_limits, AllPairs, tombstoned, with_byte, holding, from_seven, unused_eight}
use Rattle.instances.specs.Broken.{zero_eight}
use Rattle.instances.specs.Broken.{three_replicas, broken_stores, spanning, one_to_nine, over_all, carrying, broken_batches}
use Rattle.instances.proofs.Lists.{also}

limits_permitted : Permitted small_limits
unfolding longest
limits_permitted = record { some_replica = lit≤ tt; some_range = lit≤ tt; replicas = lit≤ tt; ranges = lit≤ tt; records = lit≤ tt; lengths = lit≤ tt }

-- ---- values that have room in their fields

-- the first of two tests, and the second
test : (x y : ℕ) (b : Bool) → both (ltb x y) b ≡ true → (x < y) × (b ≡ true)
test x y b e = (ltb-true x y (both_left (ltb x y) b e), both_right (ltb x y) b e)

rec_fits : (r : Rec) → fitting r ≡ true → FitsRec r
unfolding fitting
rec_fits r e =
    let a = test _ _ _ e in
    let b = test _ _ _ a.1 in
    let c = test _ _ _ b.1 in
    let d = test _ _ _ c.1 in
    let f = test _ _ _ d.1 in
    record { item = a.0; change_replica = b.0; change_tick = c.0; create_replica = d.0; create_tick = f.0; tag = ltb-true _ _ f.1 }

recs_fit : (rs : List Rec) → all_fitting rs ≡ true → All FitsRec rs
unfolding all_fitting
recs_fit [] e = tt
recs_fit (r ∷ rs) e =
    (rec_fits r (both_left (fitting r) (all_fitting rs) e), recs_fit rs (both_right (fitting r) (all_fitting rs) e))

-- such a store's bytes are read as the store, and what is left are the tests on it
store_is : (st : Store) (o : Parsed Store) → Lawful (any_id small_limits) st.knowledge → fitting_store st ≡ true
    → if_valid small_limits (some st) ≡ o → open_store small_limits (encode_store st) ≡ o
unfolding fitting_store fitting_table open_store
store_is st o l e h =
    let a = test _ _ _ e in
    let b = test _ _ _ a.1 in
    let fits : FitsStore small_limits st = record { own = a.0; knowledge = l; count = b.0; records = recs_fit st.records b.1 } in
    ap (if_valid small_limits) (store_decode small_limits st limits_permitted fits) ∙ h

batch_is : (b : Batch) (o : Parsed Batch) → Lawful (any_id small_limits) b.needed → Lawful (any_id small_limits) b.learned
    → fitting_batch b ≡ true → if_valid_batch small_limits (some b) ≡ o → open_batch small_limits (encode_batch b) ≡ o
unfolding fitting_batch fitting_table open_batch
batch_is b o k l e h =
    let x = test _ _ _ e in
    let y = test _ _ _ x.1 in
    let z = test _ _ _ y.1 in
    let fits : FitsBatch small_limits b =
    record { first = x.0; last = y.0; needed = k; learned = l; count = z.0; records = recs_fit b.records z.1 } in
    ap (if_valid_batch small_limits) (batch_decode small_limits b limits_permitted fits) ∙ h

-- a knowledge is lawful where its bytes are read as it is; the lawful ones of the rows, which are named below by their numbers from 0 on
lawful : (k : Knowledge) → parse (any_id small_limits) (encode k) ≡ accepted k → Lawful (any_id small_limits) k
lawful k e = ((exact (any_id small_limits) limits_permitted (encode k) k (encode_bytes k)).0 e).1

knowledges : Lawful (any_id small_limits) (two 5 3 8 2)
    × Lawful (any_id small_limits) (one 5 most_tick)
    × Lawful (any_id small_limits) (one 5 3)
    × Lawful (any_id small_limits) (from_seven 3 2 2 2)
    × Lawful (any_id small_limits) (from_seven 3 2 3 1)
    × Lawful (any_id small_limits) unused_eight
    × Lawful (any_id small_limits) zero_eight
    × Lawful (any_id small_limits) empty_value
    × Lawful (any_id small_limits) one_to_nine
    × Lawful (any_id small_limits) (two 5 4 8 2)
    × Lawful (any_id small_limits) (one 5 4)
    × Lawful (any_id small_limits) (one 5 2)
unfolding be_from be_at put opening before_vectors before_elements before_ranges closing put_fields put_ids put_elements put_vectors put_ranges encode
    ids_at elements_at vectors_at after_vectors ranges_at decode replica_map vector_count vector_list range_list ended checked told parse repeat
    number same fields limit empty among judged replica_id tick element first_vector vector index range empty_value one two from_seven
    unused_eight zero_eight one_to_nine
knowledges = (
  lawful _ refl,
  lawful _ refl,
  lawful _ refl,
  lawful _ refl,
  lawful _ refl,
  lawful _ refl,
  lawful _ refl,
  lawful _ refl,
  lawful _ refl,
  lawful _ refl,
  lawful _ refl,
  lawful _ refl,
)

-- ---- stores

abbrev store_bytes : List ℕ
store_bytes = encode_store (holding (fresh 1 5 3 9 ∷ []))

-- over the limits, and changed bytes: read and tested
computed_stores : (open_store small_limits (encode_store (store 5 three_replicas [])) ≡ refused 15)
    × (open_store small_limits (encode_store (store 5 (one 5 over_tick) [])) ≡ refused 15)
    × (open_store small_limits (store_bytes ++ (0 ∷ [])) ≡ refused 15)
    × (open_store small_limits (take 290 store_bytes) ≡ refused 15)
    × (open_store small_limits (with_byte 24 2 store_bytes) ≡ refused 15)
    × (open_store small_limits (with_byte 0 4 store_bytes) ≡ refused 15)
    × (open_store small_limits (with_byte 0 2 store_bytes) ≡ refused 15)
    × (open_store small_limits (with_byte 202 3 store_bytes) ≡ refused 15)
    × (open_store small_limits (with_byte 202 0 store_bytes) ≡ refused 15)
unfolding be_from be_at put opening before_vectors before_elements before_ranges closing put_fields put_ids put_elements put_vectors put_ranges encode
    ids_at elements_at vectors_at after_vectors ranges_at decode replica_map vector_count vector_list range_list ended checked told parse repeat
    number same fields limit empty among judged replica_id tick element first_vector vector index range kind_of rec_fields put_rec put_recs
    store_fields encode_store rec_length behind content_at rec_at whole front recs_at store_with store_from decode_store open_store bounds highest
    place_by tick_at index_from vector_found vector_at known contains empty_knowledge known_inside project alike_from own_alike get at eq_list eq_pair
    insert sorted in_span within sample build canonical row_ids step_ids used_ids vector_from vector_steps_from vector_steps eq_element grown
    vectors_of ranges_of indexed knowledge_of normal_of eq_range eq_knowledge is_normal tag_kept valid_rec valid_recs versions_in valid_store if_valid
    lacks_change carried one two fresh again store with_byte holding three_replicas
computed_stores = (refl, refl, refl, refl, refl, refl, refl, refl, refl)

pub broken_stores_lem : AllPairs broken_stores
unfolding bounds highest place_by tick_at index_from vector_found vector_at known contains empty_knowledge known_inside project alike_from own_alike
    get at eq_list eq_pair insert sorted in_span within sample build canonical row_ids step_ids used_ids vector_from vector_steps_from vector_steps
    eq_element grown vectors_of ranges_of indexed knowledge_of normal_of eq_range eq_knowledge is_normal tag_kept valid_rec valid_recs versions_in
    valid_store if_valid lacks_change carried one two fresh again store tombstoned holding from_seven unused_eight zero_eight broken_stores fitting
    all_fitting fitting_table fitting_store
broken_stores_lem =
    let h = knowledges.0 in
    let m = knowledges.1 in
    let t = knowledges.2 in
    let c = computed_stores in
    let kept : open_store small_limits store_bytes ≡ accepted (holding (fresh 1 5 3 9 ∷ [])) = store_is _ _ h refl refl in
    also (store_is _ _ h refl refl, store_is _ _ h refl refl) (also (store_is _ _ h refl refl, store_is _ _ h refl refl)
    (also (store_is _ _ h refl refl, store_is _ _ h refl refl) (also (store_is _ _ h refl refl, store_is _ _ h refl refl)
    (also (store_is _ _ h refl refl, store_is _ _ h refl refl) (also (store_is _ _ h refl refl, store_is _ _ h refl refl)
    (also (store_is _ _ m refl refl, store_is _ _ m refl refl) (also (store_is _ _ h refl refl, store_is _ _ h refl refl)
    (also (store_is _ _ h refl refl, store_is _ _ h refl refl) (also (store_is _ _ h refl refl, store_is _ _ h refl refl)
    (also (store_is _ _ knowledges.3 refl refl, store_is _ _ knowledges.4 refl refl)
    (also (store_is _ _ knowledges.5 refl refl, store_is _ _ t refl refl)
    (also (store_is _ _ knowledges.6 refl refl, store_is _ _ t refl refl) (also (c.0, store_is _ _ h refl refl)
    (also (c.1, store_is _ _ m refl refl) (also (c.2, kept) (also (c.3, kept) (also (c.4, kept) (also (c.5, kept) (also (c.6, kept)
    (also (c.7, kept) (also (c.8, kept) tt)))))))))))))))))))))

-- ---- batches

abbrev batch_bytes : List ℕ
batch_bytes = encode_batch (carrying (fresh 1 5 3 9 ∷ []))

computed_batches : (open_batch small_limits (encode_batch (over_all three_replicas (one 5 4) [])) ≡ refused 16)
    × (open_batch small_limits (encode_batch (over_all (one 5 4) three_replicas [])) ≡ refused 16)
    × (open_batch small_limits (batch_bytes ++ (0 ∷ [])) ≡ refused 16)
    × (open_batch small_limits (take 495 batch_bytes) ≡ refused 16)
    × (open_batch small_limits (with_byte 60 2 batch_bytes) ≡ refused 16)
    × (open_batch small_limits (with_byte 0 3 batch_bytes) ≡ refused 16)
    × (open_batch small_limits (with_byte 0 1 batch_bytes) ≡ refused 16)
    × (open_batch small_limits (with_byte 407 3 batch_bytes) ≡ refused 16)
    × (open_batch small_limits (with_byte 407 0 batch_bytes) ≡ refused 16)
unfolding be_from be_at put opening before_vectors before_elements before_ranges closing put_fields put_ids put_elements put_vectors put_ranges encode
    ids_at elements_at vectors_at after_vectors ranges_at decode replica_map vector_count vector_list range_list ended checked told parse repeat
    number same fields limit empty among judged replica_id tick element first_vector vector index range kind_of rec_fields put_rec put_recs
    batch_fields encode_batch rec_length behind content_at rec_at whole front recs_at batch_with batch_after batch_from decode_batch open_batch bounds
    highest place_by tick_at index_from vector_found vector_at known contains empty_knowledge known_inside project alike_from own_alike get at eq_list
    eq_pair insert sorted in_span within sample build canonical row_ids step_ids used_ids vector_from vector_steps_from vector_steps eq_element grown
    vectors_of ranges_of indexed knowledge_of normal_of eq_range eq_knowledge is_normal tag_kept valid_rec valid_recs versions_in lacks_change carried
    valid_batch if_valid_batch empty_value one fresh again with_byte three_replicas spanning one_to_nine over_all carrying
computed_batches = (refl, refl, refl, refl, refl, refl, refl, refl, refl)

pub broken_batches_lem : AllPairs broken_batches
unfolding bounds highest place_by tick_at index_from vector_found vector_at known contains empty_knowledge known_inside project alike_from own_alike
    get at eq_list eq_pair insert sorted in_span within sample build canonical row_ids step_ids used_ids vector_from vector_steps_from vector_steps
    eq_element grown vectors_of ranges_of indexed knowledge_of normal_of eq_range eq_knowledge is_normal tag_kept valid_rec valid_recs versions_in
    lacks_change carried valid_batch if_valid_batch empty_value one two fresh again tombstoned unused_eight zero_eight spanning one_to_nine over_all
    carrying broken_batches fitting all_fitting fitting_table fitting_batch
broken_batches_lem =
    let e = knowledges.7 in
    let n = knowledges.8 in
    let c = computed_batches in
    let kept : open_batch small_limits batch_bytes ≡ accepted (carrying (fresh 1 5 3 9 ∷ [])) = batch_is _ _ e n refl refl in
    also (batch_is _ _ e n refl refl, batch_is _ _ e n refl refl) (also (batch_is _ _ e n refl refl, batch_is _ _ e n refl refl)
    (also (batch_is _ _ e n refl refl, batch_is _ _ e n refl refl) (also (batch_is _ _ e n refl refl, batch_is _ _ e n refl refl)
    (also (batch_is _ _ e n refl refl, batch_is _ _ e n refl refl) (also (batch_is _ _ e n refl refl, batch_is _ _ e n refl refl)
    (also (batch_is _ _ e knowledges.1 refl refl, batch_is _ _ e knowledges.1 refl refl)
    (also (batch_is _ _ e n refl refl, batch_is _ _ e n refl refl) (also (batch_is _ _ e e refl refl, batch_is _ _ e e refl refl)
    (also (batch_is _ _ knowledges.5 knowledges.9 refl refl, batch_is _ _ knowledges.2 knowledges.9 refl refl)
    (also (batch_is _ _ e knowledges.6 refl refl, batch_is _ _ e knowledges.2 refl refl)
    (also (c.0, batch_is _ _ knowledges.0 knowledges.10 refl refl)
    (also (c.1, batch_is _ _ knowledges.10 knowledges.0 refl refl) (also (batch_is _ _ e n refl refl, batch_is _ _ e n refl refl)
    (also (batch_is _ _ e n refl refl, batch_is _ _ e n refl refl) (also (batch_is _ _ e n refl refl, kept)
    (also (batch_is _ _ e n refl refl, batch_is _ _ e n refl refl) (also (batch_is _ _ e n refl refl, batch_is _ _ e n refl refl)
    (also (batch_is _ _ e n refl refl, batch_is _ _ e n refl refl)
    (also (batch_is _ _ knowledges.2 n refl refl, batch_is _ _ knowledges.11 n refl refl) (also (c.2, kept) (also (c.3, kept)
    (also (c.4, kept) (also (c.5, kept) (also (c.6, kept) (also (c.7, kept) (also (c.8, kept) tt))))))))))))))))))))))))))

-- the places that the rows on bytes speak of: the lengths, and where the record begins
pub places : (length (encode_store (holding (fresh 1 5 3 9 ∷ []))) ≡ 291) × (get_or (encode_store (holding (fresh 1 5 3 9 ∷ []))) 202 0 ≡ 1) ×
    (length (encode_batch (carrying (fresh 1 5 3 9 ∷ []))) ≡ 496) × (get_or (encode_batch (carrying (fresh 1 5 3 9 ∷ []))) 407 0 ≡ 1)
unfolding put put_fields put_ids put_elements put_vectors put_ranges encode opening before_vectors before_elements before_ranges closing kind_of
    rec_fields put_rec put_recs store_fields encode_store batch_fields encode_batch one two fresh again store empty_value holding spanning one_to_nine
    over_all carrying
places = (refl, refl, refl, refl)

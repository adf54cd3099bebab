-- The list that meets 12: its premises hold, so demand 3 speaks of it under the small limits; running it refuses the calls that are listed, each
-- with 12, and ends in the bytes that are written out, with what the calls after the refusals did. Both sides are closed, so they are computed
-- and compared.
use mathlib.Core.Path.{◌≡◌, refl}
use mathlib.Core.List.{[], ◌∷◌}
use lib.Dec.{lit<}
use lib.ListN.{take}
use Rattle.codec.specs.Answer.{Refused}
use Rattle.layout.proofs.Forward.{encode_bytes}
use Rattle.replication.specs.Call.{Given}
use Rattle.replication.specs.Promise.{Promise, ends}
use Rattle.replication.proofs.Demand3.{demand3}
use Rattle.instances.specs.Given.{empty_value, item_bytes, tag_bytes, tagged, p1}
use Rattle.instances.specs.Answers.{applied_to, replied, answers, flags, stores_of}
use Rattle.instances.specs.Longer.{s1}
use Rattle.instances.specs.MethodRan.{noted, ran_once, seen}
use Rattle.instances.proofs.Lists.{item_bytes_lem, tag_bytes_lem, small_ids, also}
use Rattle.instances.proofs.OneRun.{flags_are, answers_are, stores_are, batches_are, answer_is, apply_is}
use Rattle.small_limits.specs.Small.{small, small_rules, room, spelled}
use Rattle.small_limits.specs.RangesFull.{turns_from, ranges_full, ranges_full_flags, ranges_full_answers, bytes_p, bytes_s, bytes_batch0, bytes_batch1}
use Rattle.small_limits.specs.RangesFull.{bytes_batch2, bytes_batch3, bytes_batch4}
use Rattle.small_limits.proofs.Small.{small_permitted}
use Rattle.codec.specs.Number.{Bytes, be_from, be_at, put}
use Rattle.codec.specs.Parsed.{own_fault, read_or}
use Rattle.codec.specs.Reply.{answer, first_fault}
use Rattle.layout.specs.Decode.{ids_at, elements_at, vectors_at, after_vectors, ranges_at, decode}
use Rattle.layout.specs.Knowledge.{All, opening, before_vectors, before_elements, before_ranges, closing, put_fields, put_ids, put_elements, put_vectors}
use Rattle.layout.specs.Knowledge.{put_ranges, encode, bounds}
use Rattle.layout.specs.Parse.{replica_map, vector_count, vector_list, range_list, ended, checked, told, parse}
use Rattle.layout.specs.Read.{repeat, number, same, fields, limit, empty, among, judged, replica_id, tick, element, first_vector, vector, index}
use Rattle.layout.specs.Read.{range}
use Rattle.ticks.specs.Calls.{id_of, wrong_length, wrong_span, result_lines}
use Rattle.ticks.specs.Meaning.{highest, place_by, tick_at, index_from, vector_found, vector_at, known, contains, empty_knowledge}
use Rattle.ticks.specs.Operations.{normalise, larger, merge, known_inside, project, known_raised, raise, lacking_at, or_else, lacking_from, lacking}
use Rattle.ticks.specs.Operations.{is_nowhere, covers, covers_for, largest_at, largest_from, largest, alike_from, own_alike, too_many_replicas}
use Rattle.ticks.specs.Operations.{too_many_ranges}
use Rattle.ticks.specs.Table.{get, at, eq_list, eq_pair, insert, sorted, in_span, within, sample, build, canonical, row_ids, step_ids, used_ids}
use Rattle.ticks.specs.Written.{vector_from, vector_steps_from, vector_steps, eq_element, grown, vectors_of, ranges_of, indexed, knowledge_of, normal_of}
use Rattle.ticks.specs.Written.{eq_range, eq_knowledge, is_normal}
use Rattle.replication.specs.BatchFormat.{batch_fields, encode_batch}
use Rattle.replication.specs.Calls.{then, uncovered, own_ahead, exhausted, too_many_records, store_lines, live_content, wrong_brought, edit_lines, edited}
use Rattle.replication.specs.Calls.{edit_reply, make_lines, makes, make_reply, apply_lines, apply_reply}
use Rattle.replication.specs.Formats.{kind_of, rec_fields, put_rec, put_recs, find, new_store, store_fields, encode_store}
use Rattle.replication.specs.Lists.{start, trace, outcome, batch_number, put_at, keep}
use Rattle.replication.specs.OpenBatch.{batch_with, batch_after, batch_from, decode_batch, lacks_change, carried, valid_batch, if_valid_batch, open_batch}
use Rattle.replication.specs.OpenStore.{store_with, store_from, decode_store, versions_in, valid_store, if_valid, open_store}
use Rattle.replication.specs.Operate.{replace, next_tick, changed_rec, changed, selected, made, wins, winner_of, join_from, join, applied}
use Rattle.replication.specs.Reading.{rec_length, behind, content_at, rec_at, whole, front, recs_at, tag_kept, valid_rec, valid_recs}

pub ranges_full-given : All Given ranges_full
unfolding ranges_full
ranges_full-given =
    let p = small_ids.0 in
    let s = small_ids.1.1.0 in
    let inner : Bytes (item_bytes 10) × Bytes (item_bytes 15) = (item_bytes_lem 10, item_bytes_lem 15) in
    let none = encode_bytes empty_value in
    also (p, (item_bytes_lem 10, tag_bytes_lem 9)) (also (p, (item_bytes_lem 30, tag_bytes_lem 8))
    (also (p, (none, (item_bytes_lem 10, item_bytes_lem 19))) (also s (also (s, (item_bytes_lem 10, tag_bytes_lem 7))
    (also (s, (none, (item_bytes_lem 5, item_bytes_lem 15))) (also (s, (none, inner))
    (also (s, (encode_bytes (turns_from 5), inner)) (also (s, (encode_bytes (turns_from 0), inner))
    (also (p, (none, (item_bytes_lem 30, item_bytes_lem highest))) (also s
    (also (p, (none, (item_bytes_lem 0, item_bytes_lem highest))) (also s (also s (also (s, (item_bytes_lem 30, tag_bytes_lem 6))
    (also p tt)))))))))))))))

-- demand 3 of the list
pub ranges_full-promise : Promise small_rules ranges_full
ranges_full-promise = demand3 small_rules small_permitted ranges_full ranges_full-given

-- flags, answers and end of the list, computed in one run
computed : seen (p1 ∷ s1 ∷ []) (ran_once small_rules start ranges_full)
    ≡ record {
      flags = ranges_full_flags;
      answers = ranges_full_answers;
      stores = bytes_p ∷ bytes_s ∷ [];
      batches = bytes_batch0 ∷ bytes_batch1 ∷ bytes_batch2 ∷ bytes_batch3 ∷ bytes_batch4 ∷ [];
    }
unfolding be_from be_at put own_fault read_or answer first_fault ids_at elements_at vectors_at after_vectors ranges_at decode opening before_vectors
    before_elements before_ranges closing put_fields put_ids put_elements put_vectors put_ranges encode bounds replica_map vector_count vector_list
    range_list ended checked told parse repeat number same fields limit empty among judged replica_id tick element first_vector vector index
    range id_of wrong_length wrong_span result_lines highest place_by tick_at index_from vector_found vector_at known contains empty_knowledge
    normalise larger merge known_inside project known_raised raise lacking_at or_else lacking_from lacking is_nowhere covers covers_for largest_at
    largest_from largest alike_from own_alike too_many_replicas too_many_ranges get at eq_list eq_pair insert sorted in_span within sample build
    canonical row_ids step_ids used_ids vector_from vector_steps_from vector_steps eq_element grown vectors_of ranges_of indexed knowledge_of normal_of
    eq_range eq_knowledge is_normal batch_fields encode_batch then uncovered own_ahead exhausted too_many_records store_lines live_content
    wrong_brought edit_lines edited edit_reply make_lines makes make_reply apply_lines apply_reply kind_of rec_fields put_rec put_recs find new_store
    store_fields encode_store start outcome batch_number put_at keep batch_with batch_after batch_from decode_batch lacks_change carried valid_batch
    if_valid_batch open_batch store_with store_from decode_store versions_in valid_store if_valid open_store replace next_tick changed_rec changed
    selected made wins winner_of join_from join applied rec_length behind content_at rec_at whole front recs_at tag_kept valid_rec valid_recs
    empty_value item_bytes tag_bytes tagged p1 s1 spelled stores_of applied_to replied noted ran_once seen turns_from ranges_full ranges_full_flags
    ranges_full_answers bytes_p bytes_s bytes_batch0 bytes_batch1 bytes_batch2 bytes_batch3 bytes_batch4
computed = refl

-- which calls the machine is told were refused
pub ranges_full-refused : flags (trace small_rules start ranges_full) ≡ ranges_full_flags
ranges_full-refused = flags_are small_rules _ ranges_full _ _ _ _ computed

-- what each call answers
pub ranges_full-answers : answers small_rules start ranges_full ≡ ranges_full_answers
ranges_full-answers = answers_are small_rules _ ranges_full _ _ _ _ computed

-- the stores and the batches at the end
pub ranges_full-bytes : (stores_of (p1 ∷ s1 ∷ []) (ends small_rules ranges_full) ≡ bytes_p ∷ bytes_s ∷ [])
    × ((ends small_rules ranges_full).batches ≡ bytes_batch0 ∷ bytes_batch1 ∷ bytes_batch2 ∷ bytes_batch3 ∷ bytes_batch4 ∷ [])
ranges_full-bytes = (stores_are small_rules _ ranges_full _ _ _ _ computed, batches_are small_rules _ ranges_full _ _ _ _ computed)

-- by which numbers: calls 5, 7 and 10, from the bytes as the calls before them left them
pub ranges_full-numbers :
    (answer (make_reply small_rules ((ends small_rules (take 5 ranges_full)).stores s1)
    (encode empty_value) (item_bytes 5) (item_bytes 15)) room ≡ Refused 12)
    × (answer (make_reply small_rules ((ends small_rules (take 7 ranges_full)).stores s1)
    (encode (turns_from 5)) (item_bytes 10) (item_bytes 15)) room ≡ Refused 12)
    × (answer (apply_reply small ((ends small_rules (take 10 ranges_full)).stores s1) bytes_batch3) room ≡ Refused 12)
unfolding ranges_full ranges_full_answers replied batch_number
ranges_full-numbers = (
  answer_is small_rules _ ranges_full _ _ _ _ computed 5 (lit< tt),
  answer_is small_rules _ ranges_full _ _ _ _ computed 7 (lit< tt),
  apply_is small_rules _ ranges_full _ _ _ _ computed 10 s1 3 room 11 bytes_batch3 (lit< tt) refl refl refl,
)

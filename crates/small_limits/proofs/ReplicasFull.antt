-- The list that meets 11: its premises hold, so demand 3 speaks of it under the small limits; running it refuses the calls that are listed, each
-- with 11, and ends in the bytes that are written out, with what the calls after the refusals did. Both sides are closed, so they are computed
-- and compared.
use mathlib.Core.Path.{◌≡◌, refl}
use mathlib.Core.List.{[], ◌∷◌}
use lib.Dec.{lit<}
use lib.ListN.{take}
use Rattle.codec.specs.Answer.{Refused}
use Rattle.layout.proofs.Forward.{encode_bytes}
use Rattle.replication.specs.Call.{Given}
use Rattle.replication.specs.Promise.{Promise, ends}
use Rattle.replication.proofs.Demand3.{demand3}
use Rattle.instances.specs.Given.{empty_value, item_bytes, tag_bytes, tagged, one, p1, q1}
use Rattle.instances.specs.Answers.{applied_to, replied, answers, flags, stores_of}
use Rattle.instances.specs.Longer.{s1, t1}
use Rattle.instances.specs.MethodRan.{noted, ran_once, seen}
use Rattle.instances.proofs.Lists.{item_bytes_lem, tag_bytes_lem, small_ids, also}
use Rattle.instances.proofs.OneRun.{flags_are, answers_are, stores_are, batches_are, answer_is, apply_is}
use Rattle.small_limits.specs.Small.{small, small_rules, room, spelled}
use Rattle.small_limits.specs.ReplicasFull.{replicas_full, replicas_full_flags, replicas_full_answers, bytes_p, bytes_q, bytes_s, bytes_t, bytes_batch0}
use Rattle.small_limits.specs.ReplicasFull.{bytes_batch1, bytes_batch2, bytes_batch3}
use Rattle.small_limits.proofs.Small.{small_permitted}
use Rattle.codec.specs.Number.{Bytes, be_from, be_at, put}
use Rattle.codec.specs.Parsed.{own_fault, read_or}
use Rattle.codec.specs.Reply.{answer, first_fault}
use Rattle.layout.specs.Decode.{ids_at, elements_at, vectors_at, after_vectors, ranges_at, decode}
use Rattle.layout.specs.Knowledge.{All, opening, before_vectors, before_elements, before_ranges, closing, put_fields, put_ids, put_elements, put_vectors}
use Rattle.layout.specs.Knowledge.{put_ranges, encode, bounds}
use Rattle.layout.specs.Parse.{replica_map, vector_count, vector_list, range_list, ended, checked, told, parse}
use Rattle.layout.specs.Read.{repeat, number, same, fields, limit, empty, among, judged, replica_id, tick, element, first_vector, vector, index}
use Rattle.layout.specs.Read.{range}
use Rattle.ticks.specs.Calls.{id_of, wrong_length, wrong_span, result_lines}
use Rattle.ticks.specs.Meaning.{highest, place_by, tick_at, index_from, vector_found, vector_at, known, contains, empty_knowledge}
use Rattle.ticks.specs.Operations.{normalise, larger, merge, known_inside, project, known_raised, raise, lacking_at, or_else, lacking_from, lacking}
use Rattle.ticks.specs.Operations.{is_nowhere, covers, covers_for, largest_at, largest_from, largest, alike_from, own_alike, too_many_replicas}
use Rattle.ticks.specs.Operations.{too_many_ranges}
use Rattle.ticks.specs.Table.{get, at, eq_list, eq_pair, insert, sorted, in_span, within, sample, build, canonical, row_ids, step_ids, used_ids}
use Rattle.ticks.specs.Written.{vector_from, vector_steps_from, vector_steps, eq_element, grown, vectors_of, ranges_of, indexed, knowledge_of, normal_of}
use Rattle.ticks.specs.Written.{eq_range, eq_knowledge, is_normal}
use Rattle.replication.specs.BatchFormat.{batch_fields, encode_batch}
use Rattle.replication.specs.Calls.{then, uncovered, own_ahead, gone, exhausted, too_many_records, store_lines, live_content, wrong_brought, edit_lines}
use Rattle.replication.specs.Calls.{edited, edit_reply, tombstone, delete_lines, deleted, delete_reply, make_lines, makes, make_reply, apply_lines}
use Rattle.replication.specs.Calls.{apply_reply}
use Rattle.replication.specs.Formats.{kind_of, rec_fields, put_rec, put_recs, find, new_store, store_fields, encode_store}
use Rattle.replication.specs.Lists.{start, trace, outcome, batch_number, put_at, keep}
use Rattle.replication.specs.OpenBatch.{batch_with, batch_after, batch_from, decode_batch, lacks_change, carried, valid_batch, if_valid_batch, open_batch}
use Rattle.replication.specs.OpenStore.{store_with, store_from, decode_store, versions_in, valid_store, if_valid, open_store}
use Rattle.replication.specs.Operate.{replace, next_tick, changed_rec, changed, selected, made, wins, winner_of, join_from, join, applied}
use Rattle.replication.specs.Reading.{rec_length, behind, content_at, rec_at, whole, front, recs_at, tag_kept, valid_rec, valid_recs}

pub replicas_full-given : All Given replicas_full
unfolding replicas_full
replicas_full-given =
    let p = small_ids.0 in
    let q = small_ids.1.0 in
    let s = small_ids.1.1.0 in
    let t = small_ids.1.1.1 in
    let all : Bytes (item_bytes 0) × Bytes (item_bytes highest) = (item_bytes_lem 0, item_bytes_lem highest) in
    let none = encode_bytes empty_value in
    also (p, (item_bytes_lem 1, tag_bytes_lem 9)) (also (q, (item_bytes_lem 2, tag_bytes_lem 8))
    (also (p, (none, all)) (also (q, (none, all)) (also s (also s
    (also (s, (item_bytes_lem 1, tag_bytes_lem 7)) (also (s, (item_bytes_lem 3, tag_bytes_lem 7)) (also (s, item_bytes_lem 2)
    (also (s, (none, all))
    (also (t, (item_bytes_lem 2, tag_bytes_lem 6)) (also t (also t (also (t, (item_bytes_lem 1, tag_bytes_lem 5))
    (also (p, (item_bytes_lem 1, tag_bytes_lem 4)) (also (p, (encode_bytes (one p1 1), all)) (also s tt))))))))))))))))

-- demand 3 of the list
pub replicas_full-promise : Promise small_rules replicas_full
replicas_full-promise = demand3 small_rules small_permitted replicas_full replicas_full-given

-- flags, answers and end of the list, computed in one run
computed : seen (p1 ∷ q1 ∷ s1 ∷ t1 ∷ []) (ran_once small_rules start replicas_full)
    ≡ record {
      flags = replicas_full_flags;
      answers = replicas_full_answers;
      stores = bytes_p ∷ bytes_q ∷ bytes_s ∷ bytes_t ∷ [];
      batches = bytes_batch0 ∷ bytes_batch1 ∷ bytes_batch2 ∷ bytes_batch3 ∷ [];
    }
unfolding be_from be_at put own_fault read_or answer first_fault ids_at elements_at vectors_at after_vectors ranges_at decode opening before_vectors
    before_elements before_ranges closing put_fields put_ids put_elements put_vectors put_ranges encode bounds replica_map vector_count vector_list
    range_list ended checked told parse repeat number same fields limit empty among judged replica_id tick element first_vector vector index
    range id_of wrong_length wrong_span result_lines highest place_by tick_at index_from vector_found vector_at known contains empty_knowledge
    normalise larger merge known_inside project known_raised raise lacking_at or_else lacking_from lacking is_nowhere covers covers_for largest_at
    largest_from largest alike_from own_alike too_many_replicas too_many_ranges get at eq_list eq_pair insert sorted in_span within sample build
    canonical row_ids step_ids used_ids vector_from vector_steps_from vector_steps eq_element grown vectors_of ranges_of indexed knowledge_of normal_of
    eq_range eq_knowledge is_normal batch_fields encode_batch then uncovered own_ahead gone exhausted too_many_records store_lines live_content
    wrong_brought edit_lines edited edit_reply tombstone delete_lines deleted delete_reply make_lines makes make_reply apply_lines apply_reply kind_of
    rec_fields put_rec put_recs find new_store store_fields encode_store start outcome batch_number put_at keep batch_with batch_after batch_from
    decode_batch lacks_change carried valid_batch if_valid_batch open_batch store_with store_from decode_store versions_in valid_store if_valid
    open_store replace next_tick changed_rec changed selected made wins winner_of join_from join applied rec_length behind content_at rec_at whole
    front recs_at tag_kept valid_rec valid_recs empty_value item_bytes tag_bytes tagged one p1 q1 s1 t1 spelled stores_of applied_to replied noted
    ran_once seen replicas_full replicas_full_flags replicas_full_answers bytes_p bytes_q bytes_s bytes_t bytes_batch0 bytes_batch1 bytes_batch2
    bytes_batch3
computed = refl

-- which calls the machine is told were refused
pub replicas_full-refused : flags (trace small_rules start replicas_full) ≡ replicas_full_flags
replicas_full-refused = flags_are small_rules _ replicas_full _ _ _ _ computed

-- what each call answers
pub replicas_full-answers : answers small_rules start replicas_full ≡ replicas_full_answers
replicas_full-answers = answers_are small_rules _ replicas_full _ _ _ _ computed

-- the stores and the batches at the end
pub replicas_full-bytes : (stores_of (p1 ∷ q1 ∷ s1 ∷ t1 ∷ []) (ends small_rules replicas_full) ≡ bytes_p ∷ bytes_q ∷ bytes_s ∷ bytes_t ∷ [])
    × ((ends small_rules replicas_full).batches ≡ bytes_batch0 ∷ bytes_batch1 ∷ bytes_batch2 ∷ bytes_batch3 ∷ [])
replicas_full-bytes = (stores_are small_rules _ replicas_full _ _ _ _ computed, batches_are small_rules _ replicas_full _ _ _ _ computed)

-- by which numbers: calls 6, 7, 8 and 11, from the bytes as the calls before them left them
pub replicas_full-numbers :
    (answer (edit_reply small ((ends small_rules (take 6 replicas_full)).stores s1) (item_bytes 1) (tagged 7)) room ≡ Refused 11)
    × (answer (edit_reply small ((ends small_rules (take 7 replicas_full)).stores s1) (item_bytes 3) (tagged 7)) room ≡ Refused 11)
    × (answer (delete_reply small ((ends small_rules (take 8 replicas_full)).stores s1) (item_bytes 2)) room ≡ Refused 11)
    × (answer (apply_reply small ((ends small_rules (take 11 replicas_full)).stores t1) bytes_batch2) room ≡ Refused 11)
unfolding replicas_full replicas_full_answers replied batch_number
replicas_full-numbers = (
  answer_is small_rules _ replicas_full _ _ _ _ computed 6 (lit< tt),
  answer_is small_rules _ replicas_full _ _ _ _ computed 7 (lit< tt),
  answer_is small_rules _ replicas_full _ _ _ _ computed 8 (lit< tt),
  apply_is small_rules _ replicas_full _ _ _ _ computed 11 t1 2 room 10 bytes_batch2 (lit< tt) refl refl refl,
)

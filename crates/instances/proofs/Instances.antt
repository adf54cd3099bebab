-- Every row of document 01's table of instances holds: both sides are closed, so the definitions are computed and
-- the results compared.
use mathlib.Core.Path.{refl}
use Rattle.instances.specs.Given.{empty_value, smallest, item_bytes, replica_bytes, tag_bytes, one, two, parts, fresh, again, store, batch, p1}
use Rattle.instances.specs.Given.{q1, p2, q2, tagged}
use Rattle.instances.specs.Spelled.{bytes_k6, bytes_k10, bytes_k11, bytes_deleted, bytes_two_records, bytes_two_vectors}
use Rattle.instances.specs.Table.{alone, knowledge_rows, new_of, edited_once, edited_twice, batch_one, batch_two, store_rows, spelled_rows, table}
use Rattle.instances.specs.Table.{AllHold, Tables}
use Rattle.codec.specs.Number.{be_from, be_at, put}
use Rattle.codec.specs.Parsed.{own_fault, read_or}
use Rattle.codec.specs.Reply.{answer, after, number_of, written_of, first_fault}
use Rattle.codec.specs.Total.{read_at, clamp}
use Rattle.layout.specs.Decode.{ids_at, elements_at, vectors_at, after_vectors, ranges_at, decode}
use Rattle.layout.specs.Knowledge.{opening, before_vectors, before_elements, before_ranges, closing, put_fields, put_ids, put_elements, put_vectors}
use Rattle.layout.specs.Knowledge.{put_ranges, encode, keys, bounds}
use Rattle.layout.specs.Parse.{replica_map, vector_count, vector_list, range_list, ended, checked, told, parse}
use Rattle.layout.specs.Read.{repeat, number, same, fields, limit, empty, among, judged, replica_id, tick, element, first_vector, vector, index}
use Rattle.layout.specs.Read.{range}
use Rattle.ticks.specs.Calls.{contain_number, contain_value, lead_number, lead_value, cover_number, cover_value, id_of, wrong_length, wrong_ids}
use Rattle.ticks.specs.Calls.{wrong_span, contain_found, cover_found, contain_answer, lead_of, lead_answer, cover_answer, result_lines, normalise_reply}
use Rattle.ticks.specs.Calls.{merge_reply, project_reply}
use Rattle.ticks.specs.Meaning.{highest, place_by, tick_at, index_from, vector_found, vector_at, known, contains, indices, empty_knowledge}
use Rattle.ticks.specs.Operations.{normalise, larger, merge, known_inside, project, known_raised, raise, lacking_at, or_else, lacking_from, lacking}
use Rattle.ticks.specs.Operations.{is_nowhere, covers, covers_for, largest_at, largest_from, largest, alike_from, own_alike, too_many_replicas}
use Rattle.ticks.specs.Operations.{too_many_ranges}
use Rattle.ticks.specs.Table.{get, at, eq_list, eq_pair, insert, sorted, in_span, within, sample, build, canonical, row_ids, step_ids, used_ids}
use Rattle.ticks.specs.Written.{vector_from, vector_steps_from, vector_steps, eq_element, grown, vectors_of, ranges_of, indexed, knowledge_of, normal_of}
use Rattle.ticks.specs.Written.{eq_range, eq_knowledge, is_normal}
use Rattle.replication.specs.BatchFormat.{batch_fields, encode_batch}
use Rattle.replication.specs.Batches.{asks, asked}
use Rattle.replication.specs.Calls.{then, uncovered, own_ahead, gone, exhausted, too_many_records, store_lines, new_reply, live_content, wrong_brought}
use Rattle.replication.specs.Calls.{edit_lines, edited, edit_reply, tombstone, delete_lines, deleted, delete_reply, make_lines, makes, make_reply}
use Rattle.replication.specs.Calls.{apply_lines, apply_reply}
use Rattle.replication.specs.Formats.{kind_of, rec_fields, put_rec, put_recs, items, find, new_store, store_fields, encode_store}
use Rattle.replication.specs.OpenBatch.{batch_with, batch_after, batch_from, decode_batch, lacks_change, carried, valid_batch, if_valid_batch, open_batch}
use Rattle.replication.specs.OpenStore.{store_with, store_from, decode_store, versions_in, valid_store, if_valid, open_store}
use Rattle.replication.specs.Operate.{replace, next_tick, changed_rec, changed, selected, made, wins, winner_of, join_from, join, applied}
use Rattle.replication.specs.Queries.{part_bytes, part_number, part_side, part_at_place, part_length, places_from, places, parts_at, to_give, place_of}
use Rattle.replication.specs.Queries.{of_store, of_batch, winner_at, winner_part, learned_part, coverage_number, coverage_contained, coverage_all}
use Rattle.replication.specs.Queries.{coverage_thousandths, count_in, thousandths, coverage_answer}
use Rattle.replication.specs.Reading.{rec_length, behind, content_at, rec_at, whole, front, recs_at, tag_kept, valid_rec, valid_recs}

alone_hold : AllHold alone
unfolding be_from be_at put own_fault read_or answer after number_of written_of first_fault read_at clamp ids_at elements_at vectors_at after_vectors
    ranges_at decode opening before_vectors before_elements before_ranges closing put_fields put_ids put_elements put_vectors put_ranges encode keys
    bounds replica_map vector_count vector_list range_list ended checked told parse repeat number same fields limit empty among judged replica_id
    tick element first_vector vector index range contain_number contain_value lead_number lead_value cover_number cover_value id_of wrong_length
    wrong_ids wrong_span contain_found cover_found contain_answer lead_of lead_answer cover_answer result_lines normalise_reply merge_reply
    project_reply highest place_by tick_at index_from vector_found vector_at known contains indices empty_knowledge normalise larger merge
    known_inside project known_raised raise lacking_at or_else lacking_from lacking is_nowhere covers covers_for largest_at largest_from largest
    alike_from own_alike too_many_replicas too_many_ranges get at eq_list eq_pair insert sorted in_span within sample build canonical row_ids step_ids
    used_ids vector_from vector_steps_from vector_steps eq_element grown vectors_of ranges_of indexed knowledge_of normal_of eq_range eq_knowledge
    is_normal batch_fields encode_batch asks asked then uncovered own_ahead gone exhausted too_many_records store_lines new_reply live_content
    wrong_brought edit_lines edited edit_reply tombstone delete_lines deleted delete_reply make_lines makes make_reply apply_lines apply_reply kind_of
    rec_fields put_rec put_recs items find new_store store_fields encode_store batch_with batch_after batch_from decode_batch lacks_change carried
    valid_batch if_valid_batch open_batch store_with store_from decode_store versions_in valid_store if_valid open_store replace next_tick changed_rec
    changed selected made wins winner_of join_from join applied part_bytes part_number part_side part_at_place part_length places_from places parts_at
    to_give place_of of_store of_batch winner_at winner_part learned_part coverage_number coverage_contained coverage_all coverage_thousandths count_in
    thousandths coverage_answer rec_length behind content_at rec_at whole front recs_at tag_kept valid_rec valid_recs empty_value smallest item_bytes
    replica_bytes tag_bytes tagged one two parts again fresh store batch p1 q1 p2 q2 bytes_k6 bytes_k10 bytes_k11 bytes_deleted bytes_two_records
    bytes_two_vectors alone knowledge_rows new_of edited_once edited_twice batch_one batch_two store_rows spelled_rows table
alone_hold = ((refl, refl), (refl, (refl, (refl, (refl, (refl, (refl, tt)))))))

spelled_hold : AllHold spelled_rows
unfolding be_from be_at put own_fault read_or answer after number_of written_of first_fault read_at clamp ids_at elements_at vectors_at after_vectors
    ranges_at decode opening before_vectors before_elements before_ranges closing put_fields put_ids put_elements put_vectors put_ranges encode keys
    bounds replica_map vector_count vector_list range_list ended checked told parse repeat number same fields limit empty among judged replica_id
    tick element first_vector vector index range contain_number contain_value lead_number lead_value cover_number cover_value id_of wrong_length
    wrong_ids wrong_span contain_found cover_found contain_answer lead_of lead_answer cover_answer result_lines normalise_reply merge_reply
    project_reply highest place_by tick_at index_from vector_found vector_at known contains indices empty_knowledge normalise larger merge
    known_inside project known_raised raise lacking_at or_else lacking_from lacking is_nowhere covers covers_for largest_at largest_from largest
    alike_from own_alike too_many_replicas too_many_ranges get at eq_list eq_pair insert sorted in_span within sample build canonical row_ids step_ids
    used_ids vector_from vector_steps_from vector_steps eq_element grown vectors_of ranges_of indexed knowledge_of normal_of eq_range eq_knowledge
    is_normal batch_fields encode_batch asks asked then uncovered own_ahead gone exhausted too_many_records store_lines new_reply live_content
    wrong_brought edit_lines edited edit_reply tombstone delete_lines deleted delete_reply make_lines makes make_reply apply_lines apply_reply kind_of
    rec_fields put_rec put_recs items find new_store store_fields encode_store batch_with batch_after batch_from decode_batch lacks_change carried
    valid_batch if_valid_batch open_batch store_with store_from decode_store versions_in valid_store if_valid open_store replace next_tick changed_rec
    changed selected made wins winner_of join_from join applied part_bytes part_number part_side part_at_place part_length places_from places parts_at
    to_give place_of of_store of_batch winner_at winner_part learned_part coverage_number coverage_contained coverage_all coverage_thousandths count_in
    thousandths coverage_answer rec_length behind content_at rec_at whole front recs_at tag_kept valid_rec valid_recs empty_value smallest item_bytes
    replica_bytes tag_bytes tagged one two parts again fresh store batch p1 q1 p2 q2 bytes_k6 bytes_k10 bytes_k11 bytes_deleted bytes_two_records
    bytes_two_vectors alone knowledge_rows new_of edited_once edited_twice batch_one batch_two store_rows spelled_rows table
spelled_hold = ((refl, refl), ((refl, refl), ((refl, refl), ((refl, refl), ((refl, refl), ((refl, refl), tt))))))

first_knowledge : AllHold (knowledge_rows p1 q1)
unfolding be_from be_at put own_fault read_or answer after number_of written_of first_fault read_at clamp ids_at elements_at vectors_at after_vectors
    ranges_at decode opening before_vectors before_elements before_ranges closing put_fields put_ids put_elements put_vectors put_ranges encode keys
    bounds replica_map vector_count vector_list range_list ended checked told parse repeat number same fields limit empty among judged replica_id
    tick element first_vector vector index range contain_number contain_value lead_number lead_value cover_number cover_value id_of wrong_length
    wrong_ids wrong_span contain_found cover_found contain_answer lead_of lead_answer cover_answer result_lines normalise_reply merge_reply
    project_reply highest place_by tick_at index_from vector_found vector_at known contains indices empty_knowledge normalise larger merge
    known_inside project known_raised raise lacking_at or_else lacking_from lacking is_nowhere covers covers_for largest_at largest_from largest
    alike_from own_alike too_many_replicas too_many_ranges get at eq_list eq_pair insert sorted in_span within sample build canonical row_ids step_ids
    used_ids vector_from vector_steps_from vector_steps eq_element grown vectors_of ranges_of indexed knowledge_of normal_of eq_range eq_knowledge
    is_normal batch_fields encode_batch asks asked then uncovered own_ahead gone exhausted too_many_records store_lines new_reply live_content
    wrong_brought edit_lines edited edit_reply tombstone delete_lines deleted delete_reply make_lines makes make_reply apply_lines apply_reply kind_of
    rec_fields put_rec put_recs items find new_store store_fields encode_store batch_with batch_after batch_from decode_batch lacks_change carried
    valid_batch if_valid_batch open_batch store_with store_from decode_store versions_in valid_store if_valid open_store replace next_tick changed_rec
    changed selected made wins winner_of join_from join applied part_bytes part_number part_side part_at_place part_length places_from places parts_at
    to_give place_of of_store of_batch winner_at winner_part learned_part coverage_number coverage_contained coverage_all coverage_thousandths count_in
    thousandths coverage_answer rec_length behind content_at rec_at whole front recs_at tag_kept valid_rec valid_recs empty_value smallest item_bytes
    replica_bytes tag_bytes tagged one two parts again fresh store batch p1 q1 p2 q2 bytes_k6 bytes_k10 bytes_k11 bytes_deleted bytes_two_records
    bytes_two_vectors alone knowledge_rows new_of edited_once edited_twice batch_one batch_two store_rows spelled_rows table
first_knowledge = ((refl, refl), (refl, (refl, (refl, (refl, (refl, (refl, (refl, (refl, (refl, (refl, ((refl, refl), ((refl, refl), (refl, (refl, tt)))))))))))))))

last_knowledge : AllHold (knowledge_rows p2 q2)
unfolding be_from be_at put own_fault read_or answer after number_of written_of first_fault read_at clamp ids_at elements_at vectors_at after_vectors
    ranges_at decode opening before_vectors before_elements before_ranges closing put_fields put_ids put_elements put_vectors put_ranges encode keys
    bounds replica_map vector_count vector_list range_list ended checked told parse repeat number same fields limit empty among judged replica_id
    tick element first_vector vector index range contain_number contain_value lead_number lead_value cover_number cover_value id_of wrong_length
    wrong_ids wrong_span contain_found cover_found contain_answer lead_of lead_answer cover_answer result_lines normalise_reply merge_reply
    project_reply highest place_by tick_at index_from vector_found vector_at known contains indices empty_knowledge normalise larger merge
    known_inside project known_raised raise lacking_at or_else lacking_from lacking is_nowhere covers covers_for largest_at largest_from largest
    alike_from own_alike too_many_replicas too_many_ranges get at eq_list eq_pair insert sorted in_span within sample build canonical row_ids step_ids
    used_ids vector_from vector_steps_from vector_steps eq_element grown vectors_of ranges_of indexed knowledge_of normal_of eq_range eq_knowledge
    is_normal batch_fields encode_batch asks asked then uncovered own_ahead gone exhausted too_many_records store_lines new_reply live_content
    wrong_brought edit_lines edited edit_reply tombstone delete_lines deleted delete_reply make_lines makes make_reply apply_lines apply_reply kind_of
    rec_fields put_rec put_recs items find new_store store_fields encode_store batch_with batch_after batch_from decode_batch lacks_change carried
    valid_batch if_valid_batch open_batch store_with store_from decode_store versions_in valid_store if_valid open_store replace next_tick changed_rec
    changed selected made wins winner_of join_from join applied part_bytes part_number part_side part_at_place part_length places_from places parts_at
    to_give place_of of_store of_batch winner_at winner_part learned_part coverage_number coverage_contained coverage_all coverage_thousandths count_in
    thousandths coverage_answer rec_length behind content_at rec_at whole front recs_at tag_kept valid_rec valid_recs empty_value smallest item_bytes
    replica_bytes tag_bytes tagged one two parts again fresh store batch p1 q1 p2 q2 bytes_k6 bytes_k10 bytes_k11 bytes_deleted bytes_two_records
    bytes_two_vectors alone knowledge_rows new_of edited_once edited_twice batch_one batch_two store_rows spelled_rows table
last_knowledge = ((refl, refl), (refl, (refl, (refl, (refl, (refl, (refl, (refl, (refl, (refl, (refl, ((refl, refl), ((refl, refl), (refl, (refl, tt)))))))))))))))

first_stores : AllHold (store_rows p1 q1)
unfolding be_from be_at put own_fault read_or answer after number_of written_of first_fault read_at clamp ids_at elements_at vectors_at after_vectors
    ranges_at decode opening before_vectors before_elements before_ranges closing put_fields put_ids put_elements put_vectors put_ranges encode keys
    bounds replica_map vector_count vector_list range_list ended checked told parse repeat number same fields limit empty among judged replica_id
    tick element first_vector vector index range contain_number contain_value lead_number lead_value cover_number cover_value id_of wrong_length
    wrong_ids wrong_span contain_found cover_found contain_answer lead_of lead_answer cover_answer result_lines normalise_reply merge_reply
    project_reply highest place_by tick_at index_from vector_found vector_at known contains indices empty_knowledge normalise larger merge
    known_inside project known_raised raise lacking_at or_else lacking_from lacking is_nowhere covers covers_for largest_at largest_from largest
    alike_from own_alike too_many_replicas too_many_ranges get at eq_list eq_pair insert sorted in_span within sample build canonical row_ids step_ids
    used_ids vector_from vector_steps_from vector_steps eq_element grown vectors_of ranges_of indexed knowledge_of normal_of eq_range eq_knowledge
    is_normal batch_fields encode_batch asks asked then uncovered own_ahead gone exhausted too_many_records store_lines new_reply live_content
    wrong_brought edit_lines edited edit_reply tombstone delete_lines deleted delete_reply make_lines makes make_reply apply_lines apply_reply kind_of
    rec_fields put_rec put_recs items find new_store store_fields encode_store batch_with batch_after batch_from decode_batch lacks_change carried
    valid_batch if_valid_batch open_batch store_with store_from decode_store versions_in valid_store if_valid open_store replace next_tick changed_rec
    changed selected made wins winner_of join_from join applied part_bytes part_number part_side part_at_place part_length places_from places parts_at
    to_give place_of of_store of_batch winner_at winner_part learned_part coverage_number coverage_contained coverage_all coverage_thousandths count_in
    thousandths coverage_answer rec_length behind content_at rec_at whole front recs_at tag_kept valid_rec valid_recs empty_value smallest item_bytes
    replica_bytes tag_bytes tagged one two parts again fresh store batch p1 q1 p2 q2 bytes_k6 bytes_k10 bytes_k11 bytes_deleted bytes_two_records
    bytes_two_vectors alone knowledge_rows new_of edited_once edited_twice batch_one batch_two store_rows spelled_rows table
first_stores = (
  (refl, refl),
  (
    (refl, refl),
    (
      (refl, refl),
      (
        (refl, refl),
        (
          (refl, refl),
          (refl, (refl, ((refl, refl), ((refl, refl), ((refl, refl), (refl, (refl, ((refl, refl), (refl, ((refl, refl), ((refl, refl), tt))))))))))),
        ),
      ),
    ),
  ),
)

last_stores : AllHold (store_rows p2 q2)
unfolding be_from be_at put own_fault read_or answer after number_of written_of first_fault read_at clamp ids_at elements_at vectors_at after_vectors
    ranges_at decode opening before_vectors before_elements before_ranges closing put_fields put_ids put_elements put_vectors put_ranges encode keys
    bounds replica_map vector_count vector_list range_list ended checked told parse repeat number same fields limit empty among judged replica_id
    tick element first_vector vector index range contain_number contain_value lead_number lead_value cover_number cover_value id_of wrong_length
    wrong_ids wrong_span contain_found cover_found contain_answer lead_of lead_answer cover_answer result_lines normalise_reply merge_reply
    project_reply highest place_by tick_at index_from vector_found vector_at known contains indices empty_knowledge normalise larger merge
    known_inside project known_raised raise lacking_at or_else lacking_from lacking is_nowhere covers covers_for largest_at largest_from largest
    alike_from own_alike too_many_replicas too_many_ranges get at eq_list eq_pair insert sorted in_span within sample build canonical row_ids step_ids
    used_ids vector_from vector_steps_from vector_steps eq_element grown vectors_of ranges_of indexed knowledge_of normal_of eq_range eq_knowledge
    is_normal batch_fields encode_batch asks asked then uncovered own_ahead gone exhausted too_many_records store_lines new_reply live_content
    wrong_brought edit_lines edited edit_reply tombstone delete_lines deleted delete_reply make_lines makes make_reply apply_lines apply_reply kind_of
    rec_fields put_rec put_recs items find new_store store_fields encode_store batch_with batch_after batch_from decode_batch lacks_change carried
    valid_batch if_valid_batch open_batch store_with store_from decode_store versions_in valid_store if_valid open_store replace next_tick changed_rec
    changed selected made wins winner_of join_from join applied part_bytes part_number part_side part_at_place part_length places_from places parts_at
    to_give place_of of_store of_batch winner_at winner_part learned_part coverage_number coverage_contained coverage_all coverage_thousandths count_in
    thousandths coverage_answer rec_length behind content_at rec_at whole front recs_at tag_kept valid_rec valid_recs empty_value smallest item_bytes
    replica_bytes tag_bytes tagged one two parts again fresh store batch p1 q1 p2 q2 bytes_k6 bytes_k10 bytes_k11 bytes_deleted bytes_two_records
    bytes_two_vectors alone knowledge_rows new_of edited_once edited_twice batch_one batch_two store_rows spelled_rows table
last_stores = (
  (refl, refl),
  (
    (refl, refl),
    (
      (refl, refl),
      (
        (refl, refl),
        (
          (refl, refl),
          (refl, (refl, ((refl, refl), ((refl, refl), ((refl, refl), (refl, (refl, ((refl, refl), (refl, ((refl, refl), ((refl, refl), tt))))))))))),
        ),
      ),
    ),
  ),
)

pub instances : Tables table
unfolding table
instances = (alone_hold, (spelled_hold, (first_knowledge, (last_knowledge, (first_stores, (last_stores, tt))))))

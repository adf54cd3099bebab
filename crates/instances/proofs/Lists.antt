-- K12 as a list of calls: its premises hold, so demand 3 speaks of it, and running it ends in the stores that the
-- instance says. So the theorem over lists of calls is about something that happens: calls that succeed and a refusal.
use Prim.Native.Nat.{ℕ, ◌<◌, ◌^◌}
use mathlib.Core.Path.{◌≡◌, refl, ap}
use mathlib.Core.List.{List, [], ◌∷◌}
use lib.Dec.{lit<}
use lib.ListN.{get_or}
use Rattle.codec.specs.Number.{Bytes, be_from, be_at, put}
use Rattle.codec.proofs.Numbers.{put_bytes}
use Rattle.layout.specs.Knowledge.{basic, All, opening, before_vectors, before_elements, before_ranges, closing, put_fields, put_ids, put_elements}
use Rattle.layout.specs.Knowledge.{put_vectors, put_ranges, encode, bounds}
use Rattle.layout.proofs.Forward.{encode_bytes}
use Rattle.replication.specs.Call.{BytesBrought, Given}
use Rattle.replication.specs.Promise.{Promise, ends}
use Rattle.replication.proofs.Bytes.Part.{no_bytes}
use Rattle.replication.proofs.Demand3.{demand3_basic}
use Rattle.instances.specs.Listed.{calls12}
use Rattle.instances.specs.Answers.{stores_of}
use Rattle.instances.specs.Given.{empty_value, smallest, item_bytes, tag_bytes, one, two, fresh, again, store, batch, p1, q1, tagged}
use Rattle.instances.specs.Table.{edited_twice}
use Rattle.codec.specs.Parsed.{own_fault, read_or}
use Rattle.codec.specs.Reply.{answer, first_fault}
use Rattle.layout.specs.Decode.{ids_at, elements_at, vectors_at, after_vectors, ranges_at, decode}
use Rattle.layout.specs.Parse.{replica_map, vector_count, vector_list, range_list, ended, checked, told, parse}
use Rattle.layout.specs.Read.{repeat, number, same, fields, limit, empty, among, judged, replica_id, tick, element, first_vector, vector, index}
use Rattle.layout.specs.Read.{range}
use Rattle.ticks.specs.Calls.{id_of, wrong_length, wrong_span, result_lines}
use Rattle.ticks.specs.Meaning.{highest, place_by, tick_at, index_from, vector_found, vector_at, known, contains, empty_knowledge}
use Rattle.ticks.specs.Operations.{normalise, larger, merge, known_inside, project, known_raised, raise, lacking_at, or_else, lacking_from, lacking}
use Rattle.ticks.specs.Operations.{is_nowhere, covers, covers_for, largest_at, largest_from, largest, alike_from, own_alike, too_many_replicas}
use Rattle.ticks.specs.Operations.{too_many_ranges}
use Rattle.ticks.specs.Table.{get, at, eq_list, eq_pair, insert, sorted, in_span, within, sample, build, canonical, row_ids, step_ids, used_ids}
use Rattle.ticks.specs.Written.{vector_from, vector_steps_from, vector_steps, eq_element, grown, vectors_of, ranges_of, indexed, knowledge_of, normal_of}
use Rattle.ticks.specs.Written.{eq_range, eq_knowledge, is_normal}
use Rattle.replication.specs.BatchFormat.{batch_fields, encode_batch}
use Rattle.replication.specs.Calls.{then, uncovered, own_ahead, gone, exhausted, too_many_records, store_lines, live_content, wrong_brought, edit_lines}
use Rattle.replication.specs.Calls.{edited, edit_reply, tombstone, delete_lines, deleted, delete_reply, make_lines, makes, make_reply, apply_lines}
use Rattle.replication.specs.Calls.{apply_reply}
use Rattle.replication.specs.Formats.{kind_of, rec_fields, put_rec, put_recs, find, new_store, store_fields, encode_store}
use Rattle.replication.specs.Lists.{start, outcome, batch_number, apply_to, writes, put_at, keep, run, trace}
use Rattle.replication.specs.OpenBatch.{batch_with, batch_after, batch_from, decode_batch, lacks_change, carried, valid_batch, if_valid_batch, open_batch}
use Rattle.replication.specs.OpenStore.{store_with, store_from, decode_store, versions_in, valid_store, if_valid, open_store}
use Rattle.replication.specs.Operate.{replace, next_tick, changed_rec, changed, selected, made, wins, winner_of, join_from, join, applied}
use Rattle.replication.specs.Reading.{rec_length, behind, content_at, rec_at, whole, front, recs_at, tag_kept, valid_rec, valid_recs}
use Rattle.instances.specs.Longer.{s1, t1}

pub item_bytes_lem : (i : ℕ) → Bytes (item_bytes i)
unfolding item_bytes
item_bytes_lem i = put_bytes 24 i [] no_bytes

pub tag_bytes_lem : (t : ℕ) → BytesBrought (tagged t)
unfolding tag_bytes tagged
tag_bytes_lem t = record { tag = put_bytes 16 t [] no_bytes }

-- one call more, or one row
pub also : {A B : Type 0} → A → B → A × B
also x y = (x, y)

pub given12 : (P Q : ℕ) → P < 256 ^ 16 → Q < 256 ^ 16 → All Given (calls12 P Q)
unfolding calls12
given12 P Q p q = (
  (p, (item_bytes_lem 1, tag_bytes_lem 9)),
  (
    (p, (encode_bytes empty_value, (item_bytes_lem 0, item_bytes_lem highest))),
    (
      (p, (item_bytes_lem 2, tag_bytes_lem 8)),
      ((p, (encode_bytes (one P 1), (item_bytes_lem 0, item_bytes_lem highest))), (q, (q, (q, tt)))),
    ),
  ),
)

-- the replica ids of the lists have 16 bytes
pub small_ids : (p1 < 256 ^ 16) × ((q1 < 256 ^ 16) × ((s1 < 256 ^ 16) × (t1 < 256 ^ 16)))
unfolding p1 q1 s1 t1
small_ids = (lit< tt, (lit< tt, (lit< tt, lit< tt)))

-- demand 3 of the list
pub promise12 : Promise basic (calls12 p1 q1)
promise12 = demand3_basic (calls12 p1 q1) (given12 p1 q1 small_ids.0 small_ids.1.0)

-- both stores at the end, computed in one run
stores12 : stores_of (q1 ∷ p1 ∷ []) (ends basic (calls12 p1 q1))
    ≡ encode_store (store q1 (one p1 2) (fresh 1 p1 1 9 ∷ fresh 2 p1 2 8 ∷ [])) ∷ encode_store (edited_twice p1) ∷ []
unfolding be_from be_at put own_fault read_or answer first_fault ids_at elements_at vectors_at after_vectors ranges_at decode opening before_vectors
    before_elements before_ranges closing put_fields put_ids put_elements put_vectors put_ranges encode bounds replica_map vector_count vector_list
    range_list ended checked told parse repeat number same fields limit empty among judged replica_id tick element first_vector vector index
    range id_of wrong_length wrong_span result_lines highest place_by tick_at index_from vector_found vector_at known contains empty_knowledge
    normalise larger merge known_inside project known_raised raise lacking_at or_else lacking_from lacking is_nowhere covers covers_for largest_at
    largest_from largest alike_from own_alike too_many_replicas too_many_ranges get at eq_list eq_pair insert sorted in_span within sample build
    canonical row_ids step_ids used_ids vector_from vector_steps_from vector_steps eq_element grown vectors_of ranges_of indexed knowledge_of normal_of
    eq_range eq_knowledge is_normal batch_fields encode_batch then uncovered own_ahead gone exhausted too_many_records store_lines live_content
    wrong_brought edit_lines edited edit_reply tombstone delete_lines deleted delete_reply make_lines makes make_reply apply_lines apply_reply kind_of
    rec_fields put_rec put_recs find new_store store_fields encode_store start outcome batch_number apply_to writes put_at keep run trace batch_with
    batch_after batch_from decode_batch lacks_change carried valid_batch if_valid_batch open_batch store_with store_from decode_store versions_in
    valid_store if_valid open_store replace next_tick changed_rec changed selected made wins winner_of join_from join applied ends rec_length behind
    content_at rec_at whole front recs_at tag_kept valid_rec valid_recs empty_value smallest item_bytes tag_bytes tagged one two again fresh store
    batch p1 q1 calls12 edited_twice stores_of
stores12 = refl

-- what the list ends in: Q has both of P's records, and P's store is as P left it
pub run12 : ((ends basic (calls12 p1 q1)).stores q1 ≡ encode_store (store q1 (one p1 2) (fresh 1 p1 1 9 ∷ fresh 2 p1 2 8 ∷ [])))
    × ((ends basic (calls12 p1 q1)).stores p1 ≡ encode_store (edited_twice p1))
unfolding stores_of
run12 = (ap (λ (l : List (List ℕ)). get_or l 0 []) stores12, ap (λ (l : List (List ℕ)). get_or l 1 []) stores12)

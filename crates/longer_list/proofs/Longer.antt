-- The longer list of calls: its premises hold, so demand 3 speaks of it, and running it ends in the stores and batches that are written
-- out, with the refusals and the answers that are listed. Both sides are closed, so they are computed and compared, in one run.
use Prim.Native.Nat.{ℕ, ◌<◌, ◌^◌}
use mathlib.Core.Path.{◌≡◌, refl, sym, ap, ap₂, ◌∙◌}
use mathlib.Core.List.{List, [], ◌∷◌, ◌++◌}
use mathlib.Core.Option.{some}
use lib.Dec.{lit<}
use lib.ListN.{length, take, get_or}
use Rattle.codec.specs.Answer.{Refused}
use Rattle.codec.proofs.Numbers.{put_bytes}
use Rattle.layout.proofs.Forward.{encode_bytes}
use Rattle.replication.specs.Call.{Given}
use Rattle.replication.specs.Promise.{Promise, ends, store_after}
use Rattle.replication.specs.Runner.{Number}
use Rattle.replication.proofs.Bytes.Part.{no_bytes}
use Rattle.replication.proofs.Consumed.{either_exactly, twice_exactly}
use Rattle.replication.proofs.Demand3.{demand3_basic}
use Rattle.instances.specs.Given.{empty_value, smallest, item_bytes, tag_bytes, tagged, two, p1, q1}
use Rattle.instances.specs.Answers.{applied_to, replied, answers, flags, stores_of}
use Rattle.instances.specs.Longer.{s1, t1, turns, longer, all_bytes, longer_flags, longer_answers, bytes_p, bytes_q, bytes_s, bytes_t}
use Rattle.instances.specs.Longer.{bytes_batch0, bytes_batch1, bytes_batch2, bytes_batch3}
use Rattle.instances.specs.MethodRan.{noted, ran_once, seen}
use Rattle.instances.proofs.Lists.{item_bytes_lem, tag_bytes_lem, small_ids, also}
use Rattle.instances.proofs.OneRun.{flags_are, answers_are, stores_are, batches_are, store_stays_lem, answer_is, apply_is}
use Rattle.codec.specs.Number.{Bytes, be_from, be_at, put}
use Rattle.codec.specs.Parsed.{own_fault, read_or}
use Rattle.codec.specs.Reply.{answer, first_fault}
use Rattle.layout.specs.Decode.{ids_at, elements_at, vectors_at, after_vectors, ranges_at, decode}
use Rattle.layout.specs.Knowledge.{basic, base, All, opening, before_vectors, before_elements, before_ranges, closing, put_fields, put_ids}
use Rattle.layout.specs.Knowledge.{put_elements, put_vectors}
use Rattle.layout.specs.Knowledge.{put_ranges, encode, bounds}
use Rattle.layout.specs.Parse.{replica_map, vector_count, vector_list, range_list, ended, checked, told, parse}
use Rattle.layout.specs.Read.{repeat, number, same, fields, limit, empty, among, judged, replica_id, tick, element, first_vector, vector, index}
use Rattle.layout.specs.Read.{range}
use Rattle.ticks.specs.Calls.{id_of, wrong_length, wrong_span, result_lines}
use Rattle.ticks.specs.Meaning.{highest, place_by, tick_at, index_from, vector_found, vector_at, known, contains, empty_knowledge}
use Rattle.ticks.specs.Operations.{normalise, larger, merge, known_inside, project, known_raised, raise, lacking_at, or_else, lacking_from, lacking}
use Rattle.ticks.specs.Operations.{is_nowhere, covers, covers_for, largest_at, largest_from, largest, alike_from, own_alike, too_many_replicas}
use Rattle.ticks.specs.Operations.{too_many_ranges}
use Rattle.ticks.specs.Table.{get, at, eq_list, eq_pair, insert, sorted, in_span, within, sample, build, canonical, row_ids, step_ids, used_ids}
use Rattle.ticks.specs.Written.{vector_from, vector_steps_from, vector_steps, eq_element, grown, vectors_of, ranges_of, indexed, knowledge_of, normal_of}
use Rattle.ticks.specs.Written.{eq_range, eq_knowledge, is_normal}
use Rattle.replication.specs.BatchFormat.{batch_fields, encode_batch}
use Rattle.replication.specs.Calls.{then, uncovered, own_ahead, gone, exhausted, too_many_records, store_lines, live_content, wrong_brought, edit_lines}
use Rattle.replication.specs.Calls.{edited, edit_reply, tombstone, delete_lines, deleted, delete_reply, make_lines, makes, make_reply, apply_lines}
use Rattle.replication.specs.Calls.{apply_reply}
use Rattle.replication.specs.Formats.{kind_of, rec_fields, put_rec, put_recs, find, new_store, store_fields, encode_store}
use Rattle.replication.specs.Lists.{start, trace, outcome, batch_number, put_at, keep}
use Rattle.replication.specs.OpenBatch.{batch_with, batch_after, batch_from, decode_batch, lacks_change, carried, valid_batch, if_valid_batch, open_batch}
use Rattle.replication.specs.OpenStore.{store_with, store_from, decode_store, versions_in, valid_store, if_valid, open_store}
use Rattle.replication.specs.Operate.{replace, next_tick, changed_rec, changed, selected, made, wins, winner_of, join_from, join, applied}
use Rattle.replication.specs.Reading.{rec_length, behind, content_at, rec_at, whole, front, recs_at, tag_kept, valid_rec, valid_recs}

smallest_bytes : Bytes smallest
unfolding smallest empty_value encode put put_fields put_ids put_elements put_vectors put_ranges opening before_vectors before_elements before_ranges closing
smallest_bytes = encode_bytes empty_value

pub longer_given : All Given longer
unfolding longer
longer_given =
    let p = small_ids.0 in
    let q = small_ids.1.0 in
    let s = small_ids.1.1.0 in
    let t = small_ids.1.1.1 in
    let all : Bytes (item_bytes 0) × Bytes (item_bytes highest) = (item_bytes_lem 0, item_bytes_lem highest) in
    also (p, (item_bytes_lem 1, tag_bytes_lem 9)) (also (p, (item_bytes_lem 2, tag_bytes_lem 8)) (also (p, (item_bytes_lem 3, tag_bytes_lem 7))
    (also (p, item_bytes_lem 2) (also (p, item_bytes_lem 2) (also (p, (item_bytes_lem 2, tag_bytes_lem 5))
    (also (p, (put_bytes 23 1 [] no_bytes, tag_bytes_lem 4)) (also (q, (item_bytes_lem 1, tag_bytes_lem 6))
    (also (q, item_bytes_lem 1) (also (q, (item_bytes_lem highest, tag_bytes_lem 4))
    (also (p, (smallest_bytes, (item_bytes_lem 2, item_bytes_lem 3))) (also (q, (smallest_bytes, all))
    (also (q, (smallest_bytes, all)) (also s (also s (also t (also t (also s
    (also p (also (p, item_bytes_lem 1) (also (p, (item_bytes_lem 1, tag_bytes_lem 3))
    (also (p, item_bytes_lem 3) (also (p, (encode_bytes turns, all))
    (also (p, (encode_bytes (two p1 6 q1 3), all)) (also s (also q tt)))))))))))))))))))))))))

-- demand 3 of the list
pub longer_promise : Promise basic longer
longer_promise = demand3_basic longer longer_given

-- either order and twice, from that promise: any of its batches, on any replica, into buffers of any lengths
pub longer_either : (p m n r₁ r₂ r₃ r₄ : ℕ) (a b u v x y : List ℕ) → p < 256 ^ 16
    → Number m (ends basic longer).batches a → Number n (ends basic longer).batches b
    → outcome (apply_reply base (store_after basic longer p) a) r₁ ≡ some u → outcome (apply_reply base u b) r₂ ≡ some x
    → outcome (apply_reply base (store_after basic longer p) b) r₃ ≡ some v → outcome (apply_reply base v a) r₄ ≡ some y → x ≡ y
longer_either = either_exactly basic longer longer_promise

pub longer_twice : (p n r₁ r₂ : ℕ) (a x y : List ℕ) → p < 256 ^ 16 → Number n (ends basic longer).batches a
    → outcome (apply_reply base (store_after basic longer p) a) r₁ ≡ some x → outcome (apply_reply base x a) r₂ ≡ some y → x ≡ y
longer_twice = twice_exactly basic longer longer_promise

-- flags, answers and end of the list, computed in one run
computed : seen (p1 ∷ q1 ∷ s1 ∷ t1 ∷ []) (ran_once basic start longer)
    ≡ record {
      flags = longer_flags;
      answers = longer_answers;
      stores = bytes_p ∷ bytes_q ∷ bytes_s ∷ bytes_t ∷ [];
      batches = bytes_batch0 ∷ bytes_batch1 ∷ bytes_batch2 ∷ bytes_batch3 ∷ [];
    }
unfolding be_from be_at put own_fault read_or answer first_fault ids_at elements_at vectors_at after_vectors ranges_at decode opening before_vectors
    before_elements before_ranges closing put_fields put_ids put_elements put_vectors put_ranges encode bounds replica_map vector_count vector_list
    range_list ended checked told parse repeat number same fields limit empty among judged replica_id tick element first_vector vector index
    range id_of wrong_length wrong_span result_lines highest place_by tick_at index_from vector_found vector_at known contains empty_knowledge
    normalise larger merge known_inside project known_raised raise lacking_at or_else lacking_from lacking is_nowhere covers covers_for largest_at
    largest_from largest alike_from own_alike too_many_replicas too_many_ranges get at eq_list eq_pair insert sorted in_span within sample build
    canonical row_ids step_ids used_ids vector_from vector_steps_from vector_steps eq_element grown vectors_of ranges_of indexed knowledge_of normal_of
    eq_range eq_knowledge is_normal batch_fields encode_batch then uncovered own_ahead gone exhausted too_many_records store_lines live_content
    wrong_brought edit_lines edited edit_reply tombstone delete_lines deleted delete_reply make_lines makes make_reply apply_lines apply_reply kind_of
    rec_fields put_rec put_recs find new_store store_fields encode_store start outcome batch_number put_at keep batch_with batch_after batch_from
    decode_batch lacks_change carried valid_batch if_valid_batch open_batch store_with store_from decode_store versions_in valid_store if_valid
    open_store replace next_tick changed_rec changed selected made wins winner_of join_from join applied rec_length behind content_at rec_at whole
    front recs_at tag_kept valid_rec valid_recs empty_value smallest item_bytes tag_bytes tagged two p1 q1 s1 t1 turns stores_of applied_to replied
    noted ran_once seen longer longer_flags longer_answers bytes_p bytes_q bytes_s bytes_t bytes_batch0 bytes_batch1 bytes_batch2 bytes_batch3
computed = refl

longer_stores : stores_of (p1 ∷ q1 ∷ s1 ∷ t1 ∷ []) (ends basic longer) ≡ bytes_p ∷ bytes_q ∷ bytes_s ∷ bytes_t ∷ []
longer_stores = stores_are basic _ longer _ _ _ _ computed

longer_batches : (ends basic longer).batches ≡ bytes_batch0 ∷ bytes_batch1 ∷ bytes_batch2 ∷ bytes_batch3 ∷ []
longer_batches = batches_are basic _ longer _ _ _ _ computed

-- the stores of P, Q, S and T, and the batches
pub longer_bytes : all_bytes (ends basic longer)
    ≡ bytes_p ∷ bytes_q ∷ bytes_s ∷ bytes_t ∷ bytes_batch0 ∷ bytes_batch1 ∷ bytes_batch2 ∷ bytes_batch3 ∷ []
unfolding all_bytes stores_of
longer_bytes = ap₂ (λ (x y : List (List ℕ)). x ++ y) longer_stores longer_batches

pub longer_lengths : (length bytes_batch0 ≡ 557) × ((length bytes_batch1 ≡ 501) × ((length bytes_batch2 ≡ 1015) × (length bytes_batch3 ≡ 504)))
unfolding bytes_batch0 bytes_batch1 bytes_batch2 bytes_batch3
longer_lengths = (refl, (refl, (refl, refl)))

-- which calls the machine is told were refused
pub longer_refused : flags (trace basic start longer) ≡ longer_flags
longer_refused = flags_are basic _ longer _ _ _ _ computed

-- what each call answers
pub longer_answers_lem : answers basic start longer ≡ longer_answers
longer_answers_lem = answers_are basic _ longer _ _ _ _ computed

-- S's store before call 24 is that at the end: call 24 was refused, and call 25 is Q's
before_24 : (ends basic (take 24 longer)).stores s1 ≡ bytes_s
unfolding longer longer_flags stores_of s1 q1
before_24 = sym (store_stays_lem basic _ longer _ _ _ _ computed 24 s1 (refl, tt)) ∙ ap (λ (l : List (List ℕ)). get_or l 2 []) longer_stores

refused_24 : answer (apply_reply base bytes_s bytes_batch3) 2000 ≡ Refused 18
unfolding longer longer_answers batch_number
refused_24 =
    ap (λ (s : List ℕ). answer (apply_reply base s bytes_batch3) 2000) (sym before_24)
    ∙ apply_is basic _ longer _ _ _ _ computed 24 s1 3 2000 17 bytes_batch3 (lit< tt) refl refl refl

-- by which numbers: calls 4, 6 and 11 from the bytes as the calls before them left them, call 24 from those of S and of batch 3
pub longer_numbers :
    (answer (delete_reply base ((ends basic (take 4 longer)).stores p1) (item_bytes 2)) 2000 ≡ Refused 19)
    × ((answer (edit_reply base ((ends basic (take 6 longer)).stores p1) (put 23 1 []) (tagged 4)) 2000 ≡ Refused 17)
    × ((answer (make_reply basic ((ends basic (take 11 longer)).stores q1) smallest (item_bytes 0) (item_bytes highest)) 500 ≡ Refused 14)
    × (answer (apply_reply base bytes_s bytes_batch3) 2000 ≡ Refused 18)))
unfolding longer longer_answers replied
longer_numbers =
    also (answer_is basic _ longer _ _ _ _ computed 4 (lit< tt)) (also (answer_is basic _ longer _ _ _ _ computed 6 (lit< tt))
    (also (answer_is basic _ longer _ _ _ _ computed 11 (lit< tt)) refused_24))

-- One round through the centre, played: P is the centre, Q and S are the districts, and each of the three has edited once. No call is
-- refused, so the calls are a round as the theorem asks (`calls_round`), and the theorem speaks of them: any two of the three end alike,
-- and what one of them contained before, each contains after. The stores that it speaks of are the stores that the calls come to. These
-- are computed, in one run of the eleven calls; that none is refused, and how many batches were made before each half, is read off that
-- run, stage by stage.
use Prim.Native.Nat.{ℕ}
use mathlib.Core.Path.{◌≡◌, refl, sym, ap, ◌∙◌, subst}
use mathlib.Core.Logic.{inl, inr}
use mathlib.Core.Bool.{Bool, true, false}
use mathlib.Core.List.{List, [], ◌∷◌, ◌++◌, append_assoc, append-nil}
use mathlib.Core.Option.{Option, none, some}
use native.Mathlib.Omega.{arith}
use lib.Dec.{eqb}
use lib.ListN.{length, take, drop, get_or, take-append-drop}
use borrow.Author.Tests.{eq-eqb, le-ltb}
use Rattle.codec.specs.Answer.{Answer}
use Rattle.codec.specs.Answer.{Written}
use Rattle.codec.specs.Number.{Bytes, be_from, be_at, put}
use Rattle.codec.specs.Parsed.{accepted, own_fault, read_or}
use Rattle.codec.specs.Reply.{answer, first_fault}
use Rattle.layout.specs.Knowledge.{Rules, Element, Knowledge, Distinct, basic, base, All, opening, before_vectors, before_elements}
use Rattle.layout.specs.Knowledge.{before_ranges, closing, put_fields, put_ids, put_elements, put_vectors, put_ranges, encode, bounds}
use Rattle.layout.specs.Decode.{ids_at, elements_at, vectors_at, after_vectors, ranges_at, decode}
use Rattle.layout.specs.Parse.{replica_map, vector_count, vector_list, range_list, ended, checked, told, parse}
use Rattle.layout.specs.Read.{repeat, number, same, fields, limit, empty, among, judged, replica_id, tick, element, first_vector, vector}
use Rattle.layout.specs.Read.{index, range}
use Rattle.layout.proofs.Exact.{base_permitted}
use Rattle.layout.proofs.FoundSteps.{true_false}
use Rattle.layout.proofs.Forward.{encode_bytes}
use Rattle.ticks.specs.Calls.{id_of, wrong_length, wrong_span, result_lines}
use Rattle.ticks.specs.Meaning.{highest, place_by, tick_at, index_from, vector_found, vector_at, known, contains, empty_knowledge}
use Rattle.ticks.specs.Operations.{normalise, larger, merge, known_inside, project, known_raised, raise, lacking_at, or_else, lacking_from}
use Rattle.ticks.specs.Operations.{lacking, is_nowhere, covers, covers_for, largest_at, largest_from, largest, alike_from, own_alike}
use Rattle.ticks.specs.Operations.{too_many_replicas, too_many_ranges}
use Rattle.ticks.specs.Table.{get, at, eq_list, eq_pair, insert, sorted, in_span, within, sample, build, canonical, row_ids, step_ids, used_ids}
use Rattle.ticks.specs.Written.{vector_from, vector_steps_from, vector_steps, eq_element, grown, vectors_of, ranges_of, indexed, knowledge_of}
use Rattle.ticks.specs.Written.{normal_of, eq_range, eq_knowledge, is_normal}
use Rattle.replication.specs.Call.{ReplicaId, Call, Given}
use Rattle.replication.specs.Formats.{Store, kind_of, rec_fields, put_rec, put_recs, find, new_store, store_fields, encode_store}
use Rattle.replication.specs.Lists.{World, writes, start, trace, outcome, batch_number, put_at, keep}
use Rattle.replication.specs.Promise.{IsStore, ends, store_after}
use Rattle.corollaries.specs.Round.{Server, Round, Alike, NothingLost, after_round}
use Rattle.corollaries.specs.RoundCalls.{Half, gathers, spreads, AllDone}
use Rattle.replication.specs.BatchFormat.{batch_fields, encode_batch}
use Rattle.replication.specs.Calls.{then, uncovered, own_ahead, exhausted, too_many_records, store_lines, live_content, wrong_brought, edit_lines}
use Rattle.replication.specs.Calls.{edited, edit_reply, make_lines, makes, make_reply, apply_lines, apply_reply}
use Rattle.replication.specs.OpenBatch.{batch_with, batch_after, batch_from, decode_batch, lacks_change, carried, valid_batch, if_valid_batch}
use Rattle.replication.specs.OpenBatch.{open_batch}
use Rattle.replication.specs.OpenStore.{store_with, store_from, decode_store, versions_in, valid_store, if_valid, open_store}
use Rattle.replication.specs.Operate.{replace, next_tick, changed_rec, changed, selected, made, wins, winner_of, join_from, join, applied}
use Rattle.replication.specs.Reading.{rec_length, behind, content_at, rec_at, whole, front, recs_at, tag_kept, valid_rec, valid_recs}
use Rattle.replication.proofs.Contents.Valid.{store_exact}
use Rattle.replication.proofs.Bytes.Store.{store_bytes_lem}
use Rattle.replication.proofs.Demand3.{store_one}
use Rattle.corollaries.proofs.Round.OneRound.{one_round_basic}
use Rattle.replication.proofs.Runner.{ends_more}
use Rattle.corollaries.proofs.Round.Calls.{of_server, calls_round}
use Rattle.instances.specs.Given.{item_bytes, tag_bytes, tagged, el, one, two, fresh, again, store, batch, p1, q1}
use Rattle.instances.specs.Answers.{applied_to, replied, flags, stores_of}
use Rattle.instances.specs.Longer.{s1}
use Rattle.instances.specs.MethodRan.{noted, ran_once, Seen, seen, in_stages}
use Rattle.instances.specs.RoundListed.{round_before, round_gather, round_spread, by_p, by_q, by_s, edited_by, begins, halfway, all_three}
use Rattle.instances.specs.RoundListed.{finishes, from_q, from_s, for_q, for_s}
use Rattle.instances.proofs.Lists.{item_bytes_lem, tag_bytes_lem, small_ids, also}
use Rattle.instances.proofs.OneRun.{Stages, stages_are}

-- ---- the calls are given bytes

all_ids_lem : Bytes (item_bytes 0) × Bytes (item_bytes highest)
all_ids_lem = (item_bytes_lem 0, item_bytes_lem highest)

pub before_given : All Given round_before
unfolding round_before
before_given =
    also (small_ids.0, (item_bytes_lem 2, tag_bytes_lem 9)) (also (small_ids.1.0, (item_bytes_lem 1, tag_bytes_lem 8))
    (also (small_ids.1.1.0, (item_bytes_lem 1, tag_bytes_lem 7)) tt))

pub gather_given : All Given round_gather
unfolding round_gather
gather_given =
    also (small_ids.1.0, (encode_bytes (one p1 1), all_ids_lem)) (also small_ids.0
    (also (small_ids.1.1.0, (encode_bytes (two p1 1 q1 1), all_ids_lem)) (also small_ids.0 tt)))

pub spread_given : All Given round_spread
unfolding round_spread
spread_given =
    also (small_ids.0, (encode_bytes (one q1 1), all_ids_lem)) (also small_ids.1.0
    (also (small_ids.0, (encode_bytes (one s1 1), all_ids_lem)) (also small_ids.1.1.0 tt)))

-- ---- one run

abbrev pub servers : List ℕ
servers = p1 ∷ q1 ∷ s1 ∷ []

-- the edits; then two calls for each batch, which is made and applied
unfoldable pub stages : List (List Call)
stages = round_before ∷ take 2 round_gather ∷ drop 2 round_gather ∷ take 2 round_spread ∷ drop 2 round_spread ∷ []

-- what a stage comes to: which calls are refused, what they answer, the three stores, and how many of the four batches are made
abbrev pub came : List Bool → List Answer → Store → Store → Store → ℕ → Seen
came fs xs p q s n =
    record {
      flags = fs;
      answers = xs;
      stores = encode_store p ∷ encode_store q ∷ encode_store s ∷ [];
      batches = take n (encode_batch from_q ∷ encode_batch from_s ∷ encode_batch for_q ∷ encode_batch for_s ∷ []);
    }

-- two calls, none refused
abbrev pub both : List Bool
both = false ∷ false ∷ []

abbrev pub comes_to : List Seen
comes_to =
    came (false ∷ both) (Written 263 ∷ Written 263 ∷ Written 263 ∷ []) (begins p1) (begins q1) (begins s1) 0 ∷
    came both (Written 448 ∷ Written 380 ∷ []) halfway (begins q1) (begins s1) 1 ∷
    came both (Written 476 ∷ Written 408 ∷ []) (finishes p1) (begins q1) (begins s1) 2 ∷
    came both (Written 593 ∷ Written 408 ∷ []) (finishes p1) (finishes q1) (begins s1) 3 ∷
    came both (Written 504 ∷ Written 408 ∷ []) (finishes p1) (finishes q1) (finishes s1) 4 ∷
    []

computed : in_stages basic servers start stages ≡ comes_to
unfolding be_from be_at put own_fault read_or answer first_fault ids_at elements_at vectors_at after_vectors ranges_at decode opening before_vectors
    before_elements before_ranges closing put_fields put_ids put_elements put_vectors put_ranges encode bounds replica_map vector_count vector_list
    range_list ended checked told parse repeat number same fields limit empty among judged replica_id tick element first_vector vector index
    range id_of wrong_length wrong_span result_lines highest place_by tick_at index_from vector_found vector_at known contains empty_knowledge
    normalise larger merge known_inside project known_raised raise lacking_at or_else lacking_from lacking is_nowhere covers covers_for largest_at
    largest_from largest alike_from own_alike too_many_replicas too_many_ranges get at eq_list eq_pair insert sorted in_span within sample build
    canonical row_ids step_ids used_ids vector_from vector_steps_from vector_steps eq_element grown vectors_of ranges_of indexed knowledge_of normal_of
    eq_range eq_knowledge is_normal batch_fields encode_batch then uncovered own_ahead exhausted too_many_records store_lines live_content
    wrong_brought edit_lines edited edit_reply make_lines makes make_reply apply_lines apply_reply kind_of rec_fields put_rec put_recs find new_store
    store_fields encode_store start outcome batch_number put_at keep batch_with batch_after batch_from decode_batch lacks_change carried valid_batch
    if_valid_batch open_batch store_with store_from decode_store versions_in valid_store if_valid open_store replace next_tick changed_rec changed
    selected made wins winner_of join_from join applied rec_length behind content_at rec_at whole front recs_at tag_kept valid_rec valid_recs
    item_bytes tag_bytes tagged two p1 q1 s1 stores_of applied_to replied noted ran_once seen in_stages one again fresh store batch round_before
    round_gather round_spread by_p by_q by_s edited_by begins halfway all_three finishes from_q from_s for_q for_s stages
computed = refl

-- of each stage: which calls are refused (none), what they answer, and the bytes of the stores and batches after it
pub played : Stages basic servers [] stages comes_to
played = stages_are basic servers stages comes_to computed

-- ---- no call is refused

-- no call is told as refused
abbrev pub Clear : List Bool → Type 0
Clear fs = All (λ (f : Bool). f ≡ false) fs

module _ (R : Rules) where
  written : (o : Option (List ℕ)) → elim o [ none ↦ true | some bs ↦ false ] ≡ false → (bs : List ℕ) × (o ≡ some bs)
  written none e = absurd (true_false e)
  written (some bs) e = (bs, refl)

  -- then each call of a list is done after those before it
  pub none_refused : (cs before : List Call) → Clear (flags (trace R (ends R before) cs)) → AllDone R before cs
  unfolding flags trace
  none_refused [] before h = tt
  none_refused (c ∷ cs) before h = (
    written (writes R (ends R before) c) h.0,
    none_refused cs (before ++ (c ∷ [])) (subst (λ (w : World). Clear (flags (trace R w cs))) (sym (ends_more R before c)) h.1),
  )

  done-append : (a b before : List Call) → AllDone R before a → AllDone R (before ++ a) b → AllDone R before (a ++ b)
  done-append [] b before x y = subst (λ (l : List Call). AllDone R l b) (append-nil before) y
  done-append (c ∷ a) b before x y = (
    x.0,
    done-append a b (before ++ (c ∷ [])) x.1 (subst (λ (l : List Call). AllDone R l b) (sym (append_assoc before (c ∷ []) a)) y),
  )

-- two stages of two calls each
two_done : (before calls : List Call) → flags (trace basic (ends basic before) (take 2 calls)) ≡ both
    → flags (trace basic (ends basic (before ++ take 2 calls)) (drop 2 calls)) ≡ both → AllDone basic before calls
two_done before calls e f =
    let clear : Clear both = (refl, (refl, tt)) in
    subst (AllDone basic before) (take-append-drop 2 calls)
    (done-append basic (take 2 calls) (drop 2 calls) before
    (none_refused basic (take 2 calls) before (subst Clear (sym e) clear))
    (none_refused basic (drop 2 calls) (before ++ take 2 calls) (subst Clear (sym f) clear)))

-- of the list: each call is done
pub before_done : AllDone basic [] round_before
unfolding stages
before_done = none_refused basic round_before [] (subst Clear (sym played.0.flags) (refl, (refl, (refl, tt))))

pub gather_done : AllDone basic round_before round_gather
unfolding stages
gather_done = two_done round_before round_gather played.1.0.flags played.1.1.0.flags

pub spread_done : AllDone basic (round_before ++ round_gather) round_spread
unfolding stages round_before round_gather
spread_done = two_done (round_before ++ round_gather) round_spread played.1.1.1.0.flags played.1.1.1.1.0.flags

-- ---- it is a round

-- a list of calls that is written as the paper has it, with the batches by the numbers that they get
module _ (R : Rules) (before gather spread : List Call) (centre : ℕ) (ds : List ℕ) (into out : Half) where
  as_round : gather ≡ gathers centre into (length (ends R before).batches) ds
      → spread ≡ spreads centre out (length (ends R (before ++ gather)).batches) ds → Distinct (centre ∷ ds)
      → AllDone R before gather → AllDone R (before ++ gather) spread → Round R before gather spread centre ds
  as_round g s distinct x y =
      let gathering = gathers centre into (length (ends R before).batches) ds in
      let spreading = spreads centre out (length (ends R (before ++ gathering)).batches) ds in
      let e : spread ≡ spreading = s ∙ ap (λ (l : List Call). spreads centre out (length (ends R (before ++ l)).batches) ds) g in
      let z : AllDone R (before ++ gathering) spreading =
      subst (AllDone R (before ++ gathering)) e (subst (λ (l : List Call). AllDone R (before ++ l) spread) g y) in
      subst (λ (l : List Call). Round R before l spread centre ds) (sym g)
      (subst (λ (l : List Call). Round R before gathering l centre ds) (sym e)
      (calls_round R before centre ds into distinct (subst (AllDone R before) g x) out z))

-- what the calls of each half are given, by district
unfoldable pub gather_half : Half
gather_half = record {
  knowledge = λ d. elim (eqb d q1) [ true ↦ encode (one p1 1) | false ↦ encode (two p1 1 q1 1) ];
  make_room = λ d. 2000;
  apply_room = λ d. 2000;
}

unfoldable pub spread_half : Half
spread_half = record { knowledge = λ d. encode (one d 1); make_room = λ d. 2000; apply_room = λ d. 2000 }

pub gather_is : round_gather ≡ gathers p1 gather_half 0 (q1 ∷ s1 ∷ [])
unfolding round_gather gather_half item_bytes q1 s1
gather_is = refl

pub spread_is : round_spread ≡ spreads p1 spread_half 2 (q1 ∷ s1 ∷ [])
unfolding round_spread spread_half item_bytes
spread_is = refl

-- no batch was made before the round, and two before the second half
pub none_made : length (ends basic round_before).batches ≡ 0
unfolding stages
none_made = ap (λ (l : List (List ℕ)). length l) played.0.batches

pub two_made : length (ends basic (round_before ++ round_gather)).batches ≡ 2
unfolding stages round_before round_gather
two_made = ap (λ (l : List (List ℕ)). length l) played.1.1.0.batches

apart : (x y : ℕ) → eqb x y ≡ false → x ≡ y → ⊥
apart x y f e = true_false (sym (eq-eqb x y e) ∙ f)

pub servers_apart : Distinct servers
unfolding p1 q1 s1
servers_apart = ((apart p1 q1 refl, (apart p1 s1 refl, tt)), ((apart q1 s1 refl, tt), (tt, tt)))

pub round_played : Round basic round_before round_gather round_spread p1 (q1 ∷ s1 ∷ [])
round_played =
    as_round basic round_before round_gather round_spread p1 (q1 ∷ s1 ∷ []) gather_half spread_half
    (gather_is ∙ ap (λ (n : ℕ). gathers p1 gather_half n (q1 ∷ s1 ∷ [])) (sym none_made))
    (spread_is ∙ ap (λ (n : ℕ). spreads p1 spread_half n (q1 ∷ s1 ∷ [])) (sym two_made)) servers_apart gather_done spread_done

-- ---- the stores

abbrev Opens : Store → Type 0
Opens st = open_store base (encode_store st) ≡ accepted st

-- the stores that the servers have at some stage are valid
opens : Opens halfway × All (λ p. Opens (begins p) × Opens (finishes p)) servers
unfolding be_from be_at put ids_at elements_at vectors_at after_vectors ranges_at decode opening before_vectors before_elements before_ranges closing
    put_fields put_ids put_elements put_vectors put_ranges encode bounds replica_map vector_count vector_list range_list ended checked told parse
    repeat number same fields limit empty among judged replica_id tick element first_vector vector index range highest place_by tick_at
    index_from vector_found vector_at known contains normalise larger lacking_at or_else lacking_from lacking is_nowhere covers covers_for largest_at
    largest_from largest alike_from own_alike get at eq_list eq_pair insert sorted in_span within sample build canonical row_ids step_ids used_ids
    vector_from vector_steps_from vector_steps eq_element grown vectors_of ranges_of indexed knowledge_of normal_of eq_range eq_knowledge is_normal
    kind_of rec_fields put_rec put_recs find store_fields encode_store store_with store_from decode_store versions_in valid_store if_valid open_store
    rec_length behind content_at rec_at whole front recs_at tag_kept valid_rec valid_recs two p1 q1 s1 one again fresh store by_p by_q by_s edited_by
    begins halfway all_three finishes
opens = (refl, ((refl, refl), ((refl, refl), ((refl, refl), tt))))

is_store : (s : List ℕ) (st : Store) → s ≡ encode_store st → Opens st → IsStore base s st
is_store s st e o =
    record { bytes = e; valid = ((store_exact base (encode_store st) st base_permitted (store_bytes_lem st)).0 o).1 }

-- one of some stores
listed : {l m : List (List ℕ)} (n : ℕ) → l ≡ m → get_or l n [] ≡ get_or m n []
listed n e = ap (λ (l : List (List ℕ)). get_or l n []) e

-- three stores, as they were listed
store_at_lem : (w : World) (f : ℕ → Store) → stores_of servers w ≡ encode_store (f p1) ∷ encode_store (f q1) ∷ encode_store (f s1) ∷ []
    → (p : ℕ) → Server p servers → w.stores p ≡ encode_store (f p)
unfolding stores_of
store_at_lem w f e p x = of_server (λ y. w.stores y ≡ encode_store (f y)) servers (listed 0 e, (listed 1 e, (listed 2 e, tt))) p x

abbrev pub round : List Call
round = after_round round_before round_gather round_spread

-- each server's store before the round and after it
pub begins_is : (p : ℕ) → Server p servers → IsStore base (store_after basic round_before p) (begins p)
unfolding stages
begins_is p x =
    is_store (store_after basic round_before p) (begins p) (store_at_lem (ends basic round_before) begins played.0.stores p x)
    (of_server (λ y. Opens (begins y) × Opens (finishes y)) servers opens.1 p x).0

pub finishes_is : (p : ℕ) → Server p servers → IsStore base (store_after basic round p) (finishes p)
unfolding stages round_before round_gather round_spread
finishes_is p x =
    is_store (store_after basic round p) (finishes p) (store_at_lem (ends basic round) finishes played.1.1.1.1.0.stores p x)
    (of_server (λ y. Opens (begins y) × Opens (finishes y)) servers opens.1 p x).1

-- after these calls the knowledge in p's store is k
abbrev pub Knows : List Call → ℕ → Knowledge → Type 0
Knows calls p k = (st : Store) × (IsStore base (store_after basic calls p) st × (st.knowledge ≡ k))

-- each batch of the round is made for the knowledge that the server which applies it has then
pub made_for : Knows round_before p1 (one p1 1)
    × (Knows (round_before ++ take 2 round_gather) p1 (two p1 1 q1 1)
    × (Knows (round_before ++ round_gather) q1 (one q1 1) × Knows ((round_before ++ round_gather) ++ take 2 round_spread) s1 (one s1 1)))
unfolding stages round_before round_gather round_spread stores_of begins edited_by halfway store p1 q1 s1
made_for =
    let gathered = round_before ++ round_gather in
    also (begins p1, (begins_is p1 (inl refl), refl)) (also (
      halfway,
      (
        is_store (store_after basic (round_before ++ take 2 round_gather) p1) halfway (listed 0 played.1.0.stores) opens.0,
        refl,
      ),
    ) (also (
      begins q1,
      (is_store (store_after basic gathered q1) (begins q1) (listed 1 played.1.1.0.stores) opens.1.1.0.0, refl),
    ) (
      begins s1,
      (
        is_store (store_after basic (gathered ++ take 2 round_spread) s1) (begins s1) (listed 2 played.1.1.1.0.stores)
            opens.1.1.1.0.0,
        refl,
      ),
    )))

-- ---- the theorem of it

small_server : (p : ℕ) → Server p servers → ReplicaId p
small_server p x = of_server ReplicaId servers (small_ids.0, (small_ids.1.0, (small_ids.1.1.0, tt))) p x

module _ (p q : ℕ) (x : Server p servers) (y : Server q servers) where
  -- any two of the three end alike, by the theorem
  pub round_alike : Alike base (store_after basic round p) (store_after basic round q)
  round_alike =
      one_round_basic.alike round_before round_gather round_spread p1 (q1 ∷ s1 ∷ []) before_given gather_given spread_given round_played p q
      (small_server p x) (small_server q y) x y

  -- and the stores that it is about are those computed
  pub alike_computed : (round_alike.first ≡ finishes p) × (round_alike.second ≡ finishes q)
  alike_computed = (
    store_one base (store_after basic round p) round_alike.first (finishes p) base_permitted round_alike.first_is (finishes_is p x),
    store_one base (store_after basic round q) round_alike.second (finishes q) base_permitted round_alike.second_is (finishes_is q y),
  )

  -- what one of them contained after its edit, each of them contains after the round, by the theorem
  pub round_keeps : NothingLost base (store_after basic round_before p) (store_after basic round q)
  round_keeps =
      one_round_basic.keeps round_before round_gather round_spread p1 (q1 ∷ s1 ∷ []) before_given gather_given spread_given round_played p q
      (small_server p x) (small_server q y) x y

  pub keeps_computed : (round_keeps.first ≡ begins p) × (round_keeps.second ≡ finishes q)
  keeps_computed = (
    store_one base (store_after basic round_before p) round_keeps.first (begins p) base_permitted round_keeps.first_is (begins_is p x),
    store_one base (store_after basic round q) round_keeps.second (finishes q) base_permitted round_keeps.second_is (finishes_is q y),
  )

-- ---- ticks and records

everywhere : (i : ℕ) → vector_at all_three i ≡ el 0 1 ∷ el 1 1 ∷ el 2 1 ∷ []
unfolding vector_at vector_found index_from all_three
everywhere i = rw (le-ltb i 0 (omega arith), vector_at, vector_found, index_from)

all_known : (i : ℕ) → All (λ r. known all_three i r ≡ 1) servers
unfolding known place_by vector_at vector_found index_from tick_at all_three p1 q1 s1
all_known i =
    let at : (key : ℕ) → tick_at (vector_at all_three i) key ≡ tick_at (el 0 1 ∷ el 1 1 ∷ el 2 1 ∷ []) key =
    λ key. ap (λ (es : List Element). tick_at es key) (everywhere i) in (at 0, (at 1, (at 2, tt)))

-- whatever store the bytes of a server are of after the round: the tick of each of the three is 1 at every item, and its records are two
pub round_ticks : (p r i : ℕ) (st : Store) → Server p servers → Server r servers → IsStore base (store_after basic round p) st
    → known st.knowledge i r ≡ 1
unfolding finishes store
round_ticks p r i st x y is =
    ap (λ (t : Store). known t.knowledge i r)
    (store_one base (store_after basic round p) st (finishes p) base_permitted is (finishes_is p x))
    ∙ of_server (λ z. known all_three i z ≡ 1) servers (all_known i) r y

pub round_records : (p : ℕ) (st : Store) → Server p servers → IsStore base (store_after basic round p) st → st.records ≡ by_s ∷ by_p ∷ []
unfolding finishes store
round_records p st x is =
    ap (λ (t : Store). t.records) (store_one base (store_after basic round p) st (finishes p) base_permitted is (finishes_is p x))

-- ---- the same of two of them by name: Q and S end alike, and their bytes are those of the stores computed

pub ends_alike : Alike base (store_after basic round q1) (store_after basic round s1)
ends_alike = round_alike q1 s1 (inr (inl refl)) (inr (inr (inl refl)))

pub ends_as_computed : (store_after basic round p1 ≡ encode_store (finishes p1))
    × ((store_after basic round q1 ≡ encode_store (finishes q1)) × (store_after basic round s1 ≡ encode_store (finishes s1)))
ends_as_computed =
    ((finishes_is p1 (inl refl)).bytes, ((finishes_is q1 (inr (inl refl))).bytes, (finishes_is s1 (inr (inr (inl refl)))).bytes))

-- What can be refused in a round, after any list of calls, where each batch is made over all ids and for what its taker knows at the make
-- or knew before it. A make is never refused, but for a short buffer: both knowledges are in normal form and within the limits, and the
-- records are a store's. (Rules that refuse an id for itself must accept the given ones; document 01's accept all.) An apply is refused
-- only for the limits, 11, 12 and 13: every store and batch of a list is valid, needed is what the make was given, and no tick of the
-- taker falls, so 15, 16 and 18 are not met. In the second half an apply is not refused for these either: the district ends with the
-- centre's ticks, so with a knowledge and a table that the centre's store has already.
use Prim.Native.Nat.{ℕ, suc, ◌≤◌, ◌<◌}
use mathlib.Core.Path.{◌≡◌, refl, sym, ap, ◌∙◌, subst}
use mathlib.Core.Logic.{inl, inr, ⊎_elim}
use mathlib.Core.Bool.{true}
use mathlib.Core.List.{List, [], ◌∷◌, ◌++◌, append_assoc}
use mathlib.Core.Option.{Option, some}
use native.Mathlib.Omega.{arith}
use lib.ListN.{length}
use Rattle.codec.specs.Number.{Bytes, be_at}
use Rattle.codec.specs.Parsed.{accepted}
use Rattle.codec.specs.Reply.{Reply, gives, refuses}
use Rattle.layout.specs.Knowledge.{Rules, basic, base, any_id, Knowledge, All, Lawful, encode}
use Rattle.layout.specs.Decode.{decode}
use Rattle.layout.specs.Permitted.{Permitted}
use Rattle.layout.specs.Parse.{parse}
use Rattle.layout.proofs.Exact.{exact, base_permitted}
use Rattle.layout.proofs.Forward.{encode_bytes, decoded}
use Rattle.layout.proofs.Numbers.{all_front}
use Rattle.ticks.specs.Meaning.{highest, known, Normal}
use Rattle.ticks.specs.Operations.{normalise, merge, project, covers}
use Rattle.ticks.proofs.Lists.{Among}
use Rattle.ticks.proofs.Meaning.{known_id}
use Rattle.ticks.proofs.Operations.{normalise_normal, normal_merge}
use Rattle.ticks.proofs.Search.{covers_exact}
use Rattle.ticks.proofs.Unique.{normal_unique}
use Rattle.ticks.proofs.Algebra.{project_same}
use Rattle.ticks.proofs.LawfulResults.{below_top}
use Rattle.replication.specs.Record.{Rec}
use Rattle.replication.specs.Call.{ReplicaId, Call, make, Given}
use Rattle.replication.specs.Formats.{Store}
use Rattle.replication.specs.BatchFormat.{encode_batch}
use Rattle.replication.specs.Valid.{LawfulRec}
use Rattle.replication.specs.OpenStore.{open_store}
use Rattle.replication.specs.OpenBatch.{open_batch}
use Rattle.replication.specs.Operate.{made, join}
use Rattle.replication.specs.Calls.{make_reply, apply_reply}
use Rattle.corollaries.specs.Room.{longest_store, longest_batch}
use Rattle.replication.specs.Lists.{World, start, batch_number, writes, keep, run}
use Rattle.replication.specs.Machine.{Remembered, State, value, learns, remembered_at}
use Rattle.replication.specs.Promise.{ends, machine, store_after, batch_of, IsStore}
use Rattle.replication.specs.Batches.{asks, asked, BatchAgrees, BatchMade}
use Rattle.corollaries.specs.Round.{Still, Done, Sent, Delivered}
use Rattle.replication.proofs.Bytes.Batch.{batch_bytes_lem}
use Rattle.replication.proofs.Contents.Valid.{batch_exact}
use Rattle.replication.proofs.Contents.Make.{make_writes}
use Rattle.replication.proofs.Contents.Apply.{apply_writes}
use Rattle.corollaries.proofs.Enough.{store_enough, batch_enough}
use Rattle.replication.proofs.Machine.Supremum.{value_be}
use Rattle.replication.proofs.Tables.Join.{join_rising, all_join}
use Rattle.replication.proofs.Tables.Selected.{selected-length}
use Rattle.replication.proofs.Machine.Greatest.{greatest_equal}
use Rattle.replication.proofs.Machine.Steps.{taken_by, learns_inside}
use Rattle.replication.proofs.Agree.Invariant.{StoreFollows, store_octets, store_opens, BatchFollows, batch_opens, Follows, opens}
use Rattle.replication.proofs.Agree.Apply.{new_ticks, new_records}
use Rattle.replication.proofs.Agree.Run.{paired_number}
use Rattle.replication.proofs.Agree.Asked.{AllMadeFor}
use Rattle.replication.proofs.Demand3.{ends_follow, ends_made, store_one, tables_same, demand3, demand3_batches}
use Rattle.replication.proofs.Runner.{batch_after_lem}
use Rattle.replication.proofs.Consumed.{some_same}
use Rattle.replication.proofs.Refusals.Tests.{Covered}
use Rattle.replication.proofs.Refusals.Apply.{apply_11, apply_12, apply_13}
use Rattle.replication.proofs.Refusals.Make.{Fits, made_batch, make_gives}
use Rattle.corollaries.proofs.Refusals.List.{LacksNeeded, RefusedAsMachine, refused_in_list}
use Rattle.corollaries.proofs.Round.Moments.{all_behind, all_append, still_all, grows_all, sent_remembered}
use Rattle.corollaries.proofs.Round.OneRound.{gathered}

-- refused, if at all, for the limits: too many replicas, ranges or records
abbrev pub OnlyLimits : Reply → Type 0
OnlyLimits r = (m : ℕ) → r ≡ refuses m → Among m (11 ∷ 12 ∷ 13 ∷ [])

-- not refused where the buffer has this length
abbrev pub NeverRefused : ℕ → Reply → Type 0
NeverRefused room r = (bs : List ℕ) × ((r ≡ gives bs) × (length bs ≤ room))

-- ---- makes

-- over all ids a knowledge in normal form is itself
project_all : (first last : ℕ) (k : Knowledge) → first ≡ 0 → last ≡ highest → Normal k → project first last k ≡ k
project_all first last k f l n =
    project_same first last k n (λ i p h o. absurd (⊎_elim (λ (b : i < first). omega arith) (λ (a : last < i). omega arith) o))

-- the number of an id of 24 bytes
id_number : (s : List ℕ) (x : ℕ) → length s ≡ 24 → value 0 s ≡ x → be_at s 24 0 ≡ x
id_number s x e f = ap (λ (n : ℕ). be_at s n 0) (sym e) ∙ (sym (value_be s) ∙ f)

-- a make over all ids for what a store knows
pub make_never_refused : (R : Rules) → Permitted R.limits → (calls : List Call) → All Given calls → (who : ℕ) → ReplicaId who
    → (s : List ℕ) (st : Store) → IsStore R.limits s st → Lawful R st.knowledge
    → (first last : List ℕ) → Bytes last → length first ≡ 24 → length last ≡ 24 → value 0 first ≡ 0 → value 0 last ≡ highest
    → NeverRefused (longest_batch R.limits) (make_reply R (store_after R calls who) (encode st.knowledge) first last)
unfolding made
make_never_refused R permitted calls given who small s st is lawful first last octets n m low top =
    let f = ends_follow R permitted calls given in
    let own = (f.stores who small).st in
    let valid = (f.stores who small).valid in
    let k = st.knowledge in
    let reads : parse R (encode k) ≡ accepted k = (exact R permitted (encode k) k (encode_bytes k)).1 (refl, lawful) in
    let a : be_at first 24 0 ≡ 0 = id_number first 0 n low in
    let b : be_at last 24 0 ≡ highest = id_number last highest m top in
    let needed : Fits R (normalise k) =
    subst (Fits R) (sym (normalise_normal k is.valid.normal)) (record { replicas = lawful.replicas; ranges = lawful.ranges }) in
    let learned : Fits R (project (be_at first 24 0) (be_at last 24 0) own.knowledge) =
    subst (Fits R) (sym (project_all (be_at first 24 0) (be_at last 24 0) own.knowledge a b valid.normal))
    (record { replicas = valid.lawful.replicas; ranges = valid.lawful.ranges }) in
    let bs = encode_batch (made_batch own k first last) in
    let opened = opens R.limits permitted (ends R calls) (machine R calls) f who small in
    let reply : make_reply R (store_after R calls who) (encode k) first last ≡ gives bs =
    (make_gives R (store_after R calls who) (encode k) first last own k opened reads bs).1
    (record {
      span = record { first24 = n; last24 = m; order = omega (arith, a, b) };
      needed = needed;
      learned = learned;
      records = omega (arith, selected-length (be_at first 24 0) (be_at last 24 0) (normalise k) own.records, valid.count);
      bytes = refl;
    }) in
    let w = make_writes R (store_after R calls who) (encode k) first last bs own k permitted
    (store_octets R.limits (store_after R calls who) (machine R calls).versions ((machine R calls).ticks who) who (f.stores who small))
    (encode_bytes k) octets opened reads reply in
    (bs, (reply, omega (arith, ap length w.bytes, batch_enough R.limits w.batch w.valid)))

-- with document 01's limits what a store knows is acceptable to every call
pub make_never_refused_basic : (calls : List Call) → All Given calls → (who : ℕ) → ReplicaId who → (s : List ℕ) (st : Store)
    → IsStore base s st
    → (first last : List ℕ) → Bytes last → length first ≡ 24 → length last ≡ 24 → value 0 first ≡ 0 → value 0 last ≡ highest
    → NeverRefused (longest_batch base) (make_reply basic (store_after basic calls who) (encode st.knowledge) first last)
make_never_refused_basic calls given who small s st is =
    make_never_refused basic base_permitted calls given who small s st is is.valid.lawful

-- ---- applies

module _ (R : Rules) (permitted : Permitted R.limits) (calls : List Call) (given : All Given calls) (p n : ℕ) (small : ReplicaId p)
    (t : List ℕ) (is : batch_of R calls n ≡ some t) where
  pub batch_made : BatchMade R calls n t
  batch_made = (demand3_batches R permitted calls given).agree n t is

  -- the taker knows what the batch was made for
  pub only_limits : ((i q : ℕ) → i ≤ highest → ReplicaId q → known batch_made.given i q ≤ (machine R calls).ticks p i q)
      → OnlyLimits (apply_reply R.limits (store_after R calls p) t)
  only_limits covered m e =
      ⊎_elim
      (λ (d : m ≡ 18).
      absurd (lacks_nothing ((law.apply18 n t b.remembered b.batch is b.remembers opened).0 (e ∙ ap refuses d))))
      (λ o. o) (law.apply_numbers n t m is e)
    where
      b : BatchAgrees R.limits (machine R calls) n batch_made.given t
      b = batch_made.agrees

      law : RefusedAsMachine R (ends R calls) (machine R calls) p
      law = refused_in_list R permitted calls given p small

      opened : open_batch R.limits t ≡ accepted b.batch
      opened =
          (batch_exact R.limits t b.batch permitted (subst Bytes (sym b.is.bytes) (batch_bytes_lem b.batch))).1
          (b.is.bytes, b.is.valid)

      lacks_nothing : LacksNeeded (machine R calls) p b.remembered b.batch → ⊥
      lacks_nothing l =
          let h : l.item ≤ highest = omega (arith, l.below, b.last, below_top b.batch.last b.is.valid.last) in
          let q : ReplicaId l.replica =
          known_id (any_id R.limits) b.batch.needed b.is.valid.needed_lawful l.item l.replica (omega (arith, l.less)) in
          omega (arith, l.less, b.needed l.item l.replica h q, covered l.item l.replica h q)

-- ---- a batch made for what its taker knew

made-length : (R : Rules) (ss ks : List (List ℕ)) → AllMadeFor R ss ks → length ss ≡ length ks
made-length R [] [] h = refl
made-length R [] (k ∷ ks) h = absurd h
made-length R (s ∷ ss) [] h = absurd h
made-length R (s ∷ ss) (k ∷ ks) h = ap suc (made-length R ss ks h.1)

asked-append : (R : Rules) (w : World) (a b : List Call) → asked R w (a ++ b) ≡ asked R w a ++ asked R (run R w a) b
unfolding asked run
asked-append R w [] b = refl
asked-append R w (c ∷ cs) b =
    let o = writes R w c in
    ap (λ (l : List (List ℕ)). asks c o ++ l) (asked-append R (keep w c o) cs b)
    ∙ sym (append_assoc (asks c o) (asked R (keep w c o) cs) (asked R (run R (keep w c o) cs) b))

module _ (R : Rules) (permitted : Permitted R.limits) (a : List Call) (given : All Given a) (who : ℕ) (knowledge first last : List ℕ)
    (room : ℕ) (done : Done R a (make who knowledge first last room)) (cs : List Call) where
  abbrev making : Call
  making = make who knowledge first last room

  -- the calls up to the make, the make and those after it, and the number of its batch
  abbrev all : List Call
  all = a ++ (making ∷ cs)

  abbrev number : ℕ
  number = length (ends R a).batches

  asked_first : asked R (ends R a) (making ∷ cs) ≡ knowledge ∷ asked R (keep (ends R a) making (writes R (ends R a) making)) cs
  unfolding asked asks
  asked_first =
      ap (λ (o : Option (List ℕ)). asks making o ++ asked R (keep (ends R a) making (writes R (ends R a) making)) cs) done.1

  -- the batch stands beside the knowledge bytes that the make was given
  asked_knowledge : batch_number number (asked R start all) ≡ some knowledge
  unfolding ends
  asked_knowledge =
      let rest = asked R (keep (ends R a) making (writes R (ends R a) making)) cs in
      let is : asked R start all ≡ asked R start a ++ (knowledge ∷ rest) =
      asked-append R start a (making ∷ cs) ∙ ap (λ (l : List (List ℕ)). asked R start a ++ l) asked_first in
      ap (λ (n : ℕ). batch_number n (asked R start all))
      (made-length R (ends R a).batches (asked R start a) (ends_made R permitted a given))
      ∙ (ap (batch_number (length (asked R start a))) is ∙ batch_after_lem (asked R start a) knowledge rest)

  -- for what its taker knew after the first of the calls before it
  module _ (now : All Given (making ∷ cs)) (p : ℕ) (small : ReplicaId p) (old since : List Call) (is-a : a ≡ old ++ since) (st : Store)
      (is : IsStore R.limits (store_after R old p) st) (for : knowledge ≡ encode st.knowledge) (t : List ℕ)
      (batch : batch_of R all number ≡ some t) where
    all_given : All Given all
    all_given = all_append Given a (making ∷ cs) given now

    made_for : BatchMade R all number t
    made_for = batch_made R permitted all all_given p number small t batch

    given_is : made_for.given ≡ st.knowledge
    given_is =
        let k = made_for.given in
        let e : encode k ≡ encode st.knowledge =
        some_same (encode k) (encode st.knowledge) (batch_number number (asked R start all)) made_for.bytes
        (asked_knowledge ∙ ap some for) in
        sym (decoded R k permitted made_for.lawful)
        ∙ (ap decode e ∙ decoded (any_id R.limits) st.knowledge permitted is.valid.lawful)

    -- the taker still knows that
    taker_covers : (i q : ℕ) → i ≤ highest → ReplicaId q → known made_for.given i q ≤ (machine R all).ticks p i q
    taker_covers i q h l =
        let parts = subst (All Given) is-a given in
        let first = all_front Given old since parts in
        let g = (demand3 R permitted old first).agrees p small in
        omega (
          arith,
          ap (λ (k : Knowledge). known k i q) given_is,
          ap (λ (x : Store). known x.knowledge i q) (store_one R.limits (store_after R old p) g.store st permitted g.is is),
          g.ticks i q h l,
          grows_all R since old first (all_behind Given old since parts) p i q,
          ap (λ (l : List Call). (machine R l).ticks p i q) is-a,
          grows_all R (making ∷ cs) a given now p i q,
        )

    -- so, whenever the batch comes, the taker refuses it for the limits only
    pub apply_only_limits : OnlyLimits (apply_reply R.limits (store_after R all p) t)
    unfolding made_for
    apply_only_limits = only_limits R permitted all all_given p number small t batch taker_covers

-- ---- a batch after which the taker knows what another server knows

module _ (R : Rules) (permitted : Permitted R.limits) (calls : List Call) (given : All Given calls) (p c n : ℕ) (small : ReplicaId p)
    (other : ReplicaId c) (t : List ℕ) (is : batch_of R calls n ≡ some t) (b : Remembered)
    (remembers : remembered_at n (machine R calls).batches ≡ some b)
    (same : (i q : ℕ) → i ≤ highest → learns b ((machine R calls).ticks p) i q ≡ (machine R calls).ticks c i q) where
  abbrev m : State
  m = machine R calls

  follow : Follows R.limits (ends R calls) m
  follow = ends_follow R permitted calls given

  mine : StoreFollows R.limits (store_after R calls p) m.versions (m.ticks p) p
  mine = follow.stores p small

  theirs : StoreFollows R.limits (store_after R calls c) m.versions (m.ticks c) c
  theirs = follow.stores c other

  sent : BatchFollows R.limits t m.versions b
  sent =
      let x = paired_number R.limits m.versions n t (ends R calls).batches m.batches follow.batches is in
      subst (BatchFollows R.limits t m.versions) (some_same x.b b (remembered_at n m.batches) x.is remembers) x.follows

  store_opened_lem : open_store R.limits (store_after R calls p) ≡ accepted mine.st
  store_opened_lem = store_opens R.limits (store_after R calls p) m.versions (m.ticks p) p mine permitted

  batch_opened_lem : open_batch R.limits t ≡ accepted sent.b
  batch_opened_lem = batch_opens R.limits t m.versions b sent permitted

  module _ (covered : Covered mine.st sent.b) where
    covers_needed : covers mine.st.knowledge sent.b.needed sent.b.first sent.b.last ≡ true
    covers_needed =
        (covers_exact mine.st.knowledge sent.b.needed sent.b.first sent.b.last).1 (record { known = covered.known })

    -- the knowledge and the records that the apply comes to are the other server's
    merged_is : merge mine.st.knowledge sent.b.learned ≡ theirs.st.knowledge
    merged_is =
        normal_unique (merge mine.st.knowledge sent.b.learned) theirs.st.knowledge
        (normal_merge mine.st.knowledge sent.b.learned) theirs.valid.normal
        (λ i q h.
        new_ticks R.limits (store_after R calls p) t [] m.versions (m.ticks p) p b mine sent follow.good.apart covers_needed i q h
        ∙ (same i q h ∙ sym (theirs.ticks i q h)))

    joined_is : join mine.st.records sent.b.records ≡ theirs.st.records
    joined_is =
        tables_same (join mine.st.records sent.b.records) theirs.st.records
        (join_rising 0 mine.st.records sent.b.records mine.valid.rising sent.valid.rising) theirs.valid.rising
        (all_join LawfulRec mine.st.records sent.b.records mine.valid.records sent.valid.records) theirs.valid.records
        (λ i h.
        new_records R.limits (store_after R calls p) t [] m.versions (m.ticks p) p b mine sent follow.good.apart covers_needed i
        ∙ (greatest_equal m.versions (learns b (m.ticks p)) (m.ticks c) i (λ q. same i q h) ∙ sym (theirs.records i)))

  -- and that server's store is within the limits
  no_limits : (x : ℕ) → apply_reply R.limits (store_after R calls p) t ≡ refuses x → Among x (11 ∷ 12 ∷ 13 ∷ []) → ⊥
  no_limits x e (inl d) =
      let w = (apply_11 R.limits (store_after R calls p) t mine.st sent.b store_opened_lem batch_opened_lem).0 (e ∙ ap refuses d) in
      omega (arith, w.1, ap (λ (k : Knowledge). length k.replicas) (merged_is w.0.0), theirs.valid.lawful.replicas)
  no_limits x e (inr (inl d)) =
      let w = (apply_12 R.limits (store_after R calls p) t mine.st sent.b store_opened_lem batch_opened_lem).0 (e ∙ ap refuses d) in
      omega (arith, w.1.1, ap (λ (k : Knowledge). length k.ranges) (merged_is w.0.0), theirs.valid.lawful.ranges)
  no_limits x e (inr (inr (inl d))) =
      let w = (apply_13 R.limits (store_after R calls p) t mine.st sent.b store_opened_lem batch_opened_lem).0 (e ∙ ap refuses d) in
      omega (arith, w.1.1.1, ap (λ (rs : List Rec). length rs) (joined_is w.0.0), theirs.valid.count)
  no_limits x e (inr (inr (inr z))) = absurd z

  pub apply_never_refused : OnlyLimits (apply_reply R.limits (store_after R calls p) t)
      → NeverRefused (longest_store R.limits) (apply_reply R.limits (store_after R calls p) t)
  apply_never_refused only = go (apply_reply R.limits (store_after R calls p) t) refl
    where
      go : (r : Reply) → apply_reply R.limits (store_after R calls p) t ≡ r
          → NeverRefused (longest_store R.limits) (apply_reply R.limits (store_after R calls p) t)
      go (gives bs) e =
          let w = apply_writes R.limits (store_after R calls p) t bs mine.st sent.b permitted
          (store_octets R.limits (store_after R calls p) m.versions (m.ticks p) p mine)
          (subst Bytes (sym sent.bytes) (batch_bytes_lem sent.b)) store_opened_lem batch_opened_lem e in
          (bs, (e, omega (arith, ap length w.bytes, store_enough R.limits w.store w.valid)))
      go (refuses x) e = absurd (no_limits x e (only x e))

-- ---- the second half of a round

-- the centre has applied the district's batch, neither server changed in the second half so far, and the centre's batch was made for what
-- the district knew at the make or before it
module _ (R : Rules) (permitted : Permitted R.limits) (before gather earlier : List Call) (gb : All Given before)
    (gg : All Given gather) (ge : All Given earlier) (centre d n : ℕ) (sc : ReplicaId centre) (sd : ReplicaId d)
    (arrives : Delivered R before gather d centre) (waits : All (Still d) gather) (rests : All (Still centre) earlier)
    (quiet : All (Still d) earlier) (s : Sent R (before ++ gather) earlier centre n) (old since : List Call)
    (unmade-is : (before ++ gather) ++ s.earlier ≡ old ++ since) (st : Store) (is : IsStore R.limits (store_after R old d) st)
    (for : s.knowledge ≡ encode st.knowledge) (t : List ℕ) (batch : batch_of R ((before ++ gather) ++ earlier) n ≡ some t) where
  abbrev half : List Call
  half = before ++ gather

  -- the calls up to the make, and those from it on
  abbrev unmade : List Call
  unmade = half ++ s.earlier

  abbrev from_make : List Call
  from_make = make centre s.knowledge s.first s.last s.room ∷ s.later

  apart : half ++ earlier ≡ unmade ++ from_make
  apart = ap (λ (l : List Call). half ++ l) s.is ∙ sym (append_assoc half s.earlier from_make)

  given_half : All Given half
  given_half = all_append Given before gather gb gg

  given_unmade : All Given unmade
  given_unmade = all_append Given half s.earlier given_half (all_front Given s.earlier from_make (subst (All Given) s.is ge))

  only : OnlyLimits (apply_reply R.limits (store_after R (half ++ earlier) d) t)
  only =
      subst (λ (l : List Call). OnlyLimits (apply_reply R.limits (store_after R l d) t)) (sym apart)
      (apply_only_limits R permitted unmade given_unmade centre s.knowledge s.first s.last s.room s.done s.later
      (all_behind Given s.earlier from_make (subst (All Given) s.is ge)) d sd old since unmade-is st is for t
      (ap (λ (x : ℕ). batch_of R (unmade ++ from_make) x) s.number ∙ (ap (λ (l : List Call). batch_of R l n) (sym apart) ∙ batch)))

  pub second_half : NeverRefused (longest_store R.limits) (apply_reply R.limits (store_after R (half ++ earlier) d) t)
  second_half =
      let b = taken_by centre (value 0 s.first) (value 0 s.last) (machine R unmade) in
      let unsent = all_front (Still centre) s.earlier from_make (subst (All (Still centre)) s.is rests) in
      apply_never_refused R permitted (half ++ earlier) (all_append Given half earlier given_half ge) d centre n sd sc t batch b
      (sent_remembered R half earlier centre n s permitted given_half ge)
      (λ i q h.
      learns_inside b ((machine R (half ++ earlier)).ticks d) i q (omega (arith, s.lowest)) (omega (arith, s.top))
      ∙ omega (
        arith,
        gathered R permitted before gather d centre gb gg arrives waits i q h,
        ap (λ f. f i q) (still_all R d earlier half quiet),
        ap (λ f. f i q) (still_all R centre earlier half rests),
        ap (λ f. f i q) (still_all R centre s.earlier half unsent),
      ))
      only

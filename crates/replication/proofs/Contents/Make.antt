-- What make writes, in plain numbers: a valid batch of the given span, whose needed knowledge knows what the given one
-- knows, whose learned knowledge knows what the store knows inside the span and nothing outside, and whose records are
-- exactly the store's records in the span with a change version that the given knowledge lacks. The batch is valid
-- since the store is: a record's versions stay contained, as projecting keeps the ticks inside the span.
use Prim.Native.Nat.{ℕ, ◌≤◌, ◌<◌, ◌^◌}
use mathlib.Core.Path.{◌≡◌, refl, sym, ap, ◌∙◌, subst}
use mathlib.Core.Logic.{◌⊎◌, ⊎_elim, ◌↔◌}
use mathlib.Core.Bool.{true}
use mathlib.Core.List.{List}
use mathlib.Core.Option.{some}
use native.Mathlib.Omega.{arith}
use lib.ListN.{length}
use Rattle.codec.specs.Number.{Bytes, be_at}
use Rattle.codec.specs.Reply.{gives}
use Rattle.layout.specs.Knowledge.{Rules, Knowledge, All, Lawful, any_id}
use Rattle.layout.specs.Permitted.{Permitted}
use Rattle.layout.specs.Parse.{parse}
use Rattle.layout.proofs.Parts.{all_map}
use Rattle.layout.proofs.Exact.{exact}
use Rattle.ticks.specs.Meaning.{highest, known}
use Rattle.ticks.specs.Operations.{normalise, project}
use Rattle.ticks.specs.Calls.{id_of}
use Rattle.ticks.proofs.Operations.{known_normalise, normal_normalise, normal_project, known_project_inside, known_project_below, known_project_above}
use Rattle.ticks.proofs.LawfulResults.{below_top, top_below, lawful_normalise, lawful_project}
use Rattle.ticks.proofs.ForCalls.{id_is, Within}
use Rattle.replication.specs.Formats.{Store, find}
use Rattle.replication.specs.BatchFormat.{Batch, encode_batch}
use Rattle.replication.specs.Valid.{LawfulRec, ContainedIn, LawfulStore}
use Rattle.replication.specs.ValidBatch.{LawfulBatch}
use Rattle.replication.specs.Reading.{both}
use Rattle.replication.specs.OpenStore.{open_store}
use Rattle.replication.specs.OpenBatch.{lacks_change}
use Rattle.ticks.specs.Table.{in_span}
use Rattle.replication.specs.Operate.{selected, made}
use Rattle.replication.specs.Calls.{make_reply}
use Rattle.replication.proofs.Tables.Rising.{find_item, find_all, both_parts, both_holds}
use Rattle.ticks.proofs.Lists.{in_span_lem}
use Rattle.replication.proofs.Tables.Selected.{kept, kept_some, kept_in, selected_rising, find_selected, all_selected, selected_meets}
use Rattle.replication.proofs.Agree.Lines.{gives_outcome, make_met}
use Rattle.replication.proofs.Agree.Arguments.{id_below}
use Rattle.replication.proofs.Contents.Valid.{lacks_exact, all_two, store_exact}
use Rattle.replication.specs.Record.{Rec}
use Rattle.codec.specs.Parsed.{accepted}

-- ---- the batch written, compared with the store and the given knowledge

pub record Makes (R : Rules) (st : Store) (k : Knowledge) (f l : ℕ) (bs : List ℕ) : Type 0 where
  pub batch : Batch
  pub bytes : bs ≡ encode_batch batch
  pub valid : LawfulBatch R.limits batch
  pub first : batch.first ≡ f
  pub last : batch.last ≡ l
  -- "needed = normal form of the given knowledge"
  pub needed : (i p : ℕ) → i ≤ highest → known batch.needed i p ≡ known k i p
  -- "learned = own knowledge projected"
  pub inside : (i p : ℕ) → f ≤ i → i ≤ l → known batch.learned i p ≡ known st.knowledge i p
  pub outside : (i p : ℕ) → i ≤ highest → (i < f) ⊎ (l < i) → known batch.learned i p ≡ 0
  -- "records = those in the span whose change version needed lacks"
  pub records :
      (i : ℕ)
      (r : Rec)
      → (find i batch.records ≡ some r)
      ↔ ((find i st.records ≡ some r) × ((f ≤ i) × ((i ≤ l) × (known k i r.change_replica < r.change_tick))))

-- ---- the records

module _ (st : Store) (k : Knowledge) (f l : ℕ) (R : Rules) (v : LawfulStore R.limits st) (top : l ≤ highest) where
  -- the test that the records written meet
  abbrev meets : Rec → Type 0
  meets r = both (in_span f l r.item) (lacks_change (normalise k) r) ≡ true

  meets_inside : (r : Rec) → meets r → (f ≤ r.item) × (r.item ≤ l)
  meets_inside r m = (in_span_lem f l r.item).0 (both_parts (in_span f l r.item) (lacks_change (normalise k) r) m).0

  meets_lacks : (r : Rec) → LawfulRec r → meets r → known (normalise k) r.item r.change_replica < r.change_tick
  meets_lacks r a m =
      (lacks_exact (normalise k) r (omega (arith, a.create_tick, a.order))).0 (both_parts (in_span f l r.item) (lacks_change (normalise k) r) m).1

  made_contained : (r : Rec) → ContainedIn st.knowledge r → meets r → ContainedIn (project f l st.knowledge) r
  made_contained r c m =
      let d = meets_inside r m in
      let h : r.item ≤ highest = omega (arith, d.1, top) in
      record {
        change = rw (known_project_inside f l st.knowledge r.item r.change_replica h d.0 d.1) c.change;
        create = rw (known_project_inside f l st.knowledge r.item r.create_replica h d.0 d.1) c.create;
      }

  record_made : (i : ℕ) (r : Rec) → find i (selected f l (normalise k) st.records) ≡ some r
      → (find i st.records ≡ some r) × ((f ≤ i) × ((i ≤ l) × (known k i r.change_replica < r.change_tick)))
  record_made i r e =
      let h = kept_some f l (normalise k) (find i st.records) r (sym (find_selected f l (normalise k) 0 i st.records v.rising) ∙ e) in
      let a : LawfulRec r = find_all LawfulRec i st.records r v.records h.0 in
      let at : r.item ≡ i = find_item i st.records r h.0 in
      let m : meets r = both_holds (in_span f l r.item) (lacks_change (normalise k) r) h.1.0 h.1.1 in
      let d = meets_inside r m in
      let t : i ≤ highest = omega (arith, d.1, at, top) in
      let n : known (normalise k) i r.change_replica < r.change_tick =
      subst (λ (j : ℕ). known (normalise k) j r.change_replica < r.change_tick) at (meets_lacks r a m) in
      (h.0, (omega (arith, d.0, at), (omega (arith, d.1, at), omega (arith, n, known_normalise k i r.change_replica t))))

  made_record : (i : ℕ) (r : Rec) → (find i st.records ≡ some r) ×
      ((f ≤ i) × ((i ≤ l) × (known k i r.change_replica < r.change_tick))) → find i (selected f l (normalise k) st.records) ≡ some r
  made_record i r h =
      let a : LawfulRec r = find_all LawfulRec i st.records r v.records h.0 in
      let at : r.item ≡ i = find_item i st.records r h.0 in
      let t : i ≤ highest = omega (arith, h.1.1.0, top) in
      let n : known (normalise k) i r.change_replica < r.change_tick =
      omega (arith, h.1.1.1, known_normalise k i r.change_replica t) in
      find_selected f l (normalise k) 0 i st.records v.rising
      ∙ (ap (kept f l (normalise k)) h.0
      ∙ kept_in f l (normalise k) r
      (both_holds (in_span f l r.item) (lacks_change (normalise k) r)
      ((in_span_lem f l r.item).1 (omega (arith, h.1.0, at), omega (arith, h.1.1.0, at)))
      ((lacks_exact (normalise k) r (omega (arith, a.create_tick, a.order))).1
      (subst (λ (j : ℕ). known (normalise k) j r.change_replica < r.change_tick) (sym at) n))))

-- ---- the batch

-- what is lawful under rules is lawful under their limits
pub lawful_any : (R : Rules) (k : Knowledge) → Lawful R k → Lawful (any_id R.limits) k
lawful_any R k l =
    record {
      replicas = l.replicas;
      ids = l.ids;
      acceptable = all_map (λ id. id < 256 ^ 16) (λ id. ◌≡◌ {A = ℕ} 0 0) (λ id h. refl) k.replicas l.ids;
      distinct = l.distinct;
      some_vector = l.some_vector;
      vectors = l.vectors;
      first = l.first;
      counts = l.counts;
      keys_below = l.keys_below;
      keys_once = l.keys_once;
      ticks = l.ticks;
      some_range = l.some_range;
      ranges = l.ranges;
      items = l.items;
      indices = l.indices;
      rising = l.rising;
    }

module _ (R : Rules) (st : Store) (k : Knowledge) (f l : ℕ) (v : LawfulStore R.limits st) (lawful : Lawful R k) (span : f ≤ l) (top : l ≤ highest) where
  pub made_lawful : Within R.limits (made st k f l).needed → Within R.limits (made st k f l).learned
      → length (made st k f l).records ≤ R.limits.records → LawfulBatch R.limits (made st k f l)
  unfolding made
  made_lawful needed learned count =
      record {
        span = span;
        last = top_below l top;
        needed_lawful = lawful_normalise (any_id R.limits) k (lawful_any R k lawful) needed.ranges;
        needed_normal = normal_normalise k;
        learned_lawful = lawful_project (any_id R.limits) f l st.knowledge v.lawful learned.ranges;
        learned_normal = normal_project f l st.knowledge;
        outside = λ i p h. ⊎_elim (known_project_below f l st.knowledge i p h) (known_project_above f l st.knowledge i p h);
        count = count;
        rising = selected_rising f l (normalise k) 0 st.records v.rising;
        records = taken LawfulRec v.records;
        inside =
            all_map (meets st k f l R v top) (λ r. (f ≤ r.item) × (r.item ≤ l)) (meets_inside st k f l R v top) chosen (selected_meets f l (normalise k) st.records);
        versions =
            all_two (ContainedIn st.knowledge) (meets st k f l R v top) (ContainedIn (project f l st.knowledge)) (made_contained st k f l R v top) chosen
            (taken (ContainedIn st.knowledge) v.versions) (selected_meets f l (normalise k) st.records);
        lacked =
            all_two LawfulRec (meets st k f l R v top) (λ r. known (normalise k) r.item r.change_replica < r.change_tick) (meets_lacks st k f l R v top) chosen
            (taken LawfulRec v.records) (selected_meets f l (normalise k) st.records);
      }
    where
      chosen : List Rec
      chosen = selected f l (normalise k) st.records

      taken : (P : Rec → Type 0) → All P st.records → All P chosen
      taken P a = all_selected P f l (normalise k) st.records a

  pub made_makes : (bs : List ℕ) → Within R.limits (made st k f l).needed → Within R.limits (made st k f l).learned
      → length (made st k f l).records ≤ R.limits.records → bs ≡ encode_batch (made st k f l) → Makes R st k f l bs
  unfolding made
  made_makes bs needed learned count bytes =
      record {
        batch = made st k f l;
        bytes = bytes;
        valid = made_lawful needed learned count;
        first = refl;
        last = refl;
        needed = λ i p h. known_normalise k i p h;
        inside = λ i p a b. known_project_inside f l st.knowledge i p (omega (arith, b, top)) a b;
        outside = λ i p h. ⊎_elim (known_project_below f l st.knowledge i p h) (known_project_above f l st.knowledge i p h);
        records = λ i r. (record_made st k f l R v top i r, made_record st k f l R v top i r);
      }

-- ---- make

accepted_same : (a b : Knowledge) → accepted a ≡ accepted b → a ≡ b
accepted_same a b e = cc

pub make_writes : (R : Rules) (s knowledge first last bs : List ℕ) (st : Store) (k : Knowledge) → Permitted R.limits → Bytes s
    → Bytes knowledge → Bytes last → open_store R.limits s ≡ accepted st → parse R knowledge ≡ accepted k
    → make_reply R s knowledge first last ≡ gives bs → Makes R st k (be_at first 24 0) (be_at last 24 0) bs
make_writes R s knowledge first last bs st k permitted bytes_s bytes_k bytes_l o p g =
    let m = make_met R s knowledge first last st (length bs) bs o (gives_outcome (make_reply R s knowledge first last) bs g) in
    subst (λ (x : ℕ). Makes R st k x (be_at last 24 0) bs) (id_is 24 first)
    (subst (λ (x : ℕ). Makes R st k (id_of 24 first) x bs) (id_is 24 last)
    (subst (λ (x : Knowledge). Makes R st x (id_of 24 first) (id_of 24 last) bs) (accepted_same m.given k (sym m.reads ∙ p))
    (made_makes R st m.given (id_of 24 first) (id_of 24 last) ((store_exact R.limits s st permitted bytes_s).0 o).1
    ((exact R permitted knowledge m.given bytes_k).0 m.reads).1 m.span (below_top (id_of 24 last) (id_below 24 last bytes_l))
    bs m.needed m.learned m.records m.bytes)))

-- What is said of stores, of calls that write and of batches settles the bytes: at most one byte string meets it. A store is its own
-- id, its knowledge and its records; a valid knowledge is settled by its ticks for item ids and replica ids, a valid table by what it
-- finds. So a statement that left out a replica, a tick, a record or the own id, or that said it one way only, would not do here. Only
-- what the statements say is used, and nothing of how the calls work.
use Prim.Native.Nat.{ℕ, ◌≤◌, ◌<◌}
use mathlib.Core.Path.{◌≡◌, refl, sym, ◌∙◌, ap, subst}
use mathlib.Core.Logic.{◌⊎◌, inl, inr, ⊎_elim, ◌↔◌}
use mathlib.Core.List.{List}
use mathlib.Core.Option.{Option, none, some}
use native.Mathlib.Omega.{arith}
use Rattle.layout.specs.Knowledge.{Limits, Rules, any_id, Knowledge, Lawful, encode}
use Rattle.layout.specs.Permitted.{Permitted}
use Rattle.layout.proofs.Exact.{exact}
use Rattle.layout.proofs.Forward.{encode_bytes}
use Rattle.ticks.specs.Meaning.{highest, known, Normal}
use Rattle.ticks.proofs.Lists.{less, same, more, order, side_in, side_below, side_above, span_side}
use Rattle.ticks.proofs.Unique.{normal_unique}
use Rattle.ticks.proofs.Algebra.{ticks_of_16}
use Rattle.replication.specs.Record.{Content, Rec}
use Rattle.replication.specs.Call.{ReplicaId, Call}
use Rattle.replication.specs.Formats.{find, Store, encode_store}
use Rattle.replication.specs.BatchFormat.{Batch, encode_batch}
use Rattle.replication.specs.Valid.{LawfulStore}
use Rattle.replication.specs.ValidBatch.{LawfulBatch}
use Rattle.replication.specs.Lists.{World}
use Rattle.replication.specs.Machine.{Remembered, State}
use Rattle.replication.specs.Promise.{Agrees, machine}
use Rattle.replication.specs.Batches.{Carries, BatchAgrees, BatchMade}
use Rattle.replication.proofs.Agree.Arguments.{same?}
use Rattle.replication.proofs.Tables.Rising.{tables_equal}
use Rattle.replication.proofs.Contents.Edit.{NewRec, Changes}
use Rattle.replication.proofs.Contents.Make.{Makes}
use Rattle.replication.proofs.Contents.Apply.{Greater, NotLess, Applies}
use Rattle.replication.proofs.Demand3.{accepted_same, same_store, records_equal}

-- ---- values

-- two knowledges know the same, of every item id and every replica id
abbrev KnowSame : Knowledge → Knowledge → Type 0
KnowSame a b = (i q : ℕ) → i ≤ highest → ReplicaId q → known a i q ≡ known b i q

knowledge_same : (L : Limits) (a b : Knowledge) → Lawful (any_id L) a → Lawful (any_id L) b → Normal a → Normal b → KnowSame a b → a ≡ b
knowledge_same L a b x y n m f = normal_unique a b n m (ticks_of_16 a b x.ids y.ids f).known

stores_same : (L : Limits) (a b : Store) → LawfulStore L a → LawfulStore L b → a.own ≡ b.own → KnowSame a.knowledge b.knowledge
    → ((i : ℕ) → i ≤ highest → find i a.records ≡ find i b.records) → a ≡ b
stores_same L a b v w own ticks records =
    same_store a b own (knowledge_same L a.knowledge b.knowledge v.lawful w.lawful v.normal w.normal ticks)
    (records_equal L a b v w records)

same_batch : (a b : Batch) → a.first ≡ b.first → a.last ≡ b.last → a.needed ≡ b.needed → a.learned ≡ b.learned
    → a.records ≡ b.records → a ≡ b
same_batch a b e f g h k = by_parts a.first a.last a.needed a.learned a.records e f g h k
  where
    by_parts : (x y : ℕ) (n l : Knowledge) (rs : List Rec) → x ≡ b.first → y ≡ b.last → n ≡ b.needed → l ≡ b.learned
        → rs ≡ b.records → record { first = x; last = y; needed = n; learned = l; records = rs } ≡ b
    by_parts x y n l rs e f g h k = rw (e, f, g, h, k)

module _ (L : Limits) (a b : Batch) (v : LawfulBatch L a) (w : LawfulBatch L b) where
  needed_same : KnowSame a.needed b.needed → a.needed ≡ b.needed
  needed_same f = knowledge_same L a.needed b.needed v.needed_lawful w.needed_lawful v.needed_normal w.needed_normal f

  abbrev KnowSameInside : Type 0
  KnowSameInside = (i q : ℕ) → a.first ≤ i → i ≤ a.last → ReplicaId q → known a.learned i q ≡ known b.learned i q

  -- learned knows nothing outside the span
  learned_same : a.first ≡ b.first → a.last ≡ b.last → KnowSameInside → a.learned ≡ b.learned
  learned_same e f inside =
      knowledge_same L a.learned b.learned v.learned_lawful w.learned_lawful v.learned_normal w.learned_normal
      (λ i q h small.
      elim (span_side a.first a.last i) [
        | side_in l m ↦ inside i q l m small
        | side_below l ↦ v.outside i q h (inl l) ∙ sym (w.outside i q h (inl (omega (arith, l, e))))
        | side_above l ↦ v.outside i q h (inr l) ∙ sym (w.outside i q h (inr (omega (arith, l, f))))
      ])

  batches_same : a.first ≡ b.first → a.last ≡ b.last → KnowSame a.needed b.needed → KnowSameInside
      → ((i : ℕ) → find i a.records ≡ find i b.records) → a ≡ b
  batches_same e f needed inside records =
      same_batch a b e f (needed_same needed) (learned_same e f inside)
      (tables_equal 0 a.records b.records v.rising w.rising records)

-- what two tables find, of whose records the same is said
found_same : (xs ys : List Rec) (P : ℕ → Rec → Type 0) → ((i : ℕ) (r : Rec) → (find i xs ≡ some r) ↔ P i r)
    → ((i : ℕ) (r : Rec) → (find i ys ≡ some r) ↔ P i r) → (i : ℕ) → find i xs ≡ find i ys
found_same xs ys P f g i = go (find i xs) refl (find i ys) refl
  where
    go : (o : Option Rec) → find i xs ≡ o → (u : Option Rec) → find i ys ≡ u → find i xs ≡ find i ys
    go (some r) e u h = e ∙ sym ((g i r).1 ((f i r).0 e))
    go none e (some r) h = (f i r).1 ((g i r).0 h) ∙ sym h
    go none e none h = e ∙ sym h

-- ---- a store that agrees with the machine

module _ (L : Limits) (s t : List ℕ) (m : State) (p : ℕ) (x : Agrees L s m p) (y : Agrees L t m p) where
  pub agrees_same : x.store ≡ y.store
  agrees_same =
      stores_same L x.store y.store x.is.valid y.is.valid (omega (arith, x.own, y.own))
      (λ i q h small. omega (arith, x.ticks i q h small, y.ticks i q h small))
      (λ i h. x.records i h ∙ sym (y.records i h))

  pub agrees_settled : s ≡ t
  agrees_settled = x.is.bytes ∙ (ap encode_store agrees_same ∙ sym y.is.bytes)

-- two worlds that agree with one machine have the same store bytes
pub worlds_settled : (L : Limits) (v w : World) (m : State) → ((p : ℕ) → ReplicaId p → Agrees L (v.stores p) m p)
    → ((p : ℕ) → ReplicaId p → Agrees L (w.stores p) m p) → (p : ℕ) → ReplicaId p → v.stores p ≡ w.stores p
worlds_settled L v w m f g p small = agrees_settled L (v.stores p) (w.stores p) m p (f p small) (g p small)

-- ---- edit and delete

same_rec : (r s : Rec) → r.item ≡ s.item → r.change_replica ≡ s.change_replica → r.change_tick ≡ s.change_tick
    → r.create_replica ≡ s.create_replica → r.create_tick ≡ s.create_tick → r.content ≡ s.content → r ≡ s
same_rec r s a b c d e f =
    by_parts r.item r.change_replica r.change_tick r.create_replica r.create_tick r.content a b c d e f
  where
    by_parts : (i p t q u : ℕ) (x : Content) → i ≡ s.item → p ≡ s.change_replica → t ≡ s.change_tick → q ≡ s.create_replica
        → u ≡ s.create_tick → x ≡ s.content
        → record { item = i; change_replica = p; change_tick = t; create_replica = q; create_tick = u; content = x } ≡ s
    by_parts i p t q u x a b c d e f = rw (a, b, c, d, e, f)

-- the record written at a tick is settled by what was there before
module _ (content : Content) (item who t : ℕ) (r s : Rec) where
  new_same : (before : Option Rec) → NewRec content item who t before r → NewRec content item who t before s → r ≡ s
  new_same before x y =
      let c = created before refl in
      same_rec r s (x.item ∙ sym y.item) (x.change_replica ∙ sym y.change_replica) (x.change_tick ∙ sym y.change_tick)
      c.0 c.1 (x.content ∙ sym y.content)
    where
      created : (o : Option Rec) → before ≡ o → (r.create_replica ≡ s.create_replica) × (r.create_tick ≡ s.create_tick)
      created none h = let a = x.absent h in let b = y.absent h in (a.0 ∙ sym b.0, a.1 ∙ sym b.1)
      created (some old) h = let a = x.there old h in let b = y.there old h in (a.0 ∙ sym b.0, a.1 ∙ sym b.1)

module _ (L : Limits) (st : Store) (content : Content) (item : ℕ) where
  -- the tick is 1 or one more than a tick known before, and so at most any tick that is above all of them
  tick_low : (bs cs : List ℕ) (x : Changes L st content item bs) (y : Changes L st content item cs) → x.tick ≤ y.tick
  tick_low bs cs x y =
      ⊎_elim (λ e. omega (arith, e, y.above 0 0)) (λ w. omega (arith, w.1.1.1, y.above w.0 w.1.0)) x.least

  module _ (bs cs : List ℕ) (x : Changes L st content item bs) (y : Changes L st content item cs) where
    tick_same : x.tick ≡ y.tick
    tick_same = omega (arith, tick_low bs cs x y, tick_low cs bs y x)

    new_written : x.new ≡ y.new
    new_written =
        new_same content item st.own y.tick x.new y.new (find item st.records)
        (subst (λ (t : ℕ). NewRec content item st.own t (find item st.records) x.new) tick_same x.new_is_lem) y.new_is_lem

    ticks_written : KnowSame x.store.knowledge y.store.knowledge
    ticks_written i q h small =
        ⊎_elim
        (λ (e : q ≡ st.own).
        subst (λ (r : ℕ). known x.store.knowledge i r ≡ known y.store.knowledge i r) (sym e)
        (omega (arith, x.own_tick i h, tick_same, y.own_tick i h)))
        (λ (n : q ≡ st.own → ⊥). omega (arith, x.other_ticks i q h n, y.other_ticks i q h n)) (same? q st.own)

    records_written : (i : ℕ) → i ≤ highest → find i x.store.records ≡ find i y.store.records
    records_written i h =
        ⊎_elim
        (λ (e : i ≡ item).
        subst (λ (j : ℕ). find j x.store.records ≡ find j y.store.records) (sym e)
        (x.new_found ∙ (ap some new_written ∙ sym y.new_found)))
        (λ (n : i ≡ item → ⊥). x.other_records i n ∙ sym (y.other_records i n)) (same? i item)

    pub changes_same : x.store ≡ y.store
    changes_same =
        stores_same L x.store y.store x.valid y.valid (omega (arith, x.own, y.own)) ticks_written records_written

    pub changes_settled : bs ≡ cs
    changes_settled = x.bytes ∙ (ap encode_store changes_same ∙ sym y.bytes)

-- ---- make

module _ (R : Rules) (st : Store) (k : Knowledge) (f l : ℕ) (bs cs : List ℕ) (x : Makes R st k f l bs) (y : Makes R st k f l cs) where
  pub makes_same : x.batch ≡ y.batch
  makes_same =
      batches_same R.limits x.batch y.batch x.valid y.valid
      (omega (arith, x.first, y.first)) (omega (arith, x.last, y.last))
      (λ i q h small. omega (arith, x.needed i q h, y.needed i q h))
      (λ i q a b small.
      let u : f ≤ i = omega (arith, a, x.first) in
      let v : i ≤ l = omega (arith, b, x.last) in
      omega (arith, x.inside i q u v, y.inside i q u v))
      (found_same x.batch.records y.batch.records
      (λ i r. (find i st.records ≡ some r) × ((f ≤ i) × ((i ≤ l) × (known k i r.change_replica < r.change_tick))))
      x.records y.records)

  pub makes_settled : bs ≡ cs
  makes_settled = x.bytes ∙ (ap encode_batch makes_same ∙ sym y.bytes)

-- ---- apply

-- the batch's record wins, or the store's stays
greater? : (x y : Rec) → Greater x y ⊎ NotLess x y
greater? x y =
    elim (order x.change_tick y.change_tick) [
      | less h ↦ inl (inl h)
      | same h ↦
          elim (order x.change_replica y.change_replica) [
            | less l ↦ inl (inr (h, l))
            | same l ↦ inr (inr (h, omega arith))
            | more l ↦ inr (inr (h, omega arith))
          ]
      | more h ↦ inr (inl h)
    ]

module _ (L : Limits) (st : Store) (b : Batch) (bs cs : List ℕ) (x : Applies L st b bs) (y : Applies L st b cs) where
  applies_found : (i : ℕ) → find i x.store.records ≡ find i y.store.records
  applies_found i = go (find i st.records) refl (find i b.records) refl
    where
      go : (o : Option Rec) → find i st.records ≡ o → (u : Option Rec) → find i b.records ≡ u
          → find i x.store.records ≡ find i y.store.records
      go none e none h = x.neither i e h ∙ sym (y.neither i e h)
      go none e (some r) h = x.batch_only i r e h ∙ sym (y.batch_only i r e h)
      go (some q) e none h = x.store_only i q e h ∙ sym (y.store_only i q e h)
      go (some q) e (some r) h =
          ⊎_elim (λ (g : Greater q r). x.batch_wins i q r e h g ∙ sym (y.batch_wins i q r e h g))
          (λ (g : NotLess q r). x.store_wins i q r e h g ∙ sym (y.store_wins i q r e h g)) (greater? q r)

  pub applies_same : x.store ≡ y.store
  applies_same =
      stores_same L x.store y.store x.valid y.valid (omega (arith, x.own, y.own))
      (λ i q h small. omega (arith, x.ticks i q h, y.ticks i q h)) (λ i h. applies_found i)

  pub applies_settled : bs ≡ cs
  applies_settled = x.bytes ∙ (ap encode_store applies_same ∙ sym y.bytes)

-- ---- a batch of a list

some_same : {A : Type 0} (x y : A) → some x ≡ some y → x ≡ y
some_same x y e = cc

-- what a batch carries depends on its needed knowledge alone
carries_moved : (vs : List Rec) (m : Remembered) (a b : Batch) (i : ℕ) (r : Rec) → a.needed ≡ b.needed
    → Carries vs m a i r → Carries vs m b i r
carries_moved vs m a b i r e c =
    record {
      greatest = c.greatest;
      above = c.above;
      below = c.below;
      lacked = subst (λ (k : Knowledge). known k i r.change_replica < r.change_tick) e c.lacked;
    }

module _ (L : Limits) (m : State) (n : ℕ) (k : Knowledge) (s t : List ℕ) (x : BatchAgrees L m n k s) (y : BatchAgrees L m n k t) where
  remembered_same : x.remembered ≡ y.remembered
  remembered_same = some_same x.remembered y.remembered (sym x.remembers ∙ y.remembers)

  first_same : x.batch.first ≡ y.batch.first
  first_same = x.first ∙ (ap (λ (b : Remembered). b.first) remembered_same ∙ sym y.first)

  last_same : x.batch.last ≡ y.batch.last
  last_same = x.last ∙ (ap (λ (b : Remembered). b.last) remembered_same ∙ sym y.last)

  needed_alike : KnowSame x.batch.needed y.batch.needed
  needed_alike i q h small = omega (arith, x.needed i q h small, y.needed i q h small)

  abbrev RecordsAre : Remembered → Type 0
  RecordsAre b = (i : ℕ) (r : Rec) → (find i y.batch.records ≡ some r) ↔ Carries m.versions b y.batch i r

  -- the second batch's records, in the first's terms
  records_moved : (i : ℕ) (r : Rec) → (find i y.batch.records ≡ some r) ↔ Carries m.versions x.remembered x.batch i r
  records_moved i r =
      let e = needed_same L x.batch y.batch x.is.valid y.is.valid needed_alike in
      let h = subst RecordsAre (sym remembered_same) y.records i r in (
        λ f. carries_moved m.versions x.remembered y.batch x.batch i r (sym e) (h.0 f),
        λ c. h.1 (carries_moved m.versions x.remembered x.batch y.batch i r e c),
      )

  pub batch_same : x.batch ≡ y.batch
  batch_same =
      batches_same L x.batch y.batch x.is.valid y.is.valid first_same last_same needed_alike
      (λ i q a b small.
      let e : x.remembered.ticks i q ≡ y.remembered.ticks i q = ap (λ (c : Remembered). c.ticks i q) remembered_same in
      omega (arith, x.inside i q a b small, e, y.inside i q (omega (arith, a, first_same)) (omega (arith, b, last_same)) small))
      (found_same x.batch.records y.batch.records (Carries m.versions x.remembered x.batch) x.records
      records_moved)

  pub batch_settled : s ≡ t
  batch_settled = x.is.bytes ∙ (ap encode_batch batch_same ∙ sym y.is.bytes)

-- and so the batches of a list: the bytes given to a make are of one lawful knowledge only
module _ (R : Rules) (permitted : Permitted R.limits) where
  given_same : (a b : Knowledge) → Lawful R a → Lawful R b → encode a ≡ encode b → a ≡ b
  given_same a b x y e =
      accepted_same a b
      (sym ((exact R permitted (encode a) a (encode_bytes a)).1 (refl, x)) ∙ (exact R permitted (encode a) b (encode_bytes a)).1 (e, y))

  pub batches_settled : (calls : List Call) (n : ℕ) (s t : List ℕ) → BatchMade R calls n s → BatchMade R calls n t → s ≡ t
  batches_settled calls n s t x y =
      let e : x.given ≡ y.given =
      given_same x.given y.given x.lawful y.lawful
      (some_same (encode x.given) (encode y.given) (sym x.bytes ∙ y.bytes)) in
      batch_settled R.limits (machine R calls) n y.given s t
      (subst (λ (k : Knowledge). BatchAgrees R.limits (machine R calls) n k s) e x.agrees) y.agrees

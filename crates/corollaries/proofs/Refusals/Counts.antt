-- Where the counts of a result can refuse a call. An edit or delete adds at most the store's own id to the replicas, and
-- just then when the own tick is still 0; it adds no range, since the own tick is raised in all ranges alike; an edit adds
-- a record exactly where the item has none, a delete never does. A make adds no replica to a knowledge and no record to
-- a store. So for a valid store edit gives 11 exactly where its own tick is 0 and the map is full, 13 exactly where the
-- item has no record and the table is full, and never 12; delete gives neither 12 nor 13; make gives neither 11 nor 13.
use Prim.Native.Nat.{ℕ, zero, suc, ◌+◌, ◌≤◌, ◌<◌}
use mathlib.Core.Path.{◌≡◌, refl, ap, ◌∙◌}
use mathlib.Core.Logic.{◌⊎◌, inl, inr, ⊎_elim, ◌↔◌}
use mathlib.Core.List.{List, [], ◌∷◌}
use mathlib.Core.Option.{Option, none, some}
use native.Mathlib.Omega.{arith}
use lib.ListN.{length}
use Rattle.codec.specs.Number.{be_at, Bytes}
use Rattle.codec.specs.Reply.{refuses}
use Rattle.layout.specs.Knowledge.{Limits, any_id, Knowledge, All, Rising, Lawful}
use Rattle.layout.specs.Permitted.{Permitted}
use Rattle.layout.specs.Parse.{parse}
use Rattle.layout.proofs.Exact.{exact}
use Rattle.ticks.specs.Meaning.{highest, known, Normal}
use Rattle.ticks.specs.Operations.{raise, normalise, largest}
use Rattle.ticks.proofs.Lists.{Among, less, same, more, order}
use Rattle.ticks.proofs.Operations.{normal_test, normal_raise, known_raise_own, known_raise_other}
use Rattle.ticks.proofs.Largest.{alike_all}
use Rattle.ticks.proofs.Counts.{distinct_count, replicas_are, raise-map, raise_replicas, raise_ranges, normalise_replicas, project_replicas}
use Rattle.replication.specs.Record.{Rec, Content}
use Rattle.replication.specs.Calls.{RightBrought, edit_reply, delete_reply, make_reply, tombstone, live_content}
use Rattle.replication.specs.Formats.{Store, items, find}
use Rattle.replication.specs.OpenStore.{versions_in, open_store}
use Rattle.replication.specs.Operate.{next_tick, changed_rec, changed, made}
use Rattle.replication.proofs.Tables.Rising.{replace-length-new, replace-length-found, valid_recs_lem}
use Rattle.replication.proofs.Tables.Selected.{selected-length}
use Rattle.replication.proofs.Bytes.Store.{ValidStore, valid_store_lem, store_opened_lem}
use Rattle.replication.proofs.Refusals.Tests.{Present, Unexhausted, opened_lawful}
use Rattle.replication.proofs.Refusals.Edit.{edited_store, edit_11, edit_12, edit_13, delete_11, delete_12, delete_13}
use Rattle.replication.proofs.Refusals.Make.{make_11, make_13}
use Rattle.replication.specs.Call.{Brought}
use Rattle.codec.specs.Parsed.{accepted}

-- ---- replicas

all_apart : (q : ℕ) (xs : List ℕ) → (Among q xs → ⊥) → All (λ y. q ≡ y → ⊥) xs
all_apart q [] n = tt
all_apart q (x ∷ xs) n = ((λ e. n (inl e)), all_apart q xs (λ m. n (inr m)))

-- raising the tick of a replica that is in the map adds none
raise_old : (q t : ℕ) (k : Knowledge) → Among q k.replicas → length (raise q t k).replicas ≤ length k.replicas
raise_old q t k m =
    let n = normal_raise q t k in
    distinct_count (raise q t k).replicas k.replicas n.formed.sound.distinct
    (λ p a.
    let w = (replicas_are (raise q t k) p n.formed n.used).0 a in
    ⊎_elim (λ (e : p ≡ q). rw e m) (λ b. b) (raise-map q t k w.0 p w.1.0 w.1.1))

-- and of one that is not in the map adds it
raise_new : (q t : ℕ) (k : Knowledge) → Normal k → 1 ≤ t → (Among q k.replicas → ⊥) → length (raise q t k).replicas ≡ suc (length k.replicas)
raise_new q t k n one out =
    omega (
      arith,
      raise_replicas q t k,
      distinct_count (q ∷ k.replicas) (raise q t k).replicas (all_apart q k.replicas out, n.formed.sound.distinct) there,
    )
  where
    known_there : (i p : ℕ) → i ≤ highest → 1 ≤ known (raise q t k) i p → Among p (raise q t k).replicas
    known_there i p h l = (replicas_are (raise q t k) p (normal_raise q t k).formed (normal_raise q t k).used).1 (i, (h, l))

    there : (p : ℕ) → Among p (q ∷ k.replicas) → Among p (raise q t k).replicas
    there p (inl e) = known_there 0 p (omega arith) (omega (arith, known_raise_own q t k 0 p (omega arith) e))
    there p (inr m) =
        let w = (replicas_are k p n.formed n.used).0 m in
        known_there w.0 p w.1.0 (omega (arith, w.1.1, known_raise_other q t k w.0 p w.1.0 (λ (e : p ≡ q). out (rw (← e) m))))

-- ---- a changed store

-- the record that a change writes, whatever stood there before
item_of_lem : (content : Content) (i own t : ℕ) (o : Option Rec) → (changed_rec content i own t o).item ≡ i
unfolding changed_rec
item_of_lem content i own t none = refl
item_of_lem content i own t (some r) = refl

none_or : (o : Option Rec) → (o ≡ none) ⊎ ((r : Rec) × (o ≡ some r))
none_or none = inl refl
none_or (some r) = inr (r, refl)

zero_or : (x : ℕ) → (x ≡ 0) ⊎ (1 ≤ x)
zero_or zero = inl refl
zero_or (suc x) = inr (omega arith)

module _ (L : Limits) (permitted : Permitted L) (s : List ℕ) (octets : Bytes s) (st : Store) (os : open_store L s ≡ accepted st) where
  valid : ValidStore L st
  valid = (valid_store_lem L st).0 (store_opened_lem L s st permitted octets os).1.1

  normal : Normal st.knowledge
  normal = (normal_test st.knowledge).0 valid.normal

  lawful : Lawful (any_id L) st.knowledge
  lawful = opened_lawful L s st permitted octets os

  rising : Rising 0 (items st.records)
  rising = ((valid_recs_lem (versions_in st.knowledge) 0 st.records).0 valid.records).0

  -- the own id is in the map where the own tick is 1 or more
  own_in : 1 ≤ known st.knowledge 0 st.own → Among st.own st.knowledge.replicas
  own_in h = (replicas_are st.knowledge st.own normal.formed normal.used).1 (0, (omega arith, h))

  own_out : known st.knowledge 0 st.own ≡ 0 → Among st.own st.knowledge.replicas → ⊥
  own_out z m =
      let w = (replicas_are st.knowledge st.own normal.formed normal.used).0 m in
      omega (arith, w.1.1, alike_all st.knowledge st.own w.0 valid.alike)

  module _ (content : Content) (i : ℕ) where
    changed_replicas : (L.replicas < length (changed content i st).knowledge.replicas) ↔ ((known st.knowledge 0 st.own ≡ 0) × (length st.knowledge.replicas ≡ L.replicas))
    unfolding changed next_tick
    changed_replicas = (
      there (zero_or (known st.knowledge 0 st.own)),
      λ h. omega
          (arith, h.1, raise_new st.own (1 + largest st.knowledge) st.knowledge normal (omega arith) (own_out h.0)),
    )
      where
        there : (known st.knowledge 0 st.own ≡ 0) ⊎ (1 ≤ known st.knowledge 0 st.own)
            → L.replicas < length (changed content i st).knowledge.replicas
            → (known st.knowledge 0 st.own ≡ 0) × (length st.knowledge.replicas ≡ L.replicas)
        there (inl z) h = (z, omega (arith, h, lawful.replicas, raise_new st.own (1 + largest st.knowledge) st.knowledge normal (omega arith) (own_out z)))
        there (inr l) h = absurd (omega (arith, h, lawful.replicas, raise_old st.own (1 + largest st.knowledge) st.knowledge (own_in l)))

    changed_ranges : length (changed content i st).knowledge.ranges ≤ L.ranges
    unfolding changed next_tick
    changed_ranges = omega (arith, lawful.ranges, raise_ranges st.own (1 + largest st.knowledge) st.knowledge normal.formed)

    changed_found : (r : Rec) → find i st.records ≡ some r → length (changed content i st).records ≤ L.records
    unfolding changed
    changed_found r e =
        let new = changed_rec content i st.own (next_tick st) (find i st.records) in
        omega (
          arith,
          valid.count,
          replace-length-found new 0 st.records r rising (ap (λ (j : ℕ). find j st.records) (item_of_lem content i st.own (next_tick st) (find i st.records)) ∙ e),
        )

    changed_absent : find i st.records ≡ none → length (changed content i st).records ≡ suc (length st.records)
    unfolding changed
    changed_absent e =
        let new = changed_rec content i st.own (next_tick st) (find i st.records) in
        replace-length-new new st.records (ap (λ (j : ℕ). find j st.records) (item_of_lem content i st.own (next_tick st) (find i st.records)) ∙ e)

    changed_records : (L.records < length (changed content i st).records) ↔ ((find i st.records ≡ none) × (length st.records ≡ L.records))
    changed_records = (there (none_or (find i st.records)), λ h. omega (arith, h.1, changed_absent h.0))
      where
        there : (find i st.records ≡ none) ⊎ ((r : Rec) × (find i st.records ≡ some r))
            → L.records < length (changed content i st).records → (find i st.records ≡ none) × (length st.records ≡ L.records)
        there (inl e) h = (e, omega (arith, valid.count, changed_absent e))
        there (inr w) h = absurd (omega (arith, changed_found w.0 w.1))

  -- ---- edit

  module _ (item : List ℕ) (b : Brought) where
    pub edit_11_full : (edit_reply L s item b ≡ refuses 11) ↔
        (((length item ≡ 24) × RightBrought b) ×
        (Unexhausted st × ((known st.knowledge 0 st.own ≡ 0) × (length st.knowledge.replicas ≡ L.replicas))))
    edit_11_full =
        let law = edit_11 L permitted s item b octets st os in
        let count = changed_replicas (live_content b) (be_at item 24 0) in
        ((λ h. let a = law.0 h in (a.0, (a.1.0, count.0 a.1.1))), λ a. law.1 (a.0, (a.1.0, count.1 a.1.1)))

    pub edit_never_12 : edit_reply L s item b ≡ refuses 12 → ⊥
    edit_never_12 h =
        omega (arith, ((edit_12 L permitted s item b octets st os).0 h).1.1.1, changed_ranges (live_content b) (be_at item 24 0))

    -- the item has no record, the table is full, and the replicas leave room
    pub edit_13_full : (edit_reply L s item b ≡ refuses 13) ↔
        (((length item ≡ 24) × RightBrought b) ×
        (Unexhausted st × (((1 ≤ known st.knowledge 0 st.own) ⊎ (length st.knowledge.replicas < L.replicas))
        × ((find (be_at item 24 0) st.records ≡ none) × (length st.records ≡ L.records)))))
    edit_13_full =
        let law = edit_13 L permitted s item b octets st os in
        let count = changed_records (live_content b) (be_at item 24 0) in (
          (λ h. let a = law.0 h in (a.0, (a.1.0, (room_there a.1.1.0 (zero_or (known st.knowledge 0 st.own)), count.0 a.1.1.1.1)))),
          λ a. law.1 (a.0, (a.1.0, (room_back a.1.1.0, (changed_ranges (live_content b) (be_at item 24 0), count.1 a.1.1.1)))),
        )
      where
        room_there : length (edited_store st item b).knowledge.replicas ≤ L.replicas
            → (known st.knowledge 0 st.own ≡ 0) ⊎ (1 ≤ known st.knowledge 0 st.own)
            → (1 ≤ known st.knowledge 0 st.own) ⊎ (length st.knowledge.replicas < L.replicas)
        room_there h (inr l) = inl l
        room_there h (inl z) =
            elim (order (length st.knowledge.replicas) L.replicas) [
              | less k ↦ inr k
              | same k ↦ absurd (omega (arith, h, (changed_replicas (live_content b) (be_at item 24 0)).1 (z, k)))
              | more k ↦ absurd (omega (arith, lawful.replicas))
            ]

        room_back : (1 ≤ known st.knowledge 0 st.own) ⊎ (length st.knowledge.replicas < L.replicas) → length (edited_store st item b).knowledge.replicas ≤ L.replicas
        room_back x =
            elim (order (length (edited_store st item b).knowledge.replicas) L.replicas) [
              | less k ↦ omega arith
              | same k ↦ omega arith
              | more k ↦ let w = (changed_replicas (live_content b) (be_at item 24 0)).0 k in absurd
                  (⊎_elim (λ (l : 1 ≤ known st.knowledge 0 st.own). omega (arith, w.0))
                  (λ (l : length st.knowledge.replicas < L.replicas). omega (arith, w.1)) x)
            ]

  -- ---- delete

  module _ (item : List ℕ) where
    pub delete_11_full : (delete_reply L s item ≡ refuses 11) ↔
        ((length item ≡ 24) × (Present (find (be_at item 24 0) st.records)
        × (Unexhausted st × ((known st.knowledge 0 st.own ≡ 0) × (length st.knowledge.replicas ≡ L.replicas)))))
    delete_11_full =
        let law = delete_11 L permitted s item octets st os in
        let count = changed_replicas tombstone (be_at item 24 0) in (
          (λ h. let a = law.0 h in (a.0, (a.1.0, (a.1.1.0, count.0 a.1.1.1)))),
          λ a. law.1 (a.0, (a.1.0, (a.1.1.0, count.1 a.1.1.1))),
        )

    pub delete_never_12 : delete_reply L s item ≡ refuses 12 → ⊥
    delete_never_12 h =
        omega (arith, ((delete_12 L permitted s item octets st os).0 h).1.1.1.1, changed_ranges tombstone (be_at item 24 0))

    pub delete_never_13 : delete_reply L s item ≡ refuses 13 → ⊥
    delete_never_13 h =
        let a = (delete_13 L permitted s item octets st os).0 h in
        omega (arith, a.1.1.1.1.1, changed_found tombstone (be_at item 24 0) a.1.0.0 a.1.0.1.0)

  -- ---- make

  module _ (judge : ℕ → ℕ) (kn first last : List ℕ) (given : Bytes kn) (k : Knowledge) (read : parse (record { limits = L; judge = judge }) kn ≡ accepted k) where
    pub make_never_11 : make_reply (record { limits = L; judge = judge }) s kn first last ≡ refuses 11 → ⊥
    make_never_11 h =
        let l : Lawful (record { limits = L; judge = judge }) k = ((exact (record { limits = L; judge = judge }) permitted kn k given).0 read).1 in
        ⊎_elim (λ a. omega (arith, a.1, normalise_replicas k, l.replicas))
        (λ a. omega (arith, a.1.1, project_replicas (be_at first 24 0) (be_at last 24 0) st.knowledge, lawful.replicas))
        ((make_11 (record { limits = L; judge = judge }) s kn first last st k os read).0 h)

    pub make_never_13 : make_reply (record { limits = L; judge = judge }) s kn first last ≡ refuses 13 → ⊥
    unfolding made
    make_never_13 h =
        omega (
          arith,
          ((make_13 (record { limits = L; judge = judge }) s kn first last st k os read).0 h).1.1.1,
          selected-length (be_at first 24 0) (be_at last 24 0) (normalise k) st.records,
          valid.count,
        )

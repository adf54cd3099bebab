-- When edit and delete refuse, and what they give otherwise. Bytes that are no store are refused with the number of opening them. For a store the
-- tables are: 17, an item id not of 24 bytes or a tag not of 16; for a delete 19, no record of the item or a tombstone;
-- 20, some item and replica known at the largest tick there is; then 11, 12 and 13, the counts of the changed store. Each
-- number is given exactly where its condition is met and none before it; where none is, the bytes are those of the
-- changed store.
use Prim.Native.Nat.{ℕ, ◌≤◌, ◌<◌}
use mathlib.Core.Path.{◌≡◌, refl, ap, ◌∙◌}
use mathlib.Core.Logic.{◌⊎◌, inl, inr, ◌↔◌}
use mathlib.Core.Bool.{true, ◌||◌}
use mathlib.Core.List.{List, [], ◌∷◌}
use lib.ListN.{length}
use Rattle.codec.specs.Number.{be_at, Bytes}
use Rattle.codec.specs.Reply.{Reply, gives, refuses, Line, first_fault}
use Rattle.layout.specs.Knowledge.{Limits, any_id, Lawful}
use Rattle.layout.specs.Permitted.{Permitted}
use Rattle.ticks.specs.Calls.{wrong_length}
use Rattle.ticks.proofs.Lists.{Among}
use Rattle.ticks.proofs.ForCalls.{id_is}
use Rattle.replication.specs.Formats.{Store, encode_store, find}
use Rattle.replication.specs.OpenStore.{open_store}
use Rattle.replication.specs.Operate.{changed}
use Rattle.replication.specs.Calls.{gone, exhausted, store_lines, edit_lines, edited, edit_reply, delete_lines, deleted, delete_reply, tombstone, live_content, wrong_brought, RightBrought}
use Rattle.replication.proofs.Refusals.Table.{Rule, rule, Told, told-cons, At, only, refused_at, refused_among, given_none, refuses_same}
use Rattle.replication.proofs.Refusals.Tests.{Gone, Present, means_19, Exhausted, Unexhausted, means_20, means_length, means_lengths, rule11, rule12, rule13, told_store, opened_lawful}
use Rattle.codec.specs.Parsed.{accepted, refused, Parsed, own_fault, read_or, line}
use Rattle.replication.specs.Call.{Brought}

-- ---- the replies, by what opens

edit_on : Limits → Parsed Store → List ℕ → Brought → Reply
edit_on L o item b = first_fault refuses (edit_lines L o item b (edited o item b)) (gives (encode_store (edited o item b)))

delete_on : Limits → Parsed Store → List ℕ → Reply
delete_on L o item = first_fault refuses (delete_lines L o item (deleted o item)) (gives (encode_store (deleted o item)))

-- the store's own number, whichever it is
pub edit_store : (L : Limits) (s item : List ℕ) (b : Brought) (n : ℕ) → open_store L s ≡ refused n → edit_reply L s item b ≡ refuses n
unfolding edit_reply edit_on edit_lines own_fault first_fault
edit_store L s item b n e = ap (λ (o : Parsed Store). edit_on L o item b) e

pub delete_store : (L : Limits) (s item : List ℕ) (n : ℕ) → open_store L s ≡ refused n → delete_reply L s item ≡ refuses n
unfolding delete_reply delete_on delete_lines own_fault first_fault
delete_store L s item n e = ap (λ (o : Parsed Store). delete_on L o item) e

-- the stores that an edit and a delete come to
abbrev pub edited_store : Store → List ℕ → Brought → Store
edited_store st item b = changed (live_content b) (be_at item 24 0) st

abbrev pub deleted_store : Store → List ℕ → Store
deleted_store st item = changed tombstone (be_at item 24 0) st

-- the three lines of a changed store
abbrev pub store_rules : Limits → Store → List Rule
store_rules L st = rule11 L st.knowledge ∷ rule12 L st.knowledge ∷ rule13 L st.records ∷ []

-- ---- edit

module _ (L : Limits) (st : Store) (item : List ℕ) (b : Brought) where
  abbrev edit_lines_lem : List Line
  edit_lines_lem = line 17 (wrong_length 24 item || wrong_brought b) ∷ line 20 (exhausted st) ∷ store_lines L (edited_store st item b)

  abbrev pub edit_rules : List Rule
  edit_rules =
      rule 17 ((length item ≡ 24 → ⊥) ⊎ (RightBrought b → ⊥)) ((length item ≡ 24) × RightBrought b) ∷
      rule 20 (Exhausted st) (Unexhausted st) ∷
      store_rules L (edited_store st item b)

  edit_told : Lawful (any_id L) st.knowledge → Told edit_lines_lem edit_rules
  edit_told l =
      told-cons (line 17 (wrong_length 24 item || wrong_brought b)) (line 20 (exhausted st) ∷ store_lines L (edited_store st item b))
      (rule 17 ((length item ≡ 24 → ⊥) ⊎ (RightBrought b → ⊥)) ((length item ≡ 24) × RightBrought b)) (rule 20 (Exhausted st) (Unexhausted st) ∷ store_rules L (edited_store st item b))
      (means_lengths item b)
      (told-cons (line 20 (exhausted st)) (store_lines L (edited_store st item b)) (rule 20 (Exhausted st) (Unexhausted st)) (store_rules L (edited_store st item b)) (means_20 L st l)
      (told_store L (edited_store st item b)))

  edit_table : (s : List ℕ) → open_store L s ≡ accepted st → edit_reply L s item b ≡ first_fault refuses edit_lines_lem (gives (encode_store (edited_store st item b)))
  unfolding edit_reply edit_on edit_lines edited own_fault read_or first_fault
  edit_table s e =
      ap (λ (o : Parsed Store). edit_on L o item b) e
      ∙ ap (λ (i : ℕ). first_fault refuses
      (line 17 (wrong_length 24 item || wrong_brought b) ∷ line 20 (exhausted st) ∷ store_lines L (changed (live_content b) i st))
      (gives (encode_store (changed (live_content b) i st)))) (id_is 24 item)

-- what is met where edit gives bytes
pub record EditGives (L : Limits) (st : Store) (item : List ℕ) (b : Brought) (bs : List ℕ) : Type 0 where
  pub item24 : length item ≡ 24
  pub brought : RightBrought b
  pub unexhausted : Unexhausted st
  pub replicas : length (edited_store st item b).knowledge.replicas ≤ L.replicas
  pub ranges : length (edited_store st item b).knowledge.ranges ≤ L.ranges
  pub records : length (edited_store st item b).records ≤ L.records
  pub bytes : bs ≡ encode_store (edited_store st item b)

module _ (L : Limits) (permitted : Permitted L) (s item : List ℕ) (b : Brought) (octets : Bytes s) (st : Store) (os : open_store L s ≡ accepted st) where
  told : Told (edit_lines_lem L st item b) (edit_rules L st item b)
  told = edit_told L st item b (opened_lawful L s st permitted octets os)

  at : (n k : ℕ) → only n k (edit_rules L st item b) ≡ true → (edit_reply L s item b ≡ refuses n) ↔ At k (edit_rules L st item b)
  at n k o = refused_at (edit_reply L s item b) (edit_lines_lem L st item b) (edit_rules L st item b) (encode_store (edited_store st item b)) (edit_table L st item b s os) told n k o

  pub edit_17 : (edit_reply L s item b ≡ refuses 17) ↔ ((length item ≡ 24 → ⊥) ⊎ (RightBrought b → ⊥))
  edit_17 = at 17 0 refl

  pub edit_20 : (edit_reply L s item b ≡ refuses 20) ↔ (((length item ≡ 24) × RightBrought b) × Exhausted st)
  edit_20 = at 20 1 refl

  pub edit_11 : (edit_reply L s item b ≡ refuses 11) ↔ (((length item ≡ 24) × RightBrought b) × (Unexhausted st × (L.replicas < length (edited_store st item b).knowledge.replicas)))
  edit_11 = at 11 2 refl

  pub edit_12 : (edit_reply L s item b ≡ refuses 12) ↔
      (((length item ≡ 24) × RightBrought b) ×
      (Unexhausted st × ((length (edited_store st item b).knowledge.replicas ≤ L.replicas)
      × (L.ranges < length (edited_store st item b).knowledge.ranges))))
  edit_12 = at 12 3 refl

  pub edit_13 : (edit_reply L s item b ≡ refuses 13) ↔
      (((length item ≡ 24) × RightBrought b) ×
      (Unexhausted st × ((length (edited_store st item b).knowledge.replicas ≤ L.replicas)
      × ((length (edited_store st item b).knowledge.ranges ≤ L.ranges) × (L.records < length (edited_store st item b).records)))))
  edit_13 = at 13 4 refl

  pub edit_gives : (bs : List ℕ) → (edit_reply L s item b ≡ gives bs) ↔ EditGives L st item b bs
  edit_gives bs =
      let law = given_none (edit_reply L s item b) (edit_lines_lem L st item b) (edit_rules L st item b) (encode_store (edited_store st item b)) (edit_table L st item b s os) told bs in (
        (λ h.
            let w = law.0 h in
            record { item24 = w.0.0.0; brought = w.0.0.1; unexhausted = w.0.1.0; replicas = w.0.1.1.0; ranges = w.0.1.1.1.0; records = w.0.1.1.1.1.0; bytes = w.1 }),
        λ m. law.1 (((m.item24, m.brought), (m.unexhausted, (m.replicas, (m.ranges, (m.records, tt))))), m.bytes),
      )

module _ (L : Limits) (permitted : Permitted L) (s item : List ℕ) (b : Brought) (octets : Bytes s) where
  -- no other number: the store's own, or one of the table
  pub edit_numbers_lem : (n : ℕ) → edit_reply L s item b ≡ refuses n → (open_store L s ≡ refused n) ⊎ (((st : Store) × (open_store L s ≡ accepted st)) × Among n (17 ∷ 20 ∷ 11 ∷ 12 ∷ 13 ∷ []))
  edit_numbers_lem n = go (open_store L s) refl
    where
      go : (o : Parsed Store) → open_store L s ≡ o → edit_reply L s item b ≡ refuses n
          → (open_store L s ≡ refused n) ⊎ (((st : Store) × (open_store L s ≡ accepted st)) × Among n (17 ∷ 20 ∷ 11 ∷ 12 ∷ 13 ∷ []))
      go (refused m) e h = inl (e ∙ ap refused (refuses_same (edit_reply L s item b) m n (edit_store L s item b m e) h))
      go (accepted st) e h =
          inr (
            (st, e),
            refused_among (edit_reply L s item b) (edit_lines_lem L st item b) (edit_rules L st item b) (encode_store (edited_store st item b)) (edit_table L st item b s e)
                (told L permitted s item b octets st e) n h,
          )

-- ---- delete

module _ (L : Limits) (st : Store) (item : List ℕ) where
  abbrev delete_lines_lem : List Line
  delete_lines_lem = line 17 (wrong_length 24 item) ∷ line 19 (gone (find (be_at item 24 0) st.records)) ∷ line 20 (exhausted st) ∷ store_lines L (deleted_store st item)

  abbrev pub delete_rules : List Rule
  delete_rules =
      rule 17 (length item ≡ 24 → ⊥) (length item ≡ 24) ∷
      rule 19 (Gone (find (be_at item 24 0) st.records)) (Present (find (be_at item 24 0) st.records)) ∷
      rule 20 (Exhausted st) (Unexhausted st) ∷
      store_rules L (deleted_store st item)

  delete_told : Lawful (any_id L) st.knowledge → Told delete_lines_lem delete_rules
  delete_told l =
      let o = find (be_at item 24 0) st.records in
      told-cons (line 17 (wrong_length 24 item)) (line 19 (gone o) ∷ line 20 (exhausted st) ∷ store_lines L (deleted_store st item)) (rule 17 (length item ≡ 24 → ⊥) (length item ≡ 24))
      (rule 19 (Gone o) (Present o) ∷ rule 20 (Exhausted st) (Unexhausted st) ∷ store_rules L (deleted_store st item)) (means_length 24 item)
      (told-cons (line 19 (gone o)) (line 20 (exhausted st) ∷ store_lines L (deleted_store st item)) (rule 19 (Gone o) (Present o))
      (rule 20 (Exhausted st) (Unexhausted st) ∷ store_rules L (deleted_store st item)) (means_19 o)
      (told-cons (line 20 (exhausted st)) (store_lines L (deleted_store st item)) (rule 20 (Exhausted st) (Unexhausted st)) (store_rules L (deleted_store st item)) (means_20 L st l)
      (told_store L (deleted_store st item))))

  delete_table : (s : List ℕ) → open_store L s ≡ accepted st → delete_reply L s item ≡ first_fault refuses delete_lines_lem (gives (encode_store (deleted_store st item)))
  unfolding delete_reply delete_on delete_lines deleted own_fault read_or first_fault
  delete_table s e =
      ap (λ (o : Parsed Store). delete_on L o item) e
      ∙ ap (λ (i : ℕ). first_fault refuses
      (line 17 (wrong_length 24 item) ∷ line 19 (gone (find i st.records)) ∷ line 20 (exhausted st) ∷ store_lines L
      (changed tombstone i st)) (gives (encode_store (changed tombstone i st)))) (id_is 24 item)

-- what is met where delete gives bytes
pub record DeleteGives (L : Limits) (st : Store) (item bs : List ℕ) : Type 0 where
  pub item24 : length item ≡ 24
  pub present : Present (find (be_at item 24 0) st.records)
  pub unexhausted : Unexhausted st
  pub replicas : length (deleted_store st item).knowledge.replicas ≤ L.replicas
  pub ranges : length (deleted_store st item).knowledge.ranges ≤ L.ranges
  pub records : length (deleted_store st item).records ≤ L.records
  pub bytes : bs ≡ encode_store (deleted_store st item)

module _ (L : Limits) (permitted : Permitted L) (s item : List ℕ) (octets : Bytes s) (st : Store) (os : open_store L s ≡ accepted st) where
  delete_said : Told (delete_lines_lem L st item) (delete_rules L st item)
  delete_said = delete_told L st item (opened_lawful L s st permitted octets os)

  delete_at : (n k : ℕ) → only n k (delete_rules L st item) ≡ true → (delete_reply L s item ≡ refuses n) ↔ At k (delete_rules L st item)
  delete_at n k o = refused_at (delete_reply L s item) (delete_lines_lem L st item) (delete_rules L st item) (encode_store (deleted_store st item)) (delete_table L st item s os) delete_said n k o

  pub delete_17 : (delete_reply L s item ≡ refuses 17) ↔ (length item ≡ 24 → ⊥)
  delete_17 = delete_at 17 0 refl

  pub delete_19 : (delete_reply L s item ≡ refuses 19) ↔ ((length item ≡ 24) × Gone (find (be_at item 24 0) st.records))
  delete_19 = delete_at 19 1 refl

  pub delete_20 : (delete_reply L s item ≡ refuses 20) ↔ ((length item ≡ 24) × (Present (find (be_at item 24 0) st.records) × Exhausted st))
  delete_20 = delete_at 20 2 refl

  pub delete_11 : (delete_reply L s item ≡ refuses 11) ↔
      ((length item ≡ 24) × (Present (find (be_at item 24 0) st.records)
      × (Unexhausted st × (L.replicas < length (deleted_store st item).knowledge.replicas))))
  delete_11 = delete_at 11 3 refl

  pub delete_12 : (delete_reply L s item ≡ refuses 12) ↔
      ((length item ≡ 24) × (Present (find (be_at item 24 0) st.records)
      × (Unexhausted st × ((length (deleted_store st item).knowledge.replicas ≤ L.replicas)
      × (L.ranges < length (deleted_store st item).knowledge.ranges)))))
  delete_12 = delete_at 12 4 refl

  pub delete_13 : (delete_reply L s item ≡ refuses 13) ↔
      ((length item ≡ 24) × (Present (find (be_at item 24 0) st.records)
      × (Unexhausted st × ((length (deleted_store st item).knowledge.replicas ≤ L.replicas)
      × ((length (deleted_store st item).knowledge.ranges ≤ L.ranges) × (L.records < length (deleted_store st item).records))))))
  delete_13 = delete_at 13 5 refl

  pub delete_gives : (bs : List ℕ) → (delete_reply L s item ≡ gives bs) ↔ DeleteGives L st item bs
  delete_gives bs =
      let law = given_none (delete_reply L s item) (delete_lines_lem L st item) (delete_rules L st item) (encode_store (deleted_store st item)) (delete_table L st item s os) delete_said bs in (
        (λ h.
            let w = law.0 h in
            record { item24 = w.0.0; present = w.0.1.0; unexhausted = w.0.1.1.0; replicas = w.0.1.1.1.0; ranges = w.0.1.1.1.1.0; records = w.0.1.1.1.1.1.0; bytes = w.1 }),
        λ m. law.1 ((m.item24, (m.present, (m.unexhausted, (m.replicas, (m.ranges, (m.records, tt)))))), m.bytes),
      )

module _ (L : Limits) (permitted : Permitted L) (s item : List ℕ) (octets : Bytes s) where
  -- no other number: the store's own, or one of the table
  pub delete_numbers_lem : (n : ℕ) → delete_reply L s item ≡ refuses n → (open_store L s ≡ refused n) ⊎ (((st : Store) × (open_store L s ≡ accepted st)) × Among n (17 ∷ 19 ∷ 20 ∷ 11 ∷ 12 ∷ 13 ∷ []))
  delete_numbers_lem n = go (open_store L s) refl
    where
      go : (o : Parsed Store) → open_store L s ≡ o → delete_reply L s item ≡ refuses n
          → (open_store L s ≡ refused n) ⊎ (((st : Store) × (open_store L s ≡ accepted st)) × Among n (17 ∷ 19 ∷ 20 ∷ 11 ∷ 12 ∷ 13 ∷ []))
      go (refused m) e h = inl (e ∙ ap refused (refuses_same (delete_reply L s item) m n (delete_store L s item m e) h))
      go (accepted st) e h =
          inr (
            (st, e),
            refused_among (delete_reply L s item) (delete_lines_lem L st item) (delete_rules L st item) (encode_store (deleted_store st item)) (delete_table L st item s e)
                (delete_said L permitted s item octets st e) n h,
          )

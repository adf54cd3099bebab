-- When apply refuses, and what it gives otherwise. Bytes that are no store are refused with 15, then bytes that are no
-- batch with 16. For a store and a batch the table is: 18, some item and replica of the span that the store knows less of
-- than the batch needs, or an item for which the batch has learned more of the store's own replica than the store knows;
-- then 11, 12 and 13, the counts of the merged knowledge and of the joined records. Each number is given exactly where
-- its condition is met and none before it; where none is, the bytes are those of the applied store.
use Prim.Native.Nat.{ℕ, ◌≤◌, ◌<◌}
use mathlib.Core.Path.{◌≡◌, refl, ap, ◌∙◌}
use mathlib.Core.Logic.{◌⊎◌, inl, inr, ◌↔◌}
use mathlib.Core.Bool.{true, ◌||◌}
use mathlib.Core.List.{List, [], ◌∷◌}
use lib.ListN.{length}
use Rattle.codec.specs.Reply.{Reply, gives, refuses, Line, first_fault}
use Rattle.layout.specs.Knowledge.{Limits}
use Rattle.ticks.specs.Operations.{merge}
use Rattle.ticks.proofs.Lists.{Among}
use Rattle.replication.specs.Formats.{Store, encode_store}
use Rattle.replication.specs.BatchFormat.{Batch}
use Rattle.replication.specs.OpenStore.{open_store}
use Rattle.replication.specs.OpenBatch.{open_batch}
use Rattle.replication.specs.Operate.{join, applied}
use Rattle.replication.specs.Calls.{store_or, batch_or, uncovered, own_ahead, store_lines, apply_lines, apply_reply}
use Rattle.replication.proofs.Refusals.Table.{Rule, rule, Told, told-cons, At, only, refused_at, refused_among, given_none, refuses_same}
use Rattle.replication.proofs.Refusals.Tests.{Lacks, Covered, Ahead, Behind, means_18, rule11, rule12, rule13, told_store}
use Rattle.codec.specs.Parsed.{Parsed, accepted, refused, own_fault, read_or, line}

-- ---- the reply, by what opens

apply_on : Limits → Parsed Store → Parsed Batch → Reply
apply_on L o p = first_fault refuses (apply_lines L o p (applied (store_or o) (batch_or p))) (gives (encode_store (applied (store_or o) (batch_or p))))

module _ (L : Limits) (s t : List ℕ) where
  apply_is : (o : Parsed Store) (p : Parsed Batch) → open_store L s ≡ o → open_batch L t ≡ p → apply_reply L s t ≡ apply_on L o p
  unfolding apply_reply apply_on
  apply_is o p e f = ap (λ (x : Parsed Store). apply_on L x (open_batch L t)) e ∙ ap (apply_on L o) f

  -- the store's own number, then the batch's, whichever they are
  pub apply_store : (n : ℕ) → open_store L s ≡ refused n → apply_reply L s t ≡ refuses n
  unfolding apply_on apply_lines own_fault first_fault
  apply_store n e = apply_is (refused n) (open_batch L t) e refl

  pub apply_batch : (st : Store) (n : ℕ) → open_store L s ≡ accepted st → open_batch L t ≡ refused n → apply_reply L s t ≡ refuses n
  unfolding apply_on apply_lines own_fault first_fault
  apply_batch st n e f = apply_is (accepted st) (refused n) e f

module _ (L : Limits) (st : Store) (b : Batch) where
  -- the lines for a store and a batch, and what they say
  abbrev lines : List Line
  lines = line 18 (uncovered st b || own_ahead st b) ∷ store_lines L (applied st b)

  abbrev pub apply_rules : List Rule
  apply_rules =
      rule 18 (Lacks st b ⊎ Ahead st b) (Covered st b × Behind st b) ∷
      rule11 L (merge st.knowledge b.learned) ∷
      rule12 L (merge st.knowledge b.learned) ∷
      rule13 L (join st.records b.records) ∷
      []

  apply_told : Told lines apply_rules
  unfolding applied
  apply_told =
      told-cons (line 18 (uncovered st b || own_ahead st b)) (store_lines L (applied st b)) (rule 18 (Lacks st b ⊎ Ahead st b) (Covered st b × Behind st b))
      (rule11 L (applied st b).knowledge ∷ rule12 L (applied st b).knowledge ∷ rule13 L (applied st b).records ∷ []) (means_18 st b) (told_store L (applied st b))

  apply_table : (s t : List ℕ) → open_store L s ≡ accepted st → open_batch L t ≡ accepted b → apply_reply L s t ≡ first_fault refuses lines (gives (encode_store (applied st b)))
  unfolding apply_on apply_lines own_fault read_or first_fault
  apply_table s t e f = apply_is L s t (accepted st) (accepted b) e f

-- ---- a store and a batch

-- what is met where apply gives bytes
pub record ApplyGives (L : Limits) (st : Store) (b : Batch) (bs : List ℕ) : Type 0 where
  pub covered : Covered st b
  pub behind : Behind st b
  pub replicas : length (merge st.knowledge b.learned).replicas ≤ L.replicas
  pub ranges : length (merge st.knowledge b.learned).ranges ≤ L.ranges
  pub records : length (join st.records b.records) ≤ L.records
  pub bytes : bs ≡ encode_store (applied st b)

module _ (L : Limits) (s t : List ℕ) (st : Store) (b : Batch) (os : open_store L s ≡ accepted st) (ob : open_batch L t ≡ accepted b) where
  at : (n k : ℕ) → only n k (apply_rules L st b) ≡ true → (apply_reply L s t ≡ refuses n) ↔ At k (apply_rules L st b)
  at n k o = refused_at (apply_reply L s t) (lines L st b) (apply_rules L st b) (encode_store (applied st b)) (apply_table L st b s t os ob) (apply_told L st b) n k o

  pub apply_18 : (apply_reply L s t ≡ refuses 18) ↔ (Lacks st b ⊎ Ahead st b)
  apply_18 = at 18 0 refl

  pub apply_11 : (apply_reply L s t ≡ refuses 11) ↔ ((Covered st b × Behind st b) × (L.replicas < length (merge st.knowledge b.learned).replicas))
  apply_11 = at 11 1 refl

  pub apply_12 : (apply_reply L s t ≡ refuses 12) ↔
      ((Covered st b × Behind st b) ×
      ((length (merge st.knowledge b.learned).replicas ≤ L.replicas) × (L.ranges < length (merge st.knowledge b.learned).ranges)))
  apply_12 = at 12 2 refl

  pub apply_13 : (apply_reply L s t ≡ refuses 13) ↔
      ((Covered st b × Behind st b) ×
      ((length (merge st.knowledge b.learned).replicas ≤ L.replicas)
      × ((length (merge st.knowledge b.learned).ranges ≤ L.ranges) × (L.records < length (join st.records b.records)))))
  apply_13 = at 13 3 refl

  pub apply_gives : (bs : List ℕ) → (apply_reply L s t ≡ gives bs) ↔ ApplyGives L st b bs
  apply_gives bs =
      let law = given_none (apply_reply L s t) (lines L st b) (apply_rules L st b) (encode_store (applied st b)) (apply_table L st b s t os ob) (apply_told L st b) bs in (
        (λ h.
            let w = law.0 h in
            record { covered = w.0.0.0; behind = w.0.0.1; replicas = w.0.1.0; ranges = w.0.1.1.0; records = w.0.1.1.1.0; bytes = w.1 }),
        λ m. law.1 (((m.covered, m.behind), (m.replicas, (m.ranges, (m.records, tt)))), m.bytes),
      )

-- ---- any bytes

module _ (L : Limits) (s t : List ℕ) where
  -- no other number: the store's own, the batch's own, or one of the table
  pub apply_numbers_lem : (n : ℕ) → apply_reply L s t ≡ refuses n → (open_store L s ≡ refused n) ⊎
      (((st : Store) × (open_store L s ≡ accepted st)) ×
      ((open_batch L t ≡ refused n) ⊎ (((b : Batch) × (open_batch L t ≡ accepted b)) × Among n (18 ∷ 11 ∷ 12 ∷ 13 ∷ []))))
  apply_numbers_lem n = go (open_store L s) refl (open_batch L t) refl
    where
      go : (o : Parsed Store) → open_store L s ≡ o → (p : Parsed Batch) → open_batch L t ≡ p → apply_reply L s t ≡ refuses n
          → (open_store L s ≡ refused n) ⊎
          (((st : Store) × (open_store L s ≡ accepted st)) ×
          ((open_batch L t ≡ refused n) ⊎ (((b : Batch) × (open_batch L t ≡ accepted b)) × Among n (18 ∷ 11 ∷ 12 ∷ 13 ∷ []))))
      go (refused m) e p f h = inl (e ∙ ap refused (refuses_same (apply_reply L s t) m n (apply_store L s t m e) h))
      go (accepted st) e (refused m) f h = inr ((st, e), inl (f ∙ ap refused (refuses_same (apply_reply L s t) m n (apply_batch L s t st m e f) h)))
      go (accepted st) e (accepted b) f h =
          inr ((st, e), inr ((b, f), refused_among (apply_reply L s t) (lines L st b) (apply_rules L st b) (encode_store (applied st b)) (apply_table L st b s t e f) (apply_told L st b) n h))

-- When apply refuses for too many records, in plain terms. The table of apply counts the records of the joined tables;
-- here their number is said without the join: a store and a batch join to one record for each item id that either has.
-- The items of the join rise and are just the items of the two tables, and a rising list is known by its members, so the
-- join is as long as any rising list of these item ids. Hence apply gives 13 exactly where there are more such item ids
-- than the limit, with none of 18, 11 and 12 before it; and where it gives bytes, there are no more.
use Prim.Native.Nat.{ℕ, suc, ◌≤◌, ◌<◌}
use mathlib.Core.Path.{◌≡◌, refl, sym, ap, ◌∙◌}
use mathlib.Core.Logic.{◌⊎◌, inl, inr, ⊎_elim, ◌↔◌}
use mathlib.Core.List.{List, [], ◌∷◌, ◌++◌}
use native.Mathlib.Omega.{arith}
use lib.ListN.{length}
use Rattle.codec.specs.Number.{Bytes}
use Rattle.codec.specs.Reply.{gives, refuses}
use Rattle.layout.specs.Knowledge.{Limits, Rising}
use Rattle.layout.specs.Permitted.{Permitted}
use Rattle.ticks.specs.Operations.{merge}
use Rattle.ticks.specs.Table.{sorted}
use Rattle.ticks.proofs.Lists.{Among, among_left, among_right, among_cases, sorted_in, sorted_only, sorted_rising, rising_unique}
use Rattle.replication.specs.Formats.{Store, items, encode_store}
use Rattle.replication.specs.BatchFormat.{Batch}
use Rattle.replication.specs.OpenStore.{versions_in, open_store}
use Rattle.replication.specs.OpenBatch.{carried, open_batch}
use Rattle.replication.specs.Operate.{join, applied}
use Rattle.replication.specs.Calls.{apply_reply}
use Rattle.replication.proofs.Tables.Rising.{valid_recs_lem}
use Rattle.replication.proofs.Tables.Join.{winner_item, Joins, right_only, left_only, left, right, alike, joins, join_rising}
use Rattle.replication.proofs.Bytes.Store.{valid_store_lem, store_opened_lem}
use Rattle.replication.proofs.Bytes.Batch.{valid_batch_lem, batch_opened_lem}
use Rattle.replication.proofs.Refusals.Tests.{Covered, Behind}
use Rattle.replication.proofs.Refusals.Apply.{apply_13, apply_gives}
use Rattle.codec.specs.Parsed.{accepted}
use Rattle.replication.specs.Record.{Rec}

-- ---- the items of a join

-- an item of the join is one of the store's or of the batch's
joins_only : (i : ℕ) {xs ys zs : List Rec} → Joins xs ys zs → Among i (items zs) → Among i (items xs) ⊎ Among i (items ys)
unfolding items
joins_only i (right_only ys) m = inr m
joins_only i (left_only x xs) m = inl m
joins_only i (left x xs y ys zs h j) (inl e) = inl (inl e)
joins_only i (left x xs y ys zs h j) (inr m) = ⊎_elim (λ a. inl (inr a)) (λ b. inr b) (joins_only i j m)
joins_only i (right x xs y ys zs h j) (inl e) = inr (inl e)
joins_only i (right x xs y ys zs h j) (inr m) = ⊎_elim (λ a. inl a) (λ b. inr (inr b)) (joins_only i j m)
joins_only i (alike x xs y ys zs h j) (inl e) = inl (inl (e ∙ winner_item x y h))
joins_only i (alike x xs y ys zs h j) (inr m) = ⊎_elim (λ a. inl (inr a)) (λ b. inr (inr b)) (joins_only i j m)

-- and each of these is one of the join's
joins_left : (i : ℕ) {xs ys zs : List Rec} → Joins xs ys zs → Among i (items xs) → Among i (items zs)
unfolding items
joins_left i (right_only ys) m = absurd m
joins_left i (left_only x xs) m = m
joins_left i (left x xs y ys zs h j) (inl e) = inl e
joins_left i (left x xs y ys zs h j) (inr m) = inr (joins_left i j m)
joins_left i (right x xs y ys zs h j) m = inr (joins_left i j m)
joins_left i (alike x xs y ys zs h j) (inl e) = inl (e ∙ sym (winner_item x y h))
joins_left i (alike x xs y ys zs h j) (inr m) = inr (joins_left i j m)

joins_right : (i : ℕ) {xs ys zs : List Rec} → Joins xs ys zs → Among i (items ys) → Among i (items zs)
unfolding items
joins_right i (right_only ys) m = m
joins_right i (left_only x xs) m = absurd m
joins_right i (left x xs y ys zs h j) m = inr (joins_right i j m)
joins_right i (right x xs y ys zs h j) (inl e) = inl e
joins_right i (right x xs y ys zs h j) (inr m) = inr (joins_right i j m)
joins_right i (alike x xs y ys zs h j) (inl e) = inl (e ∙ sym h ∙ sym (winner_item x y h))
joins_right i (alike x xs y ys zs h j) (inr m) = inr (joins_right i j m)

pub join_items : (xs ys : List Rec) (i : ℕ) → Among i (items (join xs ys)) ↔ (Among i (items xs) ⊎ Among i (items ys))
join_items xs ys i = (joins_only i (joins xs ys), λ m. ⊎_elim (joins_left i (joins xs ys)) (joins_right i (joins xs ys)) m)

-- ---- how many there are

items-length : (rs : List Rec) → length (items rs) ≡ length rs
unfolding items
items-length [] = refl
items-length (r ∷ rs) = ap suc (items-length rs)

-- the item ids of either table, rising: as many as the join has records
pub join_count : (xs ys : List Rec) (is : List ℕ) → Rising 0 (items xs) → Rising 0 (items ys) → Rising 0 is
    → ((i : ℕ) → Among i is ↔ (Among i (items xs) ⊎ Among i (items ys))) → length (join xs ys) ≡ length is
join_count xs ys is p q r f = sym (items-length (join xs ys)) ∙ ap length same_list
  where
    same_list : items (join xs ys) ≡ is
    same_list =
        rising_unique 0 (items (join xs ys)) is (join_rising 0 xs ys p q) r (λ i m. (f i).1 ((join_items xs ys i).0 m))
        (λ i m. (join_items xs ys i).1 ((f i).0 m))

-- there is always such a list: all the item ids, sorted
pub ids_rising : (xs ys : List Rec) → Rising 0 (sorted (items xs ++ items ys))
ids_rising xs ys = sorted_rising 0 (items xs ++ items ys) (λ i m. omega arith)

pub ids_either : (xs ys : List Rec) (i : ℕ) → Among i (sorted (items xs ++ items ys)) ↔ (Among i (items xs) ⊎ Among i (items ys))
ids_either xs ys i = (
  λ m. among_cases i (items xs) (items ys) (sorted_only i (items xs ++ items ys) m),
  λ m. sorted_in i (items xs ++ items ys) (⊎_elim (among_left i (items xs) (items ys)) (among_right i (items xs) (items ys)) m),
)

-- ---- apply

-- what is met where apply gives bytes, the item ids of the store's and the batch's records being those of the list
pub record ApplyGivesPlain (L : Limits) (st : Store) (b : Batch) (is bs : List ℕ) : Type 0 where
  pub covered : Covered st b
  pub behind : Behind st b
  pub replicas : length (merge st.knowledge b.learned).replicas ≤ L.replicas
  pub ranges : length (merge st.knowledge b.learned).ranges ≤ L.ranges
  pub records : length is ≤ L.records
  pub bytes : bs ≡ encode_store (applied st b)

module _ (L : Limits) (permitted : Permitted L) (s t : List ℕ) (octets : Bytes s) (given : Bytes t) (st : Store) (b : Batch) (os : open_store L s ≡ accepted st) (ob : open_batch L t ≡ accepted b) where
  store_rising : Rising 0 (items st.records)
  store_rising =
      let valid = (valid_store_lem L st).0 (store_opened_lem L s st permitted octets os).1.1 in
      ((valid_recs_lem (versions_in st.knowledge) 0 st.records).0 valid.records).0

  batch_rising : Rising 0 (items b.records)
  batch_rising =
      let valid = (valid_batch_lem L b).0 (batch_opened_lem L t b permitted given ob).1.1 in
      ((valid_recs_lem (carried b) 0 b.records).0 valid.records).0

  module _ (is : List ℕ) (rising : Rising 0 is) (either : (i : ℕ) → Among i is ↔ (Among i (items st.records) ⊎ Among i (items b.records))) where
    count : length (join st.records b.records) ≡ length is
    count = join_count st.records b.records is store_rising batch_rising rising either

    pub apply_13_plain : (apply_reply L s t ≡ refuses 13) ↔
        ((Covered st b × Behind st b) ×
        ((length (merge st.knowledge b.learned).replicas ≤ L.replicas)
        × ((length (merge st.knowledge b.learned).ranges ≤ L.ranges) × (L.records < length is))))
    apply_13_plain =
        let law = apply_13 L s t st b os ob in (
          (λ h. let a = law.0 h in (a.0, (a.1.0, (a.1.1.0, omega (arith, a.1.1.1, count))))),
          λ a. law.1 (a.0, (a.1.0, (a.1.1.0, omega (arith, a.1.1.1, count)))),
        )

    pub apply_gives_plain : (bs : List ℕ) → (apply_reply L s t ≡ gives bs) ↔ ApplyGivesPlain L st b is bs
    apply_gives_plain bs =
        let law = apply_gives L s t st b os ob bs in (
          (λ h.
              let m = law.0 h in
              record { covered = m.covered; behind = m.behind; replicas = m.replicas; ranges = m.ranges; records = omega (arith, m.records, count); bytes = m.bytes }),
          λ m.
              law.1 (record { covered = m.covered; behind = m.behind; replicas = m.replicas; ranges = m.ranges; records = omega (arith, m.records, count); bytes = m.bytes }),
        )

-- 15, condition by condition. "A valid store" is written again from document 01's text, in plain numbers and without specs/Valid.antt.
-- The bytes of a store whose values have room in their fields open where every condition holds; and where any one is broken,
-- whatever else holds, they are refused with 15. Bytes that open are read as the store that was written, and the conditions that
-- the definitions test give each of these.
use Prim.Native.Nat.{ℕ, ◌^◌, ◌≤◌, ◌<◌}
use mathlib.Core.Path.{◌≡◌, refl, ap, ◌∙◌, subst}
use mathlib.Core.Logic.{◌↔◌}
use mathlib.Core.Bool.{true}
use mathlib.Core.List.{List}
use mathlib.Core.Option.{some}
use native.Mathlib.Omega.{arith}
use lib.ListN.{length}
use Rattle.codec.specs.Number.{Bytes}
use Rattle.codec.specs.Parsed.{Parsed, accepted, refused}
use Rattle.layout.specs.Knowledge.{Limits}
use Rattle.layout.specs.Permitted.{Permitted}
use Rattle.layout.proofs.Parts.{all_map}
use Rattle.ticks.specs.Meaning.{known, Normal}
use Rattle.ticks.proofs.LawfulResults.{top_below, below_top}
use Rattle.replication.specs.Record.{Rec}
use Rattle.replication.specs.Formats.{Store, encode_store}
use Rattle.replication.specs.Valid.{LawfulRec, ContainedIn, LawfulStore}
use Rattle.replication.specs.OpenStore.{open_store, decode_store}
use Rattle.replication.proofs.Bytes.Record.{FitsRec}
use Rattle.replication.proofs.Bytes.Store.{FitsStore, store_bytes_lem, store_decode}
use Rattle.replication.proofs.Contents.Valid.{rec_fits, store_exact, store_number, lawful_opens}
use Rattle.replication.proofs.Broken.Records.{OneOf, Neighbours, RecordConditions, one_of_all, all_one_of, rising_neighbours, neighbours_rising, record_lawful, lawful_record}

-- "A valid store: records, kinds and tombstone tags as above, exact length, knowledge in normal form, each change and create version
-- contained in it, own tick alike in all ranges"
pub record StoreConditions (L : Limits) (st : Store) : Type 0 where
  -- "Records rise strictly by item id, at most 256"
  pub rise : (r q : Rec) → Neighbours r q st.records → r.item < q.item
  pub count : length st.records ≤ L.records
  pub each : (r : Rec) → OneOf r st.records → RecordConditions r
  pub normal : Normal st.knowledge
  pub change : (r : Rec) → OneOf r st.records → r.change_tick ≤ known st.knowledge r.item r.change_replica
  pub create : (r : Rec) → OneOf r st.records → r.create_tick ≤ known st.knowledge r.item r.create_replica
  pub alike : (i j : ℕ) → i < 256 ^ 24 → j < 256 ^ 24 → known st.knowledge i st.own ≡ known st.knowledge j st.own

lawful_fits : (L : Limits) → Permitted L → (st : Store) → LawfulStore L st → FitsStore L st
lawful_fits L permitted st l =
    record {
      own = l.own;
      knowledge = l.lawful;
      count = omega (arith, l.count, permitted.records);
      records = all_map LawfulRec FitsRec rec_fits st.records l.records;
    }

module _ (L : Limits) (permitted : Permitted L) (st : Store) (fits : FitsStore L st) where
  conditions_lawful : StoreConditions L st → LawfulStore L st
  conditions_lawful c =
      record {
        own = fits.own;
        lawful = fits.knowledge;
        normal = c.normal;
        alike = λ i j h l. omega (arith, c.alike i j (top_below i h) (top_below j l));
        count = omega (arith, c.count);
        rising = neighbours_rising st.records c.rise;
        records = all_one_of LawfulRec st.records (λ r h. record_lawful r (one_of_all FitsRec st.records r fits.records h) (c.each r h));
        versions = all_one_of (ContainedIn st.knowledge) st.records (λ r h. record { change = omega (arith, c.change r h); create = omega (arith, c.create r h) });
      }

  lawful_conditions : LawfulStore L st → StoreConditions L st
  lawful_conditions l =
      record {
        rise = λ r q n. rising_neighbours st.records r q l.rising n;
        count = omega (arith, l.count);
        each = λ r h. lawful_record r (one_of_all LawfulRec st.records r l.records h);
        normal = l.normal;
        change = λ r h. omega (arith, (one_of_all (ContainedIn st.knowledge) st.records r l.versions h).change);
        create = λ r h. omega (arith, (one_of_all (ContainedIn st.knowledge) st.records r l.versions h).create);
        alike = λ i j h k. omega (arith, l.alike i j (below_top i h) (below_top j k));
      }

  -- ---- every condition holds

  pub conditions_open : StoreConditions L st → open_store L (encode_store st) ≡ accepted st
  conditions_open c = lawful_opens L permitted st (conditions_lawful c)

  -- bytes that open are the store's own
  open_same : (x : Store) → open_store L (encode_store st) ≡ accepted x → LawfulStore L st
  open_same x e =
      let h = (store_exact L (encode_store st) x permitted (store_bytes_lem st)).0 e in
      let a : decode_store L (encode_store st) ≡ some st = store_decode L st permitted fits in
      let b : decode_store L (encode_store st) ≡ some x = ap (decode_store L) h.0 ∙ store_decode L x permitted (lawful_fits L permitted x h.1) in
      let same : x ≡ st = cc in
      subst (LawfulStore L) same h.1

  -- ---- a condition is broken

  pub broken_refused : (StoreConditions L st → ⊥) → open_store L (encode_store st) ≡ refused 15
  broken_refused n = go (open_store L (encode_store st)) refl
    where
      go : (o : Parsed Store) → open_store L (encode_store st) ≡ o → open_store L (encode_store st) ≡ refused 15
      go (refused k) e = e ∙ ap refused (store_number L (encode_store st) k e)
      go (accepted x) e = absurd (n (lawful_conditions (open_same x e)))

  -- one record too many
  pub store_too_many : L.records < length st.records → open_store L (encode_store st) ≡ refused 15
  store_too_many h = broken_refused (λ c. omega (arith, c.count, h))

  -- two neighbours with the same item, or with falling items
  pub store_not_rising : (r q : Rec) → Neighbours r q st.records → q.item ≤ r.item → open_store L (encode_store st) ≡ refused 15
  store_not_rising r q n h = broken_refused (λ c. omega (arith, c.rise r q n, h))

  -- the own tick differs at two items
  pub store_own_unlike : (i j : ℕ) → i < 256 ^ 24 → j < 256 ^ 24 →
      known st.knowledge i st.own < known st.knowledge j st.own →
      open_store L (encode_store st) ≡ refused 15
  store_own_unlike i j h k l = broken_refused (λ c. omega (arith, c.alike i j h k, l))

  -- the knowledge is not in normal form
  pub store_not_normal : (Normal st.knowledge → ⊥) → open_store L (encode_store st) ≡ refused 15
  store_not_normal n = broken_refused (λ c. n c.normal)

  module _ (r : Rec) (among : OneOf r st.records) where
    -- a tombstone whose tag is not zeros
    pub store_tombstone_tag : r.content.deleted ≡ true → 1 ≤ r.content.tag → open_store L (encode_store st) ≡ refused 15
    store_tombstone_tag d h = broken_refused (λ c. omega (arith, (c.each r among).tombstone d, h))

    -- a tick 0, a tick above 2^63 − 1, a create tick above the change tick
    pub store_change-zero : r.change_tick ≡ 0 → open_store L (encode_store st) ≡ refused 15
    store_change-zero h = broken_refused (λ c. omega (arith, (c.each r among).change_least, h))

    pub store_create-zero : r.create_tick ≡ 0 → open_store L (encode_store st) ≡ refused 15
    store_create-zero h = broken_refused (λ c. omega (arith, (c.each r among).create_least, h))

    pub store_change_large : 2 ^ 63 ≤ r.change_tick → open_store L (encode_store st) ≡ refused 15
    store_change_large h = broken_refused (λ c. omega (arith, (c.each r among).change_most, h))

    pub store_create_large : 2 ^ 63 ≤ r.create_tick → open_store L (encode_store st) ≡ refused 15
    store_create_large h = broken_refused (λ c. omega (arith, (c.each r among).create_most, h))

    pub store_create_after : r.change_tick < r.create_tick → open_store L (encode_store st) ≡ refused 15
    store_create_after h = broken_refused (λ c. omega (arith, (c.each r among).order, h))

    -- a change or create version above the tick known
    pub store_change_unknown : known st.knowledge r.item r.change_replica < r.change_tick →
        open_store L (encode_store st) ≡ refused 15
    store_change_unknown h = broken_refused (λ c. omega (arith, c.change r among, h))

    pub store_create_unknown : known st.knowledge r.item r.create_replica < r.create_tick →
        open_store L (encode_store st) ≡ refused 15
    store_create_unknown h = broken_refused (λ c. omega (arith, c.create r among, h))

-- both ways, for any bytes: they open as a store exactly where they are its bytes, its values have room and every condition holds
pub store_conditions : (L : Limits) (s : List ℕ) (st : Store) → Permitted L → Bytes s →
    (open_store L s ≡ accepted st) ↔ ((s ≡ encode_store st) × (FitsStore L st × StoreConditions L st))
store_conditions L s st permitted bytes = (
  λ e.
      let h = (store_exact L s st permitted bytes).0 e in
      let f = lawful_fits L permitted st h.1 in
      (h.0, (f, lawful_conditions L permitted st f h.1)),
  λ h. ap (open_store L) h.0 ∙ conditions_open L permitted st h.1.0 h.1.1,
)

-- 16, condition by condition, as 15 in Store.antt: "a valid batch" is written again from document 01's text. The bytes of
-- a batch whose values have room in their fields open where every condition holds; and where any one is broken, whatever
-- else holds, they are refused with 16.
use Prim.Native.Nat.{ℕ, ◌^◌, ◌≤◌, ◌<◌}
use mathlib.Core.Path.{◌≡◌, refl, ap, ◌∙◌, subst}
use mathlib.Core.Logic.{◌⊎◌, inl, inr, ◌↔◌}
use mathlib.Core.Bool.{Bool, true, false}
use mathlib.Core.List.{List}
use mathlib.Core.Option.{some}
use native.Mathlib.Omega.{arith}
use lib.Dec.{leb}
use lib.ListN.{length}
use borrow.Author.Tests.{leb-true, leb-false}
use Rattle.codec.specs.Number.{Bytes}
use Rattle.codec.specs.Parsed.{Parsed, accepted, refused}
use Rattle.layout.specs.Knowledge.{Limits, Knowledge}
use Rattle.layout.specs.Permitted.{Permitted}
use Rattle.layout.proofs.Parts.{all_map}
use Rattle.ticks.specs.Meaning.{highest, known, Normal}
use Rattle.ticks.specs.Operations.{project}
use Rattle.ticks.proofs.Algebra.{project_outside, project_same}
use Rattle.ticks.proofs.LawfulResults.{top_below, below_top}
use Rattle.replication.specs.Record.{Rec}
use Rattle.replication.specs.BatchFormat.{Batch, encode_batch}
use Rattle.replication.specs.Valid.{LawfulRec, ContainedIn}
use Rattle.replication.specs.ValidBatch.{LawfulBatch}
use Rattle.replication.specs.OpenBatch.{open_batch, decode_batch}
use Rattle.replication.proofs.Bytes.Record.{FitsRec}
use Rattle.replication.proofs.Bytes.Batch.{FitsBatch, batch_bytes_lem, batch_decode}
use Rattle.replication.proofs.Contents.Valid.{rec_fits, batch_exact, batch_number_lem, lawful_opens_batch}
use Rattle.replication.proofs.Broken.Records.{OneOf, Neighbours, RecordConditions, one_of_all, all_one_of, rising_neighbours, neighbours_rising, record_lawful, lawful_record}

-- "A valid batch: records, kinds and tombstone tags as above, exact length, first not above last, both knowledges in normal form,
-- learned unchanged by projecting onto the span, records inside the span, change and create versions contained in learned, change
-- versions not in needed"
pub record BatchConditions (L : Limits) (b : Batch) : Type 0 where
  -- "Records rise strictly by item id, at most 256"
  pub rise : (r q : Rec) → Neighbours r q b.records → r.item < q.item
  pub count : length b.records ≤ L.records
  pub each : (r : Rec) → OneOf r b.records → RecordConditions r
  pub span : b.first ≤ b.last
  pub needed : Normal b.needed
  pub learned : Normal b.learned
  pub unchanged : project b.first b.last b.learned ≡ b.learned
  pub above : (r : Rec) → OneOf r b.records → b.first ≤ r.item
  pub below : (r : Rec) → OneOf r b.records → r.item ≤ b.last
  pub change : (r : Rec) → OneOf r b.records → r.change_tick ≤ known b.learned r.item r.change_replica
  pub create : (r : Rec) → OneOf r b.records → r.create_tick ≤ known b.learned r.item r.create_replica
  pub lacked : (r : Rec) → OneOf r b.records → known b.needed r.item r.change_replica < r.change_tick

-- a version that learned contains is inside the span where projecting leaves learned unchanged: "records inside the span" cannot be
-- broken alone
pub contained_inside : (first last : ℕ) (k : Knowledge) (i p t : ℕ) → i < 256 ^ 24 → project first last k ≡ k → 1 ≤ t →
    t ≤ known k i p → (first ≤ i) × (i ≤ last)
contained_inside first last k i p t small same one h = (low (leb first i) refl, high (leb i last) refl)
  where
    low : (x : Bool) → leb first i ≡ x → first ≤ i
    low true e = leb-true first i e
    low false e = absurd (omega (arith, project_outside first last k i p same (below_top i small) (inl (leb-false first i e)), one, h))

    high : (x : Bool) → leb i last ≡ x → i ≤ last
    high true e = leb-true i last e
    high false e = absurd (omega (arith, project_outside first last k i p same (below_top i small) (inr (leb-false i last e)), one, h))

lawful_fits : (L : Limits) → Permitted L → (b : Batch) → LawfulBatch L b → FitsBatch L b
lawful_fits L permitted b l =
    let top : b.last ≤ highest = below_top b.last l.last in
    record {
      first = top_below b.first (omega (arith, l.span, top));
      last = l.last;
      needed = l.needed_lawful;
      learned = l.learned_lawful;
      count = omega (arith, l.count, permitted.records);
      records = all_map LawfulRec FitsRec rec_fits b.records l.records;
    }

module _ (L : Limits) (permitted : Permitted L) (b : Batch) (fits : FitsBatch L b) where
  conditions_lawful : BatchConditions L b → LawfulBatch L b
  conditions_lawful c =
      record {
        span = omega (arith, c.span);
        last = fits.last;
        needed_lawful = fits.needed;
        needed_normal = c.needed;
        learned_lawful = fits.learned;
        learned_normal = c.learned;
        outside = λ i p h o. project_outside b.first b.last b.learned i p c.unchanged h o;
        count = omega (arith, c.count);
        rising = neighbours_rising b.records c.rise;
        records = all_one_of LawfulRec b.records (λ r h. record_lawful r (one_of_all FitsRec b.records r fits.records h) (c.each r h));
        inside = all_one_of _ b.records (λ r h. omega (arith, c.above r h, c.below r h));
        versions = all_one_of (ContainedIn b.learned) b.records (λ r h. record { change = omega (arith, c.change r h); create = omega (arith, c.create r h) });
        lacked = all_one_of _ b.records (λ r h. omega (arith, c.lacked r h));
      }

  module _ (l : LawfulBatch L b) (r : Rec) (h : OneOf r b.records) where
    inside_of_lem : (b.first ≤ r.item) × (r.item ≤ b.last)
    inside_of_lem = omega (arith, one_of_all _ b.records r l.inside h)

    lacked_of : known b.needed r.item r.change_replica < r.change_tick
    lacked_of = omega (arith, one_of_all _ b.records r l.lacked h)

  lawful_conditions : LawfulBatch L b → BatchConditions L b
  lawful_conditions l =
      record {
        rise = λ r q n. rising_neighbours b.records r q l.rising n;
        count = omega (arith, l.count);
        each = λ r h. lawful_record r (one_of_all LawfulRec b.records r l.records h);
        span = omega (arith, l.span);
        needed = l.needed_normal;
        learned = l.learned_normal;
        unchanged = project_same b.first b.last b.learned l.learned_normal l.outside;
        above = λ r h. (inside_of_lem l r h).0;
        below = λ r h. (inside_of_lem l r h).1;
        change = λ r h. omega (arith, (one_of_all (ContainedIn b.learned) b.records r l.versions h).change);
        create = λ r h. omega (arith, (one_of_all (ContainedIn b.learned) b.records r l.versions h).create);
        lacked = lacked_of l;
      }

  -- ---- every condition holds

  pub conditions_open : BatchConditions L b → open_batch L (encode_batch b) ≡ accepted b
  conditions_open c = lawful_opens_batch L permitted b (conditions_lawful c)

  -- bytes that open are the batch's own
  open_same : (x : Batch) → open_batch L (encode_batch b) ≡ accepted x → LawfulBatch L b
  open_same x e =
      let h = (batch_exact L (encode_batch b) x permitted (batch_bytes_lem b)).0 e in
      let u : decode_batch L (encode_batch b) ≡ some b = batch_decode L b permitted fits in
      let v : decode_batch L (encode_batch b) ≡ some x = ap (decode_batch L) h.0 ∙ batch_decode L x permitted (lawful_fits L permitted x h.1) in
      let same : x ≡ b = cc in
      subst (LawfulBatch L) same h.1

  -- ---- a condition is broken

  pub broken_refused : (BatchConditions L b → ⊥) → open_batch L (encode_batch b) ≡ refused 16
  broken_refused n = go (open_batch L (encode_batch b)) refl
    where
      go : (o : Parsed Batch) → open_batch L (encode_batch b) ≡ o → open_batch L (encode_batch b) ≡ refused 16
      go (refused k) e = e ∙ ap refused (batch_number_lem L (encode_batch b) k e)
      go (accepted x) e = absurd (n (lawful_conditions (open_same x e)))

  -- one record too many
  pub batch_too_many : L.records < length b.records → open_batch L (encode_batch b) ≡ refused 16
  batch_too_many h = broken_refused (λ c. omega (arith, c.count, h))

  -- two neighbours with the same item, or with falling items
  pub batch_not_rising : (r q : Rec) → Neighbours r q b.records → q.item ≤ r.item → open_batch L (encode_batch b) ≡ refused 16
  batch_not_rising r q n h = broken_refused (λ c. omega (arith, c.rise r q n, h))

  -- first above last
  pub batch_span_falls : b.last < b.first → open_batch L (encode_batch b) ≡ refused 16
  batch_span_falls h = broken_refused (λ c. omega (arith, c.span, h))

  -- a knowledge is not in normal form
  pub batch_needed_not_normal : (Normal b.needed → ⊥) → open_batch L (encode_batch b) ≡ refused 16
  batch_needed_not_normal n = broken_refused (λ c. n c.needed)

  pub batch_learned_not_normal : (Normal b.learned → ⊥) → open_batch L (encode_batch b) ≡ refused 16
  batch_learned_not_normal n = broken_refused (λ c. n c.learned)

  -- learned is changed by projecting it onto the span; it has a tick for an item outside the span
  pub batch_learned_changed : (project b.first b.last b.learned ≡ b.learned → ⊥) →
      open_batch L (encode_batch b) ≡ refused 16
  batch_learned_changed n = broken_refused (λ c. n c.unchanged)

  pub batch_learned_outside : (i p : ℕ) → i < 256 ^ 24 → (i < b.first) ⊎ (b.last < i) → 1 ≤ known b.learned i p →
      open_batch L (encode_batch b) ≡ refused 16
  batch_learned_outside i p h o k =
      broken_refused (λ c. omega (arith, project_outside b.first b.last b.learned i p c.unchanged (below_top i h) o, k))

  module _ (r : Rec) (among : OneOf r b.records) where
    -- a tombstone whose tag is not zeros
    pub batch_tombstone_tag : r.content.deleted ≡ true → 1 ≤ r.content.tag → open_batch L (encode_batch b) ≡ refused 16
    batch_tombstone_tag d h = broken_refused (λ c. omega (arith, (c.each r among).tombstone d, h))

    -- a tick 0, a tick above 2^63 − 1, a create tick above the change tick
    pub batch_change-zero : r.change_tick ≡ 0 → open_batch L (encode_batch b) ≡ refused 16
    batch_change-zero h = broken_refused (λ c. omega (arith, (c.each r among).change_least, h))

    pub batch_create-zero : r.create_tick ≡ 0 → open_batch L (encode_batch b) ≡ refused 16
    batch_create-zero h = broken_refused (λ c. omega (arith, (c.each r among).create_least, h))

    pub batch_change_large : 2 ^ 63 ≤ r.change_tick → open_batch L (encode_batch b) ≡ refused 16
    batch_change_large h = broken_refused (λ c. omega (arith, (c.each r among).change_most, h))

    pub batch_create_large : 2 ^ 63 ≤ r.create_tick → open_batch L (encode_batch b) ≡ refused 16
    batch_create_large h = broken_refused (λ c. omega (arith, (c.each r among).create_most, h))

    pub batch_create_after : r.change_tick < r.create_tick → open_batch L (encode_batch b) ≡ refused 16
    batch_create_after h = broken_refused (λ c. omega (arith, (c.each r among).order, h))

    -- a record below or above the span
    pub batch_record_below : r.item < b.first → open_batch L (encode_batch b) ≡ refused 16
    batch_record_below h = broken_refused (λ c. omega (arith, c.above r among, h))

    pub batch_record_above : b.last < r.item → open_batch L (encode_batch b) ≡ refused 16
    batch_record_above h = broken_refused (λ c. omega (arith, c.below r among, h))

    -- a change or create version above the tick that learned knows
    pub batch_change_unknown : known b.learned r.item r.change_replica < r.change_tick →
        open_batch L (encode_batch b) ≡ refused 16
    batch_change_unknown h = broken_refused (λ c. omega (arith, c.change r among, h))

    pub batch_create_unknown : known b.learned r.item r.create_replica < r.create_tick →
        open_batch L (encode_batch b) ≡ refused 16
    batch_create_unknown h = broken_refused (λ c. omega (arith, c.create r among, h))

    -- a change version that needed contains
    pub batch_change_needed : r.change_tick ≤ known b.needed r.item r.change_replica →
        open_batch L (encode_batch b) ≡ refused 16
    batch_change_needed h = broken_refused (λ c. omega (arith, c.lacked r among, h))

-- both ways, for any bytes: they open as a batch exactly where they are its bytes, its values have room and every condition holds
pub batch_conditions : (L : Limits) (s : List ℕ) (b : Batch) → Permitted L → Bytes s →
    (open_batch L s ≡ accepted b) ↔ ((s ≡ encode_batch b) × (FitsBatch L b × BatchConditions L b))
batch_conditions L s b permitted bytes = (
  λ e.
      let h = (batch_exact L s b permitted bytes).0 e in
      let f = lawful_fits L permitted b h.1 in
      (h.0, (f, lawful_conditions L permitted b f h.1)),
  λ h. ap (open_batch L) h.0 ∙ conditions_open L permitted b h.1.0 h.1.1,
)

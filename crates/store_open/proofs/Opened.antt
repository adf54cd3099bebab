-- What the results of the check mean, for callers. From `Ok` a caller goes on (`store_open`, `batch_open`): the tests of opening, the value
-- at its places, and each knowledge opened for lookup. `Err` is the definition's refusal (`store_closed`, `batch_closed`), of one kind
-- (`store_why`, `batch_why`). The check of a knowledge that was accepted gave sizes, so the results cannot be mixed up. Then the places and
-- slices that code computes from the sizes.
use Prim.Native.Nat.{ℕ, ◌+◌, ◌-◌, ◌≤◌}
use mathlib.Core.Path.{◌≡◌, refl, sym, ap, ap₂, ◌∙◌, subst}
use mathlib.Core.Bool.{Bool, true, false}
use mathlib.Core.List.{List}
use native.Mathlib.Omega.{arith}
use lib.ListN.{length, take, drop}
use Rattle.std.specs.Prelude.{Result, Ok, Err}
use Rattle.codec.specs.Number.{Bytes}
use Rattle.codec.specs.declared.Refusal.{Refusal}
use Rattle.codec.specs.declared.Refusal.TheVariants.{StoreNotValid, BatchNotValid}
use Rattle.codec.specs.Refusal.{number}
use Rattle.codec.specs.Parsed.{accepted, refused}
use Rattle.codec.proofs.Total.{clamp_within}
use Rattle.layout.specs.Knowledge.{Limits, any_id}
use Rattle.layout.specs.Permitted.{largest_replicas, within}
use Rattle.layout.specs.Decode.{decode}
use Rattle.layout.specs.Parse.{checked_by, parse}
use Rattle.layout.specs.Checked.{Checked}
use Rattle.layout.specs.Checked as A
use Rattle.layout.proofs.Exact.{refused_exact}
use Rattle.layout.proofs.Places.{places}
use Rattle.layout.proofs.Within.{within_permitted}
use Rattle.replication.specs.OpenStore.{knowledge_length, store_count, store_knowledge, store_table, open_store}
use Rattle.replication.specs.OpenBatch.{first_id, last_id, needed_length, learned_length, batch_count, batch_needed, batch_learned, batch_table}
use Rattle.replication.specs.OpenBatch.{open_batch}
use Rattle.replication.specs.MethodOpening.{is_accepted, store_at, is_store, batch_at, is_batch}
use Rattle.replication.proofs.Bytes.Part.{part_bytes_lem}
use Rattle.replication.proofs.Opening.Records.{not_accepted}
use Rattle.replication.proofs.Opening.Store.{StoreTests, store_tests_hold, store_opens, store_refuses, store_decodes}
use Rattle.replication.proofs.Opening.Batch.{BatchTests, batch_tests_hold, batch_opens, batch_refuses, needed_decodes, learned_decodes}
use Rattle.lookup.specs.declared.Cursor.{Cursor}
use Rattle.lookup.specs.declared.View.{View}
use Rattle.lookup.specs.Opened.{Opened, opened_of}
use Rattle.lookup.specs.Opened as O
use Rattle.lookup.specs.Method.{open_of, Opens, Open}
use Rattle.lookup.proofs.Leaf.{opens_reading}
use Rattle.lookup.proofs.Calls.{opens, opened_view, check_refused}
use Rattle.store_open.specs.declared.KnowledgePart.{KnowledgePart}
use Rattle.store_open.specs.declared.OpenStore.{OpenStore}
use Rattle.store_open.specs.declared.OpenBatch.{OpenBatch}
use Rattle.store_open.specs.Method.{sized_part, own_bytes, store_from, store_if, store_opened}
use Rattle.store_open.specs.Method.{needed_bytes, learned_bytes, batch_from, batch_if, batch_opened}

-- ---- a knowledge of a store or batch

-- what an answer says of a knowledge: its bytes were opened for lookup, with no more replicas than scratch of the largest size has room for
pub record PartOpen (L : Limits) (bytes : List ℕ) (k : KnowledgePart) : Type 0 where
  pub opens : Opens (any_id L) bytes k.view.r k.view.start
  pub small : k.view.r ≤ largest_replicas

module _ (a b n : ℕ) where
  abbrev L : Limits
  L = within a b n

  few : L.replicas ≤ largest_replicas
  few = (clamp_within a largest_replicas (omega arith)).1

  module _ (bytes : List ℕ) where
    open_at : Bytes bytes → (v : View) → open_of (checked_by (any_id L) bytes) ≡ O.At v → Opens (any_id L) bytes v.r v.start
    open_at h v e = opens (any_id L) (within_permitted a b n) bytes (Ok v) (opened_view v ∙ sym e) h v refl

    open_small : (r : ℕ) (c : Cursor) → Opens (any_id L) bytes r c → r ≤ largest_replicas
    open_small r c o =
        omega (arith, (places (any_id L) bytes r o.v o.e o.g (opens_reading (any_id L) bytes r c o)).replicas, few)

    opened_part : Bytes bytes → (size : ℕ) (v : View) → open_of (checked_by (any_id L) bytes) ≡ O.At v
        → PartOpen L bytes (sized_part size v)
    opened_part h size v e = let o = open_at h v e in record { opens = o; small = open_small v.r v.start o }

    not_refused : is_accepted (parse (any_id L) bytes) ≡ true → (m : ℕ) → open_of (checked_by (any_id L) bytes) ≡ O.Refused m → ⊥
    not_refused t m e =
        let f = (refused_exact (any_id L) (within_permitted a b n) bytes m).0 (check_refused (checked_by (any_id L) bytes) m e) in
        let g : is_accepted (parse (any_id L) bytes) ≡ false = not_accepted _ m f in
        absurd (let z : ◌≡◌ {A = ℕ} 0 1 = cc in omega arith)

-- ---- stores

-- a store that was opened, for limits, with its knowledge and its count of records
pub record StoreOpen (L : Limits) (s : List ℕ) (k : KnowledgePart) (n : ℕ) : Type 0 where
  pub tests : StoreTests L s
  pub value : open_store L s ≡ accepted (store_at L s)
  pub length : k.length ≡ knowledge_length s
  pub count : n ≡ store_count s
  pub opens : Opens (any_id L) (take (knowledge_length s) (drop store_knowledge s)) k.view.r k.view.start
  pub knowledge : (store_at L s).knowledge ≡ decode (take (knowledge_length s) (drop store_knowledge s))
  pub small : k.view.r ≤ largest_replicas

pub if_true : (b : Bool) (x : Result OpenStore Refusal) → b ≡ true → store_if b x ≡ x
unfolding store_if
if_true b x e = ap (λ (t : Bool). store_if t x) e

pub if_false : (b : Bool) (x : Result OpenStore Refusal) → b ≡ false → store_if b x ≡ Err StoreNotValid
unfolding store_if
if_false b x e = ap (λ (t : Bool). store_if t x) e

pub from_at : (s : List ℕ) (v : View) → store_from s (O.At v) ≡ Ok (record { own = sized_part (knowledge_length s) v; count = store_count s })
unfolding store_from
from_at s v = refl

from_refused : (s : List ℕ) (n : ℕ) → store_from s (O.Refused n) ≡ Err StoreNotValid
unfolding store_from
from_refused s n = refl

module _ (a b m : ℕ) (s : List ℕ) where
  module _ (bytes : Bytes s) (x : OpenStore) where
    open_store_lem : (o : Opened) → open_of (checked_by (any_id (within a b m)) (own_bytes s)) ≡ o → is_store (within a b m) s ≡ true
        → store_from s o ≡ Ok x → StoreOpen (within a b m) s x.own x.count
    open_store_lem (O.At v) e t f =
        let L = within a b m in
        let part = own_bytes s in
        let g = sym (from_at s v) ∙ f in
        let all : record { own = sized_part (knowledge_length s) v; count = store_count s } ≡ x = cc in
        let is : sized_part (knowledge_length s) v ≡ x.own = ap (λ (y : OpenStore). y.own) all in
        let part_is = part_bytes_lem s (knowledge_length s) store_knowledge bytes in
        let p = subst (PartOpen L part) is (opened_part a b m part part_is (knowledge_length s) v e) in
        let o = p.opens in
        record {
          tests = store_tests_hold L s t;
          value = store_opens L s t;
          length = sym (ap (λ (y : KnowledgePart). y.length) is);
          count = sym (ap (λ (y : OpenStore). y.count) all);
          opens = o;
          knowledge = store_decodes L s x.own.view.r o.v o.e o.g (opens_reading (any_id L) part x.own.view.r x.own.view.start o);
          small = p.small;
        }
    open_store_lem (O.Refused q) e t f = absurd (let g = sym (from_refused s q) ∙ f in let z : ◌≡◌ {A = ℕ} 0 1 = cc in omega arith)

    by_test : (t : Bool) → is_store (within a b m) s ≡ t → store_opened (within a b m) s ≡ Ok x → StoreOpen (within a b m) s x.own x.count
    unfolding store_opened
    by_test true e f = open_store_lem _ refl e (sym (if_true _ _ e) ∙ f)
    by_test false e f = absurd (let g = sym (if_false _ _ e) ∙ f in let z : ◌≡◌ {A = ℕ} 0 1 = cc in omega arith)

    pub store_open : store_opened (within a b m) s ≡ Ok x → StoreOpen (within a b m) s x.own x.count
    store_open = by_test (is_store (within a b m) s) refl

  module _ (q : Refusal) where
    closed_store : (o : Opened) → open_of (checked_by (any_id (within a b m)) (own_bytes s)) ≡ o → is_store (within a b m) s ≡ true
        → store_from s o ≡ Err q → ⊥
    closed_store (O.At v) e t f = absurd (let g = sym (from_at s v) ∙ f in let z : ◌≡◌ {A = ℕ} 0 1 = cc in omega arith)
    closed_store (O.Refused n) e t f = not_refused a b m (own_bytes s) (store_tests_hold (within a b m) s t).accepts n e

    -- why a store is refused, and that it is
    closed_by : (t : Bool) → is_store (within a b m) s ≡ t → store_opened (within a b m) s ≡ Err q
        → (q ≡ StoreNotValid) × (open_store (within a b m) s ≡ refused 15)
    unfolding store_opened
    closed_by true e f = absurd (closed_store _ refl e (sym (if_true _ _ e) ∙ f))
    closed_by false e f = let g = sym (if_false _ _ e) ∙ f in (cc, store_refuses (within a b m) s e)

    pub store_why : store_opened (within a b m) s ≡ Err q → q ≡ StoreNotValid
    store_why f = (closed_by _ refl f).0

    pub store_closed : store_opened (within a b m) s ≡ Err q → open_store (within a b m) s ≡ refused (number q)
    unfolding number
    store_closed f = let c = closed_by _ refl f in c.1 ∙ ap (λ (e : Refusal). refused (number e)) (sym c.0)

-- where its parts stand, as code asks for them
module _ (L : Limits) (s : List ℕ) (k : KnowledgePart) (n : ℕ) (o : StoreOpen L s k n) where
  pub store_place : store_knowledge + k.length ≡ store_table s
  store_place = omega (arith, o.length)

  pub store_room_lem : store_knowledge + k.length ≤ length s
  store_room_lem = omega (arith, o.length, o.tests.inside)

  pub store_slice : take (store_knowledge + k.length - store_knowledge) (drop store_knowledge s) ≡ own_bytes s
  store_slice =
      let e : store_knowledge + k.length - store_knowledge ≡ knowledge_length s = omega (arith, o.length) in
      ap (λ m. take m (drop store_knowledge s)) e

  pub store_lookup : Open (own_bytes s) k.view.r k.view.start
  store_lookup = record { rules = any_id L; opens = o.opens; small = o.small }

-- ---- batches

-- a batch that was opened, with its two knowledges
pub record BatchOpen (L : Limits) (s : List ℕ) (k l : KnowledgePart) (n : ℕ) : Type 0 where
  pub tests : BatchTests L s
  pub value : open_batch L s ≡ accepted (batch_at L s)
  pub needed_size : k.length ≡ needed_length s
  pub learned_size : l.length ≡ learned_length s
  pub count : n ≡ batch_count s
  pub span : first_id s ≤ last_id s
  pub needed_opens : Opens (any_id L) (take (needed_length s) (drop batch_needed s)) k.view.r k.view.start
  pub learned_opens : Opens (any_id L) (take (learned_length s) (drop (batch_learned s) s)) l.view.r l.view.start
  pub needed : (batch_at L s).needed ≡ decode (take (needed_length s) (drop batch_needed s))
  pub learned : (batch_at L s).learned ≡ decode (take (learned_length s) (drop (batch_learned s) s))
  pub needed_small : k.view.r ≤ largest_replicas
  pub learned_small : l.view.r ≤ largest_replicas

pub if_batch : (b : Bool) (x : Result OpenBatch Refusal) → b ≡ true → batch_if b x ≡ x
unfolding batch_if
if_batch b x e = ap (λ (t : Bool). batch_if t x) e

pub if_not : (b : Bool) (x : Result OpenBatch Refusal) → b ≡ false → batch_if b x ≡ Err BatchNotValid
unfolding batch_if
if_not b x e = ap (λ (t : Bool). batch_if t x) e

pub from_both : (s : List ℕ) (v w : View) → batch_from s (O.At v) (O.At w)
    ≡ Ok (record { needed = sized_part (needed_length s) v; learned = sized_part (learned_length s) w; count = batch_count s })
unfolding batch_from
from_both s v w = refl

from_first_lem : (s : List ℕ) (n : ℕ) (o : Opened) → batch_from s (O.Refused n) o ≡ Err BatchNotValid
unfolding batch_from
from_first_lem s n o = refl

from_second : (s : List ℕ) (v : View) (n : ℕ) → batch_from s (O.At v) (O.Refused n) ≡ Err BatchNotValid
unfolding batch_from
from_second s v n = refl

module _ (a b m : ℕ) (s : List ℕ) where
  abbrev M : Limits
  M = within a b m

  module _ (bytes : Bytes s) (x : OpenBatch) where
    open_batch_lem : (o q : Opened) → open_of (checked_by (any_id M) (needed_bytes s)) ≡ o → open_of (checked_by (any_id M) (learned_bytes s)) ≡ q
        → is_batch M s ≡ true → batch_from s o q ≡ Ok x → BatchOpen M s x.needed x.learned x.count
    open_batch_lem (O.At v) (O.At w) e h t f =
        let one = needed_bytes s in
        let two = learned_bytes s in
        let g = sym (from_both s v w) ∙ f in
        let all : record { needed = sized_part (needed_length s) v; learned = sized_part (learned_length s) w; count = batch_count s } ≡ x = cc in
        let is : sized_part (needed_length s) v ≡ x.needed = ap (λ (y : OpenBatch). y.needed) all in
        let as-well : sized_part (learned_length s) w ≡ x.learned = ap (λ (y : OpenBatch). y.learned) all in
        let first-bytes = part_bytes_lem s (needed_length s) batch_needed bytes in
        let second-bytes = part_bytes_lem s (learned_length s) (batch_learned s) bytes in
        let p = subst (PartOpen M one) is (opened_part a b m one first-bytes (needed_length s) v e) in
        let q = subst (PartOpen M two) as-well (opened_part a b m two second-bytes (learned_length s) w h) in
        let o = p.opens in
        let u = q.opens in
        let tests = batch_tests_hold M s t in
        record {
          tests = tests;
          value = batch_opens M s t;
          needed_size = sym (ap (λ (y : KnowledgePart). y.length) is);
          learned_size = sym (ap (λ (y : KnowledgePart). y.length) as-well);
          count = sym (ap (λ (y : OpenBatch). y.count) all);
          span = tests.span;
          needed_opens = o;
          learned_opens = u;
          needed = needed_decodes M s x.needed.view.r o.v o.e o.g (opens_reading (any_id M) one x.needed.view.r x.needed.view.start o);
          learned = learned_decodes M s x.learned.view.r u.v u.e u.g (opens_reading (any_id M) two x.learned.view.r x.learned.view.start u);
          needed_small = p.small;
          learned_small = q.small;
        }
    open_batch_lem (O.At v) (O.Refused j) e h t f =
        absurd (let g = sym (from_second s v j) ∙ f in let z : ◌≡◌ {A = ℕ} 0 1 = cc in omega arith)
    open_batch_lem (O.Refused j) q e h t f = absurd (let g = sym (from_first_lem s j q) ∙ f in let z : ◌≡◌ {A = ℕ} 0 1 = cc in omega arith)

    batch_by_test : (t : Bool) → is_batch M s ≡ t → batch_opened M s ≡ Ok x → BatchOpen M s x.needed x.learned x.count
    unfolding batch_opened
    batch_by_test true e f = open_batch_lem _ _ refl refl e (sym (if_batch _ _ e) ∙ f)
    batch_by_test false e f = absurd (let g = sym (if_not _ _ e) ∙ f in let z : ◌≡◌ {A = ℕ} 0 1 = cc in omega arith)

    pub batch_open : batch_opened (within a b m) s ≡ Ok x → BatchOpen (within a b m) s x.needed x.learned x.count
    batch_open = batch_by_test (is_batch M s) refl

  module _ (j : Refusal) where
    closed_batch : (o q : Opened) → open_of (checked_by (any_id M) (needed_bytes s)) ≡ o → open_of (checked_by (any_id M) (learned_bytes s)) ≡ q
        → is_batch M s ≡ true → batch_from s o q ≡ Err j → ⊥
    closed_batch (O.At v) (O.At w) e h t f =
        absurd (let g = sym (from_both s v w) ∙ f in let z : ◌≡◌ {A = ℕ} 0 1 = cc in omega arith)
    closed_batch (O.At v) (O.Refused i) e h t f = not_refused a b m (learned_bytes s) (batch_tests_hold M s t).learned_accepted i h
    closed_batch (O.Refused i) q e h t f = not_refused a b m (needed_bytes s) (batch_tests_hold M s t).needed_accepted i e

    batch_closed_by : (t : Bool) → is_batch M s ≡ t → batch_opened M s ≡ Err j → (j ≡ BatchNotValid) × (open_batch M s ≡ refused 16)
    unfolding batch_opened
    batch_closed_by true e f = absurd (closed_batch _ _ refl refl e (sym (if_batch _ _ e) ∙ f))
    batch_closed_by false e f = let g = sym (if_not _ _ e) ∙ f in (cc, batch_refuses M s e)

    pub batch_why : batch_opened (within a b m) s ≡ Err j → j ≡ BatchNotValid
    batch_why f = (batch_closed_by _ refl f).0

    pub batch_closed : batch_opened (within a b m) s ≡ Err j → open_batch (within a b m) s ≡ refused (number j)
    unfolding number
    batch_closed f = let c = batch_closed_by _ refl f in c.1 ∙ ap (λ (e : Refusal). refused (number e)) (sym c.0)

-- where its parts stand, as code asks for them
module _ (L : Limits) (s : List ℕ) (k l : KnowledgePart) (n : ℕ) (o : BatchOpen L s k l n) where
  pub batch_place : batch_needed + k.length + l.length ≡ batch_table s
  batch_place = omega (arith, o.needed_size, o.learned_size)

  pub batch_fits : batch_needed + k.length + l.length ≤ length s
  batch_fits = omega (arith, batch_place, o.tests.inside)

  pub needed_slice : take (batch_needed + k.length - batch_needed) (drop batch_needed s) ≡ needed_bytes s
  needed_slice =
      let e : batch_needed + k.length - batch_needed ≡ needed_length s = omega (arith, o.needed_size) in
      ap (λ m. take m (drop batch_needed s)) e

  pub learned_slice : take (batch_needed + k.length + l.length - (batch_needed + k.length)) (drop (batch_needed + k.length) s)
      ≡ learned_bytes s
  learned_slice =
      let e : batch_needed + k.length + l.length - (batch_needed + k.length) ≡ learned_length s = omega (arith, o.learned_size) in
      let f : batch_needed + k.length ≡ batch_learned s = omega (arith, o.needed_size) in
      ap₂ (λ m at. take m (drop at s)) e f

  pub needed_lookup : Open (needed_bytes s) k.view.r k.view.start
  needed_lookup = record { rules = any_id L; opens = o.needed_opens; small = o.needed_small }

  pub learned_lookup : Open (learned_bytes s) l.view.r l.view.start
  learned_lookup = record { rules = any_id L; opens = o.learned_opens; small = o.learned_small }

-- Coverage. The records that are contained are those counted so far and those among the records that are left; each record counts 1
-- where the knowledge contains its change version. The rounding is one division. For a store that opens and a knowledge that is
-- accepted, these are the numbers of the answer; else it is the store's number, and then the knowledge's.
use Prim.Native.Nat.{ℕ, suc, ◌+◌, ◌-◌, ◌*◌, ◌/◌, ◌≤◌, ◌<◌}
use mathlib.Core.Path.{◌≡◌, refl, sym, ap, ap₂, ◌∙◌, subst}
use mathlib.Core.Bool.{Bool, true, false}
use mathlib.Core.List.{List, ◌∷◌}
use native.Mathlib.Omega.{arith}
use lib.ListN.{length}
use Rattle.std.specs.Prelude.{Result, Ok, Err}
use Rattle.codec.specs.declared.Refusal.{Refusal}
use Rattle.codec.specs.Refusal.{number}
use Rattle.codec.specs.Number.{Bytes}
use Rattle.layout.specs.Knowledge.{Limits, any_id, basic, base}
use Rattle.layout.specs.Permitted.{within, rules_within}
use Rattle.layout.specs.Decode.{decode}
use Rattle.layout.specs.Parse.{checked_by}
use Rattle.layout.proofs.Within.{within_permitted, base_within}
use Rattle.ticks.proofs.ForCode.{reading, refusing}
use Rattle.replication.specs.Coverage.{Coverage}
use Rattle.replication.specs.Coverage as G
use Rattle.replication.specs.Record.{Rec}
use Rattle.replication.specs.Reading.{behind, rec_at}
use Rattle.replication.specs.OpenStore.{store_knowledge, store_table}
use Rattle.replication.specs.Queries.{count_in, thousandths, coverage_answer}
use Rattle.replication.specs.MethodRecords.{records_at, shaped_at}
use Rattle.replication.specs.MethodOpening.{store_at}
use Rattle.replication.proofs.Tables.InBytes.{records-nil, records-cons}
use Rattle.replication.proofs.Tables.Walked.{count_records}
use Rattle.replication.proofs.Opening.Store.{store_records}
use Rattle.replication.proofs.Queries.Coverage.{count-nil, count_in_lem, count_out, thousandths_none, thousandths_some}
use Rattle.replication.proofs.Queries.Coverage.{coverage_found, coverage_store, coverage_own}
use Rattle.lookup.specs.declared.Cursor.{Cursor}
use Rattle.lookup.specs.declared.View.{View}
use Rattle.lookup.specs.Opened.{opened_of}
use Rattle.lookup.specs.Method.{open_of, Opens, Open}
use Rattle.lookup.proofs.Leaf.{opens_reading}
use Rattle.lookup.proofs.Calls.{opens, opens_refused, opens_open}
use Rattle.records_versions.specs.Method.{moved_to, change_in}
use Rattle.records_versions.proofs.Passing.{Follows, follows_start, follows_next, follows_change}
use Rattle.store_open.specs.declared.OpenStore.{OpenStore}
use Rattle.store_open.specs.Method.{store_opened}
use Rattle.store_open.proofs.Opened.{StoreOpen, store_open, store_closed}
use Rattle.store_queries.specs.Method.{tally}

-- ---- one record

module _ (b c : Bool) (e : b ≡ c) where
  tally_yes : b ≡ true → (1 ≡ tally c) × (1 ≤ 1)
  unfolding tally
  tally_yes f = (sym (ap tally (sym e ∙ f)), omega arith)

  tally_no : b ≡ false → (0 ≡ tally c) × (0 ≤ 1)
  unfolding tally
  tally_no f = (sym (ap tally (sym e ∙ f)), omega arith)

-- ---- all records

module _ (s k : List ℕ) (n at m left p : ℕ)
    (inv : count_in (decode k) (records_at s n at) ≡ m + count_in (decode k) (records_at s left p)) where
  count_ends : left ≤ 0 → m ≡ count_in (decode k) (records_at s n at)
  count_ends l =
      let z : left ≡ 0 = omega arith in
      let e : count_in (decode k) (records_at s left p) ≡ 0 =
      ap (λ (j : ℕ). count_in (decode k) (records_at s j p)) z ∙ ap (count_in (decode k)) (records-nil s p) ∙ count-nil (decode k) in
      omega (arith, inv, e)

  module _ (some : 0 < left) (r : ℕ) (c : Cursor) (f : Follows s k r left p c) (d : Cursor) (moved : d ≡ moved_to s p k r c) where
    first : count_in (decode k) (records_at s left p) ≡ count_in (decode k) (rec_at s p ∷ records_at s (left - 1) (behind s p))
    first =
        let z : left ≡ suc (left - 1) = omega arith in
        ap (λ (j : ℕ). count_in (decode k) (records_at s j p)) z ∙ ap (count_in (decode k)) (records-cons s (left - 1) p)

    one : (b : Bool) → b ≡ change_in s p k r d.vector
        → count_in (decode k) (records_at s left p) ≡ tally b + count_in (decode k) (records_at s (left - 1) (behind s p))
    unfolding tally
    one true e =
        let h = sym (follows_change s k r left p c f some d moved true e) in
        omega (arith, first, count_in_lem (decode k) (rec_at s p) (records_at s (left - 1) (behind s p)) h)
    one false e =
        let h = sym (follows_change s k r left p c f some d moved false e) in
        omega (arith, first, count_out (decode k) (rec_at s p) (records_at s (left - 1) (behind s p)) h)

    pub count_next : (x : ℕ) → x ≡ tally (change_in s p k r d.vector) → (next : ℕ) → next ≡ behind s p
        → count_in (decode k) (records_at s n at) ≡ m + x + count_in (decode k) (records_at s (left - 1) next)
    count_next x e next g =
        let h = one (change_in s p k r d.vector) refl in
        let j : count_in (decode k) (records_at s (left - 1) (behind s p)) ≡ count_in (decode k) (records_at s (left - 1) next) =
        ap (λ (q : ℕ). count_in (decode k) (records_at s (left - 1) q)) (sym g) in
        omega (arith, inv, e, h, j)

-- of the n records from a place on i are passed, of which m are contained, and the cursor follows those that are left
pub record Counted (s k : List ℕ) (r n at i p : ℕ) (c : Cursor) (m : ℕ) : Type 0 where
  pub follows : Follows s k r (n - i) p c
  pub counts : count_in (decode k) (records_at s n at) ≡ m + count_in (decode k) (records_at s (n - i) p)
  pub few : m ≤ i

module _ (s k : List ℕ) (r n at : ℕ) where
  pub counted_start : (c : Cursor) → Open k r c → shaped_at s 0 n at ≡ true → Counted s k r n at 0 at c 0
  counted_start c o h =
      let z : n ≡ n - 0 = omega arith in
      record {
        follows = subst (λ (j : ℕ). Follows s k r j at c) z (follows_start s k r n at c o h);
        counts = omega (arith, ap (λ (j : ℕ). count_in (decode k) (records_at s j at)) z);
        few = omega arith;
      }

  module _ (i p : ℕ) (c : Cursor) (m : ℕ) (v : Counted s k r n at i p c m) where
    pub counted_end : n ≤ i → m ≡ count_in (decode k) (records_at s n at)
    counted_end l = count_ends s k n at m (n - i) p v.counts (omega arith)

    module _ (l : i < n) (d : Cursor) (moved : d ≡ moved_to s p k r c) (next : ℕ) (g : next ≡ behind s p) (b : Bool)
        (e : b ≡ change_in s p k r d.vector) where
      some : 0 < n - i
      some = omega arith

      counted_by : (x q : ℕ) → x ≡ tally (change_in s p k r d.vector) → x ≤ 1 → q ≡ m + x → Counted s k r n at (i + 1) next d q
      counted_by x q h w y =
          let z : n - i - 1 ≡ n - (i + 1) = omega arith in
          record {
            follows = subst (λ (j : ℕ). Follows s k r j next d) z (follows_next s k r (n - i) p c v.follows some d moved next g);
            counts = omega (
              arith,
              y,
              count_next s k n at m (n - i) p v.counts some r c v.follows d moved x h next g,
              ap (λ (j : ℕ). count_in (decode k) (records_at s j next)) z,
            );
            few = omega (arith, y, w, v.few);
          }

      pub counted_yes : b ≡ true → (q : ℕ) → q ≡ m + 1 → Counted s k r n at (i + 1) next d q
      counted_yes f q y = let t = tally_yes b _ e f in counted_by 1 q t.0 t.1 y

      pub counted_no : b ≡ false → (q : ℕ) → q ≡ m → Counted s k r n at (i + 1) next d q
      counted_no f q y = let t = tally_no b _ e f in counted_by 0 q t.0 t.1 (omega (arith, y))

-- ---- thousandths

pub rate_none : (inside all : ℕ) → all ≡ 0 → 1000 ≡ thousandths inside all
rate_none inside all e = sym (thousandths_none inside all e)

pub rate_some : (inside all : ℕ) → (all ≡ 0 → ⊥) → (2000 * inside + all) / (2 * all) ≡ thousandths inside all
rate_some inside all e = sym (thousandths_some inside all (omega arith))

-- ---- the call, by what the checks answered

module _ (a b n : ℕ) (s t : List ℕ) (r : Result OpenStore Refusal) (e : r ≡ store_opened (within a b n) s) where
  pub coverage_not_store : (d : Refusal) → r ≡ Err d → G.Refused (number d) ≡ coverage_answer (any_id (within a b n)) s t
  coverage_not_store d f = sym (coverage_store (any_id (within a b n)) s t (number d) (store_closed a b n s d (sym e ∙ f))).is

  module _ (y : Bytes s) (x : OpenStore) (f : r ≡ Ok x) where
    opened : StoreOpen (within a b n) s x.own x.count
    opened = store_open a b n s y x (sym e ∙ f)

    abbrev m : ℕ
    m = x.count

    -- the table is inside, and its records are whole, valid and rising
    pub coverage_table : store_knowledge + x.own.length ≤ length s
    coverage_table = omega (arith, opened.length, opened.tests.inside)

    place : store_knowledge + x.own.length ≡ store_table s
    place = omega (arith, opened.length)

    pub coverage_shaped : shaped_at s 0 m (store_knowledge + x.own.length) ≡ true
    coverage_shaped = ap₂ {C = Bool} (shaped_at s 0) opened.count place ∙ opened.tests.ordered

    module _ (o : Result View Refusal) (g : opened_of o ≡ open_of (checked_by (rules_within a b) t)) where
      pub coverage_not_read : (j : Refusal) → o ≡ Err j → G.Refused (number j) ≡ coverage_answer (any_id (within a b n)) s t
      coverage_not_read j h =
          let R = any_id (within a b n) in
          sym (coverage_own R s t _ (number j) opened.value (refusing R t (number j) (opens_refused R (within_permitted a b n) t o g j h))).is

      module _ (z : Bytes t) (v : View) (h : o ≡ Ok v) where
        abbrev q : ℕ
        q = v.r

        abbrev c : Cursor
        c = v.start

        reads : Opens (any_id (within a b n)) t q c
        reads = opens (any_id (within a b n)) (within_permitted a b n) t o g z v h

        pub coverage_opens : Open t q c
        coverage_opens = opens_open a b t q c (opens (rules_within a b) (within_permitted a b base.records) t o g z v h)

        pub coverage_is : (inside : ℕ) → inside ≡ count_in (decode t) (records_at s m (store_knowledge + x.own.length)) → (rate : ℕ)
            → rate ≡ thousandths inside m → G.Covered inside m rate ≡ coverage_answer (any_id (within a b n)) s t
        coverage_is inside i rate j =
            let R = any_id (within a b n) in
            let w = reads in
            let rs : (store_at (within a b n) s).records ≡ records_at s m (store_knowledge + x.own.length) =
            store_records (within a b n) s ∙ sym (ap₂ {C = List Rec} (records_at s) opened.count place) in
            let all : m ≡ length (store_at (within a b n) s).records =
            sym (ap length rs ∙ count_records s m (store_knowledge + x.own.length)) in
            ap (G.Covered inside m) j
            ∙ sym (coverage_found R s t _ (decode t) opened.value (reading R t q w.v w.e w.g (opens_reading R t q c w))
            inside m (i ∙ ap (count_in (decode t)) (sym rs)) all)

-- document 01's rules
pub coverage_basic : (s t : List ℕ) (x : Coverage)
    → x ≡ coverage_answer (any_id (within base.replicas base.ranges base.records)) s t → x ≡ coverage_answer basic s t
coverage_basic s t x e = e ∙ ap (λ (L : Limits). coverage_answer (any_id L) s t) base_within

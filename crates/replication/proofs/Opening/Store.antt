-- A store opens exactly where the code's tests hold, and then as the value at its places (`opened_store`, for any bytes and limits). The
-- tests are those of opening in another order and each once: the records are looked at by places before the knowledge is read, and
-- their versions last. For code, the tests by their names (`store_tests`): where one of them fails the bytes are refused.
use Prim.Native.Nat.{ℕ, ◌≤◌}
use mathlib.Core.Path.{◌≡◌, refl, sym, ap, ap₂, ◌∙◌}
use mathlib.Core.Logic.{◌↔◌}
use mathlib.Core.Bool.{true, false}
use mathlib.Core.List.{List}
use mathlib.Core.Option.{some}
use native.Mathlib.Omega.{arith}
use lib.Dec.{leb, eqb}
use lib.ListN.{length, take, drop}
use borrow.Author.Tests.{le-leb, eq-eqb, leb-true, eqb-true}
use Rattle.codec.specs.Number.{be_at}
use Rattle.codec.specs.Parsed.{accepted, refused}
use Rattle.layout.specs.Knowledge.{Limits, any_id, Knowledge}
use Rattle.layout.specs.Decode.{decode}
use Rattle.layout.proofs.Places.{Reading}
use Rattle.ticks.specs.Written.{is_normal}
use Rattle.ticks.specs.Operations.{own_alike}
use Rattle.ticks.specs.Calls.{read_as}
use Rattle.ticks.proofs.ForCode.{reading}
use Rattle.replication.specs.Formats.{Store}
use Rattle.replication.specs.OpenStore.{own_id, knowledge_length, store_count, store_knowledge, store_table}
use Rattle.replication.specs.OpenStore.{versions_in, decode_store, if_valid, open_store}
use Rattle.replication.specs.MethodTable.{table_at}
use Rattle.replication.specs.MethodRecords.{records_at, shaped_at, each}
use Rattle.replication.specs.MethodOpening.{accepted_if, is_accepted, store_read, store_at, is_store}
use Rattle.replication.proofs.Tables.Rising.{both_parts, both_holds}
use Rattle.replication.proofs.Bytes.Store.{decode_of, if_valid_lem, store_read_lem, ReadStore, ValidStore, store_valid_of, store_valid_parts}
use Rattle.replication.proofs.Tables.Walked.{count_records}
use Rattle.replication.proofs.Contents.Valid.{store_number}
use Rattle.replication.proofs.Opening.Records.{if_holds, if_fails, fails, opens_if, accepted_is, is_accepted_lem, read_is}
use Rattle.replication.proofs.Opening.Records.{ordered_read, ordered_valid, read_counted, valid_ordered, ordered_table}

-- the tests by their names
pub record StoreTests (L : Limits) (s : List ℕ) : Type 0 where
  pub header : store_knowledge ≤ length s
  pub kind : be_at s 1 0 ≡ 3
  pub inside : store_table s ≤ length s
  pub count : store_count s ≤ L.records
  pub ordered : shaped_at s 0 (store_count s) (store_table s) ≡ true
  pub accepts : is_accepted (store_read L s) ≡ true
  pub normal : is_normal (read_as (store_read L s)) ≡ true
  pub alike : own_alike (own_id s) (read_as (store_read L s)) ≡ true
  pub versions : each (versions_in (read_as (store_read L s))) (records_at s (store_count s) (store_table s)) ≡ true

module _ (L : Limits) (s : List ℕ) where
  pub tests_store : StoreTests L s → is_store L s ≡ true
  unfolding is_store
  tests_store t =
      both_holds _ _ (le-leb store_knowledge (length s) t.header)
      (both_holds _ _ (eq-eqb (be_at s 1 0) 3 t.kind)
      (both_holds _ _ (le-leb (store_table s) (length s) t.inside)
      (both_holds _ _ (le-leb (store_count s) L.records t.count)
      (both_holds _ _ t.ordered
      (both_holds _ _ t.accepts (both_holds _ _ t.normal (both_holds _ _ t.alike t.versions)))))))

  pub store_tests_hold : is_store L s ≡ true → StoreTests L s
  unfolding is_store
  store_tests_hold e =
      let a = both_parts (leb store_knowledge (length s)) _ e in
      let b = both_parts (eqb (be_at s 1 0) 3) _ a.1 in
      let c = both_parts (leb (store_table s) (length s)) _ b.1 in
      let d = both_parts (leb (store_count s) L.records) _ c.1 in
      let f = both_parts (shaped_at s 0 (store_count s) (store_table s)) _ d.1 in
      let g = both_parts (is_accepted (store_read L s)) _ f.1 in
      let h = both_parts (is_normal (read_as (store_read L s))) _ g.1 in
      let i = both_parts (own_alike (own_id s) (read_as (store_read L s))) _ h.1 in
      record {
        header = leb-true store_knowledge (length s) a.0;
        kind = eqb-true (be_at s 1 0) 3 b.0;
        inside = leb-true (store_table s) (length s) c.0;
        count = leb-true (store_count s) L.records d.0;
        ordered = f.0;
        accepts = g.0;
        normal = h.0;
        alike = i.0;
        versions = i.1;
      }

  pub store_tests : (is_store L s ≡ true) ↔ StoreTests L s
  store_tests = (store_tests_hold, tests_store)

  -- where a test fails
  pub no_store : (StoreTests L s → ⊥) → is_store L s ≡ false
  no_store n = fails (is_store L s) (λ e. n (store_tests_hold e))

  -- ---- the value at its places

  pub store_own : (store_at L s).own ≡ own_id s
  unfolding store_at
  store_own = refl

  pub store_knowledge_lem : (store_at L s).knowledge ≡ read_as (store_read L s)
  unfolding store_at
  store_knowledge_lem = refl

  pub store_records : (store_at L s).records ≡ records_at s (store_count s) (store_table s)
  unfolding store_at
  store_records = refl

  -- the knowledge is what its part of the bytes decodes to, where the check accepts the part
  pub store_decodes : (r v e g : ℕ) → Reading (any_id L) (take (knowledge_length s) (drop store_knowledge s)) r v e g
      → (store_at L s).knowledge ≡ decode (take (knowledge_length s) (drop store_knowledge s))
  store_decodes r v e g h =
      let part = take (knowledge_length s) (drop store_knowledge s) in
      store_knowledge_lem ∙ read_is (store_read L s) (decode part) (reading (any_id L) part r v e g h)

  -- the records are those that a walker goes through
  pub store_walked : StoreTests L s → table_at s (store_table s) ≡ (store_at L s).records
  store_walked t = ordered_table s 0 (store_count s) (store_table s) t.ordered ∙ sym store_records

  -- ---- from the tests to the store

  tests_valid : StoreTests L s → ValidStore L (store_at L s)
  unfolding store_at
  tests_valid t =
      record {
        count = omega (arith, t.count, count_records s (store_count s) (store_table s));
        normal = t.normal;
        alike = t.alike;
        records = ordered_valid (versions_in (read_as (store_read L s))) s 0 (store_count s) (store_table s) t.ordered t.versions;
      }

  tests_decode : StoreTests L s → decode_store L s ≡ some (store_at L s)
  unfolding store_at
  tests_decode t =
      decode_of L s (knowledge_length s) (store_count s) (read_as (store_read L s)) (records_at s (store_count s) (store_table s))
      t.kind refl refl t.inside (accepted_is (store_read L s) t.accepts)
      (ordered_read s 0 (store_count s) (store_table s) t.ordered)

  tests_open : StoreTests L s → open_store L s ≡ accepted (store_at L s)
  unfolding open_store
  tests_open t = ap (if_valid L) (tests_decode t) ∙ if_valid_lem L (store_at L s) (store_valid_of L (store_at L s) (tests_valid t))

  -- ---- and back

  module _ (st : Store) (h : ReadStore L s st) (v : ValidStore L st) where
    knowledge_is : read_as (store_read L s) ≡ st.knowledge
    knowledge_is = read_is (store_read L s) st.knowledge h.knowledge

    in_order_lem : (shaped_at s 0 (store_count s) (store_table s) ≡ true)
        × (each (versions_in st.knowledge) (records_at s (store_count s) (store_table s)) ≡ true)
    in_order_lem = valid_ordered (versions_in st.knowledge) s 0 (store_count s) (store_table s) st.records h.records v.records

    counted : store_count s ≡ length st.records
    counted =
        sym (count_records s (store_count s) (store_table s))
        ∙ ap length (read_counted s (store_count s) (store_table s) st.records h.records)

    read_tests : StoreTests L s
    read_tests =
        record {
          header = omega (arith, h.inside);
          kind = h.kind;
          inside = h.inside;
          count = omega (arith, counted, v.count);
          ordered = in_order_lem.0;
          accepts = is_accepted_lem (store_read L s) st.knowledge h.knowledge;
          normal = ap is_normal knowledge_is ∙ v.normal;
          alike = ap₂ own_alike h.own knowledge_is ∙ v.alike;
          versions =
              ap (λ (k : Knowledge). each (versions_in k) (records_at s (store_count s) (store_table s))) knowledge_is ∙ in_order_lem.1;
        }

  open_tests : (st : Store) → open_store L s ≡ accepted st → StoreTests L s
  open_tests st e = let o = store_read_lem L s st e in read_tests st o.0 (store_valid_parts L st o.1)

  -- ---- opening is the tests and the value

  pub opened_store : open_store L s ≡ accepted_if 15 (is_store L s) (store_at L s)
  opened_store =
      opens_if 15 (is_store L s) (store_at L s) (open_store L s) (λ e. tests_open (store_tests_hold e))
      (λ st e. tests_store (open_tests st e)) (store_number L s)

  pub store_opens : is_store L s ≡ true → open_store L s ≡ accepted (store_at L s)
  store_opens e = opened_store ∙ if_holds 15 (is_store L s) (store_at L s) e

  pub store_refuses : is_store L s ≡ false → open_store L s ≡ refused 15
  store_refuses e = opened_store ∙ if_fails 15 (is_store L s) (store_at L s) e

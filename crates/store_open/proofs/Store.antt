-- What `open_store` and the function below it return, one law for each way that they go. The tests are made one after the other; where one
-- fails there is no valid store (`no_store`), and where all hold the answer has the sizes that the check of the knowledge gave.
use Prim.Native.Nat.{ℕ, ◌+◌, ◌-◌, ◌≤◌, ◌<◌}
use mathlib.Core.Path.{◌≡◌, sym, ap, ap₂, ◌∙◌}
use mathlib.Core.Bool.{Bool, true, false}
use mathlib.Core.List.{List}
use native.Mathlib.Omega.{arith}
use lib.ListN.{length, take, drop}
use Rattle.codec.specs.Total.{read_at, clamp}
use Rattle.codec.specs.declared.Refusal.{Refusal}
use Rattle.codec.specs.declared.Refusal.TheVariants.{StoreNotValid}
use Rattle.codec.specs.Parsed.{Parsed}
use Rattle.codec.proofs.Total.{read_there}
use Rattle.layout.specs.Knowledge.{Limits, any_id, Knowledge}
use Rattle.layout.specs.Permitted.{largest_records, within}
use Rattle.layout.specs.Decode.{decode}
use Rattle.layout.specs.Parse.{checked_by, parse}
use Rattle.ticks.specs.Written.{is_normal}
use Rattle.ticks.specs.Operations.{own_alike}
use Rattle.ticks.specs.Calls.{read_as}
use Rattle.replication.specs.Record.{Rec}
use Rattle.replication.specs.OpenStore.{own_id, knowledge_length, store_count, store_knowledge, store_table, versions_in}
use Rattle.replication.specs.MethodRecords.{records_at, shaped_at, each}
use Rattle.replication.specs.MethodOpening.{is_accepted, store_read}
use Rattle.replication.proofs.Bytes.Part.{part_length_lem}
use Rattle.replication.proofs.Opening.Store.{StoreTests, tests_store, no_store}
use Rattle.lookup.specs.Method.{open_of}
use Rattle.lookup_ranges.specs.Method.{alike_in}
use Rattle.lookup_ranges.proofs.Ranges.{alike_in_lem}
use Rattle.store_open.specs.declared.KnowledgePart.{KnowledgePart}
use Rattle.std.specs.Prelude as N
use Rattle.store_open.specs.declared.OpenStore.{OpenStore}
use Rattle.store_open.specs.Method.{sized_part, NormalOf, NormalityOf, own_bytes, store_from, store_opened, StoreHeader}
use Rattle.store_open.proofs.Opened.{if_true, if_false, from_at}
use Rattle.store_open.proofs.Judged.{normal_accepted, normal_read, normal_opened_lem}

-- ---- the two results

abbrev not_store : N.Result OpenStore Refusal
not_store = N.Err StoreNotValid

abbrev valid_store : KnowledgePart → ℕ → N.Result OpenStore Refusal
valid_store p n = N.Ok (record { own = p; count = n })

pub store_not : (L : Limits) (s : List ℕ) → (StoreTests L s → ⊥) → not_store ≡ store_opened L s
unfolding store_opened
store_not L s n = sym (if_false _ _ (no_store L s n))

store_is : (L : Limits) (s : List ℕ) → StoreTests L s → store_opened L s ≡ store_from s (open_of (checked_by (any_id L) (own_bytes s)))
unfolding store_opened
store_is L s t = if_true _ _ (tests_store L s t)

-- ---- up to the knowledge

module _ (s : List ℕ) where
  pub store_short : (L : Limits) → length s < store_knowledge → not_store ≡ store_opened L s
  store_short L l = store_not L s (λ t. omega (arith, t.header))

  module _ (h : store_knowledge ≤ length s) where
    pub store_kind : (L : Limits) (x : ℕ) → x ≡ read_at s 1 0 → (x ≡ 3 → ⊥) → not_store ≡ store_opened L s
    store_kind L x e n = store_not L s (λ t. n (e ∙ read_there s 1 0 (omega arith) ∙ t.kind))

    module _ (n : ℕ) (e : n ≡ read_at s 4 17) where
      size_is : n ≡ knowledge_length s
      size_is = e ∙ read_there s 4 17 (omega arith)

      pub store_over : (L : Limits) → length s - store_knowledge < n → not_store ≡ store_opened L s
      store_over L l = store_not L s (λ t. omega (arith, t.inside, size_is))

      module _ (count : ℕ) (f : count ≡ read_at s 4 21) where
        count_is : count ≡ store_count s
        count_is = f ∙ read_there s 4 21 (omega arith)

        pub store_many : (L : Limits) (most : ℕ) → most ≡ L.records → most < count → not_store ≡ store_opened L s
        store_many L most g l = store_not L s (λ t. omega (arith, t.count, count_is, g))

        module _ (t : Bool) (g : t ≡ shaped_at s 0 count (store_knowledge + n)) where
          shaped_is : shaped_at s 0 (store_count s) (store_table s) ≡ t
          shaped_is =
              let p : store_knowledge + n ≡ store_table s = omega (arith, size_is) in
              sym (g ∙ ap₂ (shaped_at s 0) count_is p)

          pub store_unshaped : (L : Limits) → t ≡ false → not_store ≡ store_opened L s
          store_unshaped L u =
              store_not L s (λ x. let y = x.ordered in let w = shaped_is in let z : ◌≡◌ {A = ℕ} 0 1 = cc in omega arith)

          pub store_header : (x : ℕ) → x ≡ read_at s 1 0 → x ≡ 3 → n ≤ length s - store_knowledge → t ≡ true
              → StoreHeader s (take (store_knowledge + n - store_knowledge) (drop store_knowledge s)) count
          store_header x k i l u =
              let m : store_knowledge + n - store_knowledge ≡ knowledge_length s = omega (arith, size_is) in
              record {
                header = h;
                kind = sym (k ∙ read_there s 1 0 (omega arith)) ∙ i;
                inside = omega (arith, size_is);
                ordered = shaped_is ∙ u;
                part = ap (λ j. take j (drop store_knowledge s)) m;
                count = count_is;
              }

-- ---- from the knowledge on

module _ (s k : List ℕ) (n : ℕ) (h : StoreHeader s k n) where
  size_part : length k ≡ knowledge_length s
  size_part = ap length h.part ∙ part_length_lem s (knowledge_length s) store_knowledge h.inside

  -- the records begin behind the knowledge
  store_table_lem : store_knowledge + length k ≡ store_table s
  store_table_lem = omega (arith, size_part)

  pub store_ordered : shaped_at s 0 n (store_knowledge + length k) ≡ true
  store_ordered = ap₂ (shaped_at s 0) h.count store_table_lem ∙ h.ordered

module _ (a b m : ℕ) (s k : List ℕ) (n : ℕ) (h : StoreHeader s k n) (few : n ≤ clamp m largest_records) where
  abbrev L : Limits
  L = within a b m

  read_part : parse (any_id L) k ≡ store_read L s
  read_part = ap (parse (any_id L)) h.part

  pub store_other : (z : N.Option KnowledgePart) → NormalityOf L k z → z ≡ N.None → not_store ≡ store_opened L s
  store_other z f e =
      store_not L s
      (λ t. f.other e (ap (λ (x : Parsed Knowledge). is_accepted x) read_part ∙ t.accepts)
      (ap (λ (x : Parsed Knowledge). is_normal (read_as x)) read_part ∙ t.normal))

  module _ (p : KnowledgePart) (q : NormalOf L k p) where
    knowledge_is : read_as (store_read L s) ≡ decode k
    knowledge_is = ap (λ (x : Parsed Knowledge). read_as x) (sym read_part) ∙ normal_read L k p q

    module _ (i : ℕ) (own : i ≡ own_id s) (t : Bool) (is : t ≡ alike_in k p.view.r p.view.start i) where
      alike_is : own_alike (own_id s) (read_as (store_read L s)) ≡ t
      alike_is =
          ap₂ own_alike (sym own) knowledge_is ∙ sym (is ∙ alike_in_lem (any_id L) k p.view.r p.view.start q.opens i)

      pub store_unlike : t ≡ false → not_store ≡ store_opened L s
      store_unlike u =
          store_not L s (λ x. let y = x.alike in let w = alike_is in let z : ◌≡◌ {A = ℕ} 0 1 = cc in omega arith)

      module _ (u : t ≡ true) (w : Bool) (x : w ≡ each (versions_in (decode k)) (records_at s n (store_knowledge + length k))) where
        versions_are : each (versions_in (read_as (store_read L s))) (records_at s (store_count s) (store_table s)) ≡ w
        versions_are =
            ap₂ (λ (y : Knowledge) (rs : List Rec). each (versions_in y) rs) knowledge_is
            (sym (ap₂ (records_at s) h.count (store_table_lem s k n h))) ∙ sym x

        pub store_lacks : w ≡ false → not_store ≡ store_opened L s
        store_lacks f =
            store_not L s (λ y. let d = y.versions in let o = versions_are in let z : ◌≡◌ {A = ℕ} 0 1 = cc in omega arith)

        tests : w ≡ true → StoreTests L s
        tests f = record {
          header = h.header;
          kind = h.kind;
          inside = h.inside;
          count = omega (arith, h.count, few);
          ordered = h.ordered;
          accepts = ap (λ (y : Parsed Knowledge). is_accepted y) (sym read_part) ∙ normal_accepted L k p q;
          normal = ap is_normal knowledge_is ∙ q.normal;
          alike = alike_is ∙ u;
          versions = versions_are ∙ f;
        }

        pub store_valid : w ≡ true → valid_store p n ≡ store_opened L s
        store_valid f =
            let size : p.length ≡ knowledge_length s = q.length ∙ size_part s k n h in
            let own : p ≡ sized_part (knowledge_length s) p.view = λ i. sized_part (size i) p.view in
            ap₂ (λ (y : KnowledgePart) (c : ℕ). valid_store y c) own h.count
            ∙ sym (store_is L s (tests f)
            ∙ ap (store_from s) (ap (λ (y : List ℕ). open_of (checked_by (any_id L) y)) (sym h.part) ∙ normal_opened_lem L k p q)
            ∙ from_at s p.view)

-- What `open_batch` and the functions below it return, one law for each way that they go, as for a store in Store.antt. That learned
-- lies inside the span is that it knows nothing outside (`inside_opens`), and in normal form that projecting leaves it as it is
-- (`unchanged_ticks`).
use Prim.Native.Nat.{ℕ, ◌+◌, ◌-◌, ◌≤◌, ◌<◌}
use mathlib.Core.Path.{◌≡◌, sym, ap, ap₂, ◌∙◌}
use mathlib.Core.Logic.{◌↔◌}
use mathlib.Core.Bool.{Bool, true, false}
use mathlib.Core.List.{List}
use native.Mathlib.Omega.{arith}
use lib.Dec.{ltb}
use lib.ListN.{length, take, drop}
use borrow.Author.Tests.{ltb-true, ltb-false}
use Rattle.codec.specs.Number.{Bytes}
use Rattle.codec.specs.Parsed.{Parsed}
use Rattle.codec.specs.Total.{read_at, clamp}
use Rattle.codec.specs.declared.Refusal.{Refusal}
use Rattle.codec.specs.declared.Refusal.TheVariants.{BatchNotValid}
use Rattle.codec.proofs.Total.{read_there}
use Rattle.layout.specs.Knowledge.{Limits, any_id, Knowledge}
use Rattle.layout.specs.Permitted.{largest_records, within}
use Rattle.layout.specs.Decode.{decode}
use Rattle.layout.specs.Parse.{checked_by, parse}
use Rattle.ticks.specs.Written.{is_normal}
use Rattle.ticks.specs.Calls.{read_as}
use Rattle.replication.specs.OpenBatch.{first_id, last_id, needed_length, learned_length, batch_count, batch_needed, batch_learned, batch_table}
use Rattle.replication.specs.MethodRecords.{records_at, shaped_at, each}
use Rattle.replication.specs.MethodOpening.{is_accepted, needed_read, learned_read, unchanged}
use Rattle.replication.proofs.Bytes.Part.{part_length_lem}
use Rattle.replication.proofs.Opening.Batch.{BatchTests, tests_batch, no_batch, NothingOutside, unchanged_ticks}
use Rattle.lookup.specs.declared.Cursor.{Cursor}
use Rattle.lookup.specs.Method.{open_of}
use Rattle.lookup_ranges.specs.Method.{inside_of}
use Rattle.lookup_ranges.proofs.Outside.{inside_opens}
use Rattle.store_open.specs.declared.KnowledgePart.{KnowledgePart}
use Rattle.std.specs.Prelude as N
use Rattle.store_open.specs.declared.OpenBatch.{OpenBatch}
use Rattle.store_open.specs.Method.{sized_part, NormalOf, NormalityOf, needed_bytes, learned_bytes}
use Rattle.store_open.specs.Method.{batch_from, batch_opened, BatchHeader}
use Rattle.store_open.specs.MethodEach.{carried_by}
use Rattle.store_open.proofs.Opened.{if_batch, if_not, from_both}
use Rattle.store_open.proofs.Judged.{normal_accepted, normal_read, normal_opened_lem}
use Rattle.store_open.proofs.Carried.{carried_by_lem, carried_all}

-- ---- the two results

abbrev not_batch : N.Result OpenBatch Refusal
not_batch = N.Err BatchNotValid

abbrev valid_batch : KnowledgePart → KnowledgePart → ℕ → N.Result OpenBatch Refusal
valid_batch p d n = N.Ok (record { needed = p; learned = d; count = n })

batch_not : (L : Limits) (s : List ℕ) → (BatchTests L s → ⊥) → not_batch ≡ batch_opened L s
unfolding batch_opened
batch_not L s n = sym (if_not _ _ (no_batch L s n))

batch_is : (L : Limits) (s : List ℕ) → BatchTests L s
    → batch_opened L s ≡ batch_from s (open_of (checked_by (any_id L) (needed_bytes s))) (open_of (checked_by (any_id L) (learned_bytes s)))
unfolding batch_opened
batch_is L s t = if_batch _ _ (tests_batch L s t)

-- ---- the span

module _ (s : List ℕ) (f l : ℕ) (first : f ≡ first_id s) (last : l ≡ last_id s) (t : Bool) where
  pub span_less : t ≡ ltb l f → t ≡ ltb (last_id s) (first_id s)
  span_less is = is ∙ ap₂ ltb last first

  pub span_inside : (k : List ℕ) (c : Cursor) → t ≡ inside_of k c f l → t ≡ inside_of k c (first_id s) (last_id s)
  span_inside k c is = is ∙ ap₂ (inside_of k c) first last

-- ---- up to the knowledges

module _ (s : List ℕ) where
  pub batch_short : (L : Limits) → length s < batch_needed → not_batch ≡ batch_opened L s
  batch_short L l = batch_not L s (λ t. omega (arith, t.header))

  module _ (h : batch_needed ≤ length s) where
    pub batch_kind : (L : Limits) (x : ℕ) → x ≡ read_at s 1 0 → (x ≡ 4 → ⊥) → not_batch ≡ batch_opened L s
    batch_kind L x e n = batch_not L s (λ t. n (e ∙ read_there s 1 0 (omega arith) ∙ t.kind))

    pub batch_falls : (L : Limits) (t : Bool) → t ≡ ltb (last_id s) (first_id s) → t ≡ true → not_batch ≡ batch_opened L s
    batch_falls L t e u =
        let l = ltb-true (last_id s) (first_id s) (sym e ∙ u) in
        batch_not L s (λ x. omega (arith, x.span, l))

    module _ (n m : ℕ) (e : n ≡ read_at s 4 49) (f : m ≡ read_at s 4 53) where
      needed_size_lem : n ≡ needed_length s
      needed_size_lem = e ∙ read_there s 4 49 (omega arith)

      learned_size_lem : m ≡ learned_length s
      learned_size_lem = f ∙ read_there s 4 53 (omega arith)

      pub batch_over : (L : Limits) → length s - batch_needed < n + m → not_batch ≡ batch_opened L s
      batch_over L l = batch_not L s (λ t. omega (arith, t.inside, needed_size_lem, learned_size_lem))

      module _ (count : ℕ) (g : count ≡ read_at s 4 57) where
        count_is : count ≡ batch_count s
        count_is = g ∙ read_there s 4 57 (omega arith)

        pub batch_many : (L : Limits) (most : ℕ) → most ≡ L.records → most < count → not_batch ≡ batch_opened L s
        batch_many L most i l = batch_not L s (λ t. omega (arith, t.count, count_is, i))

        module _ (t : Bool) (i : t ≡ shaped_at s 0 count (batch_needed + n + m)) where
          shaped_is : shaped_at s 0 (batch_count s) (batch_table s) ≡ t
          shaped_is =
              let p : batch_needed + n + m ≡ batch_table s = omega (arith, needed_size_lem, learned_size_lem) in
              sym (i ∙ ap₂ (shaped_at s 0) count_is p)

          pub batch_unshaped : (L : Limits) → t ≡ false → not_batch ≡ batch_opened L s
          batch_unshaped L u =
              batch_not L s (λ x. let y = x.ordered in let w = shaped_is in let z : ◌≡◌ {A = ℕ} 0 1 = cc in omega arith)

          pub batch_header : Bytes s → (x : ℕ) → x ≡ read_at s 1 0 → x ≡ 4 → (b : Bool) → b ≡ ltb (last_id s) (first_id s) → b ≡ false
              → n + m ≤ length s - batch_needed → t ≡ true
              → BatchHeader s (take (batch_needed + n - batch_needed) (drop batch_needed s))
              (take (batch_needed + n + m - (batch_needed + n)) (drop (batch_needed + n) s)) count
          batch_header bytes x k j b d v l u =
              let one : batch_needed + n - batch_needed ≡ needed_length s = omega (arith, needed_size_lem) in
              let two : batch_needed + n + m - (batch_needed + n) ≡ learned_length s = omega (arith, learned_size_lem) in
              let from : batch_needed + n ≡ batch_learned s = omega (arith, needed_size_lem) in
              record {
                bytes = bytes;
                header = h;
                kind = sym (k ∙ read_there s 1 0 (omega arith)) ∙ j;
                inside = omega (arith, needed_size_lem, learned_size_lem);
                span = ltb-false (last_id s) (first_id s) (sym d ∙ v);
                ordered = shaped_is ∙ u;
                needed = ap (λ q. take q (drop batch_needed s)) one;
                learned = ap₂ (λ q p. take q (drop p s)) two from;
                count = count_is;
              }

-- ---- from the knowledges on

module _ (s k l : List ℕ) (n : ℕ) (h : BatchHeader s k l n) where
  needed-length : length k ≡ needed_length s
  needed-length = ap length h.needed ∙ part_length_lem s (needed_length s) batch_needed (omega (arith, h.inside))

  learned-length : length l ≡ learned_length s
  learned-length = ap length h.learned ∙ part_length_lem s (learned_length s) (batch_learned s) h.inside

  -- the records begin behind both
  batch_table_lem : batch_needed + length k + length l ≡ batch_table s
  batch_table_lem = omega (arith, needed-length, learned-length)

  pub batch_room_lem : batch_needed + length k + length l ≤ length s
  batch_room_lem = omega (arith, batch_table_lem, h.inside)

  pub batch_ordered : shaped_at s 0 n (batch_needed + length k + length l) ≡ true
  batch_ordered = ap₂ (shaped_at s 0) h.count batch_table_lem ∙ h.ordered

module _ (a b m : ℕ) (s k l : List ℕ) (n : ℕ) (h : BatchHeader s k l n) (few : n ≤ clamp m largest_records) where
  abbrev L : Limits
  L = within a b m

  read_needed : parse (any_id L) k ≡ needed_read L s
  read_needed = ap (parse (any_id L)) h.needed

  read_learned : parse (any_id L) l ≡ learned_read L s
  read_learned = ap (parse (any_id L)) h.learned

  pub batch_needed_lem : (z : N.Option KnowledgePart) → NormalityOf L k z → z ≡ N.None → not_batch ≡ batch_opened L s
  batch_needed_lem z f e =
      batch_not L s
      (λ t. f.other e (ap (λ (x : Parsed Knowledge). is_accepted x) read_needed ∙ t.needed_accepted)
      (ap (λ (x : Parsed Knowledge). is_normal (read_as x)) read_needed ∙ t.needed_normal))

  pub batch_learned_lem : (z : N.Option KnowledgePart) → NormalityOf L l z → z ≡ N.None → not_batch ≡ batch_opened L s
  batch_learned_lem z f e =
      batch_not L s
      (λ t. f.other e (ap (λ (x : Parsed Knowledge). is_accepted x) read_learned ∙ t.learned_accepted)
      (ap (λ (x : Parsed Knowledge). is_normal (read_as x)) read_learned ∙ t.learned_normal))

  module _ (p d : KnowledgePart) (o : NormalOf L k p) (q : NormalOf L l d) (t : Bool)
      (is : t ≡ inside_of l d.view.start (first_id s) (last_id s)) where
    needed_is : read_as (needed_read L s) ≡ decode k
    needed_is =
        ap (λ (x : Parsed Knowledge). read_as x) (sym read_needed) ∙ normal_read L k p o

    learned_is : read_as (learned_read L s) ≡ decode l
    learned_is = ap (λ (x : Parsed Knowledge). read_as x) (sym read_learned) ∙ normal_read L l d q

    inside_is : (inside_of l d.view.start (first_id s) (last_id s) ≡ true) ↔ NothingOutside (first_id s) (last_id s) (decode l)
    inside_is = inside_opens (any_id L) l d.view.r d.view.start q.opens (first_id s) (last_id s) q.normal

    pub batch_outside : t ≡ false → not_batch ≡ batch_opened L s
    batch_outside u =
        batch_not L s
        (λ x.
        let y = ap (unchanged (first_id s) (last_id s)) (sym learned_is) ∙ x.projected in
        let none = (unchanged_ticks (first_id s) (last_id s) (decode l) q.normal).0 y in
        let w = inside_is.1 none in
        let z : ◌≡◌ {A = ℕ} 0 1 = cc in
        omega arith)

    module _ (u : t ≡ true) where
      none_outside : NothingOutside (first_id s) (last_id s) (decode l)
      none_outside = inside_is.0 (sym is ∙ u)

      same_unchanged : unchanged (first_id s) (last_id s) (read_as (learned_read L s)) ≡ true
      same_unchanged =
          ap (unchanged (first_id s) (last_id s)) learned_is
          ∙ (unchanged_ticks (first_id s) (last_id s) (decode l) q.normal).1 none_outside

      here : records_at s n (batch_needed + length k + length l) ≡ records_at s (batch_count s) (batch_table s)
      here = ap₂ (records_at s) h.count (batch_table_lem s k l n h)

      module _ (w : Bool) (x : w ≡ each (carried_by (decode k) (decode l)) (records_at s n (batch_needed + length k + length l))) where
        carried_is : w ≡ each (carried_by (decode k) (decode l)) (records_at s (batch_count s) (batch_table s))
        carried_is = x ∙ ap (each (carried_by (decode k) (decode l))) here

        pub batch_lacks : w ≡ false → not_batch ≡ batch_opened L s
        batch_lacks f =
            batch_not L s
            (λ y.
            let i = carried_by_lem L s (decode k) (decode l) needed_is learned_is (batch_count s) (batch_table s) y.carries in
            let j = carried_is in
            let z : ◌≡◌ {A = ℕ} 0 1 = cc in
            omega arith)

        tests : w ≡ true → BatchTests L s
        tests f = record {
          header = h.header;
          kind = h.kind;
          inside = h.inside;
          count = omega (arith, h.count, few);
          span = h.span;
          ordered = h.ordered;
          needed_accepted =
              ap (λ (x : Parsed Knowledge). is_accepted x) (sym read_needed)
              ∙ normal_accepted L k p o;
          needed_normal = ap is_normal needed_is ∙ o.normal;
          learned_accepted = ap (λ (x : Parsed Knowledge). is_accepted x) (sym read_learned) ∙ normal_accepted L l d q;
          learned_normal = ap is_normal learned_is ∙ q.normal;
          projected = same_unchanged;
          carries =
              carried_all L s (decode k) (decode l) needed_is learned_is (batch_count s) (batch_table s) h.bytes none_outside
              (sym carried_is ∙ f);
        }

        pub batch_valid : w ≡ true → valid_batch p d n ≡ batch_opened L s
        batch_valid f =
            let one : p.length ≡ needed_length s = o.length ∙ needed-length s k l n h in
            let two : d.length ≡ learned_length s = q.length ∙ learned-length s k l n h in
            let needed : p ≡ sized_part (needed_length s) p.view = λ i. sized_part (one i) p.view in
            let learned : d ≡ sized_part (learned_length s) d.view = λ i. sized_part (two i) d.view in
            ap₂ (λ (x : KnowledgePart) (c : ℕ). valid_batch x d c) needed h.count
            ∙ ap (λ (x : KnowledgePart). valid_batch (sized_part (needed_length s) p.view) x (batch_count s)) learned
            ∙ sym (batch_is L s (tests f)
            ∙ ap₂ (batch_from s)
            (ap (λ (x : List ℕ). open_of (checked_by (any_id L) x)) (sym h.needed) ∙ normal_opened_lem L k p o)
            (ap (λ (x : List ℕ). open_of (checked_by (any_id L) x)) (sym h.learned) ∙ normal_opened_lem L l d q)
            ∙ from_both s p.view d.view)

-- The table is exact (`table_exact`): for a list of bytes and permitted limits, the check refuses with the number j exactly
-- where the bytes have the fault j. From the table to the check, by the numbers of its lines and of the ends. From the
-- check to the table: what was read before the fault is a lawful knowledge's beginning, and the field that was read next,
-- or the bytes after the last field, have the fault.
use Prim.Native.Nat.{ℕ, suc, ◌+◌, ◌-◌, ◌<◌, ◌≤◌}
use mathlib.Core.Path.{◌≡◌, refl, sym, ap, subst, ◌∙◌}
use mathlib.Core.Bool.{Bool, true, false}
use mathlib.Core.Logic.{◌↔◌, ◌⊎◌, inl, inr}
use mathlib.Core.List.{List, [], ◌∷◌}
use native.Mathlib.Omega.{arith}
use lib.Dec.{eqb}
use lib.ListN.{length, drop}
use Rattle.codec.specs.Number.{Bytes, put}
use Rattle.layout.specs.Got.{Num, Fault}
use Rattle.layout.specs.Checked.{Checked}
use Rattle.layout.specs.Checked.{Accepted, Refused}
use Rattle.layout.specs.Knowledge.{Rules, Element, Range, Knowledge, opening, before_vectors, before_elements, before_ranges, closing}
use Rattle.layout.specs.Knowledge.{put_fields, put_ids, put_elements, put_vectors, encode, All, keys, Lawful}
use Rattle.layout.specs.Permitted.{Permitted, most_vectors}
use Rattle.layout.specs.Read.{◌▷◌, repeat, number, fields, limit, empty, among, replica_id, element, first_vector, vector, range}
use Rattle.layout.specs.Parse.{◌▶◌, replica_map, vector_count, vector_list, range_list, ended, checked, parse, checked_by}
use Rattle.layout.proofs.Parts.{LawfulElement, whole as whole-lawful}
use Rattle.layout.proofs.Chain.{Stands}
use Rattle.layout.proofs.ForwardRead.{lowest}
use Rattle.layout.proofs.Forward.{forward}
use Rattle.layout.proofs.BackwardSteps.{Counted, count_inv, fields_inv}
use Rattle.layout.proofs.BackwardParts.{ids_inv, elements_inv, vector_list_inv, ranges_inv}
use Rattle.layout.proofs.Backward.{id_part, vector_count_lem, range_part}
use Rattle.layout.proofs.FaultSteps.{among_seen, id_at_lem, key_at_lem}
use Rattle.layout.proofs.Table.{map_bytes, vector_bytes, element_bytes, range_bytes, FirstIds, FirstVectors, FirstElements, FirstRanges}
use Rattle.layout.proofs.Table.{Refuses, Seen, NotAbove, Hit, cut_short, bad_value, Faulty, at_field, at_end}
use Rattle.layout.proofs.Table.{fixed_opening, count_r, replica_id_lem, replica_judged, fixed_vectors, count_v, fixed_vector}
use Rattle.layout.proofs.Table.{count_first, count_elements, key, tick, fixed_ranges, count_g, bound, index, fixed_closing}
use Rattle.layout.proofs.Numbers.{numbers_exact, lowest_last, keys_length, keys_less}
use Rattle.layout.proofs.NumbersLawful.{numbers_lawful}
use Rattle.layout.proofs.Exact.{refused_exact}
use Rattle.layout.proofs.Appended.{encode-append}
use Rattle.layout.proofs.FoundSteps.{then_fault, next_fault, repeat_found, fields_found, counted_found, limit_found, empty_found}
use Rattle.layout.proofs.FoundSteps.{id_found, element_found, range_found, among_found, hit_map, num_fault, true_false}
use Rattle.layout.proofs.FoundSteps.{opening_some, before_vectors-some, before_elements-some, before_ranges-some, closing_some}
use Rattle.codec.specs.Parsed.{refused}

-- what differs from no bound before is below the least that may follow
low_found : (xs : List Range) (x : ℕ) → x < lowest 0 xs → NotAbove xs x
low_found [] x h = absurd (omega arith)
low_found (y ∷ ys) x h = (omega arith, omega (arith, lowest_last 0 (y ∷ ys) (omega arith)))

fits_found : (xs : List Range) (x : ℕ) → lowest 0 xs ≤ x → NotAbove xs x → ⊥
fits_found xs x h n = omega (arith, lowest_last 0 xs n.0, n.1)

-- above the limit, where every count is at or above 0
above_only : (hi x : ℕ) → (x < 0) ⊎ (hi < x) → hi < x
above_only hi x (inl l) = absurd (omega arith)
above_only hi x (inr l) = l

-- a key of a vector that is one of those before, and one that is not
module _ (s : List ℕ) (r : ℕ) (few : r < 4294967296) (es : List Element) (start c x : ℕ)
    (stands : Stands s start (put_elements es (drop c s))) (lawful : All (LawfulElement r) es) where
  wrong_key : (r ≤ x) ⊎ (among s 4 12 start (length es) x ≡ true) → (r ≤ x) ⊎ Seen (keys es) x
  wrong_key (inl l) = inl l
  wrong_key (inr a) =
      let (i, less, p) = among_found s 4 12 start (length es) x a in
      inr (i, keys_less es less, sym p ∙ key_at_lem s r start es (drop c s) i (omega arith) stands lawful less)

  new_key : among s 4 12 start (length es) x ≡ false → Seen (keys es) x → ⊥
  new_key a seen =
      let less : seen.0 < length es = keys_length es seen.1 in
      true_false
      (sym (among_seen s 4 12 start (length es) seen.0 x less
      (key_at_lem s r start es (drop c s) seen.0 (omega arith) stands lawful less ∙ sym seen.2)) ∙ a)

ended_found : (s : List ℕ) (r v e g x end j : ℕ) → ended s (Accepted r v e g) x end ≡ Refused j → j ≡ 10
unfolding ended
ended_found s r v e g x end j h = go (eqb end (length s)) h where
  go : (t : Bool) → ◌≡◌ {A = Checked} (elim t [ true ↦ Accepted r v e g | false ↦ Refused 10 ]) (Refused j) → j ≡ 10
  go true q = let z : ◌≡◌ {A = ℕ} 0 1 = cc in absurd (omega arith)
  go false q = cc

refused_accepted : (j r v e g : ℕ) {s : List ℕ} {R : Rules} → Refused j ≡ Accepted r v e g → Faulty R s j
refused_accepted j r v e g h = let z : ◌≡◌ {A = ℕ} 0 1 = cc in absurd (omega arith)

module _ (R : Rules) (permitted : Permitted R.limits) (s : List ℕ) (bs : Bytes s) (j : ℕ) where
  -- in the replica map
  opening_found : (fields s opening 0 0 ▷ number s 4 ▷ limit 0 R.limits.replicas) ≡ Fault j → Faulty R s j
  opening_found e =
      counted_found s bs opening (limit 0 R.limits.replicas) (λ x. (x < 0) ⊎ (R.limits.replicas < x)) 3 0 0 j _ opening_some
      (limit_found s bs 0 R.limits.replicas j) e
      (λ before f after p c q hit. at_field (fixed_opening before f after p) (drop c s) q hit)
      λ c q hit. at_field count_r (drop c s) q (hit_map (above_only R.limits.replicas) hit)

  ids_found : (n start : ℕ) → Counted s opening 0 R.limits.replicas 0 n start →
      repeat (replica_id R.judge s start) n 0 start ≡ Fault j → Faulty R s j
  ids_found n start counted e = repeat_found (replica_id R.judge s start) n 0 start j _ e λ m z b l h q.
      let all = ids_inv R s bs m start z b h in
      let ids = all.values in
      let same : z ≡ length ids = omega (arith, all.are.last) in
      let first : FirstIds R n ids = record { most = counted.high; lawful = all.are.lawful; distinct = all.are.distinct } in
      let less : length ids < n = omega (arith, all.count) in
      let stands : Stands s start (put_ids ids (drop b s)) = record { inside = counted.inside; rest = all.are.bytes } in
      let bytes : s ≡ map_bytes n ids (drop b s) = counted.bytes ∙ ap (λ t. put_fields opening (put 4 n t)) all.are.bytes in
      id_found s bs R start (length ids) b j _ (subst (λ k. replica_id R.judge s start k b ≡ Fault j) same q)
      (λ hit. at_field (replica_id_lem n ids first less) (drop b s) bytes
      (hit_map
      (λ x a.
      let (i, i<k, p) = among_found s 16 16 start (length ids) x a in
      (i, i<k, sym p ∙ id_at_lem R s start ids (drop b s) i stands all.are.lawful i<k)) hit))
      λ i hit. at_field (replica_judged n ids first less i) (drop b s) bytes
      (hit_map
      (λ x a. (
        (λ seen. true_false
            (sym (among_seen s 16 16 start (length ids) seen.0 x seen.1
            (id_at_lem R s start ids (drop b s) seen.0 stands all.are.lawful seen.1 ∙ sym seen.2)) ∙ a.0)),
        a.1,
      )) hit)

  map_found : replica_map R.limits.replicas R.judge s ≡ Fault j → Faulty R s j
  unfolding replica_map
  map_found e =
      then_fault (fields s opening 0 0 ▷ number s 4 ▷ limit 0 R.limits.replicas)
      (λ r start. repeat (replica_id R.judge s start) r 0 start) j _ e opening_found
      λ n start u w. ids_found n start (count_inv s bs opening 0 R.limits.replicas 0 0 n start u) w

  -- after the replica map
  module _ (ids : List ℕ) (a : ℕ) (map : FirstIds R (length ids) ids) (bytes : s ≡ map_bytes (length ids) ids (drop a s)) where
    vector_count_found : vector_count R.limits.ranges s a ≡ Fault j → Faulty R s j
    unfolding vector_count
    vector_count_found e =
        counted_found s bs before_vectors (limit 1 (R.limits.ranges + 1)) (λ x. (x < 1) ⊎ (R.limits.ranges + 1 < x)) 3 0 a j _
        before_vectors-some (limit_found s bs 1 (R.limits.ranges + 1) j) e
        (λ before f after p c q hit.
        at_field (fixed_vectors ids map before f after p) (drop c s) (bytes ∙ ap (map_bytes (length ids) ids) q) hit)
        λ c q hit. at_field (count_v ids map) (drop c s) (bytes ∙ ap (map_bytes (length ids) ids) q) hit

    -- after the count v
    module _ (v b : ℕ) (counted : Counted s before_vectors 1 (most_vectors R.limits) a v b) where
      bytes_v : s ≡ map_bytes (length ids) ids (put_fields before_vectors (put 4 v (drop b s)))
      bytes_v = bytes ∙ ap (map_bytes (length ids) ids) counted.bytes

      vector_bytes_lem : (vs : List (List Element)) (d : ℕ) → drop b s ≡ put_vectors vs (drop d s) → s ≡ vector_bytes ids v vs (drop d s)
      vector_bytes_lem vs d q = bytes_v ∙ ap (λ t. map_bytes (length ids) ids (put_fields before_vectors (put 4 v t))) q

      no_vectors : FirstVectors R (length ids) v []
      no_vectors = record { some = counted.low; most = counted.high; first = refl; clocks = tt }

      first_found : first_vector s 0 b ≡ Fault j → Faulty R s j
      unfolding first_vector put_vectors
      first_found e =
          let whole : s ≡ vector_bytes ids v [] (drop b s) = vector_bytes_lem [] b refl in
          counted_found s bs before_elements empty (λ x. x ≡ 0 → ⊥) 4 0 b j _ before_elements-some (empty_found s bs j) e
          (λ before f after p c q hit.
          at_field (fixed_vector ids v [] map no_vectors (omega (arith, counted.low)) before f after p) (drop c s)
          (whole ∙ ap (vector_bytes ids v []) q) hit)
          λ c q hit. at_field (count_first ids v map no_vectors) (drop c s) (whole ∙ ap (vector_bytes ids v []) q) hit

      -- in the vector after these
      module _ (vs : List (List Element)) (d : ℕ) (first : FirstVectors R (length ids) v vs) (some : 1 ≤ length vs)
          (less : length vs < v) (here : s ≡ vector_bytes ids v vs (drop d s)) where
        few : length ids < 4294967296
        few = omega (arith, map.most, permitted.replicas)

        elements_found : (n start : ℕ) → Counted s before_elements 0 (length ids) d n start →
            repeat (element s (length ids) start) n 0 start ≡ Fault j → Faulty R s j
        elements_found n start count e = repeat_found (element s (length ids) start) n 0 start j _ e λ m z c l h q.
            let all = elements_inv s bs (length ids) m start z c h in
            let es = all.values in
            let same : z ≡ length es = omega (arith, all.are.last) in
            let begun : FirstElements (length ids) n es = record {
              most = count.high;
              elements = all.are.lawful;
              distinct = all.are.distinct;
            } in
            let fewer : length es < n = omega (arith, all.count) in
            let stands : Stands s start (put_elements es (drop c s)) = record { inside = count.inside; rest = all.are.bytes } in
            let whole : s ≡ vector_bytes ids v vs (element_bytes n es (drop c s)) =
            here ∙ ap (vector_bytes ids v vs) (count.bytes ∙ ap (λ t. put_fields before_elements (put 4 n t)) all.are.bytes) in
            element_found s bs (length ids) start (length es) c j _ (subst (λ k. element s (length ids) start k c ≡ Fault j) same q)
            (λ hit. at_field (key ids v vs n es map first some less begun fewer) (drop c s) whole
            (hit_map (λ x wrong. wrong_key s (length ids) few es start c x stands all.are.lawful wrong) hit))
            λ x c' below fresh p hit.
            let new = new_key s (length ids) few es start c x stands all.are.lawful fresh in
            at_field (tick ids v vs n es x map first some less begun fewer below new) (drop c' s)
            (whole ∙ ap (λ t. vector_bytes ids v vs (element_bytes n es t)) p) hit

        vector_found_lem : (e : ℕ) → vector s (length ids) e d ≡ Fault j → Faulty R s j
        unfolding vector
        vector_found_lem e h =
            then_fault (fields s before_elements e d ▷ number s 4 ▷ limit 0 (length ids))
            (λ n start. repeat (element s (length ids) start) n 0 start ▷ λ m next. Num (e + m) next) j _ h
            (λ u. counted_found s bs before_elements (limit 0 (length ids)) (λ x. (x < 0) ⊎ (length ids < x)) 3 e d j _
            before_elements-some (limit_found s bs 0 (length ids) j) u
            (λ before f after p c q hit.
            at_field (fixed_vector ids v vs map first less before f after p) (drop c s) (here ∙ ap (vector_bytes ids v vs) q) hit)
            λ c q hit.
            at_field (count_elements ids v vs map first some less) (drop c s) (here ∙ ap (vector_bytes ids v vs) q)
            (hit_map (above_only (length ids)) hit))
            λ n start u w.
            then_fault (repeat (element s (length ids) start) n 0 start) (λ m next. Num (e + m) next) j _ w
            (elements_found n start (count_inv s bs before_elements 0 (length ids) e d n start u))
            λ m next x y. num_fault j (e + m) next _ y

      -- in the vectors after the first
      later_found : (y c n z d : ℕ) → first_vector s 0 b ≡ Num y c → n < v - 1 → repeat (vector s (length ids)) n y c ≡ Num z d →
          vector s (length ids) z d ≡ Fault j → Faulty R s j
      unfolding vector_list
      later_found y c n z d u l h q =
          let back : suc n - 1 ≡ n = omega arith in
          let begun : vector_list s (length ids) (suc n) b ≡ Num z d =
          ap (λ g. g ▷ repeat (vector s (length ids)) (suc n - 1)) u ∙ ap (λ i. repeat (vector s (length ids)) i y c) back ∙ h in
          let all = vector_list_inv s bs (length ids) (suc n) b z d (omega arith) begun in
          let vs : List (List Element) = [] ∷ all.rest in
          let first : FirstVectors R (length ids) v vs = record {
            some = counted.low;
            most = counted.high;
            first = refl;
            clocks = all.are.lawful;
          } in
          vector_found_lem vs d first (omega arith) (omega (arith, all.count)) (vector_bytes_lem vs d all.are.bytes) z q

      list_found : vector_list s (length ids) v b ≡ Fault j → Faulty R s j
      unfolding vector_list
      list_found e =
          then_fault (first_vector s 0 b) (repeat (vector s (length ids)) (v - 1)) j _ e first_found
          λ y c u w. repeat_found (vector s (length ids)) (v - 1) y c j _ w λ n z d l h q. later_found y c n z d u l h q

    -- after the vectors
    module _ (vs : List (List Element)) (c : ℕ) (clocks : FirstVectors R (length ids) (length vs) vs)
        (here : s ≡ vector_bytes ids (length vs) vs (drop c s)) where
      spans_found : (g start : ℕ) → Counted s before_ranges 1 R.limits.ranges c g start →
          repeat (range s (length vs)) g 0 start ≡ Fault j → Faulty R s j
      spans_found g start count e = repeat_found (range s (length vs)) g 0 start j _ e λ m z d l h q.
          let all = ranges_inv s bs (length vs) m start z d h in
          let xs = all.values in
          let begun : FirstRanges R (length vs) g xs =
          record { some = count.low; most = count.high; spans = all.are.lawful; rising = all.are.rising } in
          let fewer : length xs < g = omega (arith, all.count) in
          let whole : s ≡ range_bytes ids vs g xs (drop d s) =
          here ∙ ap (vector_bytes ids (length vs) vs) (count.bytes ∙ ap (λ t. put_fields before_ranges (put 4 g t))
          all.are.bytes) in
          range_found s bs (length vs) (lowest 0 xs) d j _ (subst (λ low. range s (length vs) low d ≡ Fault j) all.are.last q)
          (λ hit. at_field (bound ids vs g xs map clocks begun fewer) (drop d s) whole (hit_map (low_found xs) hit))
          λ x d' small fits p hit.
          at_field (index ids vs g xs x map clocks begun fewer small (fits_found xs x fits)) (drop d' s)
          (whole ∙ ap (range_bytes ids vs g xs) p) hit

      ranges_found : range_list R.limits.ranges s (length vs) c ≡ Fault j → Faulty R s j
      unfolding range_list
      ranges_found e =
          then_fault (fields s before_ranges 0 c ▷ number s 4 ▷ limit 1 R.limits.ranges)
          (λ g start. repeat (range s (length vs)) g 0 start ▷ λ low next. Num g next) j _ e
          (λ u. counted_found s bs before_ranges (limit 1 R.limits.ranges) (λ x. (x < 1) ⊎ (R.limits.ranges < x)) 3 0 c j _
          before_ranges-some (limit_found s bs 1 R.limits.ranges j) u
          (λ before f after p d q hit.
          at_field (fixed_ranges ids vs map clocks before f after p) (drop d s) (here ∙ ap (vector_bytes ids (length vs) vs) q) hit)
          λ d q hit. at_field (count_g ids vs map clocks) (drop d s) (here ∙ ap (vector_bytes ids (length vs) vs) q) hit)
          λ g start u w.
          then_fault (repeat (range s (length vs)) g 0 start) (λ low next. Num g next) j _ w
          (spans_found g start (count_inv s bs before_ranges 1 R.limits.ranges 0 c g start u))
          λ low next x y. num_fault j g next _ y

      -- after the ranges
      module _ (xs : List Range) (d : ℕ) (spans : FirstRanges R (length vs) (length xs) xs)
          (there : s ≡ range_bytes ids vs (length xs) xs (drop d s)) where
        closing_found : fields s closing 0 d ≡ Fault j → Faulty R s j
        closing_found e = fields_found s bs closing 0 d j _ closing_some e λ before f after p c q hit.
            at_field (fixed_closing ids vs xs map clocks spans before f after p) (drop c s)
            (there ∙ ap (range_bytes ids vs (length xs) xs) q) hit

        abbrev value : Knowledge
        value = record { replicas = ids; vectors = vs; ranges = xs }

        lawful : Lawful R value
        lawful = whole-lawful R value
            (record {
              replicas = map.most;
              ids = map.lawful;
              distinct = map.distinct;
              some_vector = clocks.some;
              vectors = clocks.most;
              first = clocks.first;
              clocks = clocks.clocks;
              some_range = spans.some;
              ranges = spans.most;
              spans = spans.spans;
              rising = spans.rising;
            })

        -- the bytes after the last field
        rest_found : (u : List ℕ) → s ≡ range_bytes ids vs (length xs) xs (put_fields closing u) → checked_by R s ≡ Refused j →
            j ≡ 10 → Faulty R s j
        unfolding encode
        rest_found [] q e ten =
            let full : s ≡ encode value = q in
            refused_accepted j _ _ _ _ (sym e ∙ ap (checked_by R) full ∙ forward R value permitted lawful)
        rest_found (b ∷ t) q e ten = at_end value lawful b t (q ∙ sym (encode-append value (b ∷ t))) ten

        end_found : (r v e g x end : ℕ) → fields s closing 0 d ≡ Num x end → checked_by R s ≡ Refused j →
            ended s (Accepted r v e g) x end ≡ Refused j → Faulty R s j
        end_found r v e g x end is h q =
            rest_found (drop end s) (there ∙ ap (range_bytes ids vs (length xs) xs) (fields_inv s bs closing 0 d x end is)) h
            (ended_found s r v e g x end j q)

  -- the parts one after the other
  pub refused_found : checked_by R s ≡ Refused j → Faulty R s j
  unfolding checked
  refused_found h =
      next_fault (replica_map R.limits.replicas R.judge s)
      (λ r at. vector_count R.limits.ranges s at ▶ λ v at. vector_list s r v at ▶ λ e at. range_list R.limits.ranges s v at ▶ λ g at.
      fields s closing 0 at ▶ ended s (Accepted r v e g))
      j _ h map_found λ r a is₁ h₁.
      let part = id_part R s bs r a is₁ in
      let ids = part.values in
      let map : FirstIds R (length ids) ids =
      record { most = rw part.count part.high; lawful = part.are.lawful; distinct = part.are.distinct } in
      let bytes : s ≡ map_bytes (length ids) ids (drop a s) = part.bytes ∙ ap (λ n. map_bytes n ids (drop a s)) (sym part.count) in
      next_fault (vector_count R.limits.ranges s a)
      (λ v at. vector_list s r v at ▶ λ e at. range_list R.limits.ranges s v at ▶ λ g at. fields s closing 0 at ▶ ended s (Accepted r v e g))
      j _ h₁ (vector_count_found ids a map bytes) λ v b is₂ h₂.
      let counted = vector_count_lem R s bs a v b is₂ in
      next_fault (vector_list s r v b)
      (λ e at. range_list R.limits.ranges s v at ▶ λ g at. fields s closing 0 at ▶ ended s (Accepted r v e g))
      j _ h₂ (λ q. list_found ids a map bytes v b counted (subst (λ n. vector_list s n v b ≡ Fault j) (sym part.count) q))
      λ e c is₃ h₃.
      let all = vector_list_inv s bs (length ids) v b e c counted.low
      (subst (λ n. vector_list s n v b ≡ Num e c) (sym part.count) is₃) in
      let vs : List (List Element) = [] ∷ all.rest in
      let clocks : FirstVectors R (length ids) (length vs) vs =
      record { some = omega arith; most = rw all.count counted.high; first = refl; clocks = all.are.lawful } in
      let here : s ≡ vector_bytes ids (length vs) vs (drop c s) =
      vector_bytes_lem ids a map bytes v b counted vs c all.are.bytes ∙
      ap (λ n. vector_bytes ids n vs (drop c s)) (sym all.count) in
      next_fault (range_list R.limits.ranges s v c) (λ g at. fields s closing 0 at ▶ ended s (Accepted r v e g))
      j _ h₃ (λ q. ranges_found ids a map bytes vs c clocks here (subst (λ n. range_list R.limits.ranges s n c ≡ Fault j) (sym all.count) q))
      λ g d is₄ h₄.
      let ranges = range_part R s bs (length vs) c g d (subst (λ n. range_list R.limits.ranges s n c ≡ Num g d) (sym all.count) is₄) in
      let xs = ranges.values in
      let spans : FirstRanges R (length vs) (length xs) xs =
      record {
        some = rw ranges.count ranges.some;
        most = rw ranges.count ranges.high;
        spans = ranges.are.lawful;
        rising = ranges.are.rising;
      } in
      let there : s ≡ range_bytes ids vs (length xs) xs (drop d s) =
      here ∙ ap (vector_bytes ids (length vs) vs) ranges.bytes ∙
      ap (λ n. range_bytes ids vs n xs (drop d s)) (sym ranges.count) in
      next_fault (fields s closing 0 d) (ended s (Accepted r v e g)) j _ h₄
      (closing_found ids a map bytes vs c clocks here xs d spans there) λ x end is₅ h₅.
      end_found ids a map bytes vs c clocks here xs d spans there r v e g x end is₅ h h₅

-- and from the table to the check
hit_refused : (R : Rules) (n : ℕ) (p : List ℕ → List ℕ) (Bad : ℕ → Type 0) (k j : ℕ) (u : List ℕ) →
    Refuses R n p Bad k → Hit n Bad k j u → checked_by R (p u) ≡ Refused j
hit_refused R n p Bad k j u line (cut_short e l) = line.ends u l ∙ ap Refused (sym e)
hit_refused R n p Bad k j u line (bad_value x t e q l b) = ap (λ w. checked_by R (p w)) q ∙ line.bad x t l b ∙ ap Refused (sym e)

found_refused : (R : Rules) → Permitted R.limits → (s : List ℕ) (j : ℕ) → Faulty R s j → checked_by R s ≡ Refused j
found_refused R permitted s j (at_field line u e hit) =
    ap (checked_by R) e ∙ hit_refused R _ _ _ _ j u (numbers_exact R permitted line) hit
found_refused R permitted s j (at_end k lawful b t e q) =
    ap (checked_by R) e ∙ (numbers_lawful R permitted k lawful).left_over b t ∙ ap Refused (sym q)

-- the check refuses with j exactly where the bytes have the fault j of the table
pub table_exact : (R : Rules) → Permitted R.limits → (s : List ℕ) → Bytes s → (j : ℕ) → (checked_by R s ≡ Refused j) ↔ Faulty R s j
table_exact R permitted s bs j = (refused_found R permitted s bs j, found_refused R permitted s j)

-- and so does reading
pub parse_table : (R : Rules) → Permitted R.limits → (s : List ℕ) → Bytes s → (j : ℕ) → (parse R s ≡ refused j) ↔ Faulty R s j
parse_table R permitted s bs j = (
  (λ h. (table_exact R permitted s bs j).0 ((refused_exact R permitted s j).1 h)),
  λ h. (refused_exact R permitted s j).0 ((table_exact R permitted s bs j).1 h),
)

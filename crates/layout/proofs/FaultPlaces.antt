-- The check's answer at the first faulty field: where the bytes begin as a lawful knowledge begins, and the part that
-- comes next has a fault, the check refuses with the fault's number. What stands before the part is read as that of a
-- lawful knowledge is. The bytes before a field are what `encode` writes there; t, the bytes from the field on, is any list.
use Prim.Native.Nat.{ℕ, ◌+◌, ◌-◌, ◌*◌, ◌<◌, ◌≤◌}
use mathlib.Core.Path.{◌≡◌, refl, ap, ◌∙◌}
use mathlib.Core.List.{List, [], ◌∷◌}
use native.Mathlib.Omega.{arith}
use lib.ListN.{length, get_or}
use Rattle.codec.specs.Number.{put}
use Rattle.layout.specs.Got.{Got}
use Rattle.layout.specs.Got.{Num, Fault}
use Rattle.layout.specs.Checked.{Refused}
use Rattle.layout.specs.Knowledge.{Rules, Element, Range, opening, before_vectors, before_elements, before_ranges, closing, put_fields, put_ids, put_elements, put_vectors, put_ranges, All, keys}
use Rattle.layout.specs.Permitted.{Permitted}
use Rattle.layout.specs.Answer.{elements}
use Rattle.layout.specs.Read.{◌▷◌, repeat, number, fields, limit, empty, replica_id, element, first_vector, vector, range}
use Rattle.layout.specs.Parse.{replica_map, vector_count, vector_list, range_list, checked, checked_by}
use Rattle.layout.proofs.Parts.{LawfulVector}
use Rattle.layout.proofs.Chain.{Stands, over, fields_over, fields_read, fresh_all, before_elements-fits}
use Rattle.layout.proofs.ForwardRead.{num, ids_over, ids_read, elements_over, elements_read, vector_begun, vector_over}
use Rattle.layout.proofs.ForwardRead.{vectors_over, vectors_read, first_read, ranges_over, ranges_read, lowest}
use Rattle.layout.proofs.Forward.{map-over, map-begun, map_read, vectors_start, count_read, list_read, ranges_count, ranges_start, spans_begun, spans_read}
use Rattle.layout.proofs.FaultSteps.{repeat_fault}
use Rattle.layout.proofs.Table.{map_bytes, vector_bytes, element_bytes, range_bytes, FirstIds, FirstVectors, FirstElements, FirstRanges}

-- a clock vector in which the next element has a fault
pub element_fault : (s : List ℕ) (r e at n : ℕ) (es : List Element) (t : List ℕ) (j : ℕ) → r < 4294967296 →
    Stands s at (element_bytes n es t) → FirstElements r n es → length es < n →
    ((start b : ℕ) → Stands s start (put_elements es t) → Stands s b t → element s r start (length es) b ≡ Fault j) →
    vector s r e at ≡ Fault j
unfolding before_elements
element_fault s r e at n es t j m h l c f =
    let start = at + 4 + 4 in
    let g : Stands s start (put_elements es t) =
    over s (at + 4) 4 n (put_elements es t) (fields_over s at before_elements (put 4 n (put_elements es t)) h) in
    let so_far : repeat (element s r start) (length es) 0 start ≡ Num (length es) (start + 12 * length es) =
    elements_read s r start 0 start es t (omega arith) (omega arith) g l.elements l.distinct (fresh_all s 4 12 start
    (keys es)) ∙
    num (0 + length es) (length es) (start + 12 * length es) (start + 12 * length es) (omega arith) refl in
    vector_begun s r e at n (put_elements es t) m h l.most ∙
    ap (λ (g : Got). g ▷ λ m next. Num (e + m) next)
    (repeat_fault (element s r start) (length es) n 0 start (length es) (start + 12 * length es) j c so_far
    (f start (start + 12 * length es) g (elements_over s start es t g)))

-- a clock vector whose fixed field or count has a fault
pub vector_count_fault : (s : List ℕ) (r e at j : ℕ) → (fields s before_elements e at ▷ number s 4 ▷ limit 0 r) ≡ Fault j →
    vector s r e at ≡ Fault j
unfolding vector
vector_count_fault s r e at j f = rw f

pub first_count_fault : (s : List ℕ) (y at : ℕ) (t : List ℕ) (j : ℕ) → Stands s at (put_fields before_elements t) →
    ((z b : ℕ) → Stands s b t → (number s 4 z b ▷ empty) ≡ Fault j) → first_vector s y at ≡ Fault j
unfolding first_vector before_elements
first_count_fault s y at t j h f =
    rw (fields_read s y at before_elements t h before_elements-fits) (f 1 (at + 4) (fields_over s at before_elements t h))

pub first_fixed_fault : (s : List ℕ) (y at j : ℕ) → fields s before_elements y at ≡ Fault j → first_vector s y at ≡ Fault j
unfolding first_vector
first_fixed_fault s y at j f = rw f

module _ (R : Rules) (permitted : Permitted R.limits) where
  -- a fault in the opening or in the count r
  pub opening_fault : (s : List ℕ) (j : ℕ) → (fields s opening 0 0 ▷ number s 4 ▷ limit 0 R.limits.replicas) ≡ Fault j →
      checked_by R s ≡ Refused j
  unfolding checked replica_map
  opening_fault s j f = rw f

  -- in the next replica id
  pub id_fault : (s : List ℕ) (r : ℕ) (ids t : List ℕ) (j : ℕ) → Stands s 0 (map_bytes r ids t) → FirstIds R r ids → length ids < r →
      ((start b : ℕ) → Stands s start (put_ids ids t) → Stands s b t → replica_id R.judge s start (length ids) b ≡ Fault j) →
      checked_by R s ≡ Refused j
  unfolding checked opening
  id_fault s r ids t j h l c f =
      let g : Stands s 27 (put_ids ids t) = over s 23 4 r (put_ids ids t) (fields_over s 0 opening (put 4 r (put_ids ids t)) h) in
      let so_far : repeat (replica_id R.judge s 27) (length ids) 0 27 ≡ Num (length ids) (27 + 16 * length ids) =
      ids_read R s 27 0 27 ids t (omega arith) g l.lawful l.distinct (fresh_all s 16 16 27 ids) ∙
      num (0 + length ids) (length ids) (27 + 16 * length ids) (27 + 16 * length ids) (omega arith) refl in
      let all : replica_map R.limits.replicas R.judge s ≡ Fault j =
      map-begun R s r (put_ids ids t) permitted.replicas h l.most ∙
      repeat_fault (replica_id R.judge s 27) (length ids) r 0 27 (length ids) (27 + 16 * length ids) j c so_far
      (f 27 (27 + 16 * length ids) g (ids_over s 27 ids t g)) in
      rw all

  -- in the fields before the vectors or in the count v
  pub vectors_fault : (s : List ℕ) (ids t : List ℕ) (j : ℕ) → Stands s 0 (map_bytes (length ids) ids t) → FirstIds R (length ids) ids →
      ((b : ℕ) → Stands s b t → vector_count R.limits.ranges s b ≡ Fault j) → checked_by R s ≡ Refused j
  unfolding checked
  vectors_fault s ids t j h l f =
      rw (
        map_read R s ids t permitted.replicas h l.most l.lawful l.distinct,
        f (27 + 16 * length ids) (map-over s ids t h),
      )

  -- in the vectors
  list_fault : (s : List ℕ) (ids : List ℕ) (v : ℕ) (t : List ℕ) (j : ℕ) →
      Stands s 0 (map_bytes (length ids) ids (put_fields before_vectors (put 4 v t))) → FirstIds R (length ids) ids →
      1 ≤ v → v ≤ R.limits.ranges + 1 →
      ((b : ℕ) → Stands s b t → vector_list s (length ids) v b ≡ Fault j) → checked_by R s ≡ Refused j
  unfolding checked
  list_fault s ids v t j h l some most f =
      let rest = put_fields before_vectors (put 4 v t) in
      let at = 27 + 16 * length ids in
      let g : Stands s at rest = map-over s ids rest h in
      rw (
        map_read R s ids rest permitted.replicas h l.most l.lawful l.distinct,
        count_read R s at v t permitted.ranges g some most,
        f (at + 21) (vectors_start s at v t g),
      )

  -- in the first vector
  pub first_fault_lem : (s : List ℕ) (ids : List ℕ) (v : ℕ) (t : List ℕ) (j : ℕ) → Stands s 0 (vector_bytes ids v [] t) →
      FirstIds R (length ids) ids → FirstVectors R (length ids) v [] →
      ((b : ℕ) → Stands s b t → first_vector s 0 b ≡ Fault j) → checked_by R s ≡ Refused j
  unfolding vector_list put_vectors
  first_fault_lem s ids v t j h l w f = list_fault s ids v t j h l w.some w.most λ b g. rw (f b g)

  -- in a vector after the first
  later_fault : (s : List ℕ) (r v at : ℕ) (vs : List (List Element)) (t : List ℕ) (j : ℕ) → r < 4294967296 →
      Stands s at (put_vectors ([] ∷ vs) t) → All (LawfulVector r) vs → length vs < v - 1 →
      ((e b : ℕ) → Stands s b t → vector s r e b ≡ Fault j) → vector_list s r v at ≡ Fault j
  unfolding vector_list put_vectors put_elements
  later_fault s r v at vs t j m h l c f =
      let g : Stands s (at + 4 + 4) (put_vectors vs t) = vector_over s at [] (put_vectors vs t) h in
      let end = at + 4 + 4 + 8 * length vs + 12 * elements vs in
      rw (first_read s at (put_vectors vs t) h)
      (repeat_fault (vector s r) (length vs) (v - 1) 0 (at + 4 + 4) (0 + elements vs) end j c
      (vectors_read s r 0 (at + 4 + 4) vs t m g l)
      (f (0 + elements vs) end (vectors_over s (at + 4 + 4) vs t g)))

  next_fault : (s : List ℕ) (r v at : ℕ) (vs : List (List Element)) (t : List ℕ) (j : ℕ) → r < 4294967296 →
      Stands s at (put_vectors vs t) → get_or vs 0 [] ≡ [] → All (LawfulVector r) vs → 1 ≤ length vs → length vs < v →
      ((e b : ℕ) → Stands s b t → vector s r e b ≡ Fault j) → vector_list s r v at ≡ Fault j
  next_fault s r v at [] t j m h first l some c f = absurd (omega arith)
  next_fault s r v at (es ∷ vs) t j m h first l some c f = later_fault s r v at vs t j m (rw first at h) l.1 (omega arith) f

  pub vector_fault : (s : List ℕ) (ids : List ℕ) (v : ℕ) (vs : List (List Element)) (t : List ℕ) (j : ℕ) →
      Stands s 0 (vector_bytes ids v vs t) → FirstIds R (length ids) ids → FirstVectors R (length ids) v vs →
      1 ≤ length vs → length vs < v → ((e b : ℕ) → Stands s b t → vector s (length ids) e b ≡ Fault j) → checked_by R s ≡ Refused j
  vector_fault s ids v vs t j h l w some c f =
      list_fault s ids v (put_vectors vs t) j h l w.some w.most λ b g.
      let few : length ids < 4294967296 = omega (arith, l.most, permitted.replicas) in
      next_fault s (length ids) v b vs t j few g w.first w.clocks some c f

  -- in the fields before the ranges, in the count g or in the ranges
  pub ranges_fault : (s : List ℕ) (ids : List ℕ) (vs : List (List Element)) (t : List ℕ) (j : ℕ) →
      Stands s 0 (vector_bytes ids (length vs) vs t) → FirstIds R (length ids) ids → FirstVectors R (length ids) (length vs) vs →
      ((b : ℕ) → Stands s b t → range_list R.limits.ranges s (length vs) b ≡ Fault j) → checked_by R s ≡ Refused j
  unfolding checked
  ranges_fault s ids vs t j h l w f =
      let list = put_vectors vs t in
      let rest = put_fields before_vectors (put 4 (length vs) list) in
      let at = 27 + 16 * length ids in
      let g : Stands s at rest = map-over s ids rest h in
      let g' : Stands s (at + 21) list = vectors_start s at (length vs) list g in
      let few : length ids < 4294967296 = omega (arith, l.most, permitted.replicas) in
      rw (
        map_read R s ids rest permitted.replicas h l.most l.lawful l.distinct,
        count_read R s at (length vs) list permitted.ranges g w.some w.most,
        list_read s (length ids) (at + 21) vs t few g' w.some w.first w.clocks,
        f (at + 21 + 8 * length vs + 12 * elements vs) (vectors_over s (at + 21) vs t g'),
      )

  pub range_count_fault : (s : List ℕ) (v at j : ℕ) →
      (fields s before_ranges 0 at ▷ number s 4 ▷ limit 1 R.limits.ranges) ≡ Fault j → range_list R.limits.ranges s v at ≡ Fault j
  unfolding range_list
  range_count_fault s v at j f = rw f

  -- in the next range
  pub range_fault : (s : List ℕ) (ids : List ℕ) (vs : List (List Element)) (g : ℕ) (xs : List Range) (t : List ℕ) (j : ℕ) →
      Stands s 0 (range_bytes ids vs g xs t) → FirstIds R (length ids) ids → FirstVectors R (length ids) (length vs) vs →
      FirstRanges R (length vs) g xs → length xs < g →
      ((b : ℕ) → Stands s b t → range s (length vs) (lowest 0 xs) b ≡ Fault j) → checked_by R s ≡ Refused j
  range_fault s ids vs g xs t j h l w x c f =
      ranges_fault s ids vs (put_fields before_ranges (put 4 g (put_ranges xs t))) j h l w λ b u.
      let start = b + 12 + 4 in
      let u' : Stands s start (put_ranges xs t) = over s (b + 12) 4 g (put_ranges xs t) (ranges_count s b g (put_ranges xs t) u) in
      let few : length vs ≤ 4294967296 = omega (arith, w.most, permitted.ranges) in
      spans_begun R s (length vs) b g (put_ranges xs t) permitted.ranges u x.some x.most ∙
      ap (λ (g' : Got). g' ▷ λ low next. Num g next)
      (repeat_fault (range s (length vs)) (length xs) g 0 start (lowest 0 xs) (start + 28 * length xs) j c
      (ranges_read s (length vs) 0 start xs t few u' x.spans x.rising)
      (f (start + 28 * length xs) (ranges_over s start xs t u')))

  -- after the last range
  pub closing_fault : (s : List ℕ) (ids : List ℕ) (vs : List (List Element)) (xs : List Range) (t : List ℕ) (j : ℕ) →
      Stands s 0 (range_bytes ids vs (length xs) xs t) → FirstIds R (length ids) ids → FirstVectors R (length ids) (length vs) vs →
      FirstRanges R (length vs) (length xs) xs →
      ((b : ℕ) → Stands s b t → fields s closing 0 b ≡ Fault j) → checked_by R s ≡ Refused j
  unfolding checked
  closing_fault s ids vs xs t j h l w x f =
      let spans = put_fields before_ranges (put 4 (length xs) (put_ranges xs t)) in
      let list = put_vectors vs spans in
      let rest = put_fields before_vectors (put 4 (length vs) list) in
      let at = 27 + 16 * length ids in
      let g : Stands s at rest = map-over s ids rest h in
      let g' : Stands s (at + 21) list = vectors_start s at (length vs) list g in
      let end = at + 21 + 8 * length vs + 12 * elements vs in
      let g'' : Stands s end spans = vectors_over s (at + 21) vs spans g' in
      let few : length ids < 4294967296 = omega (arith, l.most, permitted.replicas) in
      let few' : length vs ≤ 4294967296 = omega (arith, w.most, permitted.ranges) in
      rw (
        map_read R s ids rest permitted.replicas h l.most l.lawful l.distinct,
        count_read R s at (length vs) list permitted.ranges g w.some w.most,
        list_read s (length ids) (at + 21) vs spans few g' w.some w.first w.clocks,
        spans_read R s (length vs) end xs t permitted.ranges few' g'' x.some x.most x.spans x.rising,
        f (end + 16 + 28 * length xs) (ranges_over s (end + 16) xs t (ranges_start s end (length xs) (put_ranges xs t) g'')),
      )

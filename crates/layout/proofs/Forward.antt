-- A lawful knowledge is accepted, with its own sizes, and read back as it was; how long its bytes are, and that they are
-- bytes. Each part of the bytes is read where it stands, and the place after it is the sum of the sizes so far.
use Prim.Native.Nat.{ℕ, suc, ◌+◌, ◌-◌, ◌*◌, ◌<◌, ◌≤◌}
use mathlib.Core.Path.{◌≡◌, refl, sym, ◌∙◌}
use mathlib.Core.List.{List, [], ◌∷◌}
use native.Mathlib.Omega.{arith}
use lib.ListN.{length, get_or}
use borrow.Author.Tests.{eq-eqb}
use Rattle.codec.specs.Number.{Bytes, be_at, put}
use Rattle.codec.proofs.Numbers.{put_bytes}
use Rattle.layout.specs.Got.{Num}
use Rattle.layout.specs.Checked.{Checked}
use Rattle.layout.specs.Checked.{Accepted}
use Rattle.layout.specs.Knowledge.{Rules, Element, Range, Knowledge, Field, opening, before_vectors, before_elements, before_ranges}
use Rattle.layout.specs.Knowledge.{closing, put_fields, put_ids, put_elements, put_vectors, put_ranges, encode, All, Distinct, Rising}
use Rattle.layout.specs.Knowledge.{bounds, Lawful}
use Rattle.layout.proofs.Parts.{LawfulId, LawfulVector, LawfulRange, Parts, parts}
use Rattle.layout.specs.Permitted.{Permitted, most_vectors, most_count}
use Rattle.layout.specs.Answer.{elements}
use Rattle.layout.specs.Read.{◌▷◌, repeat, fields, replica_id, range}
use Rattle.layout.specs.Parse.{◌▶◌, replica_map, vector_count, vector_list, range_list, ended, checked, checked_by}
use Rattle.layout.specs.Decode.{ids_at, vectors_at, after_vectors, ranges_at, decode}
use Rattle.layout.proofs.Chain.{Stands, stands_whole, stands_length, moved, over, reads, number_reads, limit_holds}
use Rattle.layout.proofs.Chain.{fields_over, fields_read, fresh_all, opening_fits, before_vectors-fits, before_ranges-fits, closing_fits}
use Rattle.layout.proofs.ForwardRead.{num, ids_over, ids_read, vectors_over, vectors_read, vector_over, first_read, ranges_over, ranges_read}
use Rattle.layout.proofs.ForwardDecode.{ids_at_lem, vectors_at_lem, after_vectors_lem, ranges_at_lem}

-- the bytes up to the last replica id
map-count : (s : List ℕ) (ids t : List ℕ) → Stands s 0 (put_fields opening (put 4 (length ids) (put_ids ids t))) →
    Stands s 23 (put 4 (length ids) (put_ids ids t))
unfolding opening
map-count s ids t h = fields_over s 0 opening (put 4 (length ids) (put_ids ids t)) h

pub map-start : (s : List ℕ) (ids t : List ℕ) → Stands s 0 (put_fields opening (put 4 (length ids) (put_ids ids t))) →
    Stands s 27 (put_ids ids t)
map-start s ids t h = over s 23 4 (length ids) (put_ids ids t) (map-count s ids t h)

pub map-over : (s : List ℕ) (ids t : List ℕ) → Stands s 0 (put_fields opening (put 4 (length ids) (put_ids ids t))) →
    Stands s (27 + 16 * length ids) t
map-over s ids t h = ids_over s 27 ids t (map-start s ids t h)

-- a count r within its limit stands there: then the ids are read, one after the other
pub map-begun : (R : Rules) (s : List ℕ) (r : ℕ) (t : List ℕ) → R.limits.replicas ≤ most_count →
    Stands s 0 (put_fields opening (put 4 r t)) → r ≤ R.limits.replicas → replica_map R.limits.replicas R.judge s ≡ repeat (replica_id R.judge s 27) r 0 27
unfolding replica_map opening
map-begun R s r t m h c =
    rw (
      fields_read s 0 0 opening (put 4 r t) h opening_fits,
      number_reads s 23 4 r 16 t (fields_over s 0 opening (put 4 r t) h) (omega arith),
      limit_holds 0 R.limits.replicas r 27 (omega arith) c,
    )

pub map_read : (R : Rules) (s : List ℕ) (ids t : List ℕ) → R.limits.replicas ≤ most_count →
    Stands s 0 (put_fields opening (put 4 (length ids) (put_ids ids t))) → length ids ≤ R.limits.replicas →
    All (LawfulId R) ids → Distinct ids → replica_map R.limits.replicas R.judge s ≡ Num (length ids) (27 + 16 * length ids)
map_read R s ids t m h c l u =
    map-begun R s (length ids) (put_ids ids t) m h c ∙
    ids_read R s 27 0 27 ids t (omega arith) (map-start s ids t h) l u (fresh_all s 16 16 27 ids) ∙
    num (0 + length ids) (length ids) (27 + 16 * length ids) (27 + 16 * length ids) (omega arith) refl

-- the fields up to the count v
pub vectors_count : (s : List ℕ) (at v : ℕ) (t : List ℕ) → Stands s at (put_fields before_vectors (put 4 v t)) →
    Stands s (at + 17) (put 4 v t)
unfolding before_vectors
vectors_count s at v t h = fields_over s at before_vectors (put 4 v t) h

pub vectors_start : (s : List ℕ) (at v : ℕ) (t : List ℕ) → Stands s at (put_fields before_vectors (put 4 v t)) →
    Stands s (at + 21) t
vectors_start s at v t h =
    moved s (at + 17 + 4) (at + 21) t (omega arith) (over s (at + 17) 4 v t (vectors_count s at v t h))

pub count_read : (R : Rules) (s : List ℕ) (at v : ℕ) (t : List ℕ) → R.limits.ranges ≤ most_count →
    Stands s at (put_fields before_vectors (put 4 v t)) → 1 ≤ v → v ≤ most_vectors R.limits →
    vector_count R.limits.ranges s at ≡ Num v (at + 21)
unfolding vector_count before_vectors
count_read R s at v t m h l u =
    rw (
      fields_read s 0 at before_vectors (put 4 v t) h before_vectors-fits,
      number_reads s (at + 17) 4 v 21 t (vectors_count s at v t h) (omega arith),
      limit_holds 1 (most_vectors R.limits) v (at + 17 + 4) l u,
    )
    (num v v (at + 17 + 4) (at + 21) refl (omega arith))

-- the clock vectors
later : (n : ℕ) → suc n - 1 ≡ n
later n = omega arith

first_list : (s : List ℕ) (r at : ℕ) (vs : List (List Element)) (t : List ℕ) → r < 4294967296 →
    Stands s at (put_vectors ([] ∷ vs) t) → All (LawfulVector r) vs →
    vector_list s r (suc (length vs)) at ≡ Num (elements ([] ∷ vs)) (at + 8 * suc (length vs) + 12 * elements ([] ∷ vs))
unfolding vector_list put_vectors put_elements elements
first_list s r at vs t m h l =
    rw (
      first_read s at (put_vectors vs t) h,
      later (length vs),
      vectors_read s r 0 (at + 4 + 4) vs t m (vector_over s at [] (put_vectors vs t) h) l,
    )
    (num (0 + elements vs) (0 + elements vs) (at + 4 + 4 + 8 * length vs + 12 * elements vs)
    (at + 8 * suc (length vs) + 12 * (0 + elements vs)) refl (omega arith))

pub list_read : (s : List ℕ) (r at : ℕ) (vs : List (List Element)) (t : List ℕ) → r < 4294967296 →
    Stands s at (put_vectors vs t) → 1 ≤ length vs → get_or vs 0 [] ≡ [] → All (LawfulVector r) vs →
    vector_list s r (length vs) at ≡ Num (elements vs) (at + 8 * length vs + 12 * elements vs)
list_read s r at [] t m h n f l = absurd (omega arith)
list_read s r at (es ∷ vs) t m h n f l = rw f (first_list s r at vs t m (rw f at h) l.1)

-- the ranges
pub ranges_count : (s : List ℕ) (at g : ℕ) (t : List ℕ) → Stands s at (put_fields before_ranges (put 4 g t)) →
    Stands s (at + 12) (put 4 g t)
unfolding before_ranges
ranges_count s at g t h = fields_over s at before_ranges (put 4 g t) h

pub ranges_start : (s : List ℕ) (at g : ℕ) (t : List ℕ) → Stands s at (put_fields before_ranges (put 4 g t)) → Stands s (at + 16) t
ranges_start s at g t h =
    moved s (at + 12 + 4) (at + 16) t (omega arith) (over s (at + 12) 4 g t (ranges_count s at g t h))

-- a count g within its limits stands there: then the ranges are read, one after the other
pub spans_begun : (R : Rules) (s : List ℕ) (v at g : ℕ) (t : List ℕ) → R.limits.ranges ≤ most_count →
    Stands s at (put_fields before_ranges (put 4 g t)) → 1 ≤ g → g ≤ R.limits.ranges →
    range_list R.limits.ranges s v at ≡ (repeat (range s v) g 0 (at + 12 + 4) ▷ λ low next. Num g next)
unfolding range_list before_ranges
spans_begun R s v at g t m h n c =
    rw (
      fields_read s 0 at before_ranges (put 4 g t) h before_ranges-fits,
      number_reads s (at + 12) 4 g 22 t (ranges_count s at g t h) (omega arith),
      limit_holds 1 R.limits.ranges g (at + 12 + 4) n c,
    )

pub spans_read : (R : Rules) (s : List ℕ) (v at : ℕ) (xs : List Range) (t : List ℕ) → R.limits.ranges ≤ most_count → v ≤ 4294967296 →
    Stands s at (put_fields before_ranges (put 4 (length xs) (put_ranges xs t))) → 1 ≤ length xs → length xs ≤ R.limits.ranges →
    All (LawfulRange v) xs → Rising 0 (bounds xs) →
    range_list R.limits.ranges s v at ≡ Num (length xs) (at + 16 + 28 * length xs)
spans_read R s v at xs t m w h n c l u =
    spans_begun R s v at (length xs) (put_ranges xs t) m h n c ∙
    rw (
      ranges_read s v 0 (at + 12 + 4) xs t w (over s (at + 12) 4 (length xs) (put_ranges xs t) (ranges_count s at (length xs) (put_ranges xs t) h)) l u,
      ◌▷◌,
    )
    (num (length xs) (length xs) (at + 12 + 4 + 28 * length xs) (at + 16 + 28 * length xs) refl (omega arith))

-- the end
end_over : (s : List ℕ) (at : ℕ) → Stands s at (put_fields closing []) → length s ≡ at + 13
unfolding closing
end_over s at h = omega (arith, stands_length s (at + 13) [] (fields_over s at closing [] h))

pub end_read : (s : List ℕ) (at : ℕ) (c : Checked) → Stands s at (put_fields closing []) → (fields s closing 0 at ▶ ended s c) ≡ c
unfolding closing ended
end_read s at c h =
    rw (fields_read s 0 at closing [] h closing_fits, eq-eqb (at + 13) (length s) (sym (end_over s at h)), ◌▶◌, ended)

-- the bytes of a knowledge from its ranges on, and from its vectors on
abbrev from_ranges : Knowledge → List ℕ
from_ranges k = put_fields before_ranges (put 4 (length k.ranges) (put_ranges k.ranges (put_fields closing [])))

abbrev from_vectors : Knowledge → List ℕ
from_vectors k = put_fields before_vectors (put 4 (length k.vectors) (put_vectors k.vectors (from_ranges k)))

-- where each part stands
at_front : (k : Knowledge) →
    Stands (encode k) 0 (put_fields opening (put 4 (length k.replicas) (put_ids k.replicas (from_vectors k))))
unfolding encode
at_front k = stands_whole (encode k)

at_vectors : (k : Knowledge) → Stands (encode k) (27 + 16 * length k.replicas) (from_vectors k)
at_vectors k = map-over (encode k) k.replicas (from_vectors k) (at_front k)

at_list : (k : Knowledge) → Stands (encode k) (27 + 16 * length k.replicas + 21) (put_vectors k.vectors (from_ranges k))
at_list k =
    vectors_start (encode k) (27 + 16 * length k.replicas) (length k.vectors) (put_vectors k.vectors (from_ranges k)) (at_vectors k)

at_ranges : (k : Knowledge) →
    Stands (encode k) (27 + 16 * length k.replicas + 21 + 8 * length k.vectors + 12 * elements k.vectors) (from_ranges k)
at_ranges k = vectors_over (encode k) (27 + 16 * length k.replicas + 21) k.vectors (from_ranges k) (at_list k)

at_end : (k : Knowledge) →
    Stands (encode k)
    (27 + 16 * length k.replicas + 21 + 8 * length k.vectors + 12 * elements k.vectors + 16 + 28 * length k.ranges)
    (put_fields closing [])
at_end k =
    ranges_over (encode k) (27 + 16 * length k.replicas + 21 + 8 * length k.vectors + 12 * elements k.vectors + 16) k.ranges
    (put_fields closing [])
    (ranges_start (encode k) (27 + 16 * length k.replicas + 21 + 8 * length k.vectors + 12 * elements k.vectors)
    (length k.ranges) (put_ranges k.ranges (put_fields closing [])) (at_ranges k))

pub encode-length : (k : Knowledge) →
    length (encode k) ≡ 77 + 16 * length k.replicas + 8 * length k.vectors + 12 * elements k.vectors + 28 * length k.ranges
encode-length k = end_over (encode k) _ (at_end k) ∙ omega arith

pub forward : (R : Rules) (k : Knowledge) → Permitted R.limits → Lawful R k →
    checked_by R (encode k) ≡ Accepted (length k.replicas) (length k.vectors) (elements k.vectors) (length k.ranges)
unfolding checked
forward R k p lawful =
    let l : Parts R k = parts R k lawful in
    let r = length k.replicas in
    let v = length k.vectors in
    let e = elements k.vectors in
    let g = length k.ranges in
    rw (
      map_read R (encode k) k.replicas (from_vectors k) p.replicas (at_front k) l.replicas l.ids l.distinct,
      count_read R (encode k) (27 + 16 * r) v (put_vectors k.vectors (from_ranges k)) p.ranges (at_vectors k) l.some_vector l.vectors,
      list_read (encode k) r (27 + 16 * r + 21) k.vectors (from_ranges k) (omega arith) (at_list k) l.some_vector l.first l.clocks,
      spans_read R (encode k) v (27 + 16 * r + 21 + 8 * v + 12 * e) k.ranges (put_fields closing []) p.ranges (omega arith) (at_ranges k) l.some_range l.ranges l.spans l.rising,
    )
    (end_read (encode k) (27 + 16 * r + 21 + 8 * v + 12 * e + 16 + 28 * g) (Accepted r v e g) (at_end k))

-- reading back
decode_of : (s : List ℕ) (r v a g : ℕ) → be_at s 4 23 ≡ r → be_at s 4 (44 + 16 * r) ≡ v → after_vectors s v (48 + 16 * r) ≡ a →
    be_at s 4 (a + 12) ≡ g →
    decode s ≡ record { replicas = ids_at s r 27; vectors = vectors_at s v (48 + 16 * r); ranges = ranges_at s g (a + 16) }
unfolding decode
decode_of s r v a g e f h i = rw (e, f, h, i)

pub decoded : (R : Rules) (k : Knowledge) → Permitted R.limits → Lawful R k → decode (encode k) ≡ k
decoded R k p lawful =
    let l : Parts R k = parts R k lawful in
    let r = length k.replicas in
    let v = length k.vectors in
    let e = elements k.vectors in
    let g = length k.ranges in
    let s = encode k in
    let c = 48 + 16 * r in
    let a = c + 8 * v + 12 * e in
    let list : Stands s c (put_vectors k.vectors (from_ranges k)) = moved s (27 + 16 * r + 21) c (put_vectors k.vectors (from_ranges k)) (omega arith) (at_list k) in
    let spans : Stands s a (from_ranges k) = vectors_over s c k.vectors (from_ranges k) list in
    decode_of s r v a g
    (reads s 23 4 r (put_ids k.replicas (from_vectors k)) (map-count s k.replicas (from_vectors k) (at_front k)) (omega arith))
    (reads s (44 + 16 * r) 4 v (put_vectors k.vectors (from_ranges k))
    (moved s (27 + 16 * r + 17) (44 + 16 * r) (put 4 v (put_vectors k.vectors (from_ranges k))) (omega arith)
    (vectors_count s (27 + 16 * r) v (put_vectors k.vectors (from_ranges k)) (at_vectors k)))
    (omega arith))
    (after_vectors_lem s r c k.vectors (from_ranges k) (omega arith) list l.clocks)
    (reads s (a + 12) 4 g (put_ranges k.ranges (put_fields closing [])) (ranges_count s a g (put_ranges k.ranges (put_fields closing [])) spans) (omega arith))
    ∙ rw (
      ids_at_lem R s 27 k.replicas (from_vectors k) (map-start s k.replicas (from_vectors k) (at_front k)) l.ids,
      vectors_at_lem s r c k.vectors (from_ranges k) (omega arith) list l.clocks,
      ranges_at_lem s v (a + 16) k.ranges (put_fields closing []) (omega arith) (ranges_start s a g (put_ranges k.ranges (put_fields closing [])) spans) l.spans,
    )

-- bytes
fields_bytes : (fs : List Field) (t : List ℕ) → Bytes t → Bytes (put_fields fs t)
unfolding put_fields
fields_bytes [] t b = b
fields_bytes (f ∷ fs) t b = put_bytes f.size f.value (put_fields fs t) (fields_bytes fs t b)

ids_bytes : (ids t : List ℕ) → Bytes t → Bytes (put_ids ids t)
unfolding put_ids
ids_bytes [] t b = b
ids_bytes (x ∷ xs) t b = put_bytes 16 x (put_ids xs t) (ids_bytes xs t b)

elements_bytes : (es : List Element) (t : List ℕ) → Bytes t → Bytes (put_elements es t)
unfolding put_elements
elements_bytes [] t b = b
elements_bytes (x ∷ xs) t b =
    put_bytes 4 x.key.0 (put 8 x.tick (put_elements xs t)) (put_bytes 8 x.tick (put_elements xs t) (elements_bytes xs t b))

vectors_bytes : (vs : List (List Element)) (t : List ℕ) → Bytes t → Bytes (put_vectors vs t)
unfolding put_vectors
vectors_bytes [] t b = b
vectors_bytes (es ∷ vs) t b =
    fields_bytes before_elements (put 4 (length es) (put_elements es (put_vectors vs t)))
    (put_bytes 4 (length es) (put_elements es (put_vectors vs t)) (elements_bytes es (put_vectors vs t) (vectors_bytes vs t b)))

ranges_bytes : (xs : List Range) (t : List ℕ) → Bytes t → Bytes (put_ranges xs t)
unfolding put_ranges
ranges_bytes [] t b = b
ranges_bytes (x ∷ xs) t b =
    put_bytes 24 x.bound (put 4 x.index.0 (put_ranges xs t)) (put_bytes 4 x.index.0 (put_ranges xs t) (ranges_bytes xs t b))

pub no_bytes : Bytes []
no_bytes = record { below = λ i. omega arith }

pub encode_bytes : (k : Knowledge) → Bytes (encode k)
unfolding encode
encode_bytes k =
    fields_bytes opening _ (put_bytes 4 _ _ (ids_bytes k.replicas _
    (fields_bytes before_vectors _ (put_bytes 4 _ _ (vectors_bytes k.vectors _
    (fields_bytes before_ranges _ (put_bytes 4 _ _ (ranges_bytes k.ranges _ (fields_bytes closing [] no_bytes)))))))))

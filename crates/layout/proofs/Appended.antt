-- Bytes after the encoding of a knowledge: each part is put in front of what follows, so what is appended to the whole
-- stands after its last field.
use Prim.Native.Nat.{ℕ, zero, suc, ◌/◌, ◌%◌, ◌^◌}
use mathlib.Core.Path.{◌≡◌, refl, ap, ◌∙◌}
use mathlib.Core.List.{List, [], ◌∷◌, ◌++◌}
use lib.ListN.{length}
use Rattle.codec.specs.Number.{put}
use Rattle.layout.specs.Knowledge.{Element, Range, Knowledge, Field, opening, before_vectors, before_elements, before_ranges, closing}
use Rattle.layout.specs.Knowledge.{put_fields, put_ids, put_elements, put_vectors, put_ranges, encode}
use Rattle.layout.proofs.Table.{map_bytes, range_bytes}

put_more : (n x : ℕ) (t u : List ℕ) → put n x t ++ u ≡ put n x (t ++ u)
unfolding put
put_more zero x t u = refl
put_more (suc n) x t u = ap {B = List ℕ} (λ r. x / 256 ^ n % 256 ∷ r) (put_more n x t u)

fields_more : (fs : List Field) (t u : List ℕ) → put_fields fs t ++ u ≡ put_fields fs (t ++ u)
unfolding put_fields
fields_more [] t u = refl
fields_more (f ∷ fs) t u = put_more f.size f.value (put_fields fs t) u ∙ ap (put f.size f.value) (fields_more fs t u)

ids_more : (ids t u : List ℕ) → put_ids ids t ++ u ≡ put_ids ids (t ++ u)
unfolding put_ids
ids_more [] t u = refl
ids_more (x ∷ xs) t u = put_more 16 x (put_ids xs t) u ∙ ap (put 16 x) (ids_more xs t u)

elements_more : (es : List Element) (t u : List ℕ) → put_elements es t ++ u ≡ put_elements es (t ++ u)
unfolding put_elements
elements_more [] t u = refl
elements_more (x ∷ xs) t u =
    put_more 4 x.key.0 (put 8 x.tick (put_elements xs t)) u ∙
    ap (put 4 x.key.0) (put_more 8 x.tick (put_elements xs t) u ∙ ap (put 8 x.tick) (elements_more xs t u))

vectors_more : (vs : List (List Element)) (t u : List ℕ) → put_vectors vs t ++ u ≡ put_vectors vs (t ++ u)
unfolding put_vectors
vectors_more [] t u = refl
vectors_more (es ∷ vs) t u =
    fields_more before_elements (put 4 (length es) (put_elements es (put_vectors vs t))) u ∙
    ap (put_fields before_elements) (put_more 4 (length es) (put_elements es (put_vectors vs t)) u ∙
    ap (put 4 (length es)) (elements_more es (put_vectors vs t) u ∙ ap (put_elements es) (vectors_more vs t u)))

ranges_more : (xs : List Range) (t u : List ℕ) → put_ranges xs t ++ u ≡ put_ranges xs (t ++ u)
unfolding put_ranges
ranges_more [] t u = refl
ranges_more (x ∷ xs) t u =
    put_more 24 x.bound (put 4 x.index.0 (put_ranges xs t)) u ∙
    ap (put 24 x.bound) (put_more 4 x.index.0 (put_ranges xs t) u ∙ ap (put 4 x.index.0) (ranges_more xs t u))

map_more : (ids t u : List ℕ) → map_bytes (length ids) ids t ++ u ≡ map_bytes (length ids) ids (t ++ u)
map_more ids t u =
    fields_more opening (put 4 (length ids) (put_ids ids t)) u ∙
    ap (put_fields opening) (put_more 4 (length ids) (put_ids ids t) u ∙ ap (put 4 (length ids)) (ids_more ids t u))

list_more : (vs : List (List Element)) (t u : List ℕ) →
    put_fields before_vectors (put 4 (length vs) (put_vectors vs t)) ++ u ≡ put_fields before_vectors (put 4 (length vs)
    (put_vectors vs (t ++ u)))
list_more vs t u =
    fields_more before_vectors (put 4 (length vs) (put_vectors vs t)) u ∙
    ap (put_fields before_vectors) (put_more 4 (length vs) (put_vectors vs t) u ∙ ap (put 4 (length vs)) (vectors_more vs t u))

spans_more : (xs : List Range) (t u : List ℕ) →
    put_fields before_ranges (put 4 (length xs) (put_ranges xs t)) ++ u ≡ put_fields before_ranges (put 4 (length xs)
    (put_ranges xs (t ++ u)))
spans_more xs t u =
    fields_more before_ranges (put 4 (length xs) (put_ranges xs t)) u ∙
    ap (put_fields before_ranges) (put_more 4 (length xs) (put_ranges xs t) u ∙ ap (put 4 (length xs)) (ranges_more xs t u))

pub encode-append : (k : Knowledge) (u : List ℕ) →
    encode k ++ u ≡ range_bytes k.replicas k.vectors (length k.ranges) k.ranges (put_fields closing u)
unfolding encode
encode-append k u =
    let spans = put_fields before_ranges (put 4 (length k.ranges) (put_ranges k.ranges (put_fields closing []))) in
    map_more k.replicas (put_fields before_vectors (put 4 (length k.vectors) (put_vectors k.vectors spans))) u ∙
    ap (map_bytes (length k.replicas) k.replicas)
    (list_more k.vectors spans u ∙
    ap (λ t. put_fields before_vectors (put 4 (length k.vectors) (put_vectors k.vectors t)))
    (spans_more k.ranges (put_fields closing []) u ∙
    ap (λ t. put_fields before_ranges (put 4 (length k.ranges) (put_ranges k.ranges t))) (fields_more closing [] u)))

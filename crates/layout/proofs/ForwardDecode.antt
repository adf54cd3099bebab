-- The values that `decode` reads, part by part: where a part's bytes stand, the lists read by their places are the
-- lists that were written.
use Prim.Native.Nat.{ℕ, ◌+◌, ◌*◌, ◌<◌, ◌≤◌}
use mathlib.Core.Path.{◌≡◌, refl, ap, ◌∙◌}
use mathlib.Core.List.{List, [], ◌∷◌}
use native.Mathlib.Omega.{arith}
use lib.ListN.{length}
use Rattle.codec.specs.Number.{be_at, put}
use Rattle.layout.specs.Knowledge.{Rules, Element, Range, before_elements, put_fields, put_ids, put_elements, put_vectors, put_ranges, All}
use Rattle.layout.proofs.Parts.{LawfulId, LawfulElement, LawfulVector, LawfulRange}
use Rattle.layout.specs.Answer.{elements}
use Rattle.layout.specs.Decode.{ids_at, elements_at, vectors_at, after_vectors, ranges_at}
use Rattle.layout.proofs.Chain.{Stands, moved, over, reads, fields_over}
use Rattle.layout.proofs.ForwardRead.{elements_over, vector_over}

pub ids_at_lem : (R : Rules) (s : List ℕ) (at : ℕ) (ids : List ℕ) (t : List ℕ) → Stands s at (put_ids ids t) →
    All (LawfulId R) ids → ids_at s (length ids) at ≡ ids
unfolding put_ids ids_at
ids_at_lem R s at [] t h l = refl
ids_at_lem R s at (x ∷ xs) t h l =
    cc (reads s at 16 x (put_ids xs t) h l.0.size, ids_at_lem R s (at + 16) xs t (over s at 16 x (put_ids xs t) h) l.1)

pub elements_at_lem : (s : List ℕ) (r at : ℕ) (es : List Element) (t : List ℕ) → r ≤ 4294967296 → Stands s at (put_elements es t) →
    All (LawfulElement r) es → elements_at s (length es) at ≡ es
unfolding put_elements elements_at
elements_at_lem s r at [] t m h l = refl
elements_at_lem s r at (x ∷ xs) t m h l =
    let key : be_at s 4 at ≡ x.key.0 = reads s at 4 x.key.0 (put 8 x.tick (put_elements xs t)) h (omega arith) in
    let next : Stands s (at + 4) (put 8 x.tick (put_elements xs t)) = over s at 4 x.key.0 (put 8 x.tick (put_elements xs t)) h in
    let tick : be_at s 8 (at + 4) ≡ x.tick = reads s (at + 4) 8 x.tick (put_elements xs t) next (omega arith) in
    rw (
      key,
      tick,
      elements_at_lem s r (at + 12) xs t m
          (moved s (at + 4 + 8) (at + 12) (put_elements xs t) (omega arith) (over s (at + 4) 8 x.tick (put_elements xs t) next)) l.1,
    )

-- a vector's element count, and the place after its elements
count_at_lem : (s : List ℕ) (at : ℕ) (es : List Element) (t : List ℕ) → length es < 4294967296 →
    Stands s at (put_fields before_elements (put 4 (length es) (put_elements es t))) → be_at s 4 (at + 4) ≡ length es
unfolding before_elements
count_at_lem s at es t m h =
    reads s (at + 4) 4 (length es) (put_elements es t) (fields_over s at before_elements (put 4 (length es) (put_elements es t)) h) m

next_at : (s : List ℕ) (at : ℕ) (es : List Element) (t : List ℕ) →
    Stands s at (put_fields before_elements (put 4 (length es) (put_elements es t))) → Stands s (at + 8 + 12 * length es) t
next_at s at es t h =
    moved s (at + 4 + 4 + 12 * length es) (at + 8 + 12 * length es) t (omega arith)
    (elements_over s (at + 4 + 4) es t (vector_over s at es t h))

pub vectors_at_lem : (s : List ℕ) (r at : ℕ) (vs : List (List Element)) (t : List ℕ) → r < 4294967296 →
    Stands s at (put_vectors vs t) → All (LawfulVector r) vs → vectors_at s (length vs) at ≡ vs
unfolding put_vectors vectors_at
vectors_at_lem s r at [] t m h l = refl
vectors_at_lem s r at (es ∷ vs) t m h l =
    let u : length es ≤ r = l.0.count in
    rw (
      count_at_lem s at es (put_vectors vs t) (omega arith) h,
      elements_at_lem s r (at + 8) es (put_vectors vs t) (omega arith)
          (moved s (at + 4 + 4) (at + 8) (put_elements es (put_vectors vs t)) (omega arith) (vector_over s at es (put_vectors vs t) h))
          l.0.elements,
      vectors_at_lem s r (at + 8 + 12 * length es) vs t m (next_at s at es (put_vectors vs t) h) l.1,
    )

pub after_vectors_lem : (s : List ℕ) (r at : ℕ) (vs : List (List Element)) (t : List ℕ) → r < 4294967296 →
    Stands s at (put_vectors vs t) → All (LawfulVector r) vs →
    after_vectors s (length vs) at ≡ at + 8 * length vs + 12 * elements vs
unfolding put_vectors after_vectors elements
after_vectors_lem s r at [] t m h l = omega arith
after_vectors_lem s r at (es ∷ vs) t m h l =
    let u : length es ≤ r = l.0.count in
    ap (λ n. after_vectors s (length vs) (at + 8 + 12 * n)) (count_at_lem s at es (put_vectors vs t) (omega arith) h) ∙
    after_vectors_lem s r (at + 8 + 12 * length es) vs t m (next_at s at es (put_vectors vs t) h) l.1 ∙ omega arith

pub ranges_at_lem : (s : List ℕ) (v at : ℕ) (xs : List Range) (t : List ℕ) → v ≤ 4294967296 → Stands s at (put_ranges xs t) →
    All (LawfulRange v) xs → ranges_at s (length xs) at ≡ xs
unfolding put_ranges ranges_at
ranges_at_lem s v at [] t m h l = refl
ranges_at_lem s v at (x ∷ xs) t m h l =
    let bound : be_at s 24 at ≡ x.bound = reads s at 24 x.bound (put 4 x.index.0 (put_ranges xs t)) h l.0.size in
    let next : Stands s (at + 24) (put 4 x.index.0 (put_ranges xs t)) = over s at 24 x.bound (put 4 x.index.0 (put_ranges xs t)) h in
    let small : x.index.0 < v = l.0.index in
    let index : be_at s 4 (at + 24) ≡ x.index.0 = reads s (at + 24) 4 x.index.0 (put_ranges xs t) next (omega arith) in
    rw (
      bound,
      index,
      ranges_at_lem s v (at + 28) xs t m
          (moved s (at + 24 + 4) (at + 28) (put_ranges xs t) (omega arith) (over s (at + 24) 4 x.index.0 (put_ranges xs t) next)) l.1,
    )

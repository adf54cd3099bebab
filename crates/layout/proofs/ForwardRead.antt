-- The check of a lawful knowledge's bytes, part by part: where a part's bytes stand, its reading finds no fault, gives
-- its count and ends where the next part begins. "Seen before" speaks of places: along a list, those members that are
-- still to be read are none of the numbers at the places before, and stay so as the members of the list are distinct.
use Prim.Native.Nat.{ℕ, suc, ◌+◌, ◌*◌, ◌<◌, ◌≤◌}
use mathlib.Core.Path.{◌≡◌, refl, sym, ap, ◌∙◌}
use mathlib.Core.List.{List, [], ◌∷◌}
use native.Mathlib.Omega.{arith}
use lib.ListN.{length}
use borrow.Author.Tests.{lt-ltb, le-leb}
use Rattle.codec.specs.Number.{be_at, put}
use Rattle.layout.specs.Got.{Num}
use Rattle.layout.specs.Knowledge.{Rules, largest_tick, Element, Range, before_elements, put_fields, put_ids, put_elements, put_vectors, put_ranges, All, Distinct, Rising, keys, bounds}
use Rattle.layout.proofs.Parts.{LawfulId, LawfulElement, LawfulVector, LawfulRange}
use Rattle.layout.specs.Answer.{elements}
use Rattle.layout.specs.Read.{◌▷◌, repeat, number, fields, empty, judged, replica_id, tick, element, first_vector, vector, index, range}
use Rattle.layout.proofs.Chain.{Stands, moved, over, reads, number_reads, limit_holds, fields_over, fields_read}
use Rattle.layout.proofs.Chain.{before_elements-fits, Fresh, among_none, fresh_all, fresh_mores}

-- the same number and place, written otherwise
pub num : (x y a b : ℕ) → x ≡ y → a ≡ b → Num x a ≡ Num y b
num x y a b p q = cc

-- replica ids
pub ids_over : (s : List ℕ) (at : ℕ) (ids : List ℕ) (t : List ℕ) → Stands s at (put_ids ids t) →
    Stands s (at + 16 * length ids) t
unfolding put_ids
ids_over s at [] t h = moved s at (at + 16 * 0) t (omega arith) h
ids_over s at (x ∷ xs) t h =
    moved s (at + 16 + 16 * length xs) (at + 16 * suc (length xs)) t (omega arith)
    (ids_over s (at + 16) xs t (over s at 16 x (put_ids xs t) h))

pub id_read : (R : Rules) (s : List ℕ) (start k at id : ℕ) (t : List ℕ) → Stands s at (put 16 id t) → LawfulId R id →
    Fresh s 16 16 start k id → replica_id R.judge s start k at ≡ Num (k + 1) (at + 16)
unfolding replica_id judged
id_read R s start k at id t h l d =
    rw (number_reads s at 16 id k t h l.size, among_none s 16 16 start k id d, l.acceptable, ◌▷◌)

pub ids_read : (R : Rules) (s : List ℕ) (start k at : ℕ) (ids : List ℕ) (t : List ℕ) → at ≡ start + 16 * k →
    Stands s at (put_ids ids t) → All (LawfulId R) ids → Distinct ids → All (Fresh s 16 16 start k) ids →
    repeat (replica_id R.judge s start) (length ids) k at ≡ Num (k + length ids) (at + 16 * length ids)
unfolding repeat put_ids
ids_read R s start k at [] t e h l u d = num k (k + 0) at (at + 16 * 0) (omega arith) (omega arith)
ids_read R s start k at (x ∷ xs) t e h l u d =
    rw (id_read R s start k at x (put_ids xs t) h l.0 d.0)
    (ids_read R s start (k + 1) (at + 16) xs t (omega arith) (over s at 16 x (put_ids xs t) h) l.1 u.1
    (fresh_mores s 16 16 start k x xs d.1 (ap (be_at s 16) (sym e) ∙ reads s at 16 x (put_ids xs t) h l.0.size) u.0) ∙
    num (k + 1 + length xs) (k + suc (length xs)) (at + 16 + 16 * length xs) (at + 16 * suc (length xs)) (omega arith) (omega arith))

-- the elements of one vector
pub elements_over : (s : List ℕ) (at : ℕ) (es : List Element) (t : List ℕ) → Stands s at (put_elements es t) →
    Stands s (at + 12 * length es) t
unfolding put_elements
elements_over s at [] t h = moved s at (at + 12 * 0) t (omega arith) h
elements_over s at (x ∷ xs) t h =
    moved s (at + 4 + 8 + 12 * length xs) (at + 12 * suc (length xs)) t (omega arith)
    (elements_over s (at + 4 + 8) xs t
    (over s (at + 4) 8 x.tick (put_elements xs t) (over s at 4 x.key.0 (put 8 x.tick (put_elements xs t)) h)))

pub tick_read : (s : List ℕ) (k at x : ℕ) (t : List ℕ) → Stands s at (put 8 x t) → x ≤ largest_tick →
    tick s k at ≡ Num (k + 1) (at + 8)
unfolding tick
tick_read s k at x t h l = rw (number_reads s at 8 x k t h (omega arith), le-leb x largest_tick l, ◌▷◌)

pub element_read : (s : List ℕ) (r start k at : ℕ) (x : Element) (t : List ℕ) → r ≤ 4294967296 →
    Stands s at (put 4 x.key.0 (put 8 x.tick t)) → LawfulElement r x → Fresh s 4 12 start k x.key.0 →
    element s r start k at ≡ Num (k + 1) (at + 4 + 8)
unfolding element
element_read s r start k at x t m h l d =
    rw (
      number_reads s at 4 x.key.0 k (put 8 x.tick t) h (omega arith),
      lt-ltb x.key.0 r l.key,
      among_none s 4 12 start k x.key.0 d,
      ◌▷◌,
    )
    (tick_read s k (at + 4) x.tick t (over s at 4 x.key.0 (put 8 x.tick t) h) l.tick)

pub elements_read : (s : List ℕ) (r start k at : ℕ) (es : List Element) (t : List ℕ) → r ≤ 4294967296 →
    at ≡ start + 12 * k → Stands s at (put_elements es t) → All (LawfulElement r) es → Distinct (keys es) →
    All (Fresh s 4 12 start k) (keys es) →
    repeat (element s r start) (length es) k at ≡ Num (k + length es) (at + 12 * length es)
unfolding repeat put_elements keys
elements_read s r start k at [] t m e h l u d = num k (k + 0) at (at + 12 * 0) (omega arith) (omega arith)
elements_read s r start k at (x ∷ xs) t m e h l u d =
    rw (element_read s r start k at x (put_elements xs t) m h l.0 d.0)
    (elements_read s r start (k + 1) (at + 4 + 8) xs t m (omega arith)
    (over s (at + 4) 8 x.tick (put_elements xs t) (over s at 4 x.key.0 (put 8 x.tick (put_elements xs t)) h)) l.1 u.1
    (fresh_mores s 4 12 start k x.key.0 (keys xs) d.1
    (ap (be_at s 4) (sym e) ∙ reads s at 4 x.key.0 (put 8 x.tick (put_elements xs t)) h (omega arith))
    u.0) ∙
    num (k + 1 + length xs) (k + suc (length xs)) (at + 4 + 8 + 12 * length xs) (at + 12 * suc (length xs)) (omega arith) (omega arith))

-- one clock vector, and all of them
pub vector_over : (s : List ℕ) (at : ℕ) (es : List Element) (t : List ℕ) →
    Stands s at (put_fields before_elements (put 4 (length es) (put_elements es t))) →
    Stands s (at + 4 + 4) (put_elements es t)
unfolding before_elements
vector_over s at es t h =
    over s (at + 4) 4 (length es) (put_elements es t)
    (fields_over s at before_elements (put 4 (length es) (put_elements es t)) h)

pub vectors_over : (s : List ℕ) (at : ℕ) (vs : List (List Element)) (t : List ℕ) → Stands s at (put_vectors vs t) →
    Stands s (at + 8 * length vs + 12 * elements vs) t
unfolding put_vectors elements
vectors_over s at [] t h = moved s at (at + 8 * 0 + 12 * 0) t (omega arith) h
vectors_over s at (es ∷ vs) t h =
    moved s (at + 4 + 4 + 12 * length es + 8 * length vs + 12 * elements vs)
    (at + 8 * suc (length vs) + 12 * (length es + elements vs)) t (omega arith)
    (vectors_over s (at + 4 + 4 + 12 * length es) vs t
    (elements_over s (at + 4 + 4) es (put_vectors vs t) (vector_over s at es (put_vectors vs t) h)))

pub count_read : (s : List ℕ) (x at n : ℕ) (t : List ℕ) → Stands s at (put_fields before_elements (put 4 n t)) → n < 4294967296 →
    (fields s before_elements x at ▷ number s 4) ≡ Num n (at + 4 + 4)
unfolding before_elements
count_read s x at n t h l =
    rw (fields_read s x at before_elements (put 4 n t) h before_elements-fits)
    (number_reads s (at + 4) 4 n 1 t (fields_over s at before_elements (put 4 n t) h) l)

-- a count n of at most r stands there: then the elements are read, one after the other
pub vector_begun : (s : List ℕ) (r e at n : ℕ) (t : List ℕ) → r < 4294967296 →
    Stands s at (put_fields before_elements (put 4 n t)) → n ≤ r →
    vector s r e at ≡ (repeat (element s r (at + 4 + 4)) n 0 (at + 4 + 4) ▷ λ m next. Num (e + m) next)
unfolding vector
vector_begun s r e at n t m h c =
    rw (count_read s e at n t h (omega arith), limit_holds 0 r n (at + 4 + 4) (omega arith) c)

pub vector_read : (s : List ℕ) (r e at : ℕ) (es : List Element) (t : List ℕ) → r < 4294967296 →
    Stands s at (put_fields before_elements (put 4 (length es) (put_elements es t))) → LawfulVector r es →
    vector s r e at ≡ Num (e + length es) (at + 4 + 4 + 12 * length es)
vector_read s r e at es t m h l =
    vector_begun s r e at (length es) (put_elements es t) m h l.count ∙
    rw (
      elements_read s r (at + 4 + 4) 0 (at + 4 + 4) es t (omega arith) (omega arith) (vector_over s at es t h) l.elements l.distinct
          (fresh_all s 4 12 (at + 4 + 4) (keys es)),
      ◌▷◌,
    )
    (num (e + (0 + length es)) (e + length es) (at + 4 + 4 + 12 * length es) (at + 4 + 4 + 12 * length es) (omega arith) refl)

pub vectors_read : (s : List ℕ) (r e at : ℕ) (vs : List (List Element)) (t : List ℕ) → r < 4294967296 →
    Stands s at (put_vectors vs t) → All (LawfulVector r) vs →
    repeat (vector s r) (length vs) e at ≡ Num (e + elements vs) (at + 8 * length vs + 12 * elements vs)
unfolding repeat put_vectors elements
vectors_read s r e at [] t m h l = num e (e + 0) at (at + 8 * 0 + 12 * 0) (omega arith) (omega arith)
vectors_read s r e at (es ∷ vs) t m h l =
    rw (vector_read s r e at es (put_vectors vs t) m h l.0)
    (vectors_read s r (e + length es) (at + 4 + 4 + 12 * length es) vs t m
    (elements_over s (at + 4 + 4) es (put_vectors vs t) (vector_over s at es (put_vectors vs t) h)) l.1 ∙
    num (e + length es + elements vs) (e + (length es + elements vs))
    (at + 4 + 4 + 12 * length es + 8 * length vs + 12 * elements vs)
    (at + 8 * suc (length vs) + 12 * (length es + elements vs)) (omega arith) (omega arith))

pub first_read : (s : List ℕ) (at : ℕ) (t : List ℕ) → Stands s at (put_fields before_elements (put 4 0 t)) →
    first_vector s 0 at ≡ Num 0 (at + 4 + 4)
unfolding first_vector empty
first_read s at t h = rw (count_read s 0 at 0 t h (omega arith), ◌▷◌)

-- ranges
pub ranges_over : (s : List ℕ) (at : ℕ) (xs : List Range) (t : List ℕ) → Stands s at (put_ranges xs t) →
    Stands s (at + 28 * length xs) t
unfolding put_ranges
ranges_over s at [] t h = moved s at (at + 28 * 0) t (omega arith) h
ranges_over s at (x ∷ xs) t h =
    moved s (at + 24 + 4 + 28 * length xs) (at + 28 * suc (length xs)) t (omega arith)
    (ranges_over s (at + 24 + 4) xs t
    (over s (at + 24) 4 x.index.0 (put_ranges xs t) (over s at 24 x.bound (put 4 x.index.0 (put_ranges xs t)) h)))

-- the least bound that may follow
abbrev pub lowest : ℕ → List Range → ℕ
lowest low [] = low
lowest low (x ∷ xs) = lowest (suc x.bound) xs

pub index_read : (s : List ℕ) (v low at i : ℕ) (t : List ℕ) → v ≤ 4294967296 → Stands s at (put 4 i t) → i < v →
    index s v low at ≡ Num low (at + 4)
unfolding index
index_read s v low at i t m h l = rw (number_reads s at 4 i low t h (omega arith), lt-ltb i v l, ◌▷◌)

pub range_read : (s : List ℕ) (v low at : ℕ) (x : Range) (t : List ℕ) → v ≤ 4294967296 →
    Stands s at (put 24 x.bound (put 4 x.index.0 t)) → LawfulRange v x → low ≤ x.bound →
    range s v low at ≡ Num (suc x.bound) (at + 24 + 4)
unfolding range
range_read s v low at x t m h l b =
    rw (number_reads s at 24 x.bound low (put 4 x.index.0 t) h l.size, le-leb low x.bound b, ◌▷◌)
    (index_read s v (suc x.bound) (at + 24) x.index.0 t m (over s at 24 x.bound (put 4 x.index.0 t) h) l.index)

pub ranges_read : (s : List ℕ) (v low at : ℕ) (xs : List Range) (t : List ℕ) → v ≤ 4294967296 →
    Stands s at (put_ranges xs t) → All (LawfulRange v) xs → Rising low (bounds xs) →
    repeat (range s v) (length xs) low at ≡ Num (lowest low xs) (at + 28 * length xs)
unfolding repeat put_ranges bounds
ranges_read s v low at [] t m h l u = num low low at (at + 28 * 0) refl (omega arith)
ranges_read s v low at (x ∷ xs) t m h l u =
    rw (range_read s v low at x (put_ranges xs t) m h l.0 u.0)
    (ranges_read s v (suc x.bound) (at + 24 + 4) xs t m
    (over s (at + 24) 4 x.index.0 (put_ranges xs t) (over s at 24 x.bound (put 4 x.index.0 (put_ranges xs t)) h)) l.1 u.1 ∙
    ap (Num (lowest (suc x.bound) xs)) (omega arith))

-- A tick that is written over another leaves the bytes of the knowledge in which it is set (`written_bytes`). As both have eight bytes, what
-- stands before and behind stays where it is (`over`); so each element, each vector and the whole are put as before, but for the tick. Where
-- the keys of a vector are distinct, the element that is looked at first is the first one that has the key (`vector_once`).
use Prim.Native.Nat.{ℕ, zero, suc, ◌+◌, ◌*◌, ◌≤◌, ◌<◌}
use mathlib.Core.Path.{◌≡◌, refl, sym, ap, ap₂, ◌∙◌, subst}
use mathlib.Core.Logic.{inl, inr}
use mathlib.Core.List.{List, [], ◌∷◌, ◌++◌, append_assoc}
use native.Mathlib.Omega.{arith}
use lib.Dec.{eqb}
use lib.ListN.{length, drop, length-append}
use lib.Seq.{take_at, drop_at}
use borrow.Author.Tests.{eq-eqb, ne_eqb, lt-ltb, le-ltb}
use Rattle.codec.specs.Number.{be_at, put}
use Rattle.codec.specs.Part.{placed, bytes}
use Rattle.codec.proofs.Numbers.{put-length, put-append}
use Rattle.codec.proofs.Writing.{bytes-length, placed_in, placed-length}
use Rattle.layout.specs.Knowledge.{Field, Element, Range, Knowledge, All, Distinct, keys}
use Rattle.layout.specs.Knowledge.{opening, before_vectors, before_elements, before_ranges, closing}
use Rattle.layout.specs.Knowledge.{put_fields, put_ids, put_elements, put_vectors, put_ranges, encode}
use Rattle.layout.specs.Decode.{elements_at, vectors_at, after_vectors}
use Rattle.layout.specs.MethodPlaces.{vectors_place, count_at}
use Rattle.layout.proofs.Appended.{encode-append}
use Rattle.layout.proofs.Places.{elements-length, after-suc, after_later}
use Rattle.layout.proofs.Runs.{run-append}
use Rattle.ticks.proofs.Lists.{Among, all_among, less, same, more, order}
use Rattle.ticks.proofs.Equality.{eqb_exact, exact?}
use Rattle.lookup.specs.Method.{elements_there, element_at, elements_here}
use Rattle.lookup.proofs.Loops.{there_all, here_is}
use Rattle.results_copied.specs.MethodRaised.{tick_set, ticks_set, knowledge_set, first_written, vector_written, vectors_written}
use Rattle.results_copied.proofs.TickSet.{set-nil, set_here, set-later, length-set, vectors-nil, vectors-cons, vectors_count}

-- ---- bytes written over by as many others

over : (l b b' r : List ℕ) (n : ℕ) → n ≡ length l → length b ≡ length b' → placed (l ++ (b ++ r)) n b' ≡ l ++ (b' ++ r)
over l b b' r n e f =
    let room : n + length b' ≤ length (l ++ (b ++ r)) = omega (arith, length-append l (b ++ r), length-append b r) in
    let split : length (l ++ b) ≡ n + length b' = omega (arith, length-append l b) in
    placed_in (l ++ (b ++ r)) n b' room
    ∙ ap₂ (λ x y. x ++ (b' ++ y)) (take_at l (b ++ r) n (sym e))
    (ap (drop (n + length b')) (sym (append_assoc l b r)) ∙ drop_at (l ++ b) r (n + length b') split)

-- ---- a number more in front

shift : (a : List ℕ) (n x : ℕ) (t : List ℕ) → a ++ put n x t ≡ (a ++ put n x []) ++ t
shift a n x t = ap (λ y. a ++ y) (put-append n x t) ∙ sym (append_assoc a (put n x []) t)

shift_length : (a : List ℕ) (n x : ℕ) → length (a ++ put n x []) ≡ length a + n
shift_length a n x = length-append a (put n x []) ∙ ap (λ m. length a + m) (put-length n x [] ∙ omega arith)

module _ (a : List ℕ) (n x m y : ℕ) where
  abbrev both : List ℕ
  both = (a ++ put n x []) ++ put m y []

  shift_both : (t : List ℕ) → a ++ put n x (put m y t) ≡ both ++ t
  shift_both t = shift a n x (put m y t) ∙ shift (a ++ put n x []) m y t

  both-length : length both ≡ length a + n + m
  both-length = shift_length (a ++ put n x []) m y ∙ ap (λ k. k + m) (shift_length a n x)

-- ---- elements

elements-append : (es : List Element) (t : List ℕ) → put_elements es t ≡ put_elements es [] ++ t
unfolding put_elements
elements-append [] t = refl
elements-append (x ∷ xs) t =
    let k = x.key.0 in
    ap (λ r. put 4 k (put 8 x.tick r)) (elements-append xs t)
    ∙ shift_both [] 4 k 8 x.tick (put_elements xs [] ++ t)
    ∙ sym (append_assoc (both [] 4 k 8 x.tick) (put_elements xs []) t)
    ∙ ap (λ r. r ++ t) (sym (shift_both [] 4 k 8 x.tick (put_elements xs [])))

elements_size : (es : List Element) → length (put_elements es []) ≡ 12 * length es
unfolding put_elements
elements_size [] = refl
elements_size (x ∷ xs) =
    put-length 4 x.key.0 (put 8 x.tick (put_elements xs []))
    ∙ ap (λ m. 4 + m) (put-length 8 x.tick (put_elements xs []))
    ∙ omega (arith, elements_size xs)

module _ (key t : ℕ) where
  pub first-nil : (u : List ℕ) (at : ℕ) → first_written key t u at [] ≡ u
  unfolding first_written
  first-nil u at = refl

  pub first_here : (u : List ℕ) (at : ℕ) (x : Element) (xs : List Element) → x.key.0 ≡ key
      → first_written key t u at (x ∷ xs) ≡ placed u (at + 4) (bytes 8 t)
  unfolding first_written
  first_here u at x xs e = rw (eq-eqb x.key.0 key e, first_written)

  pub first_later : (u : List ℕ) (at : ℕ) (x : Element) (xs : List Element) → (x.key.0 ≡ key → ⊥)
      → first_written key t u at (x ∷ xs) ≡ first_written key t u (at + 12) xs
  unfolding first_written
  first_later u at x xs n = rw (ne_eqb x.key.0 key n, first_written)

  pub first-length : (u : List ℕ) (at : ℕ) (es : List Element) → length (first_written key t u at es) ≡ length u
  first-length u at [] = ap length (first-nil u at)
  first-length u at (x ∷ xs) =
      elim (exact? eqb eqb_exact x.key.0 key) [
        | inl e ↦ ap length (first_here u at x xs e) ∙ placed-length u (at + 4) (bytes 8 t)
        | inr n ↦ ap length (first_later u at x xs n) ∙ first-length u (at + 12) xs
      ]

  elements_over : (es : List Element) (a c : List ℕ) (n : ℕ) → n ≡ length a
      → first_written key t (a ++ put_elements es c) n es ≡ a ++ put_elements (tick_set key t es) c
  unfolding put_elements bytes
  elements_over [] a c n e = first-nil (a ++ c) n ∙ ap (λ es. a ++ put_elements es c) (sym (set-nil key t))
  elements_over (x ∷ xs) a c n e =
      elim (exact? eqb eqb_exact x.key.0 key) [ inl f ↦ here f | inr f ↦ later f (elements_over xs) ]
    where
      k : ℕ
      k = x.key.0

      rest : List ℕ
      rest = put_elements xs c

      split : (y : ℕ) → a ++ put 4 k (put 8 y rest) ≡ (a ++ put 4 k []) ++ (put 8 y [] ++ rest)
      split y = shift a 4 k (put 8 y rest) ∙ ap (λ r. (a ++ put 4 k []) ++ r) (put-append 8 y rest)

      here : x.key.0 ≡ key
          → first_written key t (a ++ put 4 k (put 8 x.tick rest)) n (x ∷ xs) ≡ a ++ put_elements (tick_set key t (x ∷ xs)) c
      here f =
          first_here (a ++ put 4 k (put 8 x.tick rest)) n x xs f
          ∙ ap (λ w. placed w (n + 4) (put 8 t [])) (split x.tick)
          ∙ over (a ++ put 4 k []) (put 8 x.tick []) (put 8 t []) rest (n + 4) (omega (arith, e, shift_length a 4 k))
          (bytes-length 8 x.tick ∙ sym (bytes-length 8 t))
          ∙ sym (split t)
          ∙ ap (λ es. a ++ put_elements es c) (sym (set_here key t x xs f))

      later : (x.key.0 ≡ key → ⊥)
          → ((a c : List ℕ) (n : ℕ) → n ≡ length a → first_written key t (a ++ put_elements xs c) n xs ≡ a ++ put_elements (tick_set key t xs) c)
          → first_written key t (a ++ put 4 k (put 8 x.tick rest)) n (x ∷ xs) ≡ a ++ put_elements (tick_set key t (x ∷ xs)) c
      later f ih =
          let s = shift_both a 4 k 8 x.tick in
          first_later (a ++ put 4 k (put 8 x.tick rest)) n x xs f
          ∙ ap (λ w. first_written key t w (n + 12) xs) (s rest)
          ∙ ih (both a 4 k 8 x.tick) c (n + 12) (omega (arith, e, both-length a 4 k 8 x.tick))
          ∙ sym (s (put_elements (tick_set key t xs) c))
          ∙ ap (λ es. a ++ put_elements es c) (sym (set-later key t x xs f))

-- ---- the element that is looked at first

key_among : (s : List ℕ) (n at k : ℕ) → k < n → Among (be_at s 4 (at + 12 * k)) (keys (elements_at s n at))
unfolding elements_at keys
key_among s zero at k h = absurd (omega arith)
key_among s (suc n) at zero h = let e : at + 12 * 0 ≡ at = omega arith in inl (ap (be_at s 4) e)
key_among s (suc n) at (suc k) h =
    let e : at + 12 * suc k ≡ at + 12 + 12 * k = omega arith in
    inr (subst (λ p. Among (be_at s 4 p) (keys (elements_at s n (at + 12)))) (sym e) (key_among s n (at + 12) k (omega arith)))

module _ (key t : ℕ) (s u : List ℕ) where
  first_index_lem : (n at k : ℕ) → k < n → be_at s 4 (at + 12 * k) ≡ key → Distinct (keys (elements_at s n at))
      → first_written key t u at (elements_at s n at) ≡ placed u (at + 12 * k + 4) (bytes 8 t)
  unfolding elements_at keys
  first_index_lem zero at k h e d = absurd (omega arith)
  first_index_lem (suc n) at zero h e d =
      let z : at + 12 * 0 ≡ at = omega arith in
      first_here key t u at (element_at s at) (elements_at s n (at + 12)) (ap (be_at s 4) (sym z) ∙ e)
      ∙ ap (λ p. placed u (p + 4) (bytes 8 t)) (sym z)
  first_index_lem (suc n) at (suc k) h e d =
      let z : at + 12 * suc k ≡ at + 12 + 12 * k = omega arith in
      let f : be_at s 4 (at + 12 + 12 * k) ≡ key = ap (be_at s 4) (sym z) ∙ e in
      let l : k < n = omega arith in
      let m : Among key (keys (elements_at s n (at + 12))) =
      subst (λ x. Among x (keys (elements_at s n (at + 12)))) f (key_among s n (at + 12) k l) in
      first_later key t u at (element_at s at) (elements_at s n (at + 12))
      (all_among (λ x. be_at s 4 at ≡ x → ⊥) (keys (elements_at s n (at + 12))) d.0 key m)
      ∙ first_index_lem n (at + 12) k l f d.1
      ∙ ap (λ p. placed u (p + 4) (bytes 8 t)) (sym z)

  module _ (at : ℕ) where
    abbrev found : List ℕ
    found = first_written key t u (at + 8) (elements_here s at)

    pub vector_beyond : elements_there s at ≤ key → vector_written key t s u at ≡ found
    unfolding vector_written
    vector_beyond h = rw (le-ltb key (elements_there s at) h, vector_written)

    module _ (h : key < elements_there s at) where
      pub vector_guessed : be_at s 4 (at + 8 + 12 * key) ≡ key → vector_written key t s u at ≡ placed u (at + 8 + 12 * key + 4) (bytes 8 t)
      unfolding vector_written
      vector_guessed e = rw (lt-ltb key (elements_there s at) h, vector_written, eq-eqb (be_at s 4 (at + 8 + 12 * key)) key e)

      pub vector_other : (be_at s 4 (at + 8 + 12 * key) ≡ key → ⊥) → vector_written key t s u at ≡ found
      unfolding vector_written
      vector_other n = rw (lt-ltb key (elements_there s at) h, vector_written, ne_eqb (be_at s 4 (at + 8 + 12 * key)) key n)

    vector_once : Distinct (keys (elements_here s at)) → vector_written key t s u at ≡ found
    unfolding elements_here
    vector_once d =
        elim (order key (elements_there s at)) [
          | less h ↦ elim (exact? eqb eqb_exact (be_at s 4 (at + 8 + 12 * key)) key) [
            | inl e ↦ vector_guessed h e ∙ sym (first_index_lem (elements_there s at) (at + 8) key h e d)
            | inr n ↦ vector_other h n
          ]
          | same h ↦ vector_beyond (omega arith)
          | more h ↦ vector_beyond (omega arith)
        ]

    pub vector-length : length (vector_written key t s u at) ≡ length u
    vector-length =
        elim (order key (elements_there s at)) [
          | less h ↦ elim (exact? eqb eqb_exact (be_at s 4 (at + 8 + 12 * key)) key) [
            | inl e ↦ ap length (vector_guessed h e) ∙ placed-length u (at + 8 + 12 * key + 4) (bytes 8 t)
            | inr n ↦ ap length (vector_other h n) ∙ first-length key t u (at + 8) (elements_here s at)
          ]
          | same h ↦ ap length (vector_beyond (omega arith)) ∙ first-length key t u (at + 8) (elements_here s at)
          | more h ↦ ap length (vector_beyond (omega arith)) ∙ first-length key t u (at + 8) (elements_here s at)
        ]

-- ---- vectors

module _ (key t : ℕ) (s : List ℕ) where
  pub vectors_none : (u : List ℕ) (at : ℕ) → vectors_written key t s u 0 at ≡ u
  unfolding vectors_written
  vectors_none u at = refl

  pub vectors_next : (u : List ℕ) (n at : ℕ)
      → vectors_written key t s u (suc n) at ≡ vectors_written key t s (vector_written key t s u at) n (at + 8 + 12 * elements_there s at)
  unfolding vectors_written
  vectors_next u n at = refl

  -- the n vectors from a place on, all there and put behind other bytes
  vectors_over : (n : ℕ) (a c : List ℕ) (at : ℕ) → at ≡ length a → after_vectors s n at ≤ length s
      → All (λ es. Distinct (keys es)) (vectors_at s n at)
      → vectors_written key t s (a ++ put_vectors (vectors_at s n at) c) n at ≡ a ++ put_vectors (ticks_set key t (vectors_at s n at)) c
  unfolding put_vectors put_fields before_elements vectors_at
  vectors_over zero a c at e h d =
      vectors_none (a ++ c) at ∙ ap (λ vs. a ++ put_vectors vs c) (sym (vectors-nil key t))
  vectors_over (suc n) a c at e h d =
      let m = count_at s at in
      let next = at + 8 + 12 * m in
      let es = elements_at s m (at + 8) in
      let fs = tick_set key t es in
      let rest = put_vectors (vectors_at s n next) c in
      let put_on = put_vectors (ticks_set key t (vectors_at s n next)) c in
      let there = there_all s at m refl (omega (arith, after-suc s n at, after_later s n next)) in
      let here : elements_here s at ≡ es = here_is s at m there in
      let l : length es ≡ m = elements-length s m (at + 8) in
      let a1 = both a 4 1 4 (length es) in
      let s1 = shift_both a 4 1 4 (length es) in
      let l1 = both-length a 4 1 4 (length es) in
      let a2 = a1 ++ put_elements fs [] in
      let s2 : (r : List ℕ) → a1 ++ put_elements fs r ≡ a2 ++ r =
      λ r. ap (λ y. a1 ++ y) (elements-append fs r) ∙ sym (append_assoc a1 (put_elements fs []) r) in
      let l2 : length a2 ≡ length a + 8 + 12 * m =
      omega (arith, length-append a1 (put_elements fs []), elements_size fs, length-set key t es, l1, l) in
      vectors_next (a ++ put 4 1 (put 4 (length es) (put_elements es rest))) n at
      ∙ ap₂ (λ u j. vectors_written key t s u n (at + 8 + 12 * j))
      (vector_once key t s (a ++ put 4 1 (put 4 (length es) (put_elements es rest))) at (subst (λ xs. Distinct (keys xs)) (sym here) d.0)
      ∙ ap₂ (λ u xs. first_written key t u (at + 8) xs) (s1 (put_elements es rest)) here
      ∙ elements_over key t es a1 rest (at + 8) (omega (arith, e, l1))
      ∙ s2 rest)
      (sym there.is)
      ∙ vectors_over n a2 c next (omega (arith, e, l2)) (omega (arith, after-suc s n at)) d.1
      ∙ sym (s2 put_on)
      ∙ sym (s1 (put_elements fs put_on))
      ∙ ap (λ j. a ++ put 4 1 (put 4 j (put_elements fs put_on))) (sym (length-set key t es))
      ∙ ap (λ vs. a ++ put_vectors vs c) (sym (vectors-cons key t es (vectors_at s n next)))

-- ---- the knowledge

ids-append : (ids t : List ℕ) → put_ids ids t ≡ put_ids ids [] ++ t
unfolding put_ids
ids-append [] t = refl
ids-append (x ∷ xs) t =
    ap (put 16 x) (ids-append xs t) ∙ put-append 16 x (put_ids xs [] ++ t) ∙ sym (append_assoc (put 16 x []) (put_ids xs []) t)
    ∙ ap (λ r. r ++ t) (sym (put-append 16 x (put_ids xs [])))

ids_size : (ids t : List ℕ) → length (put_ids ids t) ≡ 16 * length ids + length t
unfolding put_ids
ids_size [] t = omega arith
ids_size (x ∷ xs) t = put-length 16 x (put_ids xs t) ∙ omega (arith, ids_size xs t)

total : List Field → ℕ
total [] = 0
total (f ∷ fs) = f.size + total fs

fields_size : (fs : List Field) (t : List ℕ) → length (put_fields fs t) ≡ total fs + length t
unfolding put_fields total
fields_size [] t = omega arith
fields_size (f ∷ fs) t = put-length f.size f.value (put_fields fs t) ∙ omega (arith, fields_size fs t)

-- what stands before the vectors, and what stands behind them where bytes follow the whole
front : List ℕ → ℕ → List ℕ → List ℕ
front ids v t = put_fields opening (put 4 (length ids) (put_ids ids (put_fields before_vectors (put 4 v t))))

back : List Range → List ℕ → List ℕ
back xs z = put_fields before_ranges (put 4 (length xs) (put_ranges xs (put_fields closing z)))

-- putting is appending, and so is putting twice
record Puts (f : List ℕ → List ℕ) : Type 0 where
  is : (t : List ℕ) → f t ≡ f [] ++ t

puts_both : (f g : List ℕ → List ℕ) → Puts f → Puts g → Puts (λ t. f (g t))
puts_both f g a b = record {
  is = λ t.
      ap f (b.is t) ∙ a.is (g [] ++ t) ∙ sym (append_assoc (f []) (g []) t) ∙ ap (λ r. r ++ t) (sym (a.is (g [])));
}

front-append : (ids : List ℕ) (v : ℕ) (t : List ℕ) → front ids v t ≡ front ids v [] ++ t
unfolding front
front-append ids v t =
    (puts_both (put_fields opening) (λ r. put 4 (length ids) (put_ids ids (put_fields before_vectors (put 4 v r))))
    (record { is = run-append opening })
    (puts_both (put 4 (length ids)) (λ r. put_ids ids (put_fields before_vectors (put 4 v r))) (record { is = put-append 4 (length ids) })
    (puts_both (put_ids ids) (λ r. put_fields before_vectors (put 4 v r)) (record { is = ids-append ids })
    (puts_both (put_fields before_vectors) (put 4 v) (record { is = run-append before_vectors }) (record { is = put-append 4 v }))))).is t

front_size : (ids : List ℕ) (v : ℕ) → length (front ids v []) ≡ vectors_place (length ids)
unfolding front opening before_vectors total
front_size ids v =
    fields_size opening (put 4 (length ids) (put_ids ids (put_fields before_vectors (put 4 v []))))
    ∙ ap (λ m. 23 + m) (put-length 4 (length ids) (put_ids ids (put_fields before_vectors (put 4 v [])))
    ∙ ap (λ m. 4 + m) (ids_size ids (put_fields before_vectors (put 4 v []))
    ∙ ap (λ m. 16 * length ids + m) (fields_size before_vectors (put 4 v []) ∙ ap (λ m. 17 + m) (put-length 4 v []))))
    ∙ omega arith

encode_front : (k : Knowledge) (z : List ℕ)
    → encode k ++ z ≡ front k.replicas (length k.vectors) [] ++ put_vectors k.vectors (back k.ranges z)
unfolding front back
encode_front k z = encode-append k z ∙ front-append k.replicas (length k.vectors) (put_vectors k.vectors (back k.ranges z))

module _ (key t : ℕ) (s : List ℕ) (k : Knowledge) (v : ℕ) (is : k.vectors ≡ vectors_at s v (vectors_place (length k.replicas)))
    (inside : after_vectors s v (vectors_place (length k.replicas)) ≤ length s) (once : All (λ es. Distinct (keys es)) k.vectors)
    (z : List ℕ) where
  abbrev before : List ℕ
  before = front k.replicas (length k.vectors) []

  abbrev start : ℕ
  start = vectors_place (length k.replicas)

  set_front : encode (knowledge_set key t k) ++ z ≡ before ++ put_vectors (ticks_set key t k.vectors) (back k.ranges z)
  unfolding knowledge_set
  set_front =
      encode_front (knowledge_set key t k) z
      ∙ ap (λ n. front k.replicas n [] ++ put_vectors (ticks_set key t k.vectors) (back k.ranges z)) (vectors_count key t k.vectors)

  pub written_bytes : vectors_written key t s (encode k ++ z) v start ≡ encode (knowledge_set key t k) ++ z
  written_bytes =
      ap (λ u. vectors_written key t s u v start) (encode_front k z ∙ ap (λ vs. before ++ put_vectors vs (back k.ranges z)) is)
      ∙ vectors_over key t s v before (back k.ranges z) start (sym (front_size k.replicas (length k.vectors))) inside
      (subst (All (λ es. Distinct (keys es))) is once)
      ∙ ap (λ vs. before ++ put_vectors (ticks_set key t vs) (back k.ranges z)) (sym is)
      ∙ sym set_front

-- Setting the tick of a key in each vector is raising it. A vector whose tick is set has the same keys, the new tick under the key and each
-- other tick as it was. Setting the old tick again gives the vector back, so vectors that differ, and all have the same old tick, still
-- differ. Hence a knowledge in normal form in which a replica has one tick, of 1 or more, for all items stays in normal form, and knows what
-- `raise` knows: the two are equal (`set-raise`). It does not matter where the replica stands in the map.
use Prim.Native.Nat.{ℕ, zero, suc, ◌≤◌, ◌<◌}
use mathlib.Core.Path.{◌≡◌, refl, sym, ap, ◌∙◌, subst}
use mathlib.Core.Logic.{◌⊎◌, inl, inr}
use mathlib.Core.Option.{Option, none, some}
use mathlib.Core.List.{List, [], ◌∷◌}
use native.Mathlib.Omega.{arith}
use lib.Dec.{eqb}
use lib.ListN.{length, get_or}
use borrow.Author.Tests.{eq-eqb, ne_eqb}
use Rattle.layout.specs.declared.VectorIndex.{VectorIndex}
use Rattle.layout.specs.Knowledge.{Element, Knowledge, All, Rising, keys, bounds}
use Rattle.ticks.specs.Meaning.{highest, place, tick_at, index_from, vector_found, vector_at, vector_of, known, indices, index_of}
use Rattle.ticks.specs.Meaning.{Sound, Formed, Normal}
use Rattle.ticks.specs.Operations.{known_raised, raise}
use Rattle.ticks.proofs.Lists.{Among, all_among, among?}
use Rattle.ticks.proofs.Equality.{eqb_exact, exact?, place_found}
use Rattle.ticks.proofs.Vectors.{tick_same, tick_other, key_tick}
use Rattle.ticks.proofs.Numbering.{indices-length, found_none, found_some}
use Rattle.ticks.proofs.Written.{among_place, among_get, known_in, known_out}
use Rattle.ticks.proofs.Rebuilt.{used_index}
use Rattle.ticks.proofs.Unique.{vector_bound, normal_unique}
use Rattle.ticks.proofs.Operations.{raised_own, raised_other, known_raise, normal_raise}
use Rattle.results_copied.specs.MethodRaised.{with_tick, tick_set, ticks_set, knowledge_set, OneTick}

-- One vector

module _ (key t : ℕ) where
  pub set-nil : tick_set key t [] ≡ []
  unfolding tick_set
  set-nil = refl

  pub set_here : (x : Element) (xs : List Element) → x.key.0 ≡ key → tick_set key t (x ∷ xs) ≡ with_tick x t ∷ xs
  unfolding tick_set
  set_here x xs e = rw (eq-eqb x.key.0 key e, tick_set)

  pub set-later : (x : Element) (xs : List Element) → (x.key.0 ≡ key → ⊥) → tick_set key t (x ∷ xs) ≡ x ∷ tick_set key t xs
  unfolding tick_set
  set-later x xs n = rw (ne_eqb x.key.0 key n, tick_set)

  pub keys-set : (es : List Element) → keys (tick_set key t es) ≡ keys es
  unfolding keys
  keys-set [] = ap keys set-nil
  keys-set (x ∷ xs) =
      elim (exact? eqb eqb_exact x.key.0 key) [
        | inl e ↦ ap keys (set_here x xs e)
        | inr n ↦ ap keys (set-later x xs n) ∙ ap (λ ks. x.key.0 ∷ ks) (keys-set xs)
      ]

  pub length-set : (es : List Element) → length (tick_set key t es) ≡ length es
  length-set [] = ap length set-nil
  length-set (x ∷ xs) =
      elim (exact? eqb eqb_exact x.key.0 key) [
        | inl e ↦ ap length (set_here x xs e)
        | inr n ↦ ap length (set-later x xs n) ∙ ap suc (length-set xs)
      ]

  pub tick-set : (es : List Element) → Among key (keys es) → tick_at (tick_set key t es) key ≡ t
  unfolding keys
  tick-set [] m = elim m [ ]
  tick-set (x ∷ xs) m =
      elim (exact? eqb eqb_exact x.key.0 key) [
        | inl e ↦ ap (λ v. tick_at v key) (set_here x xs e) ∙ tick_same (with_tick x t) xs key e
        | inr n ↦ ap (λ v. tick_at v key) (set-later x xs n) ∙ tick_other x (tick_set key t xs) key n ∙ tick-set xs (later n m)
      ]
    where
      later : (x.key.0 ≡ key → ⊥) → (key ≡ x.key.0) ⊎ Among key (keys xs) → Among key (keys xs)
      later n (inl a) = absurd (n (sym a))
      later n (inr b) = b

  pub tick_kept : (es : List Element) (q : ℕ) → (q ≡ key → ⊥) → tick_at (tick_set key t es) q ≡ tick_at es q
  tick_kept [] q d = ap (λ v. tick_at v q) set-nil
  tick_kept (x ∷ xs) q d =
      elim (exact? eqb eqb_exact x.key.0 key) [
        | inl e ↦
            let n : x.key.0 ≡ q → ⊥ = λ f. d (sym f ∙ e) in
            ap (λ v. tick_at v q) (set_here x xs e) ∙ tick_other (with_tick x t) xs q n ∙ sym (tick_other x xs q n)
        | inr n ↦ ap (λ v. tick_at v q) (set-later x xs n) ∙ after n (exact? eqb eqb_exact x.key.0 q) (tick_kept xs q d)
      ]
    where
      after : (x.key.0 ≡ key → ⊥) → (x.key.0 ≡ q) ⊎ (x.key.0 ≡ q → ⊥) → tick_at (tick_set key t xs) q ≡ tick_at xs q
          → tick_at (x ∷ tick_set key t xs) q ≡ tick_at (x ∷ xs) q
      after n (inl f) h = tick_same x (tick_set key t xs) q f ∙ sym (tick_same x xs q f)
      after n (inr f) h = tick_other x (tick_set key t xs) q f ∙ h ∙ sym (tick_other x xs q f)

  -- what holds of every element, whatever its tick, or of the new tick
  pub all_set : (P : Element → Type 0) → ((x : Element) → P x → P (with_tick x t)) → (es : List Element) → All P es
      → All P (tick_set key t es)
  all_set P f [] a = subst (All P) (sym set-nil) tt
  all_set P f (x ∷ xs) a =
      elim (exact? eqb eqb_exact x.key.0 key) [
        | inl e ↦ subst (All P) (sym (set_here x xs e)) (f x a.0, a.1)
        | inr n ↦ subst (All P) (sym (set-later x xs n)) (a.0, all_set P f xs a.1)
      ]

-- writing the old tick over gives the vector back
pub set_back : (key o t : ℕ) (es : List Element) → tick_at es key ≡ o → tick_set key o (tick_set key t es) ≡ es
set_back key o t [] e = ap (tick_set key o) (set-nil key t) ∙ set-nil key o
set_back key o t (x ∷ xs) e =
    elim (exact? eqb eqb_exact x.key.0 key) [
      | inl f ↦
          let g : x.tick ≡ o = sym (tick_same x xs key f) ∙ e in
          ap (tick_set key o) (set_here key t x xs f) ∙ set_here key o (with_tick x t) xs f ∙ ap (λ n. with_tick x n ∷ xs) (sym g)
      | inr n ↦
          let g : tick_at xs key ≡ o = sym (tick_other x xs key n) ∙ e in
          ap (tick_set key o) (set-later key t x xs n) ∙ set-later key o x (tick_set key t xs) n
          ∙ ap (λ ys. x ∷ ys) (set_back key o t xs g)
    ]

pub set_apart : (key o t : ℕ) (v w : List Element) → tick_at v key ≡ o → tick_at w key ≡ o → tick_set key t v ≡ tick_set key t w → v ≡ w
set_apart key o t v w e f g = sym (set_back key o t v e) ∙ ap (tick_set key o) g ∙ set_back key o t w f

-- All vectors

module _ (key t : ℕ) where
  pub vectors-nil : ticks_set key t [] ≡ []
  unfolding ticks_set
  vectors-nil = refl

  pub vectors-cons : (es : List Element) (vs : List (List Element)) → ticks_set key t (es ∷ vs) ≡ tick_set key t es ∷ ticks_set key t vs
  unfolding ticks_set
  vectors-cons es vs = refl

  pub vectors_count : (vs : List (List Element)) → length (ticks_set key t vs) ≡ length vs
  vectors_count [] = ap length vectors-nil
  vectors_count (es ∷ vs) = ap length (vectors-cons es vs) ∙ ap suc (vectors_count vs)

  pub vector-set : (vs : List (List Element)) (y : ℕ) → get_or (ticks_set key t vs) y [] ≡ tick_set key t (get_or vs y [])
  vector-set [] y = ap (λ us. get_or us y []) vectors-nil ∙ sym (set-nil key t)
  vector-set (es ∷ vs) zero = ap (λ us. get_or us 0 []) (vectors-cons es vs)
  vector-set (es ∷ vs) (suc y) = ap (λ us. get_or us (suc y) []) (vectors-cons es vs) ∙ vector-set vs y

  pub vectors_all : (P Q : List Element → Type 0) → ((es : List Element) → P es → Q (tick_set key t es)) → (vs : List (List Element)) → All P vs
      → All Q (ticks_set key t vs)
  vectors_all P Q f [] a = subst (All Q) (sym vectors-nil) tt
  vectors_all P Q f (es ∷ vs) a = subst (All Q) (sym (vectors-cons es vs)) (f es a.0, vectors_all P Q f vs a.1)

  vectors_were : (P Q : List Element → Type 0) → ((es : List Element) → Q (tick_set key t es) → P es) → (vs : List (List Element))
      → All Q (ticks_set key t vs) → All P vs
  unfolding ticks_set
  vectors_were P Q f [] a = tt
  vectors_were P Q f (es ∷ vs) a = (f es a.0, vectors_were P Q f vs a.1)

  found-set : (vs : List (List Element)) (found : Option VectorIndex)
      → vector_found (ticks_set key t vs) found ≡ tick_set key t (vector_found vs found)
  found-set vs none = found_none (ticks_set key t vs) ∙ sym (set-nil key t) ∙ ap (tick_set key t) (sym (found_none vs))
  found-set vs (some y) =
      found_some (ticks_set key t vs) y ∙ vector-set vs y.0 ∙ ap (tick_set key t) (sym (found_some vs y))

-- The knowledge

module _ (k : Knowledge) (p o t : ℕ) (n : Normal k) (one : OneTick k p o) (pos : 1 ≤ t) where
  abbrev key : ℕ
  key = place p k.replicas

  abbrev k' : Knowledge
  k' = knowledge_set key t k

  zero-highest : 0 ≤ highest
  zero-highest = omega arith

  there : Among p k.replicas
  there =
      elim (among? p k.replicas) [
        | inl m ↦ m
        | inr m ↦ absurd (omega (arith, one.alike 0 zero-highest, known_out k 0 p m, one.some))
      ]

  vector_tick : (i : ℕ) → i ≤ highest → tick_at (vector_at k i) key ≡ o
  vector_tick i h = sym (known_in k i p there) ∙ one.alike i h

  -- every vector that a range uses has the old tick
  used_tick : (y : ℕ) → Among y (indices k.ranges) → tick_at (vector_of k y) key ≡ o
  used_tick y m =
      let w = vector_bound k y n.formed.sound m in
      ap (λ v. tick_at v key) (sym w.1.1)
      ∙ vector_tick w.0 (all_among (λ b. b ≤ highest) (bounds k.ranges) n.formed.sound.items w.0 w.1.0)

  item_vector-set : (i : ℕ) → vector_at k' i ≡ tick_set key t (vector_at k i)
  unfolding vector_at knowledge_set
  item_vector-set i = found-set key t k.vectors (index_from none k.ranges i)

  pub known-set : (i q : ℕ) → i ≤ highest → known k' i q ≡ known_raised p t k i q
  unfolding knowledge_set
  known-set i q h =
      elim (exact? eqb eqb_exact q p) [
        | inl e ↦
            ap (known k' i) e ∙ known_in k' i p there ∙ ap (λ v. tick_at v key) (item_vector-set i)
            ∙ tick-set key t (vector_at k i) (key_tick (vector_at k i) key (omega (arith, vector_tick i h, one.some)))
            ∙ sym (raised_own p t k i q e)
        | inr d ↦ other d (among? q k.replicas) ∙ sym (raised_other p t k i q d)
      ]
    where
      other : (q ≡ p → ⊥) → Among q k.replicas ⊎ (Among q k.replicas → ⊥) → known k' i q ≡ known k i q
      other d (inl m) =
          known_in k' i q m ∙ ap (λ v. tick_at v (place q k.replicas)) (item_vector-set i)
          ∙ tick_kept key t (vector_at k i) (place q k.replicas) (λ e. d (
          sym (place_found eqb eqb_exact q 0 k.replicas (among_place q k.replicas m)) ∙ ap (λ j. get_or k.replicas j 0) e
          ∙ place_found eqb eqb_exact p 0 k.replicas (among_place p k.replicas there)))
          ∙ sym (known_in k i q m)
      other d (inr m) = known_out k' i q m ∙ sym (known_out k i q m)

  sound-set : Sound k'
  unfolding knowledge_set
  sound-set =
      let s = n.formed.sound in
      record {
        distinct = s.distinct;
        keys_below =
            vectors_all key t (All (λ x. x.key.0 < length k.replicas)) (All (λ x. x.key.0 < length k.replicas))
            (λ es a. all_set key t (λ x. x.key.0 < length k.replicas) (λ x b. b) es a) k.vectors s.keys_below;
        indices_below = subst (λ m. All (λ x. x.index.0 < m) k.ranges) (sym (vectors_count key t k.vectors)) s.indices_below;
        rising = s.rising;
        items = s.items;
      }

  -- used vectors that differ still differ
  still_apart : (y z : ℕ) → Among y (indices k.ranges) → Among z (indices k.ranges) → vector_of k' y ≡ vector_of k' z
      → vector_of k y ≡ vector_of k z
  unfolding knowledge_set
  still_apart y z a b e =
      set_apart key o t (vector_of k y) (vector_of k z) (used_tick y a) (used_tick z b)
      (sym (vector-set key t k.vectors y) ∙ e ∙ vector-set key t k.vectors z)

  index_in : (m : ℕ) → m < length k.ranges → Among (index_of k m) (indices k.ranges)
  index_in m h = among_get (indices k.ranges) m (omega (arith, indices-length k.ranges))

  formed-set : Formed k'
  unfolding knowledge_set
  formed-set =
      let f = n.formed in
      let c = vectors_count key t k.vectors in
      record {
        sound = sound-set;
        first_range = f.first_range;
        neighbours =
            λ m h e. f.neighbours m h (still_apart (index_of k m) (index_of k (suc m)) (index_in m (omega arith)) (index_in (suc m) h) e);
        some_vector = omega (arith, f.some_vector, c);
        empty_first = vector-set key t k.vectors 0 ∙ ap (tick_set key t) f.empty_first ∙ set-nil key t;
        in_order = λ y z a b h. f.in_order y z a b (omega (arith, c));
        distinct =
            λ y z a b h e.
            let l : z < length k.vectors = omega (arith, c) in
            f.distinct y z a b l (still_apart y z (used_index k y f a (omega arith)) (used_index k z f (omega arith) l) e);
        not_empty =
            λ y a h e.
            let l : y < length k.vectors = omega (arith, c) in
            f.not_empty y a l (empty (vector_of k y) (sym (vector-set key t k.vectors y) ∙ e));
        used = λ y a h. f.used y a (omega (arith, c));
        elements =
            vectors_all key t (λ es. Rising 0 (keys es)) (λ es. Rising 0 (keys es))
            (λ es a. subst (Rising 0) (sym (keys-set key t es)) a) k.vectors f.elements;
        ticks =
            vectors_all key t (All (λ x. 1 ≤ x.tick)) (All (λ x. 1 ≤ x.tick))
            (λ es a. all_set key t (λ x. 1 ≤ x.tick) (λ x b. pos) es a) k.vectors f.ticks;
      }
    where
      empty : (es : List Element) → tick_set key t es ≡ [] → es ≡ []
      empty [] e = refl
      empty (x ∷ xs) e = absurd (omega (arith, length-set key t (x ∷ xs), ap length e))

  pub normal-set : Normal k'
  unfolding knowledge_set
  normal-set = record {
    formed = formed-set;
    rising = n.rising;
    used =
        λ j h a. n.used j h
        (vectors_were key t (λ es. place j (keys es) ≡ length es) (λ es. place j (keys es) ≡ length es)
        (λ es e. ap (place j) (sym (keys-set key t es)) ∙ e ∙ length-set key t es) k.vectors a);
  }

  -- it is what raising gives
  pub set-raise : raise p t k ≡ k'
  set-raise =
      normal_unique (raise p t k) k' (normal_raise p t k) normal-set
      (λ i q h. known_raise p t k i q h ∙ sym (known-set i q h))

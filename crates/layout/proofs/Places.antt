-- Where everything of an accepted knowledge stands: the value that is read is the one at the places that the four sizes
-- give, the vectors end 16 bytes before the ranges, and the length is the one that the sizes give. A list read by places has
-- as many parts as were asked for, so the counts in the bytes are the sizes of the value; and the sizes of the value are
-- those that the check answered. Vector j stands where stepping over the j vectors before it leads.
use Prim.Native.Nat.{ℕ, zero, suc, ◌+◌, ◌*◌, ◌<◌, ◌≤◌}
use mathlib.Core.Path.{◌≡◌, refl, sym, ap, ap₂, ◌∙◌, subst}
use mathlib.Core.List.{List, []}
use native.Mathlib.Omega.{arith}
use lib.ListN.{length, get_or}
use Rattle.codec.specs.Number.{Bytes, be_at}
use Rattle.codec.specs.Parsed.{accepted}
use Rattle.layout.specs.Checked.{Accepted}
use Rattle.layout.specs.Knowledge.{Rules, Lawful}
use Rattle.layout.specs.Permitted.{Permitted, most_vectors, most_count}
use Rattle.layout.specs.Answer.{elements}
use Rattle.layout.specs.Parse.{checked_by, told, parse}
use Rattle.layout.specs.Decode.{ids_at, elements_at, vectors_at, after_vectors, ranges_at, decode}
use Rattle.layout.specs.MethodPlaces.{vectors_place, ranges_place, whole_length, vector_place, count_at, value_at}
use Rattle.layout.proofs.Forward.{decoded}
use Rattle.layout.proofs.Backward.{Means, backward}
use Rattle.layout.proofs.Lengths.{lawful-length}
use Rattle.layout.proofs.Exact.{length_exact}

-- bytes that the check accepts, with the sizes r, v, e and g: the premise of every law here that is not about all bytes
pub record Reading (R : Rules) (s : List ℕ) (r v e g : ℕ) : Type 0 where
  pub permitted : Permitted R.limits
  pub bytes : Bytes s
  pub accepts : checked_by R s ≡ Accepted r v e g

-- Lists read by places, for all bytes

pub ids-length : (s : List ℕ) (n at : ℕ) → length (ids_at s n at) ≡ n
unfolding ids_at
ids-length s zero at = refl
ids-length s (suc n) at = ap suc (ids-length s n (at + 16))

pub elements-length : (s : List ℕ) (n at : ℕ) → length (elements_at s n at) ≡ n
unfolding elements_at
elements-length s zero at = refl
elements-length s (suc n) at = ap suc (elements-length s n (at + 12))

pub vectors-length : (s : List ℕ) (n at : ℕ) → length (vectors_at s n at) ≡ n
unfolding vectors_at
vectors-length s zero at = refl
vectors-length s (suc n) at = ap suc (vectors-length s n (at + 8 + 12 * be_at s 4 (at + 4)))

pub ranges-length : (s : List ℕ) (n at : ℕ) → length (ranges_at s n at) ≡ n
unfolding ranges_at
ranges-length s zero at = refl
ranges-length s (suc n) at = ap suc (ranges-length s n (at + 28))

-- the place after vectors, by their elements
vectors_end : (s : List ℕ) (n at : ℕ) → after_vectors s n at ≡ at + 8 * n + 12 * elements (vectors_at s n at)
unfolding after_vectors vectors_at elements
vectors_end s zero at = omega arith
vectors_end s (suc n) at =
    omega (arith, vectors_end s n (at + 8 + 12 * be_at s 4 (at + 4)), elements-length s (be_at s 4 (at + 4)) (at + 8))

-- stepping over some vectors, and then over more
pub after-zero : (s : List ℕ) (at : ℕ) → after_vectors s 0 at ≡ at
unfolding after_vectors
after-zero s at = refl

pub after-suc : (s : List ℕ) (n at : ℕ) → after_vectors s (suc n) at ≡ after_vectors s n (at + 8 + 12 * count_at s at)
unfolding after_vectors
after-suc s n at = refl

pub after-add : (s : List ℕ) (m n at : ℕ) → after_vectors s (m + n) at ≡ after_vectors s n (after_vectors s m at)
unfolding after_vectors
after-add s zero n at = let z : zero + n ≡ n = omega arith in ap (λ k. after_vectors s k at) z
after-add s (suc m) n at =
    let z : suc m + n ≡ suc (m + n) = omega arith in
    ap (λ k. after_vectors s k at) z ∙ after-add s m n (at + 8 + 12 * be_at s 4 (at + 4))

pub after_later : (s : List ℕ) (n at : ℕ) → at + 8 * n ≤ after_vectors s n at
after_later s n at = omega (arith, vectors_end s n at)

-- id j of those from a place on
pub id_at_lem : (s : List ℕ) (n j at : ℕ) → j < n → get_or (ids_at s n at) j 0 ≡ be_at s 16 (at + 16 * j)
unfolding ids_at
id_at_lem s zero j at h = absurd (omega arith)
id_at_lem s (suc n) zero at h = let z : at ≡ at + 16 * zero = omega arith in ap (be_at s 16) z
id_at_lem s (suc n) (suc j) at h =
    let z : at + 16 + 16 * j ≡ at + 16 * suc j = omega arith in
    id_at_lem s n j (at + 16) (omega arith) ∙ ap (be_at s 16) z

-- vector j of those from a place on
pub vector_at_lem : (s : List ℕ) (n j at : ℕ) → j < n
    → get_or (vectors_at s n at) j [] ≡ elements_at s (count_at s (after_vectors s j at)) (after_vectors s j at + 8)
unfolding vectors_at after_vectors
vector_at_lem s zero j at h = absurd (omega arith)
vector_at_lem s (suc n) zero at h = refl
vector_at_lem s (suc n) (suc j) at h = vector_at_lem s n j (at + 8 + 12 * be_at s 4 (at + 4)) (omega arith)

-- it ends at or before the place after all of them
pub vector_ends : (s : List ℕ) (n j at : ℕ) → j < n
    → after_vectors s j at + 8 + 12 * count_at s (after_vectors s j at) ≤ after_vectors s n at
unfolding after_vectors
vector_ends s zero j at h = absurd (omega arith)
vector_ends s (suc n) zero at h = omega (arith, after_later s n (at + 8 + 12 * be_at s 4 (at + 4)))
vector_ends s (suc n) (suc j) at h = vector_ends s n j (at + 8 + 12 * be_at s 4 (at + 4)) (omega arith)

-- Accepted bytes

-- the value by its places, the places after its parts, its sizes
pub record Places (R : Rules) (s : List ℕ) (r v e g : ℕ) : Type 0 where
  pub value : decode s ≡ value_at s r v e g
  pub after_vectors : vector_place s r v + 16 ≡ ranges_place r v e
  pub whole : length s ≡ whole_length r v e g
  pub small : length s ≤ most_count
  pub lawful : Lawful R (value_at s r v e g)
  pub read : parse R s ≡ accepted (value_at s r v e g)
  pub replicas : r ≤ R.limits.replicas
  pub some_vector : 1 ≤ v
  pub vectors : v ≤ most_vectors R.limits
  pub some_range : 1 ≤ g
  pub ranges : g ≤ R.limits.ranges

-- the counts that the check answers are those of the value that is read
pub record Counts (s : List ℕ) (r v e g : ℕ) : Type 0 where
  pub replicas : length (decode s).replicas ≡ r
  pub vectors : length (decode s).vectors ≡ v
  pub elements : elements (decode s).vectors ≡ e
  pub ranges : length (decode s).ranges ≡ g

told_value : (R : Rules) (s : List ℕ) (r v e g : ℕ) → checked_by R s ≡ Accepted r v e g → parse R s ≡ accepted (decode s)
unfolding parse told
told_value R s r v e g h = ap (told s) h

module _ (R : Rules) (s : List ℕ) (r v e g : ℕ) (h : Reading R s r v e g) where
  means : Means R s r v e g
  means = backward R s r v e g h.bytes h.accepts

  meant : decode s ≡ means.value
  meant = ap decode means.bytes ∙ decoded R means.value h.permitted means.lawful

  pub counts : Counts s r v e g
  counts = record {
    replicas = ap (λ k. length k.replicas) meant ∙ means.rs;
    vectors = ap (λ k. length k.vectors) meant ∙ means.vs;
    elements = ap (λ k. elements k.vectors) meant ∙ means.es;
    ranges = ap (λ k. length k.ranges) meant ∙ means.gs;
  }

  -- the counts stand in the bytes
  count_r : be_at s 4 23 ≡ r
  unfolding decode
  count_r = sym (ids-length s (be_at s 4 23) 27) ∙ counts.replicas

  count_v : be_at s 4 (44 + 16 * r) ≡ v
  unfolding decode
  count_v =
      sym (ap (λ n. be_at s 4 (44 + 16 * n)) count_r)
      ∙ sym (vectors-length s (be_at s 4 (44 + 16 * be_at s 4 23)) (48 + 16 * be_at s 4 23)) ∙ counts.vectors

  read_ids : (decode s).replicas ≡ ids_at s r 27
  unfolding decode
  read_ids = ap (λ n. ids_at s n 27) count_r

  read_vectors : (decode s).vectors ≡ vectors_at s v (vectors_place r)
  unfolding decode
  read_vectors =
      ap (λ n. vectors_at s (be_at s 4 (44 + 16 * n)) (48 + 16 * n)) count_r ∙ ap (λ n. vectors_at s n (48 + 16 * r)) count_v

  after_place : vector_place s r v + 16 ≡ ranges_place r v e
  after_place = omega (arith, vectors_end s v (vectors_place r), sym (ap elements read_vectors) ∙ counts.elements)

  read_ranges : (decode s).ranges ≡ ranges_at s g (ranges_place r v e)
  unfolding decode
  read_ranges =
      let from : (decode s).ranges ≡ ranges_at s (be_at s 4 (vector_place s r v + 12)) (vector_place s r v + 16) =
      ap (λ n.
      let a = after_vectors s (be_at s 4 (44 + 16 * n)) (48 + 16 * n) in
      ranges_at s (be_at s 4 (a + 12)) (a + 16)) count_r
      ∙ ap (λ n.
      let a = after_vectors s n (48 + 16 * r) in
      ranges_at s (be_at s 4 (a + 12)) (a + 16)) count_v in
      let count : be_at s 4 (vector_place s r v + 12) ≡ g =
      sym (ranges-length s (be_at s 4 (vector_place s r v + 12)) (vector_place s r v + 16)) ∙ sym (ap length from)
      ∙ counts.ranges in
      from ∙ ap₂ (λ n at. ranges_at s n at) count after_place

  value_places : decode s ≡ value_at s r v e g
  unfolding value_at
  value_places = rw (← read_ids, ← read_vectors, ← read_ranges) refl

  pub places : Places R s r v e g
  places =
      let lawful = means.lawful in
      let same : means.value ≡ value_at s r v e g = sym meant ∙ value_places in
      record {
        value = value_places;
        after_vectors = after_place;
        whole = length_exact R h.permitted s r v e g h.bytes h.accepts;
        small = omega (
          arith,
          lawful-length R means.value lawful,
          ap length means.bytes,
          h.permitted.lengths,
        );
        lawful = subst (Lawful R) same lawful;
        read = told_value R s r v e g h.accepts ∙ ap accepted value_places;
        replicas = omega (arith, lawful.replicas, means.rs);
        some_vector = omega (arith, lawful.some_vector, means.vs);
        vectors = omega (arith, lawful.vectors, means.vs);
        some_range = omega (arith, lawful.some_range, means.gs);
        ranges = omega (arith, lawful.ranges, means.gs);
      }

  -- vector j
  pub vector_place_lem : (j : ℕ) → j < v
      → get_or (value_at s r v e g).vectors j [] ≡ elements_at s (count_at s (vector_place s r j)) (vector_place s r j + 8)
  unfolding value_at
  vector_place_lem j l = vector_at_lem s v j (vectors_place r) l

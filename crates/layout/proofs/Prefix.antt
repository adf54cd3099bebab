-- The first m bytes of a list of bytes, and all of them: how their answers hang together (`cut`). A field that ends at or
-- before m is the same in both, and where one ends after m, the first m bytes get 1. At the end the place is compared with
-- the length. So the first m of more bytes get 1, or the refusal that all of them get, or all of them get 10.
-- And a knowledge within the limits is at most so long that one byte more decides the answer: to check bytes, it is enough
-- to look at the first `longest + 1` of them. Each count is held against its limit before the fields that it counts are
-- read, so no field that the reading comes to ends after `longest`, and none ends after an m above it.
use Prim.Native.Nat.{ℕ, zero, suc, ◌+◌, ◌*◌, ◌-◌, ◌≤◌, ◌<◌}
use mathlib.Core.Path.{◌≡◌, refl, ap}
use mathlib.Core.Bool.{Bool, true, false}
use mathlib.Core.Logic.{inl, inr}
use mathlib.Core.List.{List, [], ◌∷◌}
use native.Mathlib.Nat.{mul_comm, mul-add, suc-mul, mul_left_comm, mul-le-mul_right, eq-or-lt_of_le}
use native.Mathlib.Omega.{arith}
use borrow.Author.Tests.{leb-true, leb-false, le-leb, lt-leb, eq-eqb, ne_eqb}
use lib.Dec.{leb, ltb, eqb}
use lib.ListN.{length, take, length-take}
use lib.Seq.{take_all}
use Rattle.codec.specs.Number.{be_at}
use Rattle.codec.proofs.Numbers.{be_take}
use Rattle.layout.specs.Got.{Got}
use Rattle.layout.specs.Got.{Num, Fault}
use Rattle.layout.specs.Checked.{Checked}
use Rattle.layout.specs.Checked.{Accepted, Refused}
use Rattle.layout.specs.Permitted.{longest, most_vectors}
use Rattle.layout.specs.Knowledge.{Rules, largest_tick, basic, Field, opening, before_vectors, before_elements, before_ranges, closing, base}
use Rattle.layout.specs.Read.{◌▷◌, repeat, number, same, fields, limit, empty, among, judged, replica_id, tick, element, first_vector, vector, index, range}
use Rattle.layout.specs.Parse.{replica_map, vector_count, vector_list, range_list, ◌▶◌, ended, checked, checked_by}

pub longest_base : longest base ≡ 14933
unfolding longest
longest_base = refl

-- the reading of a part in the first m bytes and in all of them: the same number and place, not past m, of which Q holds;
-- the same fault; or the first m bytes end inside a field, which ends at or before `top`
data Alike (top m : ℕ) (Q : ℕ → ℕ → Type 0) : Got → Got → Type 0 where
  both : (x at : ℕ) → at ≤ m → Q x at → Alike top m Q (Num x at) (Num x at)
  neither : (n : ℕ) → Alike top m Q (Fault n) (Fault n)
  short : (h : Got) → m < top → Alike top m Q (Fault 1) h

-- the check's answers for the first m bytes and for all: the same refusal; the same, as nothing is cut off; 1 for the
-- first m bytes, which end inside a field; or 10 for all of them, where the place after the last field is m
pub data Cut (top m : ℕ) (s : List ℕ) : Checked → Checked → Type 0 where
  stopped : (n : ℕ) → Cut top m s (Refused n) (Refused n)
  whole : (c : Checked) → length s ≤ m → Cut top m s c c
  ends : (c : Checked) → m < top → Cut top m s (Refused 1) c
  over : (c : Checked) → m ≤ top → m < length s → Cut top m s c (Refused 10)

-- the place after a part
abbrev Ends : ℕ → ℕ → ℕ → Type 0
Ends b x at = at ≡ b

-- with n parts of c bytes still to be read: k parts stand before the place, from `start` on, and all are at most `most`
record Left (c start most n k at : ℕ) : Type 0 where
  pub place : at ≡ start + c * k
  pub few : k + n ≤ most

-- a count of at most hi, and the place after it
abbrev Within : ℕ → ℕ → ℕ → ℕ → Type 0
Within hi b x at = (x ≤ hi) × (at ≡ b)

-- the bytes that a run of fixed fields takes
unfoldable sizes : List Field → ℕ
sizes [] = 0
sizes (f ∷ fs) = f.size + sizes fs

module _ (top m : ℕ) where
  abbrev Same : (ℕ → ℕ → Type 0) → Got → Got → Type 0
  Same Q g h = Alike top m Q g h

  -- one part after the other, and the last
  then : {P Q : ℕ → ℕ → Type 0} {g h : Got} (f k : ℕ → ℕ → Got) → Same P g h →
      ((x at : ℕ) → at ≤ m → P x at → Same Q (f x at) (k x at)) → Same Q (g ▷ f) (h ▷ k)
  then f k (both x at i p) next = next x at i p
  then f k (neither n) next = neither n
  then f k (short h l) next = short (h ▷ k) l

  finish : {P : ℕ → ℕ → Type 0} {g h : Got} {s : List ℕ} (f k : ℕ → ℕ → Checked) → Same P g h →
      ((x at : ℕ) → at ≤ m → P x at → Cut top m s (f x at) (k x at)) → Cut top m s (g ▶ f) (h ▶ k)
  finish f k (both x at i p) next = next x at i p
  finish f k (neither n) next = stopped n
  finish f k (short h l) next = ends (h ▶ k) l

  -- Q n says what holds with n parts still to be read
  repeated : (Q : ℕ → ℕ → ℕ → Type 0) (f k : ℕ → ℕ → Got) →
      ((n x at : ℕ) → at ≤ m → Q (suc n) x at → Same (Q n) (f x at) (k x at)) →
      (n x at : ℕ) → at ≤ m → Q n x at → Same (Q 0) (repeat f n x at) (repeat k n x at)
  unfolding repeat
  repeated Q f k step zero x at i q = both x at i q
  repeated Q f k step (suc n) x at i q = then (repeat f n) (repeat k n) (step n x at i q) (repeated Q f k step n)

  weaken : {P Q : ℕ → ℕ → Type 0} {g h : Got} → Same P g h → ((x at : ℕ) → P x at → Q x at) → Same Q g h
  weaken (both x at i p) w = both x at i (w x at p)
  weaken (neither n) w = neither n
  weaken (short h l) w = short h l

  -- n parts of at most c bytes each end at or before b
  spread : (c b : ℕ) (f k : ℕ → ℕ → Got) →
      ((x at : ℕ) → at ≤ m → at + c ≤ b → Same (λ y next. next ≤ at + c) (f x at) (k x at)) →
      (n x at : ℕ) → at ≤ m → at + n * c ≤ b → Same (λ y next. next ≤ b) (repeat f n x at) (repeat k n x at)
  spread c b f k part n x at i h =
      weaken
      (repeated (λ j y next. next + j * c ≤ b) f k
      (λ j y next u l. weaken (part y next u (omega (arith, suc-mul j c))) λ z after e. omega (arith, suc-mul j c))
      n x at i h)
      λ y next l. omega arith

  -- a test that both readings make alike
  test : {Q : ℕ → ℕ → Type 0} (t : Bool) (a b c d : Got) → (t ≡ true → Same Q a c) → (t ≡ false → Same Q b d) →
      Same Q (elim t [ true ↦ a | false ↦ b ]) (elim t [ true ↦ c | false ↦ d ])
  test true a b c d held failed = held refl
  test false a b c d held failed = failed refl

  -- parts that read no byte
  same_self : (w x at b : ℕ) → at ≤ m → at ≡ b → Same (Ends b) (same w x at) (same w x at)
  unfolding same
  same_self w x at b i e = test (eqb x w) _ _ _ _ (λ t. both x at i e) λ t. neither _

  empty_self : (x at b : ℕ) → at ≤ m → at ≡ b → Same (Ends b) (empty x at) (empty x at)
  unfolding empty
  empty_self x at b i e = test (eqb x 0) _ _ _ _ (λ t. both 0 at i e) λ t. neither _

  limit_self : (lo hi x at b : ℕ) → at ≤ m → at ≡ b → Same (Within hi b) (limit lo hi x at) (limit lo hi x at)
  unfolding limit
  limit_self lo hi x at b i h =
      test (leb lo x) _ _ _ _ (λ t. test (leb x hi) _ _ _ _ (λ u. both x at i (leb-true x hi u, h)) λ u. neither _) λ t. neither _

  judged_self : (Q : ℕ → ℕ → Type 0) (n k at : ℕ) → at ≤ m → Q k at → Same Q (judged n k at) (judged n k at)
  unfolding judged
  judged_self Q zero k at i q = both k at i q
  judged_self Q (suc n) k at i q = neither (suc n)

  -- each part of the reading, of the first m bytes and of all, where it ends at or before `top`
  module _ (s : List ℕ) where
    inside : (e : ℕ) → e ≤ m → leb e (length (take m s)) ≡ leb e (length s)
    inside e h = go (leb e (length s)) refl where
      go : (t : Bool) → leb e (length s) ≡ t → leb e (length (take m s)) ≡ t
      go true p = le-leb e (length (take m s)) (omega (arith, length-take m s, leb-true e (length s) p))
      go false p = lt-leb e (length (take m s)) (omega (arith, length-take m s, leb-false e (length s) p))

    past : (e : ℕ) → m < e → leb e (length (take m s)) ≡ false
    past e h = lt-leb e (length (take m s)) (omega (arith, length-take m s))

    number_alike : (n x at b : ℕ) → at + n ≡ b → b ≤ top → Same (Ends b) (number (take m s) n x at) (number s n x at)
    unfolding number
    number_alike n x at b e h = go (leb (at + n) m) refl where
      go : (t : Bool) → leb (at + n) m ≡ t → Same (Ends b) (number (take m s) n x at) (number s n x at)
      go true p =
          let l : at + n ≤ m = leb-true (at + n) m p in
          rw (inside (at + n) l, number)
          (test (leb (at + n) (length s)) _ _ _ _ (λ t. rw (be_take s n at m l) (both (be_at s n at) (at + n) l e)) λ t. neither _)
      go false p =
          let l : m < at + n = leb-false (at + n) m p in
          rw (past (at + n) l, number) (short (number s n x at) (omega arith))

    fields_alike : (fs : List Field) (x at b : ℕ) → at ≤ m → at + sizes fs ≡ b → b ≤ top →
        Same (Ends b) (fields (take m s) fs x at) (fields s fs x at)
    unfolding fields sizes
    fields_alike [] x at b i e h = both x at i (omega arith)
    fields_alike (f ∷ fs) x at b i e h =
        then _ _
        (then _ _ (number_alike f.size x at (at + f.size) refl (omega arith)) λ y c j p. same_self f.value y c (at + f.size) j p)
        λ y c j p. fields_alike fs y c b j (omega arith) h

    -- fixed fields, and the count of four bytes after them
    count_alike : (fs : List Field) (x at b : ℕ) → at ≤ m → at + sizes fs + 4 ≡ b → b ≤ top →
        Same (Ends b) (fields (take m s) fs x at ▷ number (take m s) 4) (fields s fs x at ▷ number s 4)
    count_alike fs x at b i e h =
        then _ _ (fields_alike fs x at (at + sizes fs) i refl (omega arith)) λ y c j p. number_alike 4 y c b (omega arith) h

    -- an earlier number is the same in both
    among_same : (n step at k x : ℕ) → n ≤ step → at + k * step ≤ m →
        among (take m s) n step at k x ≡ among s n step at k x
    unfolding among
    among_same n step at zero x l h = refl
    among_same n step at (suc k) x l h =
        let a : at + n ≤ m = omega (arith, suc-mul k step) in
        rw (be_take s n at m a, among)
        (ap (λ t. elim (eqb (be_at s n at) x) [ true ↦ true | false ↦ t ])
        (among_same n step (at + step) k x l (omega (arith, suc-mul k step))))

    replica_id-alike : (R : Rules) (start most : ℕ) → start + 16 * most ≤ top → (n k at : ℕ) → at ≤ m →
        Left 16 start most (suc n) k at →
        Same (Left 16 start most n) (replica_id R.judge (take m s) start k at) (replica_id R.judge s start k at)
    unfolding replica_id
    replica_id-alike R start most h n k at i q =
        then _ _ (number_alike 16 k at (at + 16) refl (omega arith)) λ id next j e.
        rw (among_same 16 16 start k id (omega arith) (omega arith))
        (test (among s 16 16 start k id) _ _ _ _ (λ t. neither _)
        λ t. judged_self (Left 16 start most n) (R.judge id) (k + 1) next j (omega arith))

    tick_alike : (start most : ℕ) → start + 12 * most ≤ top → (n k at : ℕ) → at ≡ start + 12 * k + 4 → k + suc n ≤ most →
        Same (Left 12 start most n) (tick (take m s) k at) (tick s k at)
    unfolding tick
    tick_alike start most h n k at p l =
        then _ _ (number_alike 8 k at (at + 8) refl (omega arith)) λ t next j e.
        test (leb t largest_tick) _ _ _ _ (λ u. both (k + 1) next j (omega arith)) λ u. neither _

    element_alike : (r start most : ℕ) → start + 12 * most ≤ top → (n k at : ℕ) → at ≤ m →
        Left 12 start most (suc n) k at →
        Same (Left 12 start most n) (element (take m s) r start k at) (element s r start k at)
    unfolding element
    element_alike r start most h n k at i q =
        then _ _ (number_alike 4 k at (at + 4) refl (omega arith)) λ key next j e.
        test (ltb key r) _ _ _ _
        (λ t. rw (among_same 4 12 start k key (omega arith) (omega arith))
        (test (among s 4 12 start k key) _ _ _ _ (λ u. neither _) λ u. tick_alike start most h n k next (omega arith) (omega arith)))
        λ t. neither _

    first_vector-alike : (x at : ℕ) → at ≤ m → at + 8 ≤ top → Same (Ends (at + 8)) (first_vector (take m s) x at) (first_vector s x at)
    unfolding first_vector before_elements sizes
    first_vector-alike x at i h =
        then _ _ (count_alike before_elements x at (at + 8) i (omega arith) h) λ y b j e. empty_self y b (at + 8) j e

    vector_alike : (r e at : ℕ) → at ≤ m → at + (8 + 12 * r) ≤ top →
        Same (λ y b. b ≤ at + (8 + 12 * r)) (vector (take m s) r e at) (vector s r e at)
    unfolding vector before_elements sizes
    vector_alike r e at i h =
        then _ _
        (then _ _ (count_alike before_elements e at (at + 8) i (omega arith) (omega arith)) λ y b j p. limit_self 0 r y b (at + 8) j p)
        λ n start j p.
        then _ _
        (repeated (Left 12 start n) (element (take m s) r start) (element s r start) (element_alike r start n (omega arith)) n 0 start j (omega arith))
        λ k next l q. both (e + k) next l (omega arith)

    index_alike : (v low at b : ℕ) → at + 4 ≡ b → b ≤ top → Same (Ends b) (index (take m s) v low at) (index s v low at)
    unfolding index
    index_alike v low at b e h =
        then _ _ (number_alike 4 low at b e h) λ i next j p. test (ltb i v) _ _ _ _ (λ t. both low next j p) λ t. neither _

    range_alike : (v low at b : ℕ) → at + 28 ≡ b → b ≤ top → Same (Ends b) (range (take m s) v low at) (range s v low at)
    unfolding range
    range_alike v low at b e h =
        then _ _ (number_alike 24 low at (at + 24) refl (omega arith)) λ bound next j p.
        test (leb low bound) _ _ _ _ (λ t. index_alike v (suc bound) next b (omega arith) h) λ t. neither _

    replica_map-alike : (R : Rules) → 27 + 16 * R.limits.replicas ≤ top →
        Same (λ r at. (r ≤ R.limits.replicas) × (at ≤ 27 + 16 * R.limits.replicas)) (replica_map R.limits.replicas R.judge (take m s)) (replica_map R.limits.replicas R.judge s)
    unfolding replica_map opening sizes
    replica_map-alike R h =
        then _ _
        (then _ _ (count_alike opening 0 0 27 (omega arith) refl (omega arith)) λ y b j p. limit_self 0 R.limits.replicas y b 27 j p)
        λ r start j p.
        weaken
        (repeated (Left 16 start R.limits.replicas) (replica_id R.judge (take m s) start) (replica_id R.judge s start)
        (replica_id-alike R start R.limits.replicas (omega arith)) r 0 start j (omega arith))
        λ k next q. (omega arith, omega arith)

    vector_count-alike : (R : Rules) (at : ℕ) → at ≤ m → at + 21 ≤ top →
        Same (Within (R.limits.ranges + 1) (at + 21)) (vector_count R.limits.ranges (take m s) at) (vector_count R.limits.ranges s at)
    unfolding vector_count before_vectors sizes
    vector_count-alike R at i h =
        then _ _ (count_alike before_vectors 0 at (at + 21) i (omega arith) h)
        λ y b j p. limit_self 1 (most_vectors R.limits) y b (at + 21) j p

    -- n vectors after the first, each with at most r elements
    vector_list-alike : (r v n at : ℕ) → at ≤ m → v ≤ n + 1 → at + 8 + n * (8 + 12 * r) ≤ top →
        Same (λ e b. b ≤ at + 8 + n * (8 + 12 * r)) (vector_list (take m s) r v at) (vector_list s r v at)
    unfolding vector_list
    vector_list-alike r v n at i l h =
        then _ _ (first_vector-alike 0 at i (omega arith))
        λ x start j p.
        spread (8 + 12 * r) (at + 8 + n * (8 + 12 * r)) (vector (take m s) r) (vector s r)
        (λ e place u l. vector_alike r e place u (omega arith))
        (v - 1) x start j (omega (arith, mul-le-mul_right (8 + 12 * r) few)) where
          few : v - 1 ≤ n
          few = omega arith

    range_list-alike : (R : Rules) (v at : ℕ) → at ≤ m → at + 16 + 28 * R.limits.ranges ≤ top →
        Same (λ g b. b ≤ at + 16 + 28 * R.limits.ranges) (range_list R.limits.ranges (take m s) v at) (range_list R.limits.ranges s v at)
    unfolding range_list before_ranges sizes
    range_list-alike R v at i h =
        then _ _
        (then _ _ (count_alike before_ranges 0 at (at + 16) i (omega arith) (omega arith))
        λ y b j p. limit_self 1 R.limits.ranges y b (at + 16) j p)
        λ g start j p.
        then _ _
        (spread 28 (at + 16 + 28 * R.limits.ranges) (range (take m s) v) (range s v)
        (λ low place u l. weaken (range_alike v low place (place + 28) refl (omega arith)) λ y next e. omega arith)
        g 0 start j (omega arith))
        λ low next l q. both g next l q

    -- the end: the place is compared with m, or with the length of all
    ended_cut : (c : Checked) (x at : ℕ) → at ≤ m → at ≤ top → Cut top m s (ended (take m s) c x at) (ended s c x at)
    unfolding ended
    ended_cut c x at i h = go (leb (length s) m) refl where
      go : (t : Bool) → leb (length s) m ≡ t → Cut top m s (ended (take m s) c x at) (ended s c x at)
      go true p =
          let l : length s ≤ m = leb-true (length s) m p in
          let e : take m s ≡ s = take_all m s l in
          rw e (whole (ended s c x at) l)
      go false p =
          let l : m < length s = leb-false (length s) m p in
          let e : length (take m s) ≡ m = omega (arith, length-take m s) in
          elim (eq-or-lt_of_le {n = at} {m = m} i) [
            | inl q ↦ rw (e, eq-eqb at m q, ne_eqb at (length s) (λ z. omega arith), ended) (over c (omega arith) l)
            | inr q ↦ rw (e, ne_eqb at m (λ z. omega arith), ne_eqb at (length s) (λ z. omega arith), ended) (stopped 10)
          ]

-- g vectors of at most r elements take no more bytes than g of x elements
vector_bytes_lem : (g r x : ℕ) → r ≤ x → g * (8 + 12 * r) ≤ 8 * g + 12 * (x * g)
vector_bytes_lem g r x h =
    omega (arith, mul-add g 8 (12 * r), mul_left_comm g 12 r, mul_comm g 8, mul_comm g r, mul-le-mul_right g h)

pub cut : (R : Rules) (s : List ℕ) (m : ℕ) → Cut (longest R.limits) m s (checked_by R (take m s)) (checked_by R s)
unfolding checked closing sizes longest
cut R s m =
    let top = longest R.limits in
    finish top m _ _ (replica_map-alike top m s R (omega arith)) λ r a i p.
    let n : R.limits.ranges * (8 + 12 * r) ≤ 8 * R.limits.ranges + 12 * (R.limits.replicas * R.limits.ranges) =
    vector_bytes_lem R.limits.ranges r R.limits.replicas p.0 in
    finish top m _ _ (vector_count-alike top m s R a i (omega arith)) λ v b j q.
    finish top m _ _ (vector_list-alike top m s r v R.limits.ranges b j q.0 (omega arith)) λ e c k t.
    finish top m _ _ (range_list-alike top m s R v c k (omega arith)) λ g d l u.
    finish top m _ _ (fields_alike top m s closing 0 d (d + 13) l refl (omega arith)) λ x end o w.
    ended_cut top m s (Accepted r v e g) x end o (omega arith)

-- any m above the length at all limits
pub prefix_above : (R : Rules) (s : List ℕ) (m : ℕ) → longest R.limits < m → checked_by R (take m s) ≡ checked_by R s
prefix_above R s m h = go (cut R s m) where
  go : {a b : Checked} → Cut (longest R.limits) m s a b → a ≡ b
  go (stopped n) = refl
  go (whole c l) = refl
  go (ends c l) = absurd (omega arith)
  go (over c l o) = absurd (omega arith)

pub prefix : (R : Rules) (s : List ℕ) → checked_by R (take (longest R.limits + 1) s) ≡ checked_by R s
prefix R s = prefix_above R s (longest R.limits + 1) (omega arith)

pub prefix_base : (s : List ℕ) → checked_by basic (take 14934 s) ≡ checked_by basic s
prefix_base s = prefix_above basic s 14934 (omega (arith, longest_base))

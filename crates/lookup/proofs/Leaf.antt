-- For bytes that the check accepts, what lookup finds is what the knowledge knows.
--
-- Everything that is read is all there, so stepping over vectors leads where they stand, and a vector's elements are its own.
-- A cursor that has passed just the ranges with bounds below n (`Stands`) finds among those that are left what the search among
-- all ranges finds, for every item from n - 1 on. Before any range n is 0 (`stands_start`); moved on to item j it is suc j
-- (`stands_advanced`), where j is at or after the item that the cursor stood at; and there the elements at the cursor's
-- vector are the item's (`stands_elements`). Up to the next bound it need not be moved (`stands_vector`).
use Prim.Native.Nat.{ℕ, zero, suc, ◌+◌, ◌-◌, ◌*◌, ◌≤◌, ◌<◌}
use mathlib.Core.Path.{◌≡◌, refl, sym, ap, ◌∙◌, subst}
use mathlib.Core.Logic.{inl, inr}
use mathlib.Core.Bool.{Bool, true, false}
use mathlib.Core.List.{List, []}
use native.Mathlib.Omega.{arith}
use lib.Dec.{eqb}
use lib.ListN.{length}
use borrow.Author.Tests.{lt-ltb, le-ltb, le-leb, eqb-true, eqb-false}
use Rattle.codec.specs.Number.{be_at}
use Rattle.layout.specs.declared.ReplicaKey.{ReplicaKey}
use Rattle.layout.specs.declared.VectorIndex.{VectorIndex}
use Rattle.layout.specs.Knowledge.{Rules, Range, All, Distinct, keys, Lawful, largest_tick}
use Rattle.layout.specs.Decode.{ids_at, elements_at, after_vectors, ranges_at, decode}
use Rattle.layout.specs.MethodPlaces.{ids_place, vectors_place, ranges_place, vector_place, count_at, value_at}
use Rattle.layout.proofs.Places.{Reading, places, ids-length, after-zero, after-suc, after-add, after_later}
use Rattle.layout.proofs.Places.{vector_ends, vector_place_lem, vectors-length}
use Rattle.ticks.specs.Meaning.{known, place, tick_at, vector_of, vector_at}
use Rattle.ticks.specs.MethodLookup.{key_of, index_at, first_index}
use Rattle.ticks.proofs.Lists.{less, same, more, order}
use Rattle.ticks.proofs.Meaning.{In, tick_element}
use Rattle.ticks.proofs.Unique.{all_get}
use Rattle.ticks.proofs.Equality.{eqb_exact, place-le}
use Rattle.ticks.proofs.LawfulResults.{lawful_ticks}
use Rattle.ticks.proofs.ForCode.{index_at-nil, index_at-lt, index_at-ge, vector_indexed, known_place, keys_once_lem}
use Rattle.lookup.specs.declared.Cursor.{Cursor}
use Rattle.lookup.specs.Method.{key_at, stepped, vector_from, start_at, past, passed, settled, advanced}
use Rattle.lookup.specs.Method.{elements_there, element_at, elements_here, tick_here, tick_of, tick_from, Opens}
use Rattle.lookup.proofs.Loops.{key_short, key_there, stepped-zero, stepped_on, from_here, from_first_lem, cursor, there_all}
use Rattle.lookup.proofs.Loops.{tick_beyond, tick_guessed, tick_other}

-- Vectors

stepped_inside : (s : List ℕ) (n at : ℕ) → after_vectors s n at ≤ length s → stepped s n at ≡ after_vectors s n at
stepped_inside s zero at h = stepped-zero s at ∙ sym (after-zero s at)
stepped_inside s (suc n) at h =
    let next = at + 8 + 12 * count_at s at in
    let room : at + 8 ≤ length s = omega (arith, after-suc s n at, after_later s n next) in
    stepped_on s n at room ∙ stepped_inside s n next (omega (arith, after-suc s n at)) ∙ sym (after-suc s n at)

-- from the place of one vector to that of another
vector_from_lem : (s : List ℕ) (r v : ℕ) (a b : VectorIndex) (at : ℕ) → b.0 < v → vector_place s r v ≤ length s
    → at ≡ vector_place s r a.0 → vector_from s r a at b ≡ vector_place s r b.0
vector_from_lem s r v a b at hb room is =
    elim (order b.0 a.0) [
      | less l ↦ sym (from_first_lem s r a at b (vector_place s r b.0) l
          (sym (stepped_inside s b.0 (vectors_place r) inside)))
      | same l ↦ sym (onwards (omega arith))
      | more l ↦ sym (onwards (omega arith))
    ]
  where
    inside : vector_place s r b.0 ≤ length s
    inside = omega (arith, vector_ends s v b.0 (vectors_place r) hb)

    onwards : a.0 ≤ b.0 → vector_place s r b.0 ≡ vector_from s r a at b
    onwards l =
        let z : b.0 ≡ a.0 + (b.0 - a.0) = omega arith in
        let whole : vector_place s r b.0 ≡ after_vectors s (b.0 - a.0) at =
        ap (λ n. after_vectors s n (vectors_place r)) z ∙ after-add s a.0 (b.0 - a.0) (vectors_place r)
        ∙ ap (after_vectors s (b.0 - a.0)) (sym is) in
        from_here s r a at b (vector_place s r b.0) l
        (whole ∙ sym (stepped_inside s (b.0 - a.0) at (omega (arith, inside, whole))))

-- Keys

-- a key is at most the number of ids
pub key_most : (s : List ℕ) (r p : ℕ) → (key_at s r p).0 ≤ r
unfolding key_of
key_most s r p =
    elim (order (length s) (ids_place + 16 * r)) [
      | less h ↦ omega (arith, ap (λ (k : ReplicaKey). k.0) (key_short s r p h))
      | same h ↦ there (omega arith)
      | more h ↦ there (omega arith)
    ]
  where
    there : ids_place + 16 * r ≤ length s → (key_at s r p).0 ≤ r
    there h =
        let ids = ids_at s r ids_place in
        omega (
          arith,
          ap (λ (k : ReplicaKey). k.0) (key_there s r p (record { 0 = place p ids }) h refl),
          place-le eqb eqb_exact p ids,
          ids-length s r ids_place,
        )

-- Ticks

-- the element with an index is one of them
element_in : (s : List ℕ) (n at k : ℕ) → k < n → In (element_at s (at + 12 * k)) (elements_at s n at)
unfolding elements_at
element_in s zero at k h = absurd (omega arith)
element_in s (suc n) at zero h = let e : at + 12 * 0 ≡ at = omega arith in inl (ap (element_at s) e)
element_in s (suc n) at (suc k) h =
    let e : at + 12 * suc k ≡ at + 12 + 12 * k = omega arith in
    inr (subst (λ p. In (element_at s p) (elements_at s n (at + 12))) (sym e) (element_in s n (at + 12) k (omega arith)))

-- where no key is there twice, it does not matter that the element with the key's index is looked at first
module _ (s : List ℕ) (at : ℕ) (key : ReplicaKey) (once : Distinct (keys (elements_here s at))) where
  looked : key.0 < elements_there s at → (x : Bool) → eqb (be_at s 4 (at + 8 + 12 * key.0)) key.0 ≡ x
      → tick_of s at key ≡ tick_here s at key
  unfolding tick_here elements_here
  looked h true e =
      let n = elements_there s at in
      let place = at + 8 + 12 * key.0 in
      let same_key : be_at s 4 place ≡ key.0 = eqb-true (be_at s 4 place) key.0 e in
      sym (tick_guessed s at n key refl (be_at s 4 place) h refl (be_at s 8 (place + 4)) same_key refl)
      ∙ sym (tick_element (elements_at s n (at + 8)) (element_at s place) once (element_in s n (at + 8) key.0 h))
      ∙ ap (tick_at (elements_at s n (at + 8))) same_key
  looked h false e =
      let x = be_at s 4 (at + 8 + 12 * key.0) in
      sym (tick_other s at (elements_there s at) key refl x h refl (tick_here s at key) (eqb-false x key.0 e) refl)

  beyond : elements_there s at ≤ key.0 → tick_of s at key ≡ tick_here s at key
  beyond h = sym (tick_beyond s at (elements_there s at) key refl (tick_here s at key) h refl)

  pub tick_once : tick_of s at key ≡ tick_here s at key
  tick_once =
      elim (order key.0 (elements_there s at)) [
        | less h ↦ looked h (eqb (be_at s 4 (at + 8 + 12 * key.0)) key.0) refl
        | same h ↦ beyond (omega arith)
        | more h ↦ beyond (omega arith)
      ]

-- Accepted bytes

module _ (R : Rules) (s : List ℕ) (r v e g : ℕ) (h : Reading R s r v e g) where
  pub read_lawful : Lawful R (decode s)
  read_lawful =
      let p = places R s r v e g h in
      subst (Lawful R) (sym p.value) p.lawful

  pub read_ids : (decode s).replicas ≡ ids_at s r ids_place
  unfolding value_at
  read_ids = ap (λ k. k.replicas) (places R s r v e g h).value

  pub read_ranges : (decode s).ranges ≡ ranges_at s g (ranges_place r v e)
  unfolding value_at
  read_ranges = ap (λ k. k.ranges) (places R s r v e g h).value

  pub ids_room : ids_place + 16 * r ≤ length s
  ids_room = omega (arith, (places R s r v e g h).whole)

  -- the key of an id
  pub read_key : (p : ℕ) → key_at s r p ≡ key_of (decode s).replicas p
  unfolding key_of
  read_key p =
      sym (key_there s r p (key_of (ids_at s r ids_place) p) ids_room refl) ∙ ap (λ ids. key_of ids p) (sym read_ids)

  -- the first vector's place, and the next one's from any
  pub first_place : vectors_place r ≡ vector_place s r 0
  first_place = sym (after-zero s (vectors_place r))

  pub next_place : (a b : VectorIndex) (at : ℕ) → b.0 < v → at ≡ vector_place s r a.0
      → vector_from s r a at b ≡ vector_place s r b.0
  next_place a b at l is =
      let p = places R s r v e g h in
      vector_from_lem s r v a b at l (omega (arith, p.after_vectors, p.whole)) is

  -- the elements at the place of a vector are the vector's
  pub vector_elements : (y : ℕ) → y < v → elements_here s (vector_place s r y) ≡ vector_of (decode s) y
  unfolding elements_here
  vector_elements y l =
      let p = places R s r v e g h in
      let at = vector_place s r y in
      let end : at + 8 + 12 * count_at s at ≤ length s =
      omega (arith, vector_ends s v y (vectors_place r) l, p.after_vectors, p.whole) in
      ap (λ n. elements_at s n (at + 8)) (sym (there_all s at (count_at s at) refl end).is)
      ∙ sym (vector_place_lem R s r v e g h y l) ∙ ap (λ k. vector_of k y) (sym p.value)

  -- and so are the ticks there
  pub vector_ticks : (y : ℕ) → y < v → (key : ReplicaKey)
      → tick_of s (vector_place s r y) key ≡ tick_at (vector_of (decode s) y) key.0
  unfolding tick_here keys
  vector_ticks y l key =
      let es = vector_elements y l in
      let once : Distinct (keys (vector_of (decode s) y)) = all_get (λ x. Distinct (keys x)) [] (decode s).vectors y read_lawful.keys_once tt in
      tick_once s (vector_place s r y) key (subst (λ x. Distinct (keys x)) (sym es) once) ∙ ap (λ x. tick_at x key.0) es

  -- every range has a vector
  pub indices_below_lem : All (λ x. x.index.0 < v) (ranges_at s g (ranges_place r v e))
  unfolding value_at
  indices_below_lem =
      subst (λ n. All (λ x. x.index.0 < n) (ranges_at s g (ranges_place r v e))) (vectors-length s v (vectors_place r))
      (places R s r v e g h).lawful.indices

  -- no known tick is above the largest
  pub known_small : (i p : ℕ) → known (decode s) i p ≤ largest_tick
  known_small i p = lawful_ticks R (decode s) i p read_lawful

-- Ranges

-- d, which was moved on from c to item i: for the items from i on the ranges that are left say the same, and their bounds
-- are above i
record Moved (s : List ℕ) (v i : ℕ) (c d : Cursor) : Type 0 where
  room : d.next + 28 * d.left ≤ c.next + 28 * c.left
  index : c.index.0 < v → All (λ x. x.index.0 < v) (ranges_at s c.left c.next) → d.index.0 < v
  indices : All (λ x. x.index.0 < v) (ranges_at s c.left c.next)
      → All (λ x. x.index.0 < v) (ranges_at s d.left d.next)
  is : (j : ℕ) → i ≤ j
      → index_at c.index (ranges_at s c.left c.next) j ≡ index_at d.index (ranges_at s d.left d.next) j
  ahead : 0 < d.left → suc i ≤ be_at s 24 d.next
  fewer : d.left ≤ c.left
  passes : 0 < c.left → be_at s 24 c.next ≤ i → d.left < c.left

moved : (s : List ℕ) (v i n next : ℕ) (index : VectorIndex) (vector : ℕ)
    → Moved s v i (cursor n next index vector) (passed s i n (cursor n next index vector))
unfolding passed past ranges_at
moved s v i zero next index vector = record {
  room = omega arith;
  index = λ h a. h;
  indices = λ a. a;
  is = λ j h. refl;
  ahead = λ h. absurd (omega arith);
  fewer = omega arith;
  passes = λ h k. absurd (omega arith);
}
moved s v i (suc n) next index vector =
    let x : Range = record { bound = be_at s 24 next; index = record { 0 = be_at s 4 (next + 24) } } in
    let c = cursor (suc n) next index vector in
    let on : be_at s 24 next ≤ i → Moved s v i c (passed s i (suc n) c) =
    λ h.
    let m = moved s v i n (next + 28) x.index vector in
    rw (le-ltb i (be_at s 24 next) h, passed)
    (record {
      room = omega (arith, m.room);
      index = λ l a. m.index a.0 a.1;
      indices = λ a. m.indices a.1;
      is = λ j l. index_at-ge index x (ranges_at s n (next + 28)) j (omega arith) ∙ m.is j l;
      ahead = m.ahead;
      fewer = omega (arith, m.fewer);
      passes = λ k l. omega (arith, m.fewer);
    }) in
    elim (order i (be_at s 24 next)) [
      | less h ↦
          rw (lt-ltb i (be_at s 24 next) h, passed)
          (record {
            room = omega arith;
            index = λ l a. l;
            indices = λ a. a;
            is = λ j l. refl;
            ahead = λ l. h;
            fewer = omega arith;
            passes = λ k l. absurd (omega arith);
          })
      | same h ↦ on (omega arith)
      | more h ↦ on (omega arith)
    ]

-- any cursor whose ranges are all there, moved on to an item: those that are left are, no more are left than before, and one less where
-- the next one is at or below the item
module _ (s : List ℕ) (r : ℕ) (c : Cursor) (j : ℕ) (room : c.next + 28 * c.left ≤ length s) where
  goes : advanced s r c j ≡ settled s r c (passed s j c.left c)
  unfolding advanced
  goes = rw (le-leb (c.next + 28 * c.left) (length s) room, advanced)

  went : Moved s 0 j c (passed s j c.left c)
  went = moved s 0 j c.left c.next c.index c.vector

  pub advanced_room : (advanced s r c j).next + 28 * (advanced s r c j).left ≤ length s
  unfolding settled
  advanced_room = omega (arith, ap (λ x. x.left) goes, ap (λ x. x.next) goes, went.room)

  pub advanced_fewer : (advanced s r c j).left ≤ c.left
  unfolding settled
  advanced_fewer = omega (arith, ap (λ x. x.left) goes, went.fewer)

  pub advanced_passes : 0 < c.left → be_at s 24 c.next ≤ j → (advanced s r c j).left < c.left
  unfolding settled
  advanced_passes m k = omega (arith, ap (λ x. x.left) goes, went.passes m k)

-- where every bound that is left is above the item, or none is left, the range is the last one passed
index_stays : (s : List ℕ) (index : VectorIndex) (n next j : ℕ) → (0 < n → j < be_at s 24 next)
    → index_at index (ranges_at s n next) j ≡ index
unfolding ranges_at
index_stays s index zero next j h = index_at-nil index j
index_stays s index (suc n) next j h =
    index_at-lt index (record { bound = be_at s 24 next; index = record { 0 = be_at s 4 (next + 24) } })
    (ranges_at s n (next + 28)) j (h (omega arith))

-- Cursors

-- a cursor of accepted bytes that has passed just the ranges with bounds below n: it is before any range where n is 0, and at
-- item i where n is suc i
pub record Stands (R : Rules) (s : List ℕ) (r : ℕ) (c : Cursor) (n : ℕ) : Type 0 where
  pub v : ℕ
  pub e : ℕ
  pub g : ℕ
  pub reading : Reading R s r v e g
  pub room : c.next + 28 * c.left ≤ length s
  pub index : c.index.0 < v
  pub indices : All (λ x. x.index.0 < v) (ranges_at s c.left c.next)
  pub vector : c.vector ≡ vector_place s r c.index.0
  pub ahead : 0 < c.left → n ≤ be_at s 24 c.next
  pub is : (j : ℕ) → n ≤ suc j
      → index_at first_index (decode s).ranges j ≡ index_at c.index (ranges_at s c.left c.next) j

module _ (R : Rules) (s : List ℕ) (r : ℕ) (c : Cursor) (o : Opens R s r c) where
  pub opens_reading : Reading R s r o.v o.e o.g
  opens_reading = record { permitted = o.permitted; bytes = o.bytes; accepts = o.accepts }

  -- before any range
  pub stands_start : Stands R s r c 0
  unfolding start_at
  stands_start =
      let p = places R s r o.v o.e o.g opens_reading in
      subst (λ d. Stands R s r d 0) (sym o.start)
      (record {
        v = o.v;
        e = o.e;
        g = o.g;
        reading = opens_reading;
        room = omega (arith, p.whole);
        index = p.some_vector;
        indices = indices_below_lem R s r o.v o.e o.g opens_reading;
        vector = first_place R s r o.v o.e o.g opens_reading;
        ahead = λ l. omega arith;
        is = λ j l. ap (λ xs. index_at first_index xs j) (read_ranges R s r o.v o.e o.g opens_reading);
      })

module _ (R : Rules) (s : List ℕ) (r : ℕ) (c : Cursor) (n : ℕ) (st : Stands R s r c n) where
  stands_lawful : Lawful R (decode s)
  stands_lawful = read_lawful R s r st.v st.e st.g st.reading

  module _ (j : ℕ) (l : n ≤ suc j) where
    abbrev d : Cursor
    d = passed s j c.left c

    move : Moved s st.v j c d
    move = moved s st.v j c.left c.next c.index c.vector

    below : d.index.0 < st.v
    below = move.index st.index st.indices

    -- moved on to an item
    pub stands_advanced : Stands R s r (advanced s r c j) (suc j)
    unfolding settled
    stands_advanced =
        subst (λ x. Stands R s r x (suc j)) (sym (goes s r c j st.room))
        (record {
          v = st.v;
          e = st.e;
          g = st.g;
          reading = st.reading;
          room = omega (arith, move.room, st.room);
          index = below;
          indices = move.indices st.indices;
          vector = next_place R s r st.v st.e st.g st.reading c.index d.index c.vector below st.vector;
          ahead = move.ahead;
          is = λ k m. st.is k (omega arith) ∙ move.is k (omega arith);
        })

    -- up to the next bound the cursor need not be moved: the elements at its vector are the item's
    module _ (before : 0 < c.left → j < be_at s 24 c.next) where
      pub stands_vector : elements_here s c.vector ≡ vector_at (decode s) j
      stands_vector =
          ap (elements_here s) st.vector
          ∙ vector_elements R s r st.v st.e st.g st.reading c.index.0 st.index
          ∙ ap (λ (y : VectorIndex). vector_of (decode s) y.0)
          (sym (st.is j l ∙ index_stays s c.index c.left c.next j before))
          ∙ vector_indexed (decode s) j stands_lawful.first

      -- and so are the ticks there
      pub stands_here : (p : ℕ) → tick_here s c.vector (key_at s r p) ≡ known (decode s) j p
      unfolding tick_here key_of
      stands_here p =
          ap (λ (k : ReplicaKey). tick_at (elements_here s c.vector) k.0)
          (read_key R s r st.v st.e st.g st.reading p)
          ∙ ap (λ es. tick_at es (key_of (decode s).replicas p).0) stands_vector
          ∙ sym (known_place R (decode s) stands_lawful j p)

      pub stands_known : (p : ℕ) → tick_of s c.vector (key_at s r p) ≡ known (decode s) j p
      stands_known p =
          tick_once s c.vector (key_at s r p)
          (subst (λ es. Distinct (keys es)) (sym stands_vector) (keys_once_lem R (decode s) stands_lawful j)) ∙ stands_here p

-- at an item
module _ (R : Rules) (s : List ℕ) (r : ℕ) (c : Cursor) (i : ℕ) (st : Stands R s r c (suc i)) where
  -- the elements there
  pub stands_elements : elements_here s c.vector ≡ vector_at (decode s) i
  stands_elements = stands_vector R s r c (suc i) st i (omega arith) st.ahead

  -- up to the next bound nothing changes
  pub stands_still : (stop : ℕ) → (0 < c.left → stop ≤ be_at s 24 c.next) → (j p : ℕ) → i ≤ j → j < stop
      → known (decode s) j p ≡ known (decode s) i p
  stands_still stop f j p l m =
      sym (stands_known R s r c (suc i) st j (omega arith) (λ k. omega (arith, f k)) p)
      ∙ stands_known R s r c (suc i) st i (omega arith) st.ahead p

-- what is found from a cursor on is the known tick
module _ (R : Rules) (s : List ℕ) (r : ℕ) (c : Cursor) where
  pub stands_tick : (n j p : ℕ) → Stands R s r c n → n ≤ suc j → tick_from s r c j p ≡ known (decode s) j p
  unfolding tick_from
  stands_tick n j p st l =
      let d = stands_advanced R s r c n st j l in
      stands_known R s r (advanced s r c j) (suc j) d j (omega arith) d.ahead p

  pub leaf_known : Opens R s r c → (i p : ℕ) → tick_from s r c i p ≡ known (decode s) i p
  leaf_known o i p = stands_tick 0 i p (stands_start R s r c o) (omega arith)

  -- before any range there are no elements
  pub start_elements : Opens R s r c → elements_here s c.vector ≡ []
  unfolding start_at
  start_elements o =
      let h = opens_reading R s r c o in
      ap (λ (x : Cursor). elements_here s x.vector) o.start
      ∙ ap (elements_here s) (first_place R s r o.v o.e o.g h)
      ∙ vector_elements R s r o.v o.e o.g h 0 (places R s r o.v o.e o.g h).some_vector
      ∙ (read_lawful R s r o.v o.e o.g h).first

-- The largest tick, that of one key, and a tick alike in all ranges, range by range: the whole answer is the answer from here on.
-- For bytes that the check accepts the largest tick and a tick alike in all ranges are the defined ones (`largest_from_lem`,
-- `alike_in_lem`): the vector's place is kept from range to range, so the elements are those of the range's vector. One key's is in
-- OneReplica.antt.
use Prim.Native.Nat.{ℕ, zero, suc, ◌+◌, ◌-◌, ◌*◌, ◌≤◌, ◌<◌, max}
use mathlib.Core.Path.{◌≡◌, refl, sym, ap, ap₂, ◌∙◌}
use mathlib.Core.Bool.{Bool, true, false}
use mathlib.Core.List.{List, ◌∷◌}
use native.Mathlib.Omega.{arith}
use lib.Dec.{eqb}
use lib.ListN.{length}
use borrow.Author.Tests.{le-leb, eq-eqb, ne_eqb}
use Rattle.codec.specs.Number.{be_at}
use Rattle.codec.specs.Words.{words3}
use Rattle.layout.specs.declared.ReplicaKey.{ReplicaKey}
use Rattle.layout.specs.declared.VectorIndex.{VectorIndex}
use Rattle.layout.specs.Knowledge.{Rules, Element, All}
use Rattle.layout.specs.Decode.{elements_at, ranges_at, decode}
use Rattle.layout.specs.MethodPlaces.{vectors_place, ranges_place, vector_place}
use Rattle.layout.proofs.Places.{Reading, places}
use Rattle.ticks.specs.Meaning.{known, tick_at, vector_of}
use Rattle.ticks.specs.MethodLookup.{key_of, first_index}
use Rattle.ticks.specs.MethodRows.{top_tick, top_from, alike_rows}
use Rattle.ticks.specs.Operations.{largest, own_alike}
use Rattle.ticks.proofs.ForRows.{largest_rows, alike_rows_lem}
use Rattle.lookup.specs.declared.Cursor.{Cursor}
use Rattle.lookup.specs.Method.{key_at, vector_from, start_at, advanced, There, element_at, elements_here, tick_of, tick_from, Opens}
use Rattle.lookup.proofs.Loops.{elements-cons, elements-zero, here_is}
use Rattle.lookup.proofs.Leaf.{read_lawful, read_ranges, read_key, first_place, next_place, vector_elements, vector_ticks}
use Rattle.lookup.proofs.Leaf.{indices_below_lem, opens_reading, leaf_known}
use Rattle.lookup_ranges.specs.Method.{index_there, past, top_by, top_of, top_key_by, top_key_of, alike_by, alike_of, alike_in}

-- The largest tick

-- those of n elements from number i on
abbrev pub elements_from : List ℕ → ℕ → ℕ → ℕ → List Element
elements_from s n start i = elements_at s (n - i) (start + 12 * i)

pub top_begins : (s : List ℕ) (vector n before : ℕ) → There s vector n
    → top_tick before (elements_here s vector) ≡ top_tick before (elements_from s n (vector + 8) 0)
top_begins s vector n before t =
    ap (top_tick before) (here_is s vector n t ∙ ap₂ (λ m at. elements_at s m at) (omega arith) (omega arith))

module _ (s : List ℕ) (whole n start i top : ℕ) (inv : whole ≡ top_tick top (elements_from s n start i)) where
  pub top_next : (x y : ℕ) → x ≡ be_at s 8 (start + 12 * i + 4) → y ≡ max top x → i < n
      → whole ≡ top_tick y (elements_from s n start (i + 1))
  unfolding top_tick
  top_next x y e f h =
      let at = start + 12 * i in
      let m : n - i - 1 ≡ n - (i + 1) = omega arith in
      let k : start + 12 * i + 12 ≡ start + 12 * (i + 1) = omega arith in
      inv ∙ ap (top_tick top) (elements-cons s (n - i) at (omega arith) ∙ ap₂ (λ z p. element_at s at ∷ elements_at s z p) m k)
      ∙ ap (λ z. top_tick z (elements_from s n start (i + 1))) (sym (f ∙ ap (max top) e))

  pub top_end : n ≤ i → top ≡ whole
  unfolding top_tick
  top_end h = sym (inv ∙ ap (top_tick top) (elements-zero s (n - i) (start + 12 * i) (omega arith)))

module _ (s : List ℕ) (r : ℕ) (c : Cursor) where
  pub tops_there : (t : ℕ) → c.next + 28 * c.left ≤ length s → t ≡ top_by s r c.left c.next c.index c.vector 0
      → t ≡ top_of s r c
  unfolding top_of
  tops_there t h e = e ∙ sym (rw (le-leb (c.next + 28 * c.left) (length s) h, top_of))

  module _ (key : ReplicaKey) where
    pub keys_there : (t : ℕ) → c.next + 28 * c.left ≤ length s
        → t ≡ top_key_by s r key c.left c.next c.index c.vector 0 → t ≡ top_key_of s r key c
    unfolding top_key_of
    keys_there t h e = e ∙ sym (rw (le-leb (c.next + 28 * c.left) (length s) h, top_key_of))

  module _ (key : ReplicaKey) (own : ℕ) where
    pub alike_there : (b : Bool) → c.next + 28 * c.left ≤ length s
        → b ≡ alike_by s r key own c.left c.next c.index c.vector → b ≡ alike_of s r key own c
    unfolding alike_of
    alike_there b h e = e ∙ sym (rw (le-leb (c.next + 28 * c.left) (length s) h, alike_of))

pub past_is : (s : List ℕ) (r n at : ℕ) (c : Cursor) → n ≡ be_at s 4 (c.next + 24)
    → at ≡ vector_from s r c.index c.vector (record { 0 = n })
    → record { left = c.left - 1; next = c.next + 28; index = record { 0 = n }; vector = at } ≡ past s r c
unfolding index_there
past_is s r n at c e f = rw (f, e) refl

module _ (s : List ℕ) (r whole : ℕ) (c : Cursor) (top : ℕ) (inv : whole ≡ top_by s r c.left c.next c.index c.vector top) where
  pub tops_next : (d : Cursor) (t : ℕ) → d ≡ past s r c → t ≡ top_tick top (elements_here s d.vector) → 0 < c.left
      → whole ≡ top_by s r d.left d.next d.index d.vector t
  unfolding top_by
  tops_next d t e f h =
      let z : c.left ≡ suc (c.left - 1) = omega arith in
      inv ∙ ap (λ m. top_by s r m c.next c.index c.vector top) z ∙ rw (f, e) refl

  pub tops_end : c.left ≤ 0 → top ≡ whole
  unfolding top_by
  tops_end h = let z : c.left ≡ 0 = omega arith in sym (inv ∙ ap (λ m. top_by s r m c.next c.index c.vector top) z)

-- one key's

module _ (s : List ℕ) (r : ℕ) (key : ReplicaKey) (whole : ℕ) (c : Cursor) (top : ℕ)
    (inv : whole ≡ top_key_by s r key c.left c.next c.index c.vector top) where
  pub keys_next : (d : Cursor) (x t : ℕ) → d ≡ past s r c → x ≡ tick_of s d.vector key → t ≡ max top x → 0 < c.left
      → whole ≡ top_key_by s r key d.left d.next d.index d.vector t
  unfolding top_key_by
  keys_next d x t e f g h =
      let z : c.left ≡ suc (c.left - 1) = omega arith in
      inv ∙ ap (λ m. top_key_by s r key m c.next c.index c.vector top) z ∙ rw (g, f, e) refl

  pub keys_end : c.left ≤ 0 → top ≡ whole
  unfolding top_key_by
  keys_end h = let z : c.left ≡ 0 = omega arith in sym (inv ∙ ap (λ m. top_key_by s r key m c.next c.index c.vector top) z)

-- the second, only where the first holds
unfoldable pub only : Bool → Bool → Bool
only b z = elim b [ true ↦ z | false ↦ false ]

module _ (s : List ℕ) (r : ℕ) (key : ReplicaKey) (own : ℕ) (whole : Bool) (c : Cursor)
    (inv : whole ≡ alike_by s r key own c.left c.next c.index c.vector) where
  module _ (d : Cursor) (t : ℕ) (e : d ≡ past s r c) (g : t ≡ tick_of s d.vector key) (h : 0 < c.left) where
    step : whole ≡ only (eqb t own) (alike_by s r key own d.left d.next d.index d.vector)
    unfolding alike_by only
    step =
        let z : c.left ≡ suc (c.left - 1) = omega arith in
        inv ∙ ap (λ m. alike_by s r key own m c.next c.index c.vector) z ∙ rw (g, e) refl

    pub alike_next : t ≡ own → whole ≡ alike_by s r key own d.left d.next d.index d.vector
    unfolding only
    alike_next k = step ∙ rw (eq-eqb t own k, only) refl

    pub alike_stop : (t ≡ own → ⊥) → false ≡ whole
    unfolding only
    alike_stop k = sym (step ∙ rw (ne_eqb t own k, only) refl)

  pub alike_end : c.left ≤ 0 → true ≡ whole
  unfolding alike_by
  alike_end h = let z : c.left ≡ 0 = omega arith in sym (inv ∙ ap (λ m. alike_by s r key own m c.next c.index c.vector) z)

pub alike_is : (s : List ℕ) (r p : ℕ) (c d : Cursor) (key : ReplicaKey) (own : ℕ) (b : Bool) → key ≡ key_at s r p
    → d ≡ advanced s r c (words3 0 0 0) → own ≡ tick_of s d.vector key → b ≡ alike_of s r key own c → b ≡ alike_in s r c p
unfolding alike_in words3
alike_is s r p c d key own b k l m n = n ∙ rw (m, l, k) refl

-- Accepted bytes

module _ (R : Rules) (s : List ℕ) (r v e g : ℕ) (h : Reading R s r v e g) where
  -- the elements of the next range are its vector's, and the ticks too
  pub next_elements : (index : VectorIndex) (vector : ℕ) (to : VectorIndex) → to.0 < v → vector ≡ vector_place s r index.0
      → (vector_from s r index vector to ≡ vector_place s r to.0)
      × (elements_here s (vector_from s r index vector to) ≡ vector_of (decode s) to.0)
  next_elements index vector to b p =
      let w = next_place R s r v e g h index to vector b p in
      (w, ap (elements_here s) w ∙ vector_elements R s r v e g h to.0 b)

  pub next_tick_lem : (index : VectorIndex) (vector : ℕ) (to : VectorIndex) → to.0 < v → vector ≡ vector_place s r index.0
      → (key : ReplicaKey) → tick_of s (vector_from s r index vector to) key ≡ tick_at (vector_of (decode s) to.0) key.0
  next_tick_lem index vector to b p key =
      ap (λ a. tick_of s a key) (next_place R s r v e g h index to vector b p) ∙ vector_ticks R s r v e g h to.0 b key

  top_by_lem : (n next : ℕ) (index : VectorIndex) (vector top : ℕ) → vector ≡ vector_place s r index.0
      → All (λ x. x.index.0 < v) (ranges_at s n next)
      → top_by s r n next index vector top ≡ top_from (λ y. vector_of (decode s) y.0) top (ranges_at s n next)
  unfolding top_by top_from ranges_at index_there
  top_by_lem zero next index vector top p all = refl
  top_by_lem (suc n) next index vector top p all =
      let to : VectorIndex = record { 0 = be_at s 4 (next + 24) } in
      let w = next_elements index vector to all.0 p in
      top_by_lem n (next + 28) to (vector_from s r index vector to)
      (top_tick top (elements_here s (vector_from s r index vector to))) w.0 all.1
      ∙ ap (λ es. top_from (λ y. vector_of (decode s) y.0) (top_tick top es) (ranges_at s n (next + 28))) w.1

  alike_by_lem : (key : ReplicaKey) (own n next : ℕ) (index : VectorIndex) (vector : ℕ) → vector ≡ vector_place s r index.0
      → All (λ x. x.index.0 < v) (ranges_at s n next)
      → alike_by s r key own n next index vector ≡ alike_rows (λ y. vector_of (decode s) y.0) key own (ranges_at s n next)
  unfolding alike_by alike_rows ranges_at index_there
  alike_by_lem key own zero next index vector p all = refl
  alike_by_lem key own (suc n) next index vector p all =
      let to : VectorIndex = record { 0 = be_at s 4 (next + 24) } in
      let w = next_elements index vector to all.0 p in
      ap₂ (λ (t : ℕ) (z : Bool). elim (eqb t own) [ true ↦ z | false ↦ false ]) (next_tick_lem index vector to all.0 p key)
      (alike_by_lem key own n (next + 28) to (vector_from s r index vector to) w.0 all.1)

module _ (R : Rules) (s : List ℕ) (r : ℕ) (c : Cursor) (o : Opens R s r c) where
  h : Reading R s r o.v o.e o.g
  h = opens_reading R s r c o

  room : ranges_place r o.v o.e + 28 * o.g ≤ length s
  room = omega (arith, (places R s r o.v o.e o.g h).whole)

  -- the largest tick
  pub largest_from_lem : top_of s r c ≡ largest (decode s)
  unfolding start_at
  largest_from_lem =
      let at = ranges_place r o.v o.e in
      let start = start_at r o.v o.e o.g in
      ap (top_of s r) o.start
      ∙ sym (tops_there s r start (top_by s r o.g at first_index (vectors_place r) 0) room refl)
      ∙ top_by_lem R s r o.v o.e o.g h o.g at first_index (vectors_place r) 0 (first_place R s r o.v o.e o.g h)
      (indices_below_lem R s r o.v o.e o.g h)
      ∙ ap (top_from (λ y. vector_of (decode s) y.0) 0) (sym (read_ranges R s r o.v o.e o.g h))
      ∙ sym (largest_rows R (decode s) (read_lawful R s r o.v o.e o.g h))

  -- the tick at item 0: the cursor that was moved there stands at it
  own_tick_lem : (p : ℕ) → tick_of s (advanced s r c 0).vector (key_at s r p) ≡ known (decode s) 0 p
  unfolding tick_from
  own_tick_lem p = leaf_known R s r c o 0 p

  -- a tick alike in all ranges
  pub alike_in_lem : (p : ℕ) → alike_in s r c p ≡ own_alike p (decode s)
  unfolding alike_in start_at
  alike_in_lem p =
      let at = ranges_place r o.v o.e in
      let start = start_at r o.v o.e o.g in
      let key = key_at s r p in
      let own = tick_of s (advanced s r c 0).vector key in
      ap (alike_of s r key own) o.start
      ∙ sym (alike_there s r start key own (alike_by s r key own o.g at first_index (vectors_place r)) room refl)
      ∙ ap₂ (λ (x : ReplicaKey) (y : ℕ). alike_by s r x y o.g at first_index (vectors_place r))
      (read_key R s r o.v o.e o.g h p) (own_tick_lem p)
      ∙ alike_by_lem R s r o.v o.e o.g h (key_of (decode s).replicas p) (known (decode s) 0 p) o.g at first_index
      (vectors_place r) (first_place R s r o.v o.e o.g h) (indices_below_lem R s r o.v o.e o.g h)
      ∙ ap (alike_rows (λ y. vector_of (decode s) y.0) (key_of (decode s).replicas p) (known (decode s) 0 p))
      (sym (read_ranges R s r o.v o.e o.g h))
      ∙ sym (alike_rows_lem R (decode s) (read_lawful R s r o.v o.e o.g h) p)

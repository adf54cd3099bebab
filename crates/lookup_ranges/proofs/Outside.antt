-- Does every range lie inside a span, range by range: the whole answer is the answer from here on. A range's last item is
-- the one before the next bound.
--
-- For bytes that the check accepts, in normal form, it is that nothing is known outside the span (`inside_ticks`). An item is in the
-- range that was passed last, so where something is known its range is one of a vector that is not 0, and the item lies between
-- the range's bound and its end. And each such vector has an element with a tick, which is known for the bound and for the end.
use Prim.Native.Nat.{ℕ, zero, suc, ◌+◌, ◌-◌, ◌*◌, ◌≤◌, ◌<◌}
use mathlib.Core.Path.{◌≡◌, refl, sym, ap, ap₂, ◌∙◌, subst}
use mathlib.Core.Logic.{◌⊎◌, inl, inr, ◌↔◌}
use mathlib.Core.Bool.{Bool, true, false}
use mathlib.Core.List.{List, [], ◌∷◌}
use native.Mathlib.Omega.{arith}
use lib.Dec.{eqb, leb}
use Rattle.std.specs.Prelude.{◌&&◌}
use Rattle.std.specs.List.{list_all, range_with_len}
use lib.ListN.{length, get_or, take, drop, length-drop}
use lib.Seq.{length-take-le}
use borrow.Author.Tests.{le-leb, lt-leb, eq-eqb, ne_eqb, leb-true}
use Rattle.codec.specs.Number.{be_at}
use Rattle.std.specs.Ordering.{partial_le}
use Rattle.std.proofs.lemmas.Grind.{common_steps}
use Rattle.codec.specs.contracts.ItemPartialOrd.TheImpl.{partial_cmp-value as item-order}
use Rattle.codec.specs.declared.Item.{Item}
use Rattle.codec.specs.Words.{words3}
use Rattle.codec.specs.Ids.{InWords, item_of, item_read}
use Rattle.codec.proofs.Ids.{item_there}
use Rattle.codec.proofs.Total.{read_there}
use Rattle.leaves.proofs.Part.{part_at}
use Rattle.layout.specs.declared.VectorIndex.{VectorIndex}
use Rattle.layout.specs.Knowledge.{Rules, Element, Range, Knowledge, All, Rising, bounds, Lawful}
use Rattle.layout.specs.Decode.{ranges_at, decode}
use Rattle.layout.specs.MethodPlaces.{ranges_place}
use Rattle.layout.proofs.Places.{Reading, places}
use Rattle.ticks.specs.Meaning.{highest, known, place, tick_at, vector_at, vector_of, Formed}
use Rattle.ticks.specs.MethodLookup.{index_at, first_index}
use Rattle.ticks.specs.Written.{is_normal}
use Rattle.ticks.proofs.Lists.{less, same, more, order}
use Rattle.ticks.proofs.Equality.{clash, exact?, eqb_exact}
use Rattle.ticks.proofs.Vectors.{tick-nil, tick_same}
use Rattle.ticks.proofs.Unique.{all_get, key_known}
use Rattle.ticks.proofs.Operations.{normal_test}
use Rattle.ticks.proofs.ForCode.{index_at-nil, index_at-lt, index_at-ge, vector_indexed, known_place, keys_below_lem}
use Rattle.lookup.specs.declared.Cursor.{Cursor}
use Rattle.lookup.specs.Method.{start_at, Opens}
use Rattle.lookup.proofs.Leaf.{read_lawful, read_ranges, opens_reading}
use Rattle.lookup_ranges.specs.Method.{end_before, lies_in, inside_by, inside_of}
use Rattle.lookup_ranges.proofs.Ranges.{only}

-- Items

pub item_le : (i j : Item) → InWords i → InWords j → partial_le item-order.it i j ≡ leb (item_of i) (item_of j)
unfolding words3
item_le i j a b = grind (arith, common_steps)

-- the item that is read from a part of the bytes
pub item_part : (s : List ℕ) (at : ℕ) → at + 24 ≤ length s → item_of (item_read (take (at + 24 - at) (drop at s))) ≡ be_at s 24 at
item_part s at h =
    let part = take (at + 24 - at) (drop at s) in
    let d = length-drop at s in
    let l : 24 ≤ length part = omega (arith, d, length-take-le (at + 24 - at) (drop at s) (omega (arith, d))) in
    item_there part l ∙ sym (read_there part 24 0 (omega arith)) ∙ part_at s at 24 h

-- The last item of a range

module _ (s : List ℕ) (next left : ℕ) where
  pub last_top : left ≡ 0 → (t : ℕ) → t ≡ highest → t ≡ end_before s left next
  unfolding end_before
  last_top z t e = e ∙ ap (λ n. end_before s n next) (sym z)

  pub last_before : (left ≡ 0 → ⊥) → (t bound : ℕ) → t ≡ bound - 1 → bound ≡ be_at s 24 next → t ≡ end_before s left next
  unfolding end_before
  last_before n t bound e w =
      let m : suc (left - 1) ≡ left = omega (arith, n) in
      e ∙ ap (λ k. k - 1) w ∙ ap (λ k. end_before s k next) m

-- One range

module _ (s : List ℕ) (first last left next n : ℕ) (is : n ≡ be_at s 4 (next + 24)) where
  pub lies_nothing : n ≡ 0 → true ≡ lies_in s first last left next
  unfolding lies_in
  lies_nothing z = sym (rw (eq-eqb (be_at s 4 (next + 24)) 0 (sym is ∙ z), lies_in))

  module _ (some : n ≡ 0 → ⊥) (b : Bool) (from : b ≡ leb first (be_at s 24 next)) where
    not_nothing : eqb (be_at s 4 (next + 24)) 0 ≡ false
    not_nothing = ne_eqb (be_at s 4 (next + 24)) 0 (λ e. some (is ∙ e))

    pub lies_below : b ≡ false → b ≡ lies_in s first last left next
    unfolding lies_in
    lies_below t = t ∙ sym (rw (not_nothing, lies_in, sym from ∙ t) refl)

    pub lies_end : b ≡ true → (d : Bool) → d ≡ leb (end_before s left (next + 28)) last → d ≡ lies_in s first last left next
    unfolding lies_in
    lies_end t d e = e ∙ sym (rw (not_nothing, lies_in, sym from ∙ t) refl)

-- Range by range

module _ (s : List ℕ) (c : Cursor) (first last : ℕ) where
  pub inside_there : (b : Bool) → c.next + 28 * c.left ≤ length s → b ≡ inside_by s first last c.left c.next
      → b ≡ inside_of s c first last
  unfolding inside_of
  inside_there b h e = e ∙ sym (rw (le-leb (c.next + 28 * c.left) (length s) h, inside_of))

inside_step : (s : List ℕ) (first last n next : ℕ)
    → inside_by s first last (suc n) next ≡ only (lies_in s first last n next) (inside_by s first last n (next + 28))
unfolding inside_by only
inside_step s first last n next = refl

-- the test by number is that of one range after the other
and_only : (a b : Bool) → a && b ≡ only a b
unfolding only
and_only true b = refl
and_only false b = refl

inside_from : (s : List ℕ) (first last count start n i : ℕ) → i + n ≡ count
    → list_all (λ j. lies_in s first last (count - 1 - j) (start + 28 * j)) (range_with_len i n)
    ≡ inside_by s first last n (start + 28 * i)
unfolding inside_by
inside_from s first last count start zero i h = refl
inside_from s first last count start (suc n) i h =
    let x : count - 1 - i ≡ n = omega arith in
    let y : start + 28 * (i + 1) ≡ start + 28 * i + 28 = omega arith in
    let at = start + 28 * i in
    ap₂ (λ m b. lies_in s first last m at && b) x
    (inside_from s first last count start n (i + 1) (omega arith) ∙ ap (inside_by s first last n) y)
    ∙ and_only (lies_in s first last n at) (inside_by s first last n (at + 28)) ∙ sym (inside_step s first last n at)

pub inside_all : (s : List ℕ) (first last count start : ℕ)
    → list_all (λ j. lies_in s first last (count - 1 - j) (start + 28 * j)) (range_with_len 0 count) ≡ inside_by s first last count start
inside_all s first last count start =
    let z : start + 28 * 0 ≡ start = omega arith in
    inside_from s first last count start count 0 (omega arith) ∙ ap (inside_by s first last count) z

-- The ranges as values

-- the last item of a range, from those after it
unfoldable end_of : List Range → ℕ
end_of [] = highest
end_of (x ∷ xs) = x.bound - 1

-- a range of a vector that is not 0 lies inside the span
record Lies (first last : ℕ) (x : Range) (xs : List Range) : Type 0 where
  begins : (x.index.0 ≡ 0 → ⊥) → first ≤ x.bound
  ends : (x.index.0 ≡ 0 → ⊥) → end_of xs ≤ last

abbrev EachLies : ℕ → ℕ → List Range → Type 0
EachLies first last [] = Unit {0}
EachLies first last (x ∷ xs) = Lies first last x xs × EachLies first last xs

end_is : (s : List ℕ) (n next : ℕ) → end_before s n next ≡ end_of (ranges_at s n next)
unfolding end_before end_of ranges_at
end_is s zero next = refl
end_is s (suc n) next = refl

-- the range at a place
abbrev range_at : List ℕ → ℕ → Range
range_at s next = record { bound = be_at s 24 next; index = record { 0 = be_at s 4 (next + 24) } }

module _ (s : List ℕ) (first last : ℕ) where
  lies_yes : (n next : ℕ) → lies_in s first last n next ≡ true → Lies first last (range_at s next) (ranges_at s n (next + 28))
  unfolding lies_in
  lies_yes n next e = record { begins = λ f. (within f).0; ends = λ f. (within f).1 }
    where
      within : (be_at s 4 (next + 24) ≡ 0 → ⊥) → (first ≤ be_at s 24 next) × (end_of (ranges_at s n (next + 28)) ≤ last)
      within f =
          let not = ne_eqb (be_at s 4 (next + 24)) 0 f in
          elim (order (be_at s 24 next) first) [
            | less h ↦ clash (lies_in s first last n next) e (rw (not, lies_in, lt-leb first (be_at s 24 next) h) refl)
            | same h ↦ ends f (omega arith)
            | more h ↦ ends f (omega arith)
          ]
        where
          ends : (be_at s 4 (next + 24) ≡ 0 → ⊥) → first ≤ be_at s 24 next
              → (first ≤ be_at s 24 next) × (end_of (ranges_at s n (next + 28)) ≤ last)
          ends f h =
              let end = end_before s n (next + 28) in
              let is : lies_in s first last n next ≡ leb end last =
              rw (ne_eqb (be_at s 4 (next + 24)) 0 f, lies_in, le-leb first (be_at s 24 next) h) refl in
              (h, omega (arith, leb-true end last (sym is ∙ e), end_is s n (next + 28)))

  lies_so : (n next : ℕ) → Lies first last (range_at s next) (ranges_at s n (next + 28)) → lies_in s first last n next ≡ true
  unfolding lies_in
  lies_so n next l =
      elim (exact? eqb eqb_exact (be_at s 4 (next + 24)) 0) [
        | inl e ↦ rw (eq-eqb (be_at s 4 (next + 24)) 0 e, lies_in)
        | inr f ↦
            let end = end_before s n (next + 28) in
            let h : first ≤ be_at s 24 next = l.begins f in
            let k : end ≤ last = omega (arith, l.ends f, end_is s n (next + 28)) in
            rw (ne_eqb (be_at s 4 (next + 24)) 0 f, lies_in, le-leb first (be_at s 24 next) h, le-leb end last k) refl
      ]

  inside_yes : (n next : ℕ) → inside_by s first last n next ≡ true → EachLies first last (ranges_at s n next)
  unfolding ranges_at only
  inside_yes zero next e = tt
  inside_yes (suc n) next e =
      go (lies_in s first last n next) refl (sym (inside_step s first last n next) ∙ e) (inside_yes n (next + 28))
    where
      go : (b : Bool) → lies_in s first last n next ≡ b → only b (inside_by s first last n (next + 28)) ≡ true
          → (inside_by s first last n (next + 28) ≡ true → EachLies first last (ranges_at s n (next + 28)))
          → EachLies first last (ranges_at s (suc n) next)
      go true f g rest = (lies_yes n next f, rest g)
      go false f g rest = clash false g refl

  inside_so : (n next : ℕ) → EachLies first last (ranges_at s n next) → inside_by s first last n next ≡ true
  unfolding ranges_at only inside_by
  inside_so zero next a = refl
  inside_so (suc n) next a =
      inside_step s first last n next
      ∙ ap₂ only (lies_so n next a.0) (inside_so n (next + 28) a.1)

-- What is known outside

-- from the bound b of the range that was passed last: an item of a vector that is not 0 is inside
item_inside : (first last : ℕ) (found : VectorIndex) (b : ℕ) (xs : List Range) → EachLies first last xs
    → ((found.0 ≡ 0 → ⊥) → (first ≤ b) × (end_of xs ≤ last)) → (i : ℕ) → b ≤ i → i ≤ highest
    → ((index_at found xs i).0 ≡ 0 → ⊥) → (first ≤ i) × (i ≤ last)
unfolding end_of
item_inside first last found b [] a f i h k n =
    let w = f (λ e. n (ap (λ (y : VectorIndex). y.0) (index_at-nil found i) ∙ e)) in
    (omega (arith, w.0), omega (arith, w.1))
item_inside first last found b (x ∷ xs) a f i h k n =
    let on : x.bound ≤ i → (first ≤ i) × (i ≤ last) =
    λ l.
    item_inside first last x.index x.bound xs a.1 (λ m. (a.0.begins m, a.0.ends m)) i l k
    (λ e. n (ap (λ (y : VectorIndex). y.0) (index_at-ge found x xs i l) ∙ e)) in
    elim (order i x.bound) [
      | less l ↦
          let w = f (λ e. n (ap (λ (y : VectorIndex). y.0) (index_at-lt found x xs i l) ∙ e)) in
          (omega (arith, w.0), omega (arith, w.1))
      | same l ↦ on (omega arith)
      | more l ↦ on (omega arith)
    ]

module _ (R : Rules) (k : Knowledge) (l : Lawful R k) where
  outside_none : (first last : ℕ) → EachLies first last k.ranges → (i p : ℕ) → i ≤ highest → (i < first) ⊎ (last < i)
      → known k i p ≡ 0
  outside_none first last a i p h o =
      let y = (index_at first_index k.ranges i).0 in
      let key = place p k.replicas in
      elim (exact? eqb eqb_exact y 0) [
        | inl e ↦
            known_place R k l i p
            ∙ ap (λ es. tick_at es key) (sym (vector_indexed k i l.first) ∙ ap (λ n. vector_of k n) e ∙ l.first)
            ∙ tick-nil key
        | inr n ↦
            let w = item_inside first last first_index 0 k.ranges a (λ f. absurd (f refl)) i (omega arith) h n in
            elim o [ inl m ↦ absurd (omega (arith, w.0)) | inr m ↦ absurd (omega (arith, w.1)) ]
      ]

  module _ (f : Formed k) where
    -- a vector that is not 0 has an element with a tick
    some_known : (y j : ℕ) → (y ≡ 0 → ⊥) → y < length k.vectors → vector_at k j ≡ vector_of k y → (p : ℕ) × (1 ≤ known k j p)
    some_known y j n m e = go (vector_of k y) refl
      where
        go : (es : List Element) → vector_of k y ≡ es → (p : ℕ) × (1 ≤ known k j p)
        go [] z = absurd (f.not_empty y (omega (arith, n)) m z)
        go (x ∷ xs) z =
            let here : vector_at k j ≡ x ∷ xs = e ∙ z in
            let ticks : All (λ w. 1 ≤ w.tick) (x ∷ xs) =
            subst (All (λ w. 1 ≤ w.tick)) z (all_get (All (λ w. 1 ≤ w.tick)) [] k.vectors y f.ticks tt) in
            let small : All (λ w. w.key.0 < length k.replicas) (x ∷ xs) =
            subst (All (λ w. w.key.0 < length k.replicas)) here (keys_below_lem R k l j) in (
              get_or k.replicas x.key.0 0,
              omega (
                arith,
                key_known k j x.key.0 f.sound small.0,
                ap (λ es. tick_at es x.key.0) here,
                tick_same x xs x.key.0 refl,
                ticks.0,
              ),
            )

    module _ (first last : ℕ) (none : (i p : ℕ) → i ≤ highest → (i < first) ⊎ (last < i) → known k i p ≡ 0) where
      -- an item of which something is known is inside
      known_inside_lem : (j : ℕ) → j ≤ highest → ((p : ℕ) × (1 ≤ known k j p)) → (first ≤ j) × (j ≤ last)
      known_inside_lem j h w =
          let a : first ≤ j =
          elim (order j first) [
            | less m ↦ absurd (omega (arith, w.1, none j w.0 h (inl m)))
            | same m ↦ omega arith
            | more m ↦ omega arith
          ] in
          let b : j ≤ last =
          elim (order last j) [
            | less m ↦ absurd (omega (arith, w.1, none j w.0 h (inr m)))
            | same m ↦ omega arith
            | more m ↦ omega arith
          ] in
          (a, b)

      -- from its bound to its end an item is in the range
      stays : (x : Range) (xs : List Range) (j : ℕ) → Rising (suc x.bound) (bounds xs) → j ≤ end_of xs
          → index_at x.index xs j ≡ x.index
      unfolding end_of bounds
      stays x [] j r h = index_at-nil x.index j
      stays x (y ∷ ys) j r h = index_at-lt x.index y ys j (omega (arith, r.0))

      end_after : (b : ℕ) (xs : List Range) → b ≤ highest → Rising (suc b) (bounds xs) → b ≤ end_of xs
      unfolding end_of bounds
      end_after b [] h r = h
      end_after b (y ∷ ys) h r = omega (arith, r.0)

      end_low : (xs : List Range) → All (λ b. b ≤ highest) (bounds xs) → end_of xs ≤ highest
      unfolding end_of bounds
      end_low [] a = omega arith
      end_low (y ∷ ys) a = omega (arith, a.0)

      each_lies : (found : VectorIndex) (lo : ℕ) (xs : List Range) → Rising lo (bounds xs) → All (λ b. b ≤ highest) (bounds xs)
          → All (λ x. x.index.0 < length k.vectors) xs
          → ((j : ℕ) → lo ≤ suc j → index_at first_index k.ranges j ≡ index_at found xs j) → EachLies first last xs
      unfolding bounds
      each_lies found lo [] r a b link = tt
      each_lies found lo (x ∷ xs) r a b link =
          let later : (j : ℕ) → suc x.bound ≤ suc j → index_at first_index k.ranges j ≡ index_at x.index xs j =
          λ j h. link j (omega (arith, r.0)) ∙ index_at-ge found x xs j (omega arith) in
          let at : (j : ℕ) → (x.index.0 ≡ 0 → ⊥) → x.bound ≤ j → j ≤ end_of xs → j ≤ highest → (first ≤ j) × (j ≤ last) =
          λ j n h e m.
          known_inside_lem j m
          (some_known x.index.0 j n b.0
          (sym (vector_indexed k j l.first)
          ∙ ap (λ (y : VectorIndex). vector_of k y.0) (later j (omega arith) ∙ stays x xs j r.1 e))) in
          let begin : x.bound ≤ end_of xs = end_after x.bound xs a.0 r.1 in
          let low : end_of xs ≤ highest = end_low xs a.1 in (
            record {
              begins = λ n. (at x.bound n (omega arith) begin a.0).0;
              ends = λ n. (at (end_of xs) n begin (omega arith) low).1;
            },
            each_lies x.index (suc x.bound) xs r.1 a.1 b.1 later,
          )

      each_inside : EachLies first last k.ranges
      each_inside =
          each_lies first_index 0 k.ranges f.sound.rising f.sound.items f.sound.indices_below (λ j h. refl)

-- Accepted bytes

module _ (R : Rules) (s : List ℕ) (r : ℕ) (c : Cursor) (o : Opens R s r c) (first last : ℕ) where
  inside_is : inside_of s c first last ≡ inside_by s first last o.g (ranges_place r o.v o.e)
  unfolding start_at
  inside_is =
      let start = start_at r o.v o.e o.g in
      let p = places R s r o.v o.e o.g (opens_reading R s r c o) in
      ap (λ (d : Cursor). inside_of s d first last) o.start
      ∙ sym (inside_there s start first last (inside_by s first last o.g (ranges_place r o.v o.e)) (omega (arith, p.whole)) refl)

  -- nothing is known outside the span
  pub inside_opens : is_normal (decode s) ≡ true
      → (inside_of s c first last ≡ true) ↔ ((i p : ℕ) → i ≤ highest → (i < first) ⊎ (last < i) → known (decode s) i p ≡ 0)
  inside_opens n =
      let h = opens_reading R s r c o in
      let l = read_lawful R s r o.v o.e o.g h in
      let at = ranges_place r o.v o.e in
      let is = read_ranges R s r o.v o.e o.g h in
      let f = ((normal_test (decode s)).0 n).formed in (
        (λ e. outside_none R (decode s) l first last
            (subst (EachLies first last) (sym is) (inside_yes s first last o.g at (sym inside_is ∙ e)))),
        (λ none. inside_is
            ∙ inside_so s first last o.g at (subst (EachLies first last) is (each_inside R (decode s) l f first last none))),
      )

-- the same from the sizes
pub inside_ticks : (R : Rules) (s : List ℕ) (r v e g : ℕ) → Reading R s r v e g → (first last : ℕ) → is_normal (decode s) ≡ true
    → (inside_of s (start_at r v e g) first last ≡ true)
    ↔ ((i p : ℕ) → i ≤ highest → (i < first) ⊎ (last < i) → known (decode s) i p ≡ 0)
inside_ticks R s r v e g h =
    inside_opens R s r (start_at r v e g)
    (record { permitted = h.permitted; v = v; e = e; g = g; bytes = h.bytes; accepts = h.accepts; start = refl })

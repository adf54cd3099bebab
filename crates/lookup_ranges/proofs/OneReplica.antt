-- The largest tick of one replica, range by range, for bytes that the check accepts: it bounds every tick that is known of the replica,
-- and it is known for some item or 0, as every known tick is 0 or that at a bound. So another knowledge, whose tick of the replica is
-- alike in all ranges, covers these bytes for that replica exactly where its tick is at least the largest (`top_key_covers`).
use Prim.Native.Nat.{ℕ, zero, suc, ◌+◌, ◌≤◌, ◌<◌, max}
use mathlib.Core.Path.{◌≡◌, refl, sym, ap, ◌∙◌}
use mathlib.Core.Logic.{◌⊎◌, inl, inr, ⊎_elim}
use mathlib.Core.Bool.{Bool, true, false}
use mathlib.Core.List.{List, [], ◌∷◌}
use native.Mathlib.Omega.{arith}
use lib.Dec.{leb}
use borrow.Author.Tests.{le-leb, lt-leb}
use Rattle.codec.specs.Number.{be_at}
use Rattle.layout.specs.declared.ReplicaKey.{ReplicaKey}
use Rattle.layout.specs.declared.VectorIndex.{VectorIndex}
use Rattle.layout.specs.Knowledge.{Rules, Range, Knowledge, All, bounds, Lawful}
use Rattle.layout.specs.Decode.{ranges_at, decode}
use Rattle.layout.specs.MethodPlaces.{vectors_place, ranges_place, vector_place}
use Rattle.layout.proofs.Places.{Reading, places}
use Rattle.ticks.specs.Meaning.{highest, known, place, tick_at, vector_of}
use Rattle.ticks.specs.MethodLookup.{key_of, first_index}
use Rattle.ticks.specs.Operations.{own_alike, covers_for}
use Rattle.ticks.proofs.Lists.{Among, less, same, more, order, all_among}
use Rattle.ticks.proofs.Meaning.{In}
use Rattle.ticks.proofs.LawfulResults.{lawful_sound}
use Rattle.ticks.proofs.Largest.{known_at_bound, alike_all}
use Rattle.ticks.proofs.ForCode.{vector_indexed, known_place}
use Rattle.ticks.proofs.ForRows.{index_own}
use Rattle.ticks.proofs.ForCover.{covers_for_exact}
use Rattle.lookup.specs.declared.Cursor.{Cursor}
use Rattle.lookup.specs.Method.{key_at, vector_from, start_at, tick_of, Opens}
use Rattle.lookup.proofs.Leaf.{read_lawful, read_ranges, read_key, first_place, indices_below_lem, opens_reading}
use Rattle.lookup_ranges.specs.Method.{index_there, top_key_by, top_key_of}
use Rattle.lookup_ranges.proofs.Ranges.{keys_there, next_elements, next_tick_lem}

-- Ranges as values

module _ (k : Knowledge) (p : ℕ) where
  -- the largest tick of p at the bounds of ranges, and of what was met before
  unfoldable top_own : ℕ → List Range → ℕ
  top_own top [] = top
  top_own top (x ∷ xs) = top_own (max top (known k x.bound p)) xs

  own_low : (top : ℕ) (xs : List Range) → top ≤ top_own top xs
  unfolding top_own
  own_low top [] = omega arith
  own_low top (x ∷ xs) = omega (arith, own_low (max top (known k x.bound p)) xs)

  own_bounds : (top : ℕ) (xs : List Range) (b : ℕ) → Among b (bounds xs) → known k b p ≤ top_own top xs
  unfolding top_own bounds
  own_bounds top [] b m = absurd m
  own_bounds top (x ∷ xs) b (inl e) = omega (arith, ap (λ i. known k i p) e, own_low (max top (known k x.bound p)) xs)
  own_bounds top (x ∷ xs) b (inr m) = own_bounds (max top (known k x.bound p)) xs b m

  own_attained : (top : ℕ) (xs : List Range)
      → (top_own top xs ≡ top) ⊎ ((b : ℕ) × (Among b (bounds xs) × (known k b p ≡ top_own top xs)))
  unfolding top_own bounds
  own_attained top [] = inl refl
  own_attained top (x ∷ xs) =
      ⊎_elim
      (λ e.
      elim (order top (known k x.bound p)) [
        | less h ↦ inr (x.bound, (inl refl, omega arith))
        | same h ↦ inl (omega arith)
        | more h ↦ inl (omega arith)
      ])
      (λ w. inr (w.0, (inr w.1.0, w.1.1)))
      (own_attained (max top (known k x.bound p)) xs)

-- Accepted bytes

module _ (R : Rules) (s : List ℕ) (r v e g : ℕ) (h : Reading R s r v e g) (p : ℕ) where
  lawful : Lawful R (decode s)
  lawful = read_lawful R s r v e g h

  -- the tick of the key in a range's vector is the known one at its bound
  range_tick : (x : Range) → In x (decode s).ranges
      → tick_at (vector_of (decode s) x.index.0) (key_at s r p).0 ≡ known (decode s) x.bound p
  unfolding key_of
  range_tick x m =
      let k = decode s in
      ap (λ (y : ReplicaKey). tick_at (vector_of k x.index.0) y.0) (read_key R s r v e g h p)
      ∙ ap (λ es. tick_at es (place p k.replicas))
      (ap (λ (y : VectorIndex). vector_of k y.0) (sym (index_own first_index 0 k.ranges x lawful.rising m))
      ∙ vector_indexed k x.bound lawful.first)
      ∙ sym (known_place R k lawful x.bound p)

  top_own_lem : (n next : ℕ) (index : VectorIndex) (vector top : ℕ) → vector ≡ vector_place s r index.0
      → All (λ x. x.index.0 < v) (ranges_at s n next) → ((x : Range) → In x (ranges_at s n next) → In x (decode s).ranges)
      → top_key_by s r (key_at s r p) n next index vector top ≡ top_own (decode s) p top (ranges_at s n next)
  unfolding top_key_by top_own ranges_at index_there
  top_own_lem zero next index vector top q all f = refl
  top_own_lem (suc n) next index vector top q all f =
      let to : VectorIndex = record { 0 = be_at s 4 (next + 24) } in
      let at = vector_from s r index vector to in
      let w = next_elements R s r v e g h index vector to all.0 q in
      let x : Range = record { bound = be_at s 24 next; index = to } in
      let tick : tick_of s at (key_at s r p) ≡ known (decode s) (be_at s 24 next) p =
      next_tick_lem R s r v e g h index vector to all.0 q (key_at s r p) ∙ range_tick x (f x (inl refl)) in
      top_own_lem n (next + 28) to at (max top (tick_of s at (key_at s r p))) w.0 all.1 (λ y m. f y (inr m))
      ∙ ap (λ t. top_own (decode s) p (max top t) (ranges_at s n (next + 28))) tick

module _ (R : Rules) (s : List ℕ) (r : ℕ) (c : Cursor) (o : Opens R s r c) (p : ℕ) where
  h : Reading R s r o.v o.e o.g
  h = opens_reading R s r c o

  abbrev top : ℕ
  top = top_key_of s r (key_at s r p) c

  top_is : top ≡ top_own (decode s) p 0 (decode s).ranges
  unfolding start_at
  top_is =
      let at = ranges_place r o.v o.e in
      let is = read_ranges R s r o.v o.e o.g h in
      let key = key_at s r p in
      ap (top_key_of s r key) o.start
      ∙ sym (keys_there s r (start_at r o.v o.e o.g) key (top_key_by s r key o.g at first_index (vectors_place r) 0)
      (omega (arith, (places R s r o.v o.e o.g h).whole)) refl)
      ∙ top_own_lem R s r o.v o.e o.g h p o.g at first_index (vectors_place r) 0
      (first_place R s r o.v o.e o.g h) (indices_below_lem R s r o.v o.e o.g h) (λ x m. rw is m)
      ∙ ap (top_own (decode s) p 0) (sym is)

  -- it bounds every tick known of the replica
  pub top_key_bounds : (i : ℕ) → known (decode s) i p ≤ top
  top_key_bounds i =
      ⊎_elim (λ z. omega (arith, z))
      (λ w. omega (arith, w.1.1, own_bounds (decode s) p 0 (decode s).ranges w.0 w.1.0, top_is))
      (known_at_bound (decode s) i p)

  -- and is known for some item, or 0
  pub top_key_attained : (top ≡ 0) ⊎ ((i : ℕ) × ((i ≤ highest) × (known (decode s) i p ≡ top)))
  top_key_attained =
      let items = (lawful_sound R (decode s) (read_lawful R s r o.v o.e o.g h)).items in
      ⊎_elim (λ z. inl (top_is ∙ z))
      (λ w. inr (w.0, (all_among (λ b. b ≤ highest) (bounds (decode s).ranges) items w.0 w.1.0, w.1.1 ∙ sym top_is)))
      (own_attained (decode s) p 0 (decode s).ranges)

  -- cover for the one replica, by a knowledge whose tick of it is alike in all ranges
  pub top_key_covers : (a : Knowledge) → own_alike p a ≡ true
      → covers_for (p ∷ []) a (decode s) 0 highest ≡ leb top (known a 0 p)
  top_key_covers a alike =
      elim (order (known a 0 p) top) [
        | less l ↦ no l (covers_for (p ∷ []) a (decode s) 0 highest) refl ∙ sym (lt-leb top (known a 0 p) l)
        | same l ↦ yes (omega arith)
        | more l ↦ yes (omega arith)
      ]
    where
      yes : top ≤ known a 0 p → covers_for (p ∷ []) a (decode s) 0 highest ≡ leb top (known a 0 p)
      yes l =
          (covers_for_exact (p ∷ []) a (decode s) 0 highest).1
          (record {
            known = λ i q f t m.
                ⊎_elim
                (λ (d : q ≡ p).
                omega (arith, top_key_bounds i, alike_all a p i alike, ap (known (decode s) i) d, ap (known a i) d))
                (λ (z : ⊥). absurd z) m;
          })
          ∙ sym (le-leb top (known a 0 p) l)

      no : known a 0 p < top → (b : Bool) → covers_for (p ∷ []) a (decode s) 0 highest ≡ b → b ≡ false
      no l false d = refl
      no l true d =
          let f = (covers_for_exact (p ∷ []) a (decode s) 0 highest).0 d in
          ⊎_elim (λ z. absurd (omega (arith, z)))
          (λ w. absurd (omega (arith, w.1.1, f.known w.0 p (omega arith) w.1.0 (inl refl), alike_all a p w.0 alike)))
          top_key_attained

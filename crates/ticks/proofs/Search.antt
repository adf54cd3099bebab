-- Cover is exact: no lacking place is found at the candidate items exactly when the first knowledge knows at least as much
-- as the second for every item of the span. Ticks change at bounds only, so the candidates speak for all items. A place
-- that is found lacks, and none before it does.
use Prim.Native.Nat.{ℕ, suc, ◌≤◌, ◌<◌}
use mathlib.Core.Path.{◌≡◌, refl, ap, ap₂, subst}
use mathlib.Core.Logic.{inl, inr, ⊎_elim, ◌↔◌}
use mathlib.Core.Bool.{true, false}
use mathlib.Core.List.{List, [], ◌∷◌, ◌++◌}
use native.Mathlib.Omega.{arith}
use borrow.Author.Tests.{lt-ltb, le-ltb}
use Rattle.layout.specs.Knowledge.{Knowledge, Rising, bounds}
use Rattle.ticks.specs.Meaning.{known}
use Rattle.ticks.specs.Table.{sorted, within}
use Rattle.ticks.specs.Operations.{Lack, nowhere, here, lacking_at, or_else, lacking_from, lacking, is_nowhere, covers}
use Rattle.ticks.proofs.Lists.{Among, less, same, more, order, among_left, among_right, sorted_in, sorted_only, sorted_rising, within_in, within_only, rising_above}
use Rattle.ticks.proofs.Equality.{clash}
use Rattle.ticks.proofs.Steps.{Steady, steady_from}
use Rattle.ticks.proofs.Operations.{known_steady, in_map}

-- The search

module _ (a b : Knowledge) where
  at_here : (i p : ℕ) (ps : List ℕ) → known a i p < known b i p → lacking_at a b i (p ∷ ps) ≡ here i p
  unfolding lacking_at
  at_here i p ps h = rw (lt-ltb (known a i p) (known b i p) h, lacking_at)

  at_next : (i p : ℕ) (ps : List ℕ) → known b i p ≤ known a i p → lacking_at a b i (p ∷ ps) ≡ lacking_at a b i ps
  unfolding lacking_at
  at_next i p ps h = rw (le-ltb (known a i p) (known b i p) h, lacking_at)

  at_none : (i : ℕ) → lacking_at a b i [] ≡ nowhere
  unfolding lacking_at
  at_none i = refl

  from_none : (ps : List ℕ) → lacking_from a b ps [] ≡ nowhere
  unfolding lacking_from
  from_none ps = refl

  from_cons : (ps : List ℕ) (i : ℕ) (is : List ℕ) → lacking_from a b ps (i ∷ is) ≡ or_else (lacking_at a b i ps) (lacking_from a b ps is)
  unfolding lacking_from
  from_cons ps i is = refl

  -- what the search at one item says
  abbrev AtSays : ℕ → List ℕ → Lack → Type 0
  AtSays i ps nowhere = (q : ℕ) → Among q ps → known b i q ≤ known a i q
  AtSays i ps (here j p) = (j ≡ i) × (Among p ps × ((known a i p < known b i p) × ((q : ℕ) → Among q ps → q < p → known b i q ≤ known a i q)))

  at_says : (lo i : ℕ) (ps : List ℕ) → Rising lo ps → AtSays i ps (lacking_at a b i ps)
  at_says lo i [] r = rw at_none (λ q m. absurd m)
  at_says lo i (p ∷ ps) r =
      elim (order (known a i p) (known b i p)) [
        | less h ↦
            rw (at_here i p ps h)
            (refl, (inl refl, (h, λ q m l. ⊎_elim (λ e. absurd (omega arith)) (λ n. absurd (omega (arith, rising_above (suc p) q ps r.1 n))) m)))
        | same h ↦ rw (at_next i p ps (omega arith)) (onward (omega arith) (lacking_at a b i ps) (at_says (suc p) i ps r.1))
        | more h ↦ rw (at_next i p ps (omega arith)) (onward (omega arith) (lacking_at a b i ps) (at_says (suc p) i ps r.1))
      ]
    where
      onward : known b i p ≤ known a i p → (x : Lack) → AtSays i ps x → AtSays i (p ∷ ps) x
      onward h nowhere f = λ q m. ⊎_elim (λ e. rw e h) (f q) m
      onward h (here j y) f =
          (f.0, (inr f.1.0, (f.1.1.0, λ q m l. ⊎_elim (λ e. rw e h) (λ n. f.1.1.1 q n l) m)))

  -- what the search at several items says
  abbrev FromSays : List ℕ → List ℕ → Lack → Type 0
  FromSays ps is nowhere = (i q : ℕ) → Among i is → Among q ps → known b i q ≤ known a i q
  FromSays ps is (here j p) =
      Among j is × (Among p ps × ((known a j p < known b j p)
      × (((i q : ℕ) → Among i is → i < j → Among q ps → known b i q ≤ known a i q)
      × ((q : ℕ) → Among q ps → q < p → known b j q ≤ known a j q))))

  from_says : (lo : ℕ) (ps is : List ℕ) → Rising 0 ps → Rising lo is → FromSays ps is (lacking_from a b ps is)
  unfolding or_else
  from_says lo ps [] r s = rw from_none (λ i q m n. absurd m)
  from_says lo ps (i ∷ is) r s =
      rw from_cons (go (lacking_at a b i ps) (at_says 0 i ps r) (lacking_from a b ps is) (from_says (suc i) ps is r s.1))
    where
      go : (x : Lack) → AtSays i ps x → (y : Lack) → FromSays ps is y → FromSays ps (i ∷ is) (or_else x y)
      go nowhere f nowhere g = λ j q m n. ⊎_elim (λ e. rw e (f q n)) (λ o. g j q o n) m
      go nowhere f (here j p) g =
          (inr g.0, (g.1.0, (g.1.1.0, ((λ k q m l n. ⊎_elim (λ e. rw e (f q n)) (λ o. g.1.1.1.0 k q o l n) m), g.1.1.1.1))))
      go (here j p) f y g =
          let e : j ≡ i = f.0 in (
            inl e,
            (
              f.1.0,
              (
                rw e f.1.1.0,
                (
                  (λ k q m l n. ⊎_elim (λ d. absurd (omega arith)) (λ o. absurd (omega (arith, rising_above (suc i) k is s.1 o))) m),
                  (λ q n l. rw e (f.1.1.1 q n l)),
                ),
              ),
            ),
          )

-- The candidates speak for all items

-- the items at which a span is searched
unfoldable pub stops : Knowledge → Knowledge → ℕ → ℕ → List ℕ
stops a b first last = sorted (within first last (first ∷ bounds a.ranges ++ bounds b.ranges))

stops_rising : (a b : Knowledge) (first last : ℕ) → Rising first (stops a b first last)
unfolding stops
stops_rising a b first last =
    sorted_rising first (within first last (first ∷ bounds a.ranges ++ bounds b.ranges))
    (λ x m. (within_only first last x (first ∷ bounds a.ranges ++ bounds b.ranges) m).above)

pub stops_inside : (a b : Knowledge) (first last x : ℕ) → Among x (stops a b first last) → (first ≤ x) × (x ≤ last)
unfolding stops
stops_inside a b first last x m =
    let w = within_only first last x (first ∷ bounds a.ranges ++ bounds b.ranges) (sorted_only x (within first last (first ∷ bounds a.ranges ++ bounds b.ranges)) m) in
    (w.above, w.below)

stops_in : (a b : Knowledge) (first last x : ℕ) → first ≤ x → x ≤ last → Among x (first ∷ bounds a.ranges ++ bounds b.ranges) → Among x (stops a b first last)
unfolding stops
stops_in a b first last x h k m =
    sorted_in x (within first last (first ∷ bounds a.ranges ++ bounds b.ranges))
    (within_in first last x (first ∷ bounds a.ranges ++ bounds b.ranges) h k m)

-- of any two knowledges: each item of a span has the ticks of one of the stops at or below it
pub stop_for : (a b : Knowledge) (first last i p : ℕ) → first ≤ i → i ≤ last
    → (c : ℕ) × (Among c (stops a b first last) × ((c ≤ i) × ((known a i p ≡ known a c p) × (known b i p ≡ known b c p))))
stop_for a b first last i p h k = ⊎_elim at_first at_bound (steady_from last first (bounds a.ranges ++ bounds b.ranges) F steady i h k)
  where
    F : ℕ → ℕ × ℕ
    F j = (known a j p, known b j p)

    steady : Steady last first (bounds a.ranges ++ bounds b.ranges) (λ j. F j)
    steady j l m n =
        ap₂ (λ x y. (x, y)) (known_steady a j p (λ o. n (among_left (suc j) (bounds a.ranges) (bounds b.ranges) o)))
        (known_steady b j p (λ o. n (among_right (suc j) (bounds a.ranges) (bounds b.ranges) o)))

    at_first : F i ≡ F first → (c : ℕ) × (Among c (stops a b first last) × ((c ≤ i) × ((known a i p ≡ known a c p) × (known b i p ≡ known b c p))))
    at_first e = (first, (stops_in a b first last first (omega arith) (omega arith) (inl refl), (h, (ap (λ x. x.0) e, ap (λ x. x.1) e))))

    at_bound : (c : ℕ) × ((Among c (bounds a.ranges ++ bounds b.ranges)) × ((first < c) × ((c ≤ i) × (F i ≡ F c))))
        → (c : ℕ) × (Among c (stops a b first last) × ((c ≤ i) × ((known a i p ≡ known a c p) × (known b i p ≡ known b c p))))
    at_bound w = (
      w.0,
      (
        stops_in a b first last w.0 (omega (arith, w.1.1.0)) (omega (arith, w.1.1.1.0)) (inr w.1.0),
        (w.1.1.1.0, (ap (λ x. x.0) w.1.1.1.1, ap (λ x. x.1) w.1.1.1.1)),
      ),
    )

ids_rising : (ids : List ℕ) → Rising 0 (sorted ids)
ids_rising ids = sorted_rising 0 ids (λ x m. omega arith)

-- what the search of a span says
pub lacking_says : (a b : Knowledge) (first last : ℕ) → FromSays a b (sorted b.replicas) (stops a b first last) (lacking a b first last)
unfolding lacking stops
lacking_says a b first last =
    from_says a b first (sorted b.replicas) (sorted (within first last (first ∷ bounds a.ranges ++ bounds b.ranges)))
    (ids_rising b.replicas) (stops_rising a b first last)

-- the first knows at least as much as the second throughout the span
pub record Covers (a b : Knowledge) (first last : ℕ) : Type 0 where
  pub known : (i p : ℕ) → first ≤ i → i ≤ last → known b i p ≤ known a i p

nowhere_covers : (a b : Knowledge) (first last : ℕ)
    → ((i q : ℕ) → Among i (stops a b first last) → Among q (sorted b.replicas) → known b i q ≤ known a i q) → Covers a b first last
nowhere_covers a b first last f = record {
  known = λ i p h k.
      ⊎_elim
      (λ m.
      let w = stop_for a b first last i p h k in
      omega (arith, f w.0 p w.1.0 (sorted_in p b.replicas m), w.1.1.1.0, w.1.1.1.1))
      (λ z. omega arith) (in_map b i p);
}

-- cover is exact
pub covers_exact : (a b : Knowledge) (first last : ℕ) → (covers a b first last ≡ true) ↔ Covers a b first last
unfolding covers is_nowhere
covers_exact a b first last = (there (lacking a b first last) (lacking_says a b first last), back (lacking a b first last) (lacking_says a b first last))
  where
    there : (x : Lack) → FromSays a b (sorted b.replicas) (stops a b first last) x → is_nowhere x ≡ true → Covers a b first last
    there nowhere f e = nowhere_covers a b first last f
    there (here i p) f e = clash false e refl

    back : (x : Lack) → FromSays a b (sorted b.replicas) (stops a b first last) x → Covers a b first last → is_nowhere x ≡ true
    back nowhere f c = refl
    back (here i p) f c =
        let w = stops_inside a b first last i f.0 in
        absurd (omega (arith, f.1.1.0, c.known i p w.0 w.1))

-- the first lacking place of a span: it lacks, no item before it does, and no replica before it at its item
pub record FirstLacking (a b : Knowledge) (first last i p : ℕ) : Type 0 where
  pub above : first ≤ i
  pub below : i ≤ last
  pub lacks : known a i p < known b i p
  pub items : (j q : ℕ) → first ≤ j → j < i → known b j q ≤ known a j q
  pub replicas : (q : ℕ) → q < p → known b i q ≤ known a i q

pub lacking_first : (a b : Knowledge) (first last i p : ℕ) → lacking a b first last ≡ here i p → FirstLacking a b first last i p
lacking_first a b first last i p e = go (subst (FromSays a b (sorted b.replicas) (stops a b first last)) e (lacking_says a b first last))
  where
    go : FromSays a b (sorted b.replicas) (stops a b first last) (here i p) → FirstLacking a b first last i p
    go f =
        let w = stops_inside a b first last i f.0 in
        record {
          above = w.0;
          below = w.1;
          lacks = f.1.1.0;
          items = λ j q h k.
              ⊎_elim
              (λ m.
              let s = stop_for a b first last j q h (omega (arith, w.1)) in
              omega (arith, f.1.1.1.0 s.0 q s.1.0 (omega (arith, s.1.1.0)) (sorted_in q b.replicas m), s.1.1.1.0, s.1.1.1.1))
              (λ z. omega arith) (in_map b j q);
          replicas = λ q h. ⊎_elim (λ m. f.1.1.1.1 q (sorted_in q b.replicas m) h) (λ z. omega arith) (in_map b i q);
        }

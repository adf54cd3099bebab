-- Cover for given replicas is exact: no lacking place is found at the candidate items exactly when the first knowledge
-- knows at least as much as the second for every item of the span and every given replica, in whatever order they stand.
use Prim.Native.Nat.{ℕ, ◌≤◌, ◌<◌}
use mathlib.Core.Path.{◌≡◌, refl}
use mathlib.Core.Logic.{inl, inr, ⊎_elim, ◌↔◌}
use mathlib.Core.Bool.{Bool, true, false}
use mathlib.Core.List.{List, [], ◌∷◌}
use native.Mathlib.Omega.{arith}
use lib.Dec.{ltb}
use borrow.Author.Tests.{ltb-true, ltb-false}
use Rattle.layout.specs.Knowledge.{Knowledge}
use Rattle.ticks.specs.Meaning.{known}
use Rattle.ticks.specs.Operations.{Lack, nowhere, here, lacking_at, or_else, lacking_from, is_nowhere, covers_for}
use Rattle.ticks.proofs.Lists.{Among}
use Rattle.ticks.proofs.Equality.{clash}
use Rattle.ticks.proofs.Search.{stops, stops_inside, stop_for}

module _ (a b : Knowledge) where
  -- what a search at one item says
  abbrev AtSays : ℕ → List ℕ → Lack → Type 0
  AtSays i ps nowhere = (q : ℕ) → Among q ps → known b i q ≤ known a i q
  AtSays i ps (here j p) = (q : ℕ) × (Among q ps × (known a i q < known b i q))

  at_says : (i : ℕ) (ps : List ℕ) → AtSays i ps (lacking_at a b i ps)
  unfolding lacking_at
  at_says i [] = λ q m. absurd m
  at_says i (p ∷ ps) = go (ltb (known a i p) (known b i p)) refl (lacking_at a b i ps) (at_says i ps)
    where
      go : (t : Bool) → ltb (known a i p) (known b i p) ≡ t → (x : Lack) → AtSays i ps x → AtSays i (p ∷ ps) (elim t [ true ↦ here i p | false ↦ x ])
      go true e x f = (p, (inl refl, ltb-true (known a i p) (known b i p) e))
      go false e nowhere f = λ q m. ⊎_elim (λ (d : q ≡ p). rw d (ltb-false (known a i p) (known b i p) e)) (f q) m
      go false e (here j y) f = (f.0, (inr f.1.0, f.1.1))

  -- what a search at several items says
  abbrev FromSays : List ℕ → List ℕ → Lack → Type 0
  FromSays ps is nowhere = (i q : ℕ) → Among i is → Among q ps → known b i q ≤ known a i q
  FromSays ps is (here j p) = (i : ℕ) × ((q : ℕ) × (Among i is × (Among q ps × (known a i q < known b i q))))

  from_says : (ps is : List ℕ) → FromSays ps is (lacking_from a b ps is)
  unfolding lacking_from or_else
  from_says ps [] = λ i q m n. absurd m
  from_says ps (i ∷ is) = go (lacking_at a b i ps) (at_says i ps) (lacking_from a b ps is) (from_says ps is)
    where
      go : (x : Lack) → AtSays i ps x → (y : Lack) → FromSays ps is y → FromSays ps (i ∷ is) (or_else x y)
      go nowhere f nowhere g = λ j q m n. ⊎_elim (λ (e : j ≡ i). rw e (f q n)) (λ (o : Among j is). g j q o n) m
      go nowhere f (here j p) g = (g.0, (g.1.0, (inr g.1.1.0, g.1.1.1)))
      go (here j p) f y g = (i, (f.0, (inl refl, (f.1.0, f.1.1))))

-- the first knows at least as much as the second of the given replicas throughout the span
pub record CoversFor (ps : List ℕ) (a b : Knowledge) (first last : ℕ) : Type 0 where
  pub known : (i p : ℕ) → first ≤ i → i ≤ last → Among p ps → known b i p ≤ known a i p

pub covers_for_exact : (ps : List ℕ) (a b : Knowledge) (first last : ℕ) → (covers_for ps a b first last ≡ true) ↔ CoversFor ps a b first last
unfolding covers_for is_nowhere stops
covers_for_exact ps a b first last = (
  there (lacking_from a b ps (stops a b first last)) (from_says a b ps (stops a b first last)),
  back (lacking_from a b ps (stops a b first last)) (from_says a b ps (stops a b first last)),
)
  where
    there : (x : Lack) → FromSays a b ps (stops a b first last) x → is_nowhere x ≡ true → CoversFor ps a b first last
    there nowhere f e = record {
      known = λ i p h k m.
          let w = stop_for a b first last i p h k in
          omega (arith, f w.0 p w.1.0 m, w.1.1.1.0, w.1.1.1.1);
    }
    there (here i p) f e = clash false e refl

    back : (x : Lack) → FromSays a b ps (stops a b first last) x → CoversFor ps a b first last → is_nowhere x ≡ true
    back nowhere f c = refl
    back (here i p) f c =
        let w = stops_inside a b first last f.0 f.1.1.0 in
        absurd (omega (arith, f.1.1.1.1, c.known f.0 f.1.0 w.0 w.1 f.1.1.1.0))

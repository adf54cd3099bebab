-- The places of the selected records, one after the other: a place in front of the first item's is skipped; one behind the last item's ends
-- the selection; any other is left out or taken. So the selected places are some of the table's: what holds of each of the table's places
-- holds of them, and there are no more of them.
use Prim.Native.Nat.{ℕ, ◌≤◌, ◌<◌}
use mathlib.Core.Path.{◌≡◌, refl, sym, ap, subst}
use mathlib.Core.Bool.{Bool, true, false}
use mathlib.Core.List.{List, [], ◌∷◌}
use native.Mathlib.Omega.{arith}
use lib.Dec.{ltb}
use lib.ListN.{length}
use borrow.Author.Tests.{lt-ltb, le-ltb, ltb-true, ltb-false}
use Rattle.layout.specs.Knowledge.{All}
use Rattle.replication.specs.Reading.{rec_at}
use Rattle.replication.specs.Queries.{places}
use Rattle.lookup.specs.declared.Cursor.{Cursor}
use Rattle.records_versions.specs.Method.{moved_to, change_in}
use Rattle.records_select.specs.MethodSelect.{from_first, lacking, select_places}

-- ---- up to the first item

pub first_none : (s : List ℕ) (first : ℕ) → from_first s first [] ≡ []
unfolding from_first
first_none s first = refl

-- a place is skipped, or it is the first one
pub data Skips (s : List ℕ) (first p : ℕ) (ps : List ℕ) : Type 0 where
  skipped : (rec_at s p).item < first → from_first s first (p ∷ ps) ≡ from_first s first ps → Skips s first p ps
  begins : first ≤ (rec_at s p).item → from_first s first (p ∷ ps) ≡ p ∷ ps → Skips s first p ps

module _ (s : List ℕ) (first p : ℕ) (ps : List ℕ) where
  pub first_below : (rec_at s p).item < first → from_first s first (p ∷ ps) ≡ from_first s first ps
  unfolding from_first
  first_below h = rw (lt-ltb (rec_at s p).item first h, from_first)

  pub first_there : first ≤ (rec_at s p).item → from_first s first (p ∷ ps) ≡ p ∷ ps
  unfolding from_first
  first_there h = rw (le-ltb (rec_at s p).item first h, from_first)

  pub skips : Skips s first p ps
  skips = go (ltb (rec_at s p).item first) refl
    where
      go : (t : Bool) → ltb (rec_at s p).item first ≡ t → Skips s first p ps
      go true e = let l = ltb-true (rec_at s p).item first e in skipped l (first_below l)
      go false e = let l = ltb-false (rec_at s p).item first e in begins l (first_there l)

-- ---- up to the last item

pub lacking_none : (s k : List ℕ) (r : ℕ) (c : Cursor) (last : ℕ) → lacking s k r c last [] ≡ []
unfolding lacking
lacking_none s k r c last = refl

-- a place ends the selection, is left out, or is taken
pub data Looks (s k : List ℕ) (r : ℕ) (c : Cursor) (last p : ℕ) (ps : List ℕ) : Type 0 where
  ends : last < (rec_at s p).item → lacking s k r c last (p ∷ ps) ≡ [] → Looks s k r c last p ps
  leaves : (rec_at s p).item ≤ last → change_in s p k r (moved_to s p k r c).vector ≡ true
      → lacking s k r c last (p ∷ ps) ≡ lacking s k r (moved_to s p k r c) last ps → Looks s k r c last p ps
  takes : (rec_at s p).item ≤ last → change_in s p k r (moved_to s p k r c).vector ≡ false
      → lacking s k r c last (p ∷ ps) ≡ p ∷ lacking s k r (moved_to s p k r c) last ps → Looks s k r c last p ps

module _ (s k : List ℕ) (r : ℕ) (c : Cursor) (last p : ℕ) (ps : List ℕ) where
  pub lacking_ends : last < (rec_at s p).item → lacking s k r c last (p ∷ ps) ≡ []
  unfolding lacking
  lacking_ends h = rw (lt-ltb last (rec_at s p).item h, lacking)

  pub lacking_leaves : (rec_at s p).item ≤ last → change_in s p k r (moved_to s p k r c).vector ≡ true
      → lacking s k r c last (p ∷ ps) ≡ lacking s k r (moved_to s p k r c) last ps
  unfolding lacking
  lacking_leaves h e = rw (le-ltb last (rec_at s p).item h, e, lacking)

  pub lacking_takes : (rec_at s p).item ≤ last → change_in s p k r (moved_to s p k r c).vector ≡ false
      → lacking s k r c last (p ∷ ps) ≡ p ∷ lacking s k r (moved_to s p k r c) last ps
  unfolding lacking
  lacking_takes h e = rw (le-ltb last (rec_at s p).item h, e, lacking)

  pub looks : Looks s k r c last p ps
  looks = go (ltb last (rec_at s p).item) refl (change_in s p k r (moved_to s p k r c).vector) refl
    where
      go : (t : Bool) → ltb last (rec_at s p).item ≡ t
          → (b : Bool) → change_in s p k r (moved_to s p k r c).vector ≡ b → Looks s k r c last p ps
      go true e b f = let l = ltb-true last (rec_at s p).item e in ends l (lacking_ends l)
      go false e true f = let l = ltb-false last (rec_at s p).item e in leaves l f (lacking_leaves l f)
      go false e false f = let l = ltb-false last (rec_at s p).item e in takes l f (lacking_takes l f)

-- ---- some of the table's places

module _ (P : ℕ → Type 0) (s : List ℕ) where
  first_all : (first : ℕ) (ps : List ℕ) → All P ps → All P (from_first s first ps)
  first_all first [] h = subst (All P) (sym (first_none s first)) tt
  first_all first (p ∷ ps) h =
      elim (skips s first p ps) [
        | skipped l e ↦ subst (All P) (sym e) (first_all first ps h.1)
        | begins l e ↦ subst (All P) (sym e) h
      ]

  lacking_all : (k : List ℕ) (r : ℕ) (c : Cursor) (last : ℕ) (ps : List ℕ) → All P ps → All P (lacking s k r c last ps)
  lacking_all k r c last [] h = subst (All P) (sym (lacking_none s k r c last)) tt
  lacking_all k r c last (p ∷ ps) h =
      elim (looks s k r c last p ps) [
        | ends l e ↦ subst (All P) (sym e) tt
        | leaves l f e ↦ subst (All P) (sym e) (lacking_all k r (moved_to s p k r c) last ps h.1)
        | takes l f e ↦ subst (All P) (sym e) (h.0, lacking_all k r (moved_to s p k r c) last ps h.1)
      ]

first_fewer : (s : List ℕ) (first : ℕ) (ps : List ℕ) → length (from_first s first ps) ≤ length ps
first_fewer s first [] = omega (arith, ap length (first_none s first))
first_fewer s first (p ∷ ps) =
    elim (skips s first p ps) [
      | skipped l e ↦ omega (arith, ap length e, first_fewer s first ps)
      | begins l e ↦ omega (arith, ap length e)
    ]

lacking_fewer : (s k : List ℕ) (r : ℕ) (c : Cursor) (last : ℕ) (ps : List ℕ) → length (lacking s k r c last ps) ≤ length ps
lacking_fewer s k r c last [] = omega (arith, ap length (lacking_none s k r c last))
lacking_fewer s k r c last (p ∷ ps) =
    elim (looks s k r c last p ps) [
      | ends l e ↦ omega (arith, ap length e)
      | leaves l f e ↦ omega (arith, ap length e, lacking_fewer s k r (moved_to s p k r c) last ps)
      | takes l f e ↦ omega (arith, ap length e, lacking_fewer s k r (moved_to s p k r c) last ps)
    ]

module _ (s : List ℕ) (at : ℕ) (k : List ℕ) (r : ℕ) (c : Cursor) (first last : ℕ) where
  pub select_is : select_places s at k r c first last ≡ lacking s k r c last (from_first s first (places s at))
  unfolding select_places
  select_is = refl

  pub select_all : (P : ℕ → Type 0) → All P (places s at) → All P (select_places s at k r c first last)
  select_all P h =
      subst (All P) (sym select_is) (lacking_all P s k r c last (from_first s first (places s at)) (first_all P s first (places s at) h))

  pub select_fewer : length (select_places s at k r c first last) ≤ length (places s at)
  select_fewer =
      omega (
        arith,
        ap length select_is,
        lacking_fewer s k r c last (from_first s first (places s at)),
        first_fewer s first (places s at),
      )

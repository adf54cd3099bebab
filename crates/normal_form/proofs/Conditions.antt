-- Normal form, for a lawful knowledge: of document 01's list of conditions, those that are left to look at in the bytes
-- (`Conditions`). The check has found the rest. "In order of first use, each used" is said here for induction, and neighbouring
-- ranges differ in index, since vectors of unlike indices are unlike.
use Rattle.std.proofs.Common.{◌≡◌, ℕ, zero, suc, ◌<◌, ◌≤◌, List, [], ◌∷◌, length, get_or, sym, refl, ap, arith}
use Rattle.layout.specs.Knowledge.{Rules, Element, Range, Knowledge, All, Rising, Lawful, keys, bounds}
use Rattle.ticks.specs.Meaning.{place_by, indices, vector_of, Formed, Normal, Unused}
use Rattle.ticks.proofs.Lists.{less, same, more, order}
use Rattle.ticks.proofs.FirstUse.{FirstUse, first_below, first_used, first_order}
use Rattle.ticks.proofs.Numbering.{indices-length}
use Rattle.ticks.proofs.Written.{among_place}
use Rattle.ticks.proofs.Rebuilt.{order_first}
use Rattle.ticks.proofs.Unique.{all_get}
use Rattle.ticks.proofs.LawfulResults.{lawful_sound}

-- a knowledge whose vector 0 is empty
abbrev pub knowledge : List ℕ → List (List Element) → List Range → Knowledge
knowledge ids vs xs = record { replicas = ids; vectors = [] ∷ vs; ranges = xs }

-- no two neighbours are equal
pub record Unequal (xs : List ℕ) : Type 0 where
  pub unequal : (n : ℕ) → suc n < length xs → get_or xs n 0 ≡ get_or xs (suc n) 0 → ⊥

pub record Apart (vs : List (List Element)) : Type 0 where
  pub apart : (y z : ℕ) → y < z → z < length vs → get_or vs y [] ≡ get_or vs z [] → ⊥

-- what is left to look at; vs are the vectors after vector 0
pub record Conditions (ids : List ℕ) (vs : List (List Element)) (xs : List Range) : Type 0 where
  pub rising : Rising 0 ids
  pub elements : All (λ es. Rising 0 (keys es)) vs
  pub ticks : All (All (λ x. 1 ≤ x.tick)) vs
  pub not_empty : All (λ es. 1 ≤ length es) vs
  pub used : (key : ℕ) → key < length ids → Unused key vs → ⊥
  pub distinct : Apart vs
  pub first : get_or (bounds xs) 0 1 ≡ 0
  pub first_use : FirstUse 1 (indices xs) (suc (length vs))
  pub neighbours : Unequal (indices xs)

-- from each place to the whole list, and back
each_place : {A : Type 0} (P : A → Type 0) (d : A) (xs : List A) → ((n : ℕ) → n < length xs → P (get_or xs n d)) → All P xs
each_place P d [] f = tt
each_place P d (x ∷ xs) f = (f 0 (omega arith), each_place P d xs (λ n h. f (suc n) (omega arith)))

at_place : {A : Type 0} (P : A → Type 0) (d : A) (xs : List A) (n : ℕ) → All P xs → n < length xs → P (get_or xs n d)
at_place P d [] n a h = absurd (omega arith)
at_place P d (x ∷ xs) zero a h = a.0
at_place P d (x ∷ xs) (suc n) a h = at_place P d xs n a.1 (omega arith)

some_element : (es : List Element) → (es ≡ [] → ⊥) → 1 ≤ length es
some_element [] n = absurd (n refl)
some_element (x ∷ xs) n = omega arith

module _ (ids : List ℕ) (vs : List (List Element)) (xs : List Range) where
  abbrev k : Knowledge
  k = knowledge ids vs xs

  pub conditions : Normal k → Conditions ids vs xs
  unfolding keys place_by
  conditions n =
      let o = n.formed in
      record {
        rising = n.rising;
        elements = o.elements.1;
        ticks = o.ticks.1;
        not_empty = each_place (λ es. 1 ≤ length es) [] vs
            (λ j h. some_element (get_or vs j []) (o.not_empty (suc j) (omega arith) (omega arith)));
        used = λ key h u. n.used key h (refl, u);
        distinct = record { apart = λ y z h l e. o.distinct (suc y) (suc z) (omega arith) (omega arith) (omega arith) e };
        first = o.first_range;
        first_use = order_first k o;
        neighbours = record {
          unequal = λ j h e. o.neighbours j (omega (arith, indices-length xs)) (ap (vector_of k) e);
        };
      }

  module _ (R : Rules) (lawful : Lawful R k) (c : Conditions ids vs xs) where
    no_vector : (es : List Element) → 1 ≤ length es → es ≡ [] → ⊥
    no_vector es h e = omega (arith, ap length e)

    filled : (y : ℕ) → 1 ≤ y → y < suc (length vs) → vector_of k y ≡ [] → ⊥
    filled zero h l e = omega arith
    filled (suc y) h l e =
        no_vector (get_or vs y []) (at_place (λ es. 1 ≤ length es) [] vs y c.not_empty (omega arith)) e

    unlike_vectors : (y z : ℕ) → y < z → z < suc (length vs) → vector_of k y ≡ vector_of k z → ⊥
    unlike_vectors y zero h l e = omega arith
    unlike_vectors zero (suc z) h l e = filled (suc z) (omega arith) l (sym e)
    unlike_vectors (suc y) (suc z) h l e = c.distinct.apart y z (omega arith) (omega arith) e

    same_index : (y z : ℕ) → y < suc (length vs) → z < suc (length vs) → vector_of k y ≡ vector_of k z → y ≡ z
    same_index y z h l e =
        elim (order y z) [
          | less j ↦ absurd (unlike_vectors y z j l e)
          | same j ↦ j
          | more j ↦ absurd (unlike_vectors z y j h (sym e))
        ]

    index_below : (n : ℕ) → get_or (indices xs) n 0 < suc (length vs)
    index_below n =
        all_get (λ y. y < suc (length vs)) 0 (indices xs) n
        (first_below 1 (indices xs) (suc (length vs)) c.first_use) (omega arith)

    formed : Formed k
    unfolding keys
    formed = record {
      sound = lawful_sound R k lawful;
      first_range = c.first;
      neighbours = λ n h e.
          c.neighbours.unequal n (omega (arith, indices-length xs))
          (same_index (get_or (indices xs) n 0) (get_or (indices xs) (suc n) 0) (index_below n) (index_below (suc n)) e);
      some_vector = omega arith;
      empty_first = refl;
      in_order = λ y z h l m. first_order 1 (indices xs) (suc (length vs)) y z c.first_use h l m;
      distinct = λ y z h l m e. unlike_vectors y z l m e;
      not_empty = filled;
      used = λ y h l.
          omega (
            arith,
            indices-length xs,
            among_place y (indices xs) (first_used 1 (indices xs) (suc (length vs)) y c.first_use h l),
          );
      elements = (tt, c.elements);
      ticks = (tt, c.ticks);
    }

    pub conditions_normal : Normal k
    conditions_normal = record { formed = formed; rising = c.rising; used = λ key h u. c.used key h u.1 }

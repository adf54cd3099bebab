-- The numbers of a lawful knowledge's fields and ends (`numbers_lawful`). The parts of a lawful knowledge before a field
-- meet the conditions of the table `Numbers`, so its lines hold of them. The ends follow from `cut`: of bytes that are
-- accepted each proper beginning gets 1, and where a proper beginning is accepted, all of the bytes get 10.
use Prim.Native.Nat.{ℕ, zero, suc, ◌-◌, ◌<◌, ◌≤◌}
use mathlib.Core.Path.{◌≡◌, refl, sym, ap, subst, ◌∙◌}
use mathlib.Core.List.{List, [], ◌∷◌, ◌++◌}
use native.Mathlib.Omega.{arith}
use lib.ListN.{length, get_or, take, length-append}
use lib.Seq.{take-append_seam}
use Rattle.layout.specs.Checked.{Checked}
use Rattle.layout.specs.Checked.{Accepted, Refused}
use Rattle.layout.specs.Knowledge.{Rules, Element, Range, Knowledge, encode, All, Distinct, Rising, keys, bounds, Lawful}
use Rattle.layout.specs.Permitted.{Permitted}
use Rattle.layout.specs.Parse.{checked_by}
use Rattle.layout.proofs.Parts.{LawfulId, LawfulElement, LawfulVector, LawfulRange, Parts, parts}
use Rattle.layout.proofs.Forward.{forward}
use Rattle.layout.proofs.Prefix.{Cut, stopped, whole, ends, over, cut}
use Rattle.layout.proofs.Table.{FirstIds, FirstVectors, FirstElements, FirstRanges, Seen, NotAbove, Refuses, Line, NumbersOf}
use Rattle.layout.proofs.Table.{fixed_opening, count_r, replica_id_lem, replica_judged, fixed_vectors, count_v, fixed_vector}
use Rattle.layout.proofs.Table.{count_first, count_elements, key, tick, fixed_ranges, count_g, bound, index, fixed_closing}
use Rattle.layout.proofs.Numbers.{all_front, numbers_exact}

accepted_refused : (r v e g n : ℕ) (C : Type 0) → Refused n ≡ Accepted r v e g → C
accepted_refused r v e g n C h = let z : ◌≡◌ {A = ℕ} 0 1 = cc in absurd (omega arith)

-- a proper beginning of accepted bytes
pub shorter : (R : Rules) (s : List ℕ) (m r v e g : ℕ) → m < length s → checked_by R s ≡ Accepted r v e g →
    checked_by R (take m s) ≡ Refused 1
shorter R s m r v e g l h = go (cut R s m) h
  where
    go : {top : ℕ} {a b : Checked} → Cut top m s a b → b ≡ Accepted r v e g → a ≡ Refused 1
    go (stopped n) q = accepted_refused r v e g n _ q
    go (whole c u) q = absurd (omega arith)
    go (ends c u) q = refl
    go (over c u w) q = accepted_refused r v e g 10 _ q

-- accepted bytes, and more after them
pub longer : (R : Rules) (s : List ℕ) (m r v e g : ℕ) → m < length s → checked_by R (take m s) ≡ Accepted r v e g →
    checked_by R s ≡ Refused 10
longer R s m r v e g l h = go (cut R s m) h
  where
    go : {top : ℕ} {a b : Checked} → Cut top m s a b → a ≡ Accepted r v e g → b ≡ Refused 10
    go (stopped n) q = accepted_refused r v e g n _ q
    go (whole c u) q = absurd (omega arith)
    go (ends c u) q = accepted_refused r v e g 1 _ q
    go (over c u w) q = refl

-- a part of a list, before one of its members
before_less : {A : Type 0} (l a : List A) (x : A) (b : List A) → l ≡ a ++ (x ∷ b) → length a < length l
before_less l a x b e = omega (arith, ap length e, length-append a (x ∷ b))

all_member : {A : Type 0} (P : A → Type 0) (a : List A) (x : A) (b : List A) → All P (a ++ (x ∷ b)) → P x
all_member P [] x b h = h.0
all_member P (y ∷ a) x b h = all_member P a x b h.1

distinct_front : (a b : List ℕ) → Distinct (a ++ b) → Distinct a
distinct_front [] b h = tt
distinct_front (x ∷ a) b h = (all_front (λ y. x ≡ y → ⊥) a b h.0, distinct_front a b h.1)

distinct_new : (a : List ℕ) (x : ℕ) (b : List ℕ) → Distinct (a ++ (x ∷ b)) → (j : ℕ) → j < length a → x ≡ get_or a j 0 → ⊥
distinct_new [] x b h j l e = omega arith
distinct_new (y ∷ a) x b h zero l e = all_member (λ z. y ≡ z → ⊥) a x b h.0 (sym e)
distinct_new (y ∷ a) x b h (suc j) l e = distinct_new a x b h.1 j (omega arith) e

keys-append : (a b : List Element) → keys (a ++ b) ≡ keys a ++ keys b
unfolding keys
keys-append [] b = refl
keys-append (x ∷ a) b = ap {B = List ℕ} (λ l. x.key.0 ∷ l) (keys-append a b)

keys-cons : (x : Element) (b : List Element) → keys (x ∷ b) ≡ x.key.0 ∷ keys b
unfolding keys
keys-cons x b = refl

rising_front : (lo : ℕ) (a b : List Range) → Rising lo (bounds (a ++ b)) → Rising lo (bounds a)
unfolding bounds
rising_front lo [] b h = tt
rising_front lo (x ∷ a) b h = (h.0, rising_front (suc x.bound) a b h.1)

-- the bound of a range is above the one before
rising_above : (lo : ℕ) (a : List Range) (x : Range) (b : List Range) → Rising lo (bounds (a ++ (x ∷ b))) → NotAbove a x.bound → ⊥
unfolding bounds
rising_above lo [] x b h n = omega (arith, n.0)
rising_above lo (y ∷ []) x b h n = omega (arith, h.1.0, n.1)
rising_above lo (y ∷ (z ∷ a)) x b h n =
    let place : suc (suc (length a)) - 1 ≡ suc (suc (length a) - 1) = omega arith in
    rising_above (suc y.bound) (z ∷ a) x b h.1
    (omega arith, subst (λ i. x.bound ≤ get_or (y.bound ∷ bounds (z ∷ a)) i 0) place n.1)

first_front : (vs more : List (List Element)) → get_or (vs ++ more) 0 [] ≡ [] → get_or vs 0 [] ≡ []
first_front [] more h = refl
first_front (es ∷ vs) more h = h

-- a vector with an element is not the first
not_first : (vs : List (List Element)) (es : List Element) (more : List (List Element)) → get_or (vs ++ (es ∷ more)) 0 [] ≡ [] →
    1 ≤ length es → 1 ≤ length vs
not_first [] es more h l = omega (arith, ap length h)
not_first (x ∷ vs) es more h l = omega arith

module _ (R : Rules) (permitted : Permitted R.limits) (k : Knowledge) (lawful : Lawful R k) where
  l : Parts R k
  l = parts R k lawful

  table : {n : ℕ} {p : List ℕ → List ℕ} {Bad : ℕ → Type 0} {j : ℕ} → Line R n p Bad j → Refuses R n p Bad j
  table line = numbers_exact R permitted line

  all_ids_lem : FirstIds R (length k.replicas) k.replicas
  all_ids_lem = record { most = l.replicas; lawful = l.ids; distinct = l.distinct }

  first_ids : (ids : List ℕ) (id : ℕ) (more : List ℕ) → k.replicas ≡ ids ++ (id ∷ more) → FirstIds R (length k.replicas) ids
  first_ids ids id more e = record {
    most = l.replicas;
    lawful = all_front (LawfulId R) ids (id ∷ more) (subst (All (LawfulId R)) e l.ids);
    distinct = distinct_front ids (id ∷ more) (subst Distinct e l.distinct);
  }

  all_vectors : FirstVectors R (length k.replicas) (length k.vectors) k.vectors
  all_vectors = record { some = l.some_vector; most = l.vectors; first = l.first; clocks = l.clocks }

  no_vectors : FirstVectors R (length k.replicas) (length k.vectors) []
  no_vectors = record { some = l.some_vector; most = l.vectors; first = refl; clocks = tt }

  module _ (vs : List (List Element)) (es : List Element) (more : List (List Element)) (e : k.vectors ≡ vs ++ (es ∷ more)) where
    split : All (LawfulVector (length k.replicas)) (vs ++ (es ∷ more))
    split = subst (All (LawfulVector (length k.replicas))) e l.clocks

    first : get_or (vs ++ (es ∷ more)) 0 [] ≡ []
    first = subst (λ u. get_or u 0 [] ≡ []) e l.first

    first_vectors : FirstVectors R (length k.replicas) (length k.vectors) vs
    first_vectors = record {
      some = l.some_vector;
      most = l.vectors;
      first = first_front vs (es ∷ more) first;
      clocks = all_front (LawfulVector (length k.replicas)) vs (es ∷ more) split;
    }

    fewer : length vs < length k.vectors
    fewer = before_less k.vectors vs es more e

    vector : LawfulVector (length k.replicas) es
    vector = all_member (LawfulVector (length k.replicas)) vs es more split

    module _ (xs : List Element) (x : Element) (after : List Element) (q : es ≡ xs ++ (x ∷ after)) where
      first_elements : FirstElements (length k.replicas) (length es) xs
      first_elements = record {
        most = vector.count;
        elements = all_front (LawfulElement (length k.replicas)) xs (x ∷ after)
            (subst (All (LawfulElement (length k.replicas))) q vector.elements);
        distinct = distinct_front (keys xs) (keys (x ∷ after))
            (subst Distinct (ap keys q ∙ keys-append xs (x ∷ after)) vector.distinct);
      }

      less : length xs < length es
      less = before_less es xs x after q

      later : 1 ≤ length vs
      later = not_first vs es more first (omega (arith, less))

      below : x.key.0 < length k.replicas
      below =
          (all_member (LawfulElement (length k.replicas)) xs x after
          (subst (All (LawfulElement (length k.replicas))) q vector.elements)).key

      new : Seen (keys xs) x.key.0 → ⊥
      new seen =
          distinct_new (keys xs) x.key.0 (keys after)
          (subst Distinct (ap keys q ∙ keys-append xs (x ∷ after) ∙ ap (λ u. keys xs ++ u) (keys-cons x after)) vector.distinct)
          seen.0 seen.1 seen.2

  all_ranges : FirstRanges R (length k.vectors) (length k.ranges) k.ranges
  all_ranges = record { some = l.some_range; most = l.ranges; spans = l.spans; rising = l.rising }

  module _ (xs : List Range) (x : Range) (more : List Range) (e : k.ranges ≡ xs ++ (x ∷ more)) where
    rises : Rising 0 (bounds (xs ++ (x ∷ more)))
    rises = subst (λ u. Rising 0 (bounds u)) e l.rising

    spans : All (LawfulRange (length k.vectors)) (xs ++ (x ∷ more))
    spans = subst (All (LawfulRange (length k.vectors))) e l.spans

    first_ranges : FirstRanges R (length k.vectors) (length k.ranges) xs
    first_ranges = record {
      some = l.some_range;
      most = l.ranges;
      spans = all_front (LawfulRange (length k.vectors)) xs (x ∷ more) spans;
      rising = rising_front 0 xs (x ∷ more) rises;
    }

  pub numbers_lawful : NumbersOf R k
  numbers_lawful = record {
    fixed_opening = λ before f after e. table (fixed_opening before f after e);
    count_r = table count_r;
    replica_id_lem = λ ids id more e.
        table (replica_id_lem (length k.replicas) ids (first_ids ids id more e) (before_less k.replicas ids id more e));
    replica_judged = λ ids id more e n.
        table (replica_judged (length k.replicas) ids (first_ids ids id more e) (before_less k.replicas ids id more e) n);
    fixed_vectors = λ before f after e. table (fixed_vectors k.replicas all_ids_lem before f after e);
    count_v = table (count_v k.replicas all_ids_lem);
    fixed_vector = λ vs es more e before f after q.
        table (fixed_vector k.replicas (length k.vectors) vs all_ids_lem (first_vectors vs es more e)
        (fewer vs es more e) before f after q);
    count_first = table (count_first k.replicas (length k.vectors) all_ids_lem no_vectors);
    count_elements = λ vs es more e some.
        table (count_elements k.replicas (length k.vectors) vs all_ids_lem (first_vectors vs es more e) some (fewer vs es more e));
    key = λ vs es more e xs x after q.
        table (key k.replicas (length k.vectors) vs (length es) xs all_ids_lem (first_vectors vs es more e)
        (later vs es more e xs x after q) (fewer vs es more e) (first_elements vs es more e xs x after q)
        (less vs es more e xs x after q));
    tick = λ vs es more e xs x after q.
        table (tick k.replicas (length k.vectors) vs (length es) xs x.key.0 all_ids_lem (first_vectors vs es more e)
        (later vs es more e xs x after q) (fewer vs es more e) (first_elements vs es more e xs x after q)
        (less vs es more e xs x after q)
        (below vs es more e xs x after q) (new vs es more e xs x after q));
    fixed_ranges = λ before f after e. table (fixed_ranges k.replicas k.vectors all_ids_lem all_vectors before f after e);
    count_g = table (count_g k.replicas k.vectors all_ids_lem all_vectors);
    bound = λ xs x more e.
        table (bound k.replicas k.vectors (length k.ranges) xs all_ids_lem all_vectors (first_ranges xs x more e)
        (before_less k.ranges xs x more e));
    index = λ xs x more e.
        table (index k.replicas k.vectors (length k.ranges) xs x.bound all_ids_lem all_vectors (first_ranges xs x more e)
        (before_less k.ranges xs x more e) (all_member (LawfulRange (length k.vectors)) xs x more (spans xs x more e)).size
        (rising_above 0 xs x more (rises xs x more e)));
    fixed_closing = λ before f after e. table (fixed_closing k.replicas k.vectors
        k.ranges all_ids_lem all_vectors all_ranges before f after e);
    beginning = λ n h. shorter R (encode k) n _ _ _ _ h (forward R k permitted lawful);
    left_over = λ b t.
        longer R (encode k ++ (b ∷ t)) (length (encode k)) _ _ _ _ (omega (arith, length-append (encode k) (b ∷ t)))
        (ap (checked_by R) (take-append_seam (encode k) (b ∷ t)) ∙ forward R k permitted lawful);
  }

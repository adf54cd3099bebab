-- For bytes that the check accepts, the test by places is the test of normal form (`normal_by_places`). What stands at the places
-- is the value that was read, with vector 0 empty; so the tests are passed exactly where the conditions hold that the check has
-- left open (`Conditions`), and these make a lawful knowledge a normal one. The sizes must be at most the largest, for which there
-- is room (`Roomy`), as they are with limits of at most the largest (`within_roomy`).
use Rattle.std.proofs.Common.{◌≡◌, ℕ, zero, suc, ◌+◌, ◌-◌, ◌*◌, ◌<◌, ◌≤◌, Bool, true, false, eqb, leb, List, [], ◌∷◌, length, get_or, sym, refl, ap, ◌∙◌, subst, ap₂, arith, eq-eqb, eqb-true, le-leb}
use lib.ListN.{get_or-replicate, length-replicate}
use Rattle.codec.specs.Number.{be_at}
use Rattle.layout.specs.Knowledge.{Rules, Element, Range, Knowledge, All, Rising, Lawful, bounds}
use Rattle.layout.specs.Permitted.{largest_replicas, largest_ranges}
use Rattle.layout.specs.Decode.{ids_at, elements_at, vectors_at, after_vectors, ranges_at, decode}
use Rattle.layout.specs.MethodPlaces.{ids_place, vectors_place, ranges_place, whole_length, count_at, value_at}
use Rattle.layout.proofs.Places.{Reading, places, ids-length, elements-length, vectors-length, after-suc, after_later}
use Rattle.ticks.specs.Meaning.{indices}
use Rattle.ticks.specs.Written.{is_normal}
use Rattle.ticks.proofs.FirstUse.{FirstUse, first_below}
use Rattle.ticks.proofs.Operations.{normal_test}
use Rattle.lookup.specs.Method.{elements_there}
use Rattle.lookup.proofs.Loops.{there_all}
use Rattle.normal_form.specs.MethodNormal.{ids_rise, marked_by, keys_marked, each_in_order, vectors_here, numbered, apart}
use Rattle.normal_form.specs.MethodNormal.{no_marks, vectors_normal, used_in_order, ranges_normal, normal_there, roomy, normal_in}
use Rattle.normal_form.proofs.Conditions.{knowledge, Conditions, conditions, conditions_normal}
use Rattle.normal_form.proofs.Tests.{both, both_yes, ids_rise_lem, rise_ids, InOrder, each_order, order_each, used_mark, mark_used}
use Rattle.normal_form.proofs.Tests.{keys_marked_lem, marked_keys, apart_each, each_apart, Differs, used_first, first_used_in_order}

-- The vectors

here_there : (s : List ℕ) (at : ℕ) → at + 8 + 12 * count_at s at ≤ length s → elements_there s at ≡ count_at s at
here_there s at h = sym (there_all s at (count_at s at) refl h).is

vectors_there : (s : List ℕ) (n at : ℕ) → after_vectors s n at ≤ length s → vectors_here s n at ≡ vectors_at s n at
unfolding vectors_here vectors_at
vectors_there s zero at h = refl
vectors_there s (suc n) at h =
    let next = at + 8 + 12 * count_at s at in
    let i : elements_there s at ≡ count_at s at = here_there s at (omega (arith, after-suc s n at, after_later s n next)) in
    ap (λ m. elements_at s m (at + 8) ∷ vectors_here s n (at + 8 + 12 * m)) i
    ∙ ap (λ vs. elements_at s (count_at s at) (at + 8) ∷ vs) (vectors_there s n next (omega (arith, after-suc s n at)))

module _ (s : List ℕ) (n at : ℕ) (e : get_or (vectors_at s (suc n) at) 0 [] ≡ []) where
  first_count : count_at s at ≡ 0
  unfolding vectors_at
  first_count = sym (elements-length s (count_at s at) (at + 8)) ∙ ap length e

  first_place : at + 8 + 12 * count_at s at ≡ at + 8
  first_place = omega (arith, first_count)

  first_vector_lem : vectors_at s (suc n) at ≡ [] ∷ vectors_at s n (at + 8)
  unfolding vectors_at
  first_vector_lem = ap₂ (λ es p. es ∷ vectors_at s n p) e first_place

  first_after : after_vectors s (suc n) at ≡ after_vectors s n (at + 8)
  first_after = after-suc s n at ∙ ap (after_vectors s n) first_place

-- Ids and ranges

ids_rising : (s : List ℕ) (r : ℕ) → ids_rise s (r - 1) ids_place ≡ true → Rising 0 (ids_at s r ids_place)
unfolding ids_at
ids_rising s zero e = tt
ids_rising s (suc n) e =
    let z : n ≡ suc n - 1 = omega arith in
    ids_rise_lem s n ids_place 0 (omega arith) (ap (λ m. ids_rise s m ids_place) z ∙ e)

rising_ids : (s : List ℕ) (r : ℕ) → Rising 0 (ids_at s r ids_place) → ids_rise s (r - 1) ids_place ≡ true
unfolding ids_rise
rising_ids s zero h = refl
rising_ids s (suc n) h =
    let z : suc n - 1 ≡ n = omega arith in
    ap (λ m. ids_rise s m ids_place) z ∙ rise_ids s n ids_place 0 h

first_bound_lem : (s : List ℕ) (g at : ℕ) → 1 ≤ g → get_or (bounds (ranges_at s g at)) 0 1 ≡ be_at s 24 at
unfolding bounds ranges_at
first_bound_lem s zero at h = absurd (omega arith)
first_bound_lem s (suc g) at h = refl

differs_unequal : (before : ℕ) (xs : List ℕ) → Differs before xs → (n : ℕ) → suc n < length xs
    → get_or xs n 0 ≡ get_or xs (suc n) 0 → ⊥
differs_unequal before [] d n h e = omega arith
differs_unequal before (x ∷ []) d n h e = omega arith
differs_unequal before (x ∷ y ∷ xs) d zero h e = d.1.0 (sym e)
differs_unequal before (x ∷ y ∷ xs) d (suc n) h e = differs_unequal x (y ∷ xs) d.1 n (omega arith) e

unequal_differs : (before : ℕ) (xs : List ℕ) → (0 < length xs → get_or xs 0 0 ≡ before → ⊥)
    → ((n : ℕ) → suc n < length xs → get_or xs n 0 ≡ get_or xs (suc n) 0 → ⊥) → Differs before xs
unequal_differs before [] n f = tt
unequal_differs before (x ∷ xs) n f =
    (n (omega arith), unequal_differs x xs (λ h e. f 0 (omega arith) (sym e)) (λ m h. f (suc m) (omega arith)))

-- the first index is not v where all are below it
first_differs : (v : ℕ) (xs : List ℕ) → FirstUse 1 xs v → 0 < length xs → get_or xs 0 0 ≡ v → ⊥
first_differs v [] f h e = omega arith
first_differs v (x ∷ xs) f h e = omega (arith, (first_below 1 (x ∷ xs) v f).0)

-- The tests and the conditions, for any lists

module _ (s : List ℕ) (r v e g : ℕ) (some : 1 ≤ v) (ranges : 1 ≤ g) (marks : r ≤ largest_replicas) where
  abbrev ids : List ℕ
  ids = ids_at s r ids_place

  abbrev vs : List (List Element)
  vs = vectors_at s (v - 1) (vectors_place r + 8)

  abbrev xs : List Range
  xs = ranges_at s g (ranges_place r v e)

  all_vectors : v ≡ suc (length vs)
  all_vectors = omega (arith, vectors-length s (v - 1) (vectors_place r + 8))

  module _ (here : vectors_here s (v - 1) (vectors_place r + 8) ≡ vs) where
    tests_conditions : normal_there s r v e g ≡ true → Conditions ids vs xs
    unfolding normal_there ranges_normal vectors_normal numbered
    tests_conditions t =
        let a = both (ids_rise s (r - 1) ids_place) _ t in
        let b = both (ranges_normal s v g (ranges_place r v e)) _ a.1 in
        let c = both (eqb (be_at s 24 (ranges_place r v e)) 0) (used_in_order v 1 v xs) b.0 in
        let u = used_first v 1 v xs c.1 in
        let w : vectors_normal r vs ≡ true = ap (vectors_normal r) (sym here) ∙ b.1 in
        let d = both (each_in_order r vs) _ w in
        let f = both (keys_marked (marked_by no_marks vs) r 0) (apart (numbered vs) (length vs) 0) d.1 in
        let o = each_order r vs d.0 in
        record {
          rising = ids_rising s r a.0;
          elements = o.elements;
          ticks = o.ticks;
          not_empty = o.not_empty;
          used = λ key h.
              let l : key < r = omega (arith, ids-length s r ids_place) in
              mark_used no_marks vs key (get_or-replicate largest_replicas key false false (omega arith))
              (keys_marked_lem (marked_by no_marks vs) r 0 f.0 key (omega arith) (omega arith));
          distinct = record { apart = λ y z h l. apart_each (numbered vs) (length vs) 0 f.1 y z h (omega arith) (omega arith) };
          first = first_bound_lem s g (ranges_place r v e) ranges ∙ eqb-true (be_at s 24 (ranges_place r v e)) 0 c.0;
          first_use = subst (FirstUse 1 (indices xs)) all_vectors u.0;
          neighbours = record { unequal = differs_unequal v (indices xs) u.1 };
        }

    vectors_pass : (R : Rules) → Lawful R (knowledge ids vs xs) → Conditions ids vs xs → vectors_normal r vs ≡ true
    unfolding vectors_normal numbered
    vectors_pass R lawful c =
        let below = subst (λ n. All (All (λ x. x.key.0 < n)) vs) (ids-length s r ids_place) lawful.keys_below.1 in
        let o : InOrder r vs = record { elements = c.elements; ticks = c.ticks; not_empty = c.not_empty } in
        both_yes (each_in_order r vs) _ (order_each r vs o below)
        (both_yes (keys_marked (marked_by no_marks vs) r 0) (apart (numbered vs) (length vs) 0)
        (marked_keys (marked_by no_marks vs) r 0
        (λ y h l.
        used_mark no_marks vs y (omega (arith, length-replicate {A = Bool} largest_replicas false))
        (c.used y (omega (arith, ids-length s r ids_place)))))
        (each_apart (numbered vs) (length vs) 0 (λ y z h l m. c.distinct.apart y z h (omega arith))))

    conditions_tests : (R : Rules) → Lawful R (knowledge ids vs xs) → Conditions ids vs xs → normal_there s r v e g ≡ true
    unfolding normal_there ranges_normal
    conditions_tests R lawful c =
        let f : FirstUse 1 (indices xs) v = subst (FirstUse 1 (indices xs)) (sym all_vectors) c.first_use in
        both_yes (ids_rise s (r - 1) ids_place) _ (rising_ids s r c.rising)
        (both_yes (ranges_normal s v g (ranges_place r v e)) _
        (both_yes (eqb (be_at s 24 (ranges_place r v e)) 0) (used_in_order v 1 v xs)
        (eq-eqb (be_at s 24 (ranges_place r v e)) 0 (sym (first_bound_lem s g (ranges_place r v e) ranges) ∙ c.first))
        (first_used_in_order v 1 v xs f
        (unequal_differs v (indices xs) (first_differs v (indices xs) f) c.neighbours.unequal)))
        (ap (vectors_normal r) here ∙ vectors_pass R lawful c))

-- Accepted bytes

same_truth : (b c : Bool) → (b ≡ true → c ≡ true) → (c ≡ true → b ≡ true) → b ≡ c
same_truth true c f h = sym (f refl)
same_truth false true f h = h refl
same_truth false false f h = refl

-- sizes for which there is room
pub record Roomy (r v : ℕ) : Type 0 where
  pub replicas : r ≤ largest_replicas
  pub vectors : v ≤ largest_ranges + 1

-- with limits of at most the largest there is room for everything that is accepted
pub within_roomy : (R : Rules) (s : List ℕ) (r v e g : ℕ) → Reading R s r v e g → R.limits.replicas ≤ largest_replicas
    → R.limits.ranges ≤ largest_ranges → Roomy r v
within_roomy R s r v e g h a b =
    let p = places R s r v e g h in
    record { replicas = omega (arith, p.replicas); vectors = omega (arith, p.vectors) }

module _ (R : Rules) (s : List ℕ) (r v e g : ℕ) (h : Reading R s r v e g) (room : Roomy r v) where
  is_roomy : roomy s r v e g ≡ true
  unfolding roomy
  is_roomy =
      let p = places R s r v e g h in
      both_yes (leb r largest_replicas) _ (le-leb r largest_replicas room.replicas)
      (both_yes (leb 1 v) _ (le-leb 1 v p.some_vector)
      (both_yes (leb (v - 1) largest_ranges) _ (le-leb (v - 1) largest_ranges (omega (arith, room.vectors)))
      (both_yes (leb 1 g) _ (le-leb 1 g p.some_range) (le-leb (whole_length r v e g) (length s) (omega (arith, p.whole))))))

  -- vector 0 is empty
  empty_first_lem : get_or (vectors_at s (suc (v - 1)) (vectors_place r)) 0 [] ≡ []
  unfolding value_at
  empty_first_lem =
      let p = places R s r v e g h in
      let z : suc (v - 1) ≡ v = omega (arith, p.some_vector) in
      ap (λ n. get_or (vectors_at s n (vectors_place r)) 0 []) z ∙ p.lawful.first

  value_vectors : vectors_at s v (vectors_place r) ≡ [] ∷ vectors_at s (v - 1) (vectors_place r + 8)
  value_vectors =
      let z : v ≡ suc (v - 1) = omega (arith, (places R s r v e g h).some_vector) in
      ap (λ n. vectors_at s n (vectors_place r)) z ∙ first_vector_lem s (v - 1) (vectors_place r) empty_first_lem

  inside : after_vectors s (v - 1) (vectors_place r + 8) ≤ length s
  inside =
      let p = places R s r v e g h in
      let z : v ≡ suc (v - 1) = omega (arith, p.some_vector) in
      let q : after_vectors s v (vectors_place r) ≡ after_vectors s (v - 1) (vectors_place r + 8) =
      ap (λ n. after_vectors s n (vectors_place r)) z ∙ first_after s (v - 1) (vectors_place r) empty_first_lem in
      omega (arith, p.after_vectors, p.whole, q)

  here : vectors_here s (v - 1) (vectors_place r + 8) ≡ vectors_at s (v - 1) (vectors_place r + 8)
  here = vectors_there s (v - 1) (vectors_place r + 8) inside

  abbrev value : Knowledge
  value = knowledge (ids_at s r ids_place) (vectors_at s (v - 1) (vectors_place r + 8)) (ranges_at s g (ranges_place r v e))

  value_is : value_at s r v e g ≡ value
  unfolding value_at
  value_is =
      ap (λ (ws : List (List Element)).
      record { replicas = ids_at s r ids_place; vectors = ws; ranges = ranges_at s g (ranges_place r v e) }) value_vectors

  value_lawful : Lawful R value
  value_lawful = subst (Lawful R) value_is (places R s r v e g h).lawful

  normal_there_lem : normal_there s r v e g ≡ is_normal value
  normal_there_lem =
      let p = places R s r v e g h in
      same_truth (normal_there s r v e g) (is_normal value)
      (λ t. (normal_test value).1 (conditions_normal _ _ _ R value_lawful
      (tests_conditions s r v e g p.some_vector p.some_range room.replicas here t)))
      (λ t. conditions_tests s r v e g p.some_vector p.some_range room.replicas here R value_lawful
      (conditions _ _ _ ((normal_test value).0 t)))

  -- the test by places is the test of normal form
  pub normal_by_places : normal_in s r v e g ≡ is_normal (decode s)
  unfolding normal_in
  normal_by_places =
      rw (is_roomy, normal_in) (normal_there_lem ∙ sym (ap is_normal ((places R s r v e g h).value ∙ value_is)))

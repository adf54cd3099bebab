-- What the test of opened bytes returns, and what it says. Where the bytes were accepted, the count before the vectors is theirs, and the
-- ranges begin after as many elements as the vectors have: the sizes that the cursor tells are those that the check answered, so the test
-- is the test of normal form (`opened_normal`).
use Rattle.std.proofs.Common.{◌≡◌, ℕ, ◌+◌, ◌-◌, ◌*◌, ◌<◌, ◌≤◌, Bool, false, List, length, sym, refl, ap, ◌∙◌, ap₂, arith, le-leb}
use borrow.Author.Tests.{lt-leb}
use Rattle.codec.specs.Number.{be_at}
use Rattle.layout.specs.Knowledge.{Rules}
use Rattle.layout.specs.Permitted.{largest_replicas, largest_ranges}
use Rattle.layout.specs.Decode.{decode}
use Rattle.layout.specs.MethodPlaces.{vectors_place}
use Rattle.layout.proofs.Places.{Reading, places, counts, ids-length, vectors-length}
use Rattle.ticks.specs.Written.{is_normal}
use Rattle.lookup.specs.declared.Cursor.{Cursor}
use Rattle.lookup.specs.Method.{start_at, Opens}
use Rattle.lookup.proofs.Leaf.{opens_reading}
use Rattle.normal_form.specs.MethodNormal.{normal_in, count_before, no_elements, elements_before, normal_opened}
use Rattle.normal_form.proofs.ByPlaces.{within_roomy, normal_by_places}

-- What it returns

module _ (s : List ℕ) (r : ℕ) (c : Cursor) where
  module _ (v : ℕ) (h : vectors_place r ≤ length s) (is : v ≡ count_before s r) where
    pub opened_before : c.next < no_elements r v → false ≡ normal_opened s r c
    unfolding normal_opened
    opened_before l =
        let m : c.next < no_elements r (count_before s r) = omega (arith, is) in
        sym (rw (le-leb (vectors_place r) (length s) h, normal_opened, lt-leb (no_elements r (count_before s r)) c.next m))

    pub opened_in : (e : ℕ) (b : Bool) → no_elements r v ≤ c.next → e ≡ elements_before r v c → b ≡ normal_in s r v e c.left
        → b ≡ normal_opened s r c
    unfolding normal_opened
    opened_in e b l f q =
        let m : no_elements r (count_before s r) ≤ c.next = omega (arith, is) in
        q ∙ ap₂ (λ x y. normal_in s r x y c.left) is (f ∙ ap (λ x. elements_before r x c) is)
        ∙ sym (rw (le-leb (vectors_place r) (length s) h, normal_opened, le-leb (no_elements r (count_before s r)) c.next m))

-- What it says of accepted bytes

module _ (R : Rules) (s : List ℕ) (r v e g : ℕ) (h : Reading R s r v e g) where
  count_r : be_at s 4 23 ≡ r
  unfolding decode
  count_r = sym (ids-length s (be_at s 4 23) 27) ∙ (counts R s r v e g h).replicas

  count_v : be_at s 4 (44 + 16 * r) ≡ v
  unfolding decode
  count_v =
      sym (ap (λ n. be_at s 4 (44 + 16 * n)) count_r)
      ∙ sym (vectors-length s (be_at s 4 (44 + 16 * be_at s 4 23)) (48 + 16 * be_at s 4 23)) ∙ (counts R s r v e g h).vectors

  count_before_lem : count_before s r ≡ v
  count_before_lem = let z : vectors_place r - 4 ≡ 44 + 16 * r = omega arith in ap (be_at s 4) z ∙ count_v

module _ (R : Rules) (s : List ℕ) (r : ℕ) (c : Cursor) (o : Opens R s r c) where
  pub opened_normal : R.limits.replicas ≤ largest_replicas → R.limits.ranges ≤ largest_ranges → normal_opened s r c ≡ is_normal (decode s)
  unfolding start_at
  opened_normal a b =
      let v = o.v in
      let e = o.e in
      let g = o.g in
      let h = opens_reading R s r c o in
      let p = places R s r v e g h in
      let next : c.next ≡ no_elements r v + 12 * e = ap (λ (x : Cursor). x.next) o.start in
      let left : c.left ≡ g = ap (λ (x : Cursor). x.left) o.start in
      let told : e ≡ elements_before r v c = omega (arith, next, p.whole, p.small) in
      sym (opened_in s r c v (omega (arith, p.whole)) (sym (count_before_lem R s r v e g h)) e (normal_in s r v e c.left) (omega (arith, next)) told refl)
      ∙ ap (normal_in s r v e) left
      ∙ normal_by_places R s r v e g h (within_roomy R s r v e g h a b)

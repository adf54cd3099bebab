-- The numbers of refusals: each part's faults have numbers from 1 to 10, but for those that the rules give a
-- replica id themselves. So what holds of these numbers holds of each refusal's.
use Prim.Native.Nat.{ℕ, zero, suc, ◌+◌, ◌-◌, ◌≤◌}
use native.Mathlib.Omega.{arith}
use mathlib.Core.Bool.{Bool, true, false}
use mathlib.Core.List.{List, [], ◌∷◌}
use mathlib.Core.Path.{◌≡◌, refl, subst}
use lib.Dec.{leb, ltb, eqb}
use lib.ListN.{length}
use Rattle.layout.specs.Got.{Got}
use Rattle.layout.specs.Got.{Num, Fault}
use Rattle.layout.specs.Checked.{Checked}
use Rattle.layout.specs.Checked.{Accepted, Refused}
use Rattle.layout.specs.Knowledge.{Rules, largest_tick, Field, opening, before_vectors, before_elements, before_ranges, closing}
use Rattle.layout.specs.Permitted.{most_vectors}
use Rattle.layout.specs.Read.{◌▷◌, repeat, number, same, fields, limit, empty, among, judged, replica_id, tick, element, first_vector, vector, index, range}
use Rattle.layout.specs.Parse.{◌▶◌, replica_map, vector_count, vector_list, range_list, ended, checked, checked_by}

-- P holds of the number of a fault of a part, and of a refusal of the check
record Known (P : ℕ → Type 0) (g : Got) : Type 0 where
  pub number : (n : ℕ) → g ≡ Fault n → P n

record Within (P : ℕ → Type 0) (c : Checked) : Type 0 where
  pub number : (n : ℕ) → c ≡ Refused n → P n

module _ (P : ℕ → Type 0) where
  num : (x at : ℕ) → Known P (Num x at)
  num x at = record { number = λ n e. let z : ◌≡◌ {A = ℕ} 0 1 = cc in absurd (omega arith) }

  fault : (k : ℕ) → P k → Known P (Fault k)
  fault k h = record { number = λ n e. let p : k ≡ n = cc in subst P p h }

  then : (g : Got) (f : ℕ → ℕ → Got) → Known P g → ((x at : ℕ) → Known P (f x at)) → Known P (g ▷ f)
  then (Num x at) f h k = k x at
  then (Fault n) f h k = h

  test : (t : Bool) (g h : Got) → Known P g → Known P h → Known P (elim t [ true ↦ g | false ↦ h ])
  test true g h p q = p
  test false g h p q = q

  repeated : (f : ℕ → ℕ → Got) → ((x at : ℕ) → Known P (f x at)) → (n x at : ℕ) → Known P (repeat f n x at)
  unfolding repeat
  repeated f h zero x at = num x at
  repeated f h (suc n) x at = then (f x at) (repeat f n) (h x at) (repeated f h n)

  accept : (r v e g : ℕ) → Within P (Accepted r v e g)
  accept r v e g = record { number = λ n h. let z : ◌≡◌ {A = ℕ} 0 1 = cc in absurd (omega arith) }

  refuse : (k : ℕ) → P k → Within P (Refused k)
  refuse k h = record { number = λ n e. let p : k ≡ n = cc in subst P p h }

  next : (g : Got) (f : ℕ → ℕ → Checked) → Known P g → ((x at : ℕ) → Within P (f x at)) → Within P (g ▶ f)
  next (Num x at) f h k = k x at
  next (Fault n) f h k = refuse n (h.number n refl)

  over : (t : Bool) (a b : Checked) → Within P a → Within P b → Within P (elim t [ true ↦ a | false ↦ b ])
  over true a b p q = p
  over false a b p q = q

module _ (P : ℕ → Type 0) (ten : (k : ℕ) → 1 ≤ k → k ≤ 10 → P k) (s : List ℕ) where
  number_known : (n x at : ℕ) → Known P (number s n x at)
  unfolding number
  number_known n x at = test P (leb (at + n) (length s)) _ _ (num P _ _) (fault P 1 (ten 1 (omega arith) (omega arith)))

  fields_known : (fs : List Field) (x at : ℕ) → Known P (fields s fs x at)
  unfolding fields same
  fields_known [] x at = num P x at
  fields_known (f ∷ fs) x at =
      then P (number s f.size x at ▷ same f.value) (fields s fs)
      (then P (number s f.size x at) (same f.value) (number_known f.size x at)
      λ y b. test P (eqb y f.value) _ _ (num P _ _) (fault P 2 (ten 2 (omega arith) (omega arith))))
      (fields_known fs)

  count_known : (fs : List Field) (lo hi x at : ℕ) → Known P (fields s fs x at ▷ number s 4 ▷ limit lo hi)
  unfolding limit
  count_known fs lo hi x at =
      then P (fields s fs x at ▷ number s 4) (limit lo hi) (then P (fields s fs x at) (number s 4) (fields_known fs x at) (number_known 4))
      λ y b. test P (leb lo y) _ _ (test P (leb y hi) _ _ (num P _ _) (fault P 3 (ten 3 (omega arith) (omega arith)))) (fault P 3 (ten 3 (omega arith) (omega arith)))

  judged_known : (n k at : ℕ) → ((i : ℕ) → n ≡ suc i → P n) → Known P (judged n k at)
  unfolding judged
  judged_known zero k at h = num P k at
  judged_known (suc n) k at h = fault P (suc n) (h n refl)

  id_known : (R : Rules) → ((id n : ℕ) → R.judge id ≡ suc n → P (R.judge id)) → (start k at : ℕ) → Known P (replica_id R.judge s start k at)
  unfolding replica_id
  id_known R h start k at = then P (number s 16 k at) _ (number_known 16 k at)
      λ id b. test P (among s 16 16 start k id) _ _ (fault P 5 (ten 5 (omega arith) (omega arith))) (judged_known (R.judge id) (k + 1) b (h id))

  tick_known : (k at : ℕ) → Known P (tick s k at)
  unfolding tick
  tick_known k at = then P (number s 8 k at) _ (number_known 8 k at)
      λ t b. test P (leb t largest_tick) _ _ (num P _ _) (fault P 7 (ten 7 (omega arith) (omega arith)))

  element_known : (r start k at : ℕ) → Known P (element s r start k at)
  unfolding element
  element_known r start k at = then P (number s 4 k at) _ (number_known 4 k at)
      λ key b. test P (ltb key r) _ _
      (test P (among s 4 12 start k key) _ _ (fault P 6 (ten 6 (omega arith) (omega arith))) (tick_known k b))
      (fault P 6 (ten 6 (omega arith) (omega arith)))

  first_known : (x at : ℕ) → Known P (first_vector s x at)
  unfolding first_vector empty
  first_known x at =
      then P (fields s before_elements x at ▷ number s 4) empty
      (then P (fields s before_elements x at) (number s 4) (fields_known before_elements x at) (number_known 4))
      λ y b. test P (eqb y 0) _ _ (num P _ _) (fault P 4 (ten 4 (omega arith) (omega arith)))

  vector_known : (r e at : ℕ) → Known P (vector s r e at)
  unfolding vector
  vector_known r e at = then P (fields s before_elements e at ▷ number s 4 ▷ limit 0 r) _ (count_known before_elements 0 r e at)
      λ n start. then P (repeat (element s r start) n 0 start) _ (repeated P (element s r start) (element_known r start) n 0 start) λ k b. num P _ _

  index_known : (v low at : ℕ) → Known P (index s v low at)
  unfolding index
  index_known v low at = then P (number s 4 low at) _ (number_known 4 low at)
      λ i b. test P (ltb i v) _ _ (num P _ _) (fault P 9 (ten 9 (omega arith) (omega arith)))

  range_known : (v low at : ℕ) → Known P (range s v low at)
  unfolding range
  range_known v low at = then P (number s 24 low at) _ (number_known 24 low at)
      λ bound b. test P (leb low bound) _ _ (index_known v (suc bound) b) (fault P 8 (ten 8 (omega arith) (omega arith)))

  checked_within : (R : Rules) → ((id n : ℕ) → R.judge id ≡ suc n → P (R.judge id)) → Within P (checked_by R s)
  unfolding checked replica_map vector_count vector_list range_list ended
  checked_within R h =
      next P (replica_map R.limits.replicas R.judge s) _
      (then P (fields s opening 0 0 ▷ number s 4 ▷ limit 0 R.limits.replicas) _ (count_known opening 0 R.limits.replicas 0 0)
      λ r start. repeated P (replica_id R.judge s start) (id_known R h start) r 0 start)
      λ r a. next P (vector_count R.limits.ranges s a) _ (count_known before_vectors 1 (most_vectors R.limits) 0 a)
      λ v b. next P (vector_list s r v b) _ (then P (first_vector s 0 b) _ (first_known 0 b) (repeated P (vector s r) (vector_known r) (v - 1)))
      λ e c. next P (range_list R.limits.ranges s v c) _
      (then P (fields s before_ranges 0 c ▷ number s 4 ▷ limit 1 R.limits.ranges) _ (count_known before_ranges 1 R.limits.ranges 0 c)
      λ g start. then P (repeat (range s v) g 0 start) _ (repeated P (range s v) (range_known v) g 0 start) λ low b. num P _ _)
      λ g d. next P (fields s closing 0 d) _ (fields_known closing 0 d)
      λ x end. over P (eqb end (length s)) _ _ (accept P r v e g) (refuse P 10 (ten 10 (omega arith) (omega arith)))

pub refused_numbers : (P : ℕ → Type 0) → ((k : ℕ) → 1 ≤ k → k ≤ 10 → P k) → (R : Rules) →
    ((id n : ℕ) → R.judge id ≡ suc n → P (R.judge id)) → (s : List ℕ) (n : ℕ) → checked_by R s ≡ Refused n → P n
refused_numbers P ten R judged s n e = (checked_within P ten s R judged).number n e

-- where the rules' own numbers are at most m, and m is 10 or more
pub refused_within : (m : ℕ) → 10 ≤ m → (R : Rules) (s : List ℕ) → ((id : ℕ) → R.judge id ≤ m) → (n : ℕ) → checked_by R s ≡ Refused n
    → (1 ≤ n) × (n ≤ m)
refused_within m ten R s h n e =
    refused_numbers (λ k. (1 ≤ k) × (k ≤ m)) (λ k lo hi. (lo, omega arith)) R (λ id i j. (omega arith, h id)) s n e

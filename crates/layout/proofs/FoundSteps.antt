-- Where the reading of a part finds a fault, what stands there: the parts before the fault as they should be, and then a
-- field that the bytes end in or that has a bad value. Each law takes the reading's steps from the front and hands what
-- was found to a continuation.
use Prim.Native.Nat.{ℕ, zero, suc, ◌+◌, ◌*◌, ◌^◌, ◌<◌, ◌≤◌}
use mathlib.Core.Path.{◌≡◌, refl, sym, ap, ◌∙◌}
use mathlib.Core.Bool.{Bool, true, false}
use mathlib.Core.Logic.{◌⊎◌, inl, inr}
use mathlib.Core.List.{List, [], ◌∷◌}
use native.Mathlib.Omega.{arith}
use native.Mathlib.Nat.{mul-suc}
use lib.Dec.{eqb, ltb, leb}
use lib.ListN.{length, drop, length-drop}
use borrow.Author.Tests.{leb-true, leb-false, ltb-true, ltb-false, eqb-true, eqb-false}
use Rattle.codec.specs.Number.{Bytes, be_at, put}
use Rattle.layout.specs.Got.{Got}
use Rattle.layout.specs.Got.{Num, Fault}
use Rattle.layout.specs.Checked.{Checked}
use Rattle.layout.specs.Checked.{Refused}
use Rattle.layout.specs.Knowledge.{Rules, largest_tick, Field, opening, before_vectors, before_elements, before_ranges, closing, put_fields, All}
use Rattle.layout.specs.Read.{◌▷◌, repeat, number, same, fields, limit, empty, among, judged, replica_id, tick, element, index, range}
use Rattle.layout.specs.Parse.{◌▶◌}
use Rattle.layout.proofs.BackwardSteps.{Took, number_inv, fields_inv}
use Rattle.layout.proofs.Table.{Parted, Differs, Hit, cut_short, bad_value}

-- a number is no fault
pub num_fault {ℓ} : (n x b : ℕ) (C : Type ℓ) → Num x b ≡ Fault n → C
num_fault n x b C e = let z : ◌≡◌ {A = ℕ} 0 1 = cc in absurd (omega arith)

-- the first of two steps has the fault, or the second, which went on from the first's number
pub then_fault {ℓ} : (g : Got) (f : ℕ → ℕ → Got) (j : ℕ) (C : Type ℓ) → (g ▷ f) ≡ Fault j → (g ≡ Fault j → C)
    → ((y c : ℕ) → g ≡ Num y c → f y c ≡ Fault j → C) → C
then_fault (Num y c) f j C e first second = second y c refl e
then_fault (Fault n) f j C e first second = first e

pub next_fault {ℓ} : (g : Got) (f : ℕ → ℕ → Checked) (j : ℕ) (C : Type ℓ) → (g ▶ f) ≡ Refused j → (g ≡ Fault j → C)
    → ((y c : ℕ) → g ≡ Num y c → f y c ≡ Refused j → C) → C
next_fault (Num y c) f j C e first second = second y c refl e
next_fault (Fault n) f j C e first second = let p : n ≡ j = cc in first (ap Fault p)

then_num {ℓ} : {C : Type ℓ} (g : Got) (f : ℕ → ℕ → Got) (x b : ℕ) → (g ▷ f) ≡ Num x b → ((y c : ℕ) → g ≡ Num y c →
    f y c ≡ Num x b → C) → C
then_num (Num y c) f x b e k = k y c refl e
then_num (Fault n) f x b e k = num_fault n x b _ (sym e)

-- some of m parts without a fault, and a fault in the next
pub repeat_found {ℓ} : (f : ℕ → ℕ → Got) (m x at j : ℕ) (C : Type ℓ) → repeat f m x at ≡ Fault j
    → ((n y b : ℕ) → n < m → repeat f n x at ≡ Num y b → f y b ≡ Fault j → C) → C
unfolding repeat
repeat_found f zero x at j C e found = num_fault j x at C e
repeat_found f (suc m) x at j C e found =
    then_fault (f x at) (repeat f m) j C e (λ h. found 0 x at (omega arith) refl h)
    λ y c u w. repeat_found f m y c j C w λ n z b l h q. found (suc n) z b (omega arith) (ap (λ g. g ▷ repeat f n) u ∙ h) q

pub true_false : true ≡ false → ⊥
true_false e = let z : ◌≡◌ {A = ℕ} 0 1 = cc in omega arith

-- one field of n bytes: cut short, or read and then refused for its value
module _ (s : List ℕ) (bs : Bytes s) where
  number_cut : (n y at j : ℕ) → 1 ≤ n → number s n y at ≡ Fault j → (j ≡ 1) × (length (drop at s) < n)
  unfolding number
  number_cut n y at j some e = go (leb (at + n) (length s)) refl e where
    go : (t : Bool) → leb (at + n) (length s) ≡ t →
        ◌≡◌ {A = Got} (elim t [ true ↦ Num (be_at s n at) (at + n) | false ↦ Fault 1 ]) (Fault j) → (j ≡ 1) × (length (drop at s) < n)
    go true p q = num_fault j (be_at s n at) (at + n) _ q
    go false p q = (cc, omega (arith, length-drop at s, leb-false (at + n) (length s) p))

  -- a field whose value the next step looks at: what it says of a refused value is handed over
  pub field_found {ℓ} : (n y at : ℕ) (f : ℕ → ℕ → Got) (j : ℕ) (C : Type ℓ) → 1 ≤ n → (number s n y at ▷ f) ≡ Fault j →
      (j ≡ 1 → length (drop at s) < n → C) → ((x b : ℕ) → Took s n at x b → f x b ≡ Fault j → C) → C
  field_found n y at f j C some e short wrong =
      then_fault (number s n y at) f j C e
      (λ h. let c = number_cut n y at j some h in short c.0 c.1)
      λ x b u w. wrong x b (number_inv s bs n y at x b u) w

  -- a test's two ways to a fault
  test_found {ℓ} : (t : Bool) (g h : Got) (j : ℕ) (C : Type ℓ) → ◌≡◌ {A = Got} (elim t [ true ↦ g | false ↦ h ]) (Fault j) →
      (t ≡ true → g ≡ Fault j → C) → (t ≡ false → h ≡ Fault j → C) → C
  test_found true g h j C e held failed = held refl e
  test_found false g h j C e held failed = failed refl e

  same_found : (w x at j : ℕ) → same w x at ≡ Fault j → (j ≡ 2) × (x ≡ w → ⊥)
  unfolding same
  same_found w x at j e =
      test_found (eqb x w) (Num x at) (Fault 2) j _ e (λ t q. num_fault j x at _ q) λ t q. (cc, eqb-false x w t)

  -- a run of fixed fields
  pub fields_found {ℓ} : (fs : List Field) (y at j : ℕ) (C : Type ℓ) → All (λ f. 1 ≤ f.size) fs → fields s fs y at ≡ Fault j →
      ((before : List Field) (f : Field) (after : List Field) → Parted fs before f after → (c : ℕ) →
      drop at s ≡ put_fields before (drop c s) → Hit f.size (Differs f) 2 j (drop c s) → C) → C
  unfolding fields put_fields
  fields_found [] y at j C some e found = num_fault j y at C e
  fields_found (f ∷ fs) y at j C some e found =
      then_fault (number s f.size y at ▷ same f.value) (fields s fs) j C e
      (λ h. field_found f.size y at (same f.value) j C some.0 h
      (λ p l. found [] f fs refl at refl (cut_short p l))
      λ x b took w.
      let d = same_found f.value x b j w in
      found [] f fs refl at refl (bad_value x (drop b s) d.0 took.bytes took.small d.1))
      λ z c u w.
      let first : drop at s ≡ put f.size f.value (drop c s) = fields_inv s bs (f ∷ []) y at z c (ap (λ g. g ▷ fields s []) u) in
      fields_found fs z c j C some.1 w λ before g after p c' q hit.
      found (f ∷ before) g after (ap {B = List Field} (λ l. f ∷ l) p) c' (first ∙ ap (put f.size f.value) q) hit

  -- fixed fields and a count, which the step f looks at
  pub counted_found {ℓ} : (fs : List Field) (f : ℕ → ℕ → Got) (Bad : ℕ → Type 0) (k y at j : ℕ) (C : Type ℓ) →
      All (λ f. 1 ≤ f.size) fs → ((x b : ℕ) → f x b ≡ Fault j → (j ≡ k) × Bad x) → (fields s fs y at ▷ number s 4 ▷ f) ≡ Fault j →
      ((before : List Field) (f : Field) (after : List Field) → Parted fs before f after → (c : ℕ) →
      drop at s ≡ put_fields before (drop c s) → Hit f.size (Differs f) 2 j (drop c s) → C) →
      ((c : ℕ) → drop at s ≡ put_fields fs (drop c s) → Hit 4 Bad k j (drop c s) → C) → C
  counted_found fs f Bad k y at j C some test e fixed count =
      then_fault (fields s fs y at ▷ number s 4) f j C e
      (λ h. then_fault (fields s fs y at) (number s 4) j C h
      (λ q. fields_found fs y at j C some q fixed)
      λ z c u w. let n = number_cut 4 z c j (omega arith) w in count c (fields_inv s bs fs y at z c u) (cut_short n.0 n.1))
      λ x b h w.
      then_num (fields s fs y at) (number s 4) x b h λ z c u v.
      let took = number_inv s bs 4 z c x b v in
      let d = test x b w in
      count c (fields_inv s bs fs y at z c u) (bad_value x (drop b s) d.0 took.bytes took.small d.1)

  pub limit_found : (lo hi j x at : ℕ) → limit lo hi x at ≡ Fault j → (j ≡ 3) × ((x < lo) ⊎ (hi < x))
  unfolding limit
  limit_found lo hi j x at e =
      test_found (leb lo x) (elim (leb x hi) [ true ↦ Num x at | false ↦ Fault 3 ]) (Fault 3) j _ e
      (λ t q. test_found (leb x hi) (Num x at) (Fault 3) j _ q (λ u z. num_fault j x at _ z) λ u z. (cc, inr (leb-false x hi u)))
      λ t q. (cc, inl (leb-false lo x t))

  pub empty_found : (j x at : ℕ) → empty x at ≡ Fault j → (j ≡ 4) × (x ≡ 0 → ⊥)
  unfolding empty
  empty_found j x at e =
      test_found (eqb x 0) (Num 0 at) (Fault 4) j _ e (λ t q. num_fault j 0 at _ q) λ t q. (cc, eqb-false x 0 t)

  judged_found : (n k at j : ℕ) → judged n k at ≡ Fault j → (m : ℕ) × (n ≡ suc m) × (j ≡ suc m)
  unfolding judged
  judged_found zero k at j e = num_fault j k at _ e
  judged_found (suc n) k at j e = (n, refl, cc)

  -- a replica id
  pub id_found {ℓ} : (R : Rules) (start k at j : ℕ) (C : Type ℓ) → replica_id R.judge s start k at ≡ Fault j →
      (Hit 16 (λ x. among s 16 16 start k x ≡ true) 5 j (drop at s) → C) →
      ((n : ℕ) → Hit 16 (λ x. (among s 16 16 start k x ≡ false) × (R.judge x ≡ suc n)) (suc n) j (drop at s) → C) → C
  unfolding replica_id
  id_found R start k at j C e seen own =
      field_found 16 k at _ j C (omega arith) e (λ p l. seen (cut_short p l)) λ x b took w.
      test_found (among s 16 16 start k x) (Fault 5) (judged (R.judge x) (k + 1) b) j C w
      (λ t q. seen (bad_value x (drop b s) (cc) took.bytes took.small t))
      λ t q.
      let (n, p, r) = judged_found (R.judge x) (k + 1) b j q in
      own n (bad_value x (drop b s) r took.bytes took.small (t, p))

  -- an element: its key, or its tick
  pub element_found {ℓ} : (r start k at j : ℕ) (C : Type ℓ) → element s r start k at ≡ Fault j →
      (Hit 4 (λ x. (r ≤ x) ⊎ (among s 4 12 start k x ≡ true)) 6 j (drop at s) → C) →
      ((x c : ℕ) → x < r → among s 4 12 start k x ≡ false → drop at s ≡ put 4 x (drop c s) →
      Hit 8 (λ y. largest_tick < y) 7 j (drop c s) → C) → C
  unfolding element tick
  element_found r start k at j C e wrong later =
      field_found 4 k at _ j C (omega arith) e (λ p l. wrong (cut_short p l)) λ x b took w.
      test_found (ltb x r) (elim (among s 4 12 start k x) [ true ↦ Fault 6 | false ↦ tick s k b ]) (Fault 6) j C w
      (λ t q. test_found (among s 4 12 start k x) (Fault 6) (tick s k b) j C q
      (λ u z. wrong (bad_value x (drop b s) (cc) took.bytes took.small (inr u)))
      λ u z.
      let go : Hit 8 (λ y. largest_tick < y) 7 j (drop b s) → C = later x b (ltb-true x r t) u took.bytes in
      field_found 8 k b _ j C (omega arith) z (λ p l. go (cut_short p l)) λ y c second v.
      test_found (leb y largest_tick) (Num (k + 1) c) (Fault 7) j C v (λ f q. num_fault j (k + 1) c C q)
      λ f q. go (bad_value y (drop c s) (cc) second.bytes second.small (leb-false y largest_tick f)))
      λ t q. wrong (bad_value x (drop b s) (cc) took.bytes took.small (inl (ltb-false x r t)))

  -- a range: its bound, or its index
  pub range_found {ℓ} : (v low at j : ℕ) (C : Type ℓ) → range s v low at ≡ Fault j →
      (Hit 24 (λ x. x < low) 8 j (drop at s) → C) →
      ((x c : ℕ) → x < 256 ^ 24 → low ≤ x → drop at s ≡ put 24 x (drop c s) → Hit 4 (λ i. v ≤ i) 9 j (drop c s) → C) → C
  unfolding range index
  range_found v low at j C e wrong later =
      field_found 24 low at _ j C (omega arith) e (λ p l. wrong (cut_short p l)) λ x b took w.
      test_found (leb low x) (index s v (suc x) b) (Fault 8) j C w
      (λ t z.
      let go : Hit 4 (λ i. v ≤ i) 9 j (drop b s) → C = later x b took.small (leb-true low x t) took.bytes in
      field_found 4 (suc x) b _ j C (omega arith) z (λ p l. go (cut_short p l)) λ i c second u.
      test_found (ltb i v) (Num (suc x) c) (Fault 9) j C u (λ f q. num_fault j (suc x) c C q)
      λ f q. go (bad_value i (drop c s) (cc) second.bytes second.small (ltb-false i v f)))
      λ t q. wrong (bad_value x (drop b s) (cc) took.bytes took.small (leb-false low x t))

-- the fixed fields have a byte or more each
pub opening_some : All (λ f. 1 ≤ f.size) opening
unfolding opening
opening_some = omega arith

pub before_vectors-some : All (λ f. 1 ≤ f.size) before_vectors
unfolding before_vectors
before_vectors-some = omega arith

pub before_elements-some : All (λ f. 1 ≤ f.size) before_elements
unfolding before_elements
before_elements-some = omega arith

pub before_ranges-some : All (λ f. 1 ≤ f.size) before_ranges
unfolding before_ranges
before_ranges-some = omega arith

pub closing_some : All (λ f. 1 ≤ f.size) closing
unfolding closing
closing_some = omega arith

-- one of the k numbers from a place on is x
pub among_found : (s : List ℕ) (n step at k x : ℕ) → among s n step at k x ≡ true → (j : ℕ) × (j < k) × (be_at s n (at + step * j) ≡ x)
unfolding among
among_found s n step at zero x e = let z : ◌≡◌ {A = Bool} false true = e in absurd (true_false (sym z))
among_found s n step at (suc k) x e = go (eqb (be_at s n at) x) refl e (among_found s n step (at + step) k x) where
  go : (t : Bool) → eqb (be_at s n at) x ≡ t → ◌≡◌ {A = Bool} (elim t [ true ↦ true | false ↦ among s n step (at + step) k x ]) true →
      (among s n step (at + step) k x ≡ true → (j : ℕ) × (j < k) × (be_at s n (at + step + step * j) ≡ x)) →
      (j : ℕ) × (j < suc k) × (be_at s n (at + step * j) ≡ x)
  go true p q rest = (0, omega arith, ap (be_at s n) (omega arith) ∙ eqb-true (be_at s n at) x p)
  go false p q rest =
      let (j, l, h) = rest q in
      (suc j, omega arith, ap (be_at s n) (omega (arith, mul-suc step j)) ∙ h)

-- the same fault, of other words
pub hit_map : {n : ℕ} {P Q : ℕ → Type 0} {k j : ℕ} {u : List ℕ} → ((x : ℕ) → P x → Q x) → Hit n P k j u → Hit n Q k j u
hit_map f (cut_short p l) = cut_short p l
hit_map f (bad_value x t p e l h) = bad_value x t p e l (f x h)

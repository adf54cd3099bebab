-- What the reading of one part says of the bytes where it finds no fault: the rest of the bytes before the part is
-- the part's encoding in front of the rest after it, and the part's values are within their limits. Each law takes
-- the last step of the part's reading first and hands what it found to a continuation.
use Prim.Native.Nat.{ℕ, ◌+◌, ◌^◌, ◌≤◌, ◌<◌}
use native.Mathlib.Omega.{arith}
use mathlib.Core.Bool.{Bool, true, false}
use mathlib.Core.List.{List, [], ◌∷◌}
use mathlib.Core.Path.{◌≡◌, refl, ap, ◌∙◌}
use lib.Dec.{leb, eqb}
use lib.ListN.{length, drop}
use borrow.Author.Tests.{leb-true, eqb-true}
use Rattle.codec.specs.Number.{Bytes, be_at, put}
use Rattle.layout.specs.Got.{Got}
use Rattle.layout.specs.Got.{Num, Fault}
use Rattle.layout.specs.Knowledge.{Field, put_fields}
use Rattle.layout.specs.Read.{◌▷◌, number, same, fields, limit}
use Rattle.codec.proofs.Numbers.{be_below, put_back}

-- a fault is no number
pub fault_num : (n x b : ℕ) (C : Type 0) → Fault n ≡ Num x b → C
fault_num n x b C e = let z : ◌≡◌ {A = ℕ} 0 1 = cc in absurd (omega arith)

-- the first of two steps gave a number, and the second went on from it
pub then_inv : (g : Got) (f : ℕ → ℕ → Got) (x b : ℕ) (C : Type 0) → (g ▷ f) ≡ Num x b
    → ((y c : ℕ) → g ≡ Num y c → f y c ≡ Num x b → C) → C
then_inv (Num y c) f x b C e k = k y c refl e
then_inv (Fault n) f x b C e k = fault_num n x b C e

-- a test that must hold held, and one that must not hold did not
pub test_inv : (t : Bool) (g : Got) (n x b : ℕ) (C : Type 0)
    → ◌≡◌ {A = Got} (elim t [ true ↦ g | false ↦ Fault n ]) (Num x b) → (t ≡ true → g ≡ Num x b → C) → C
test_inv true g n x b C e k = k refl e
test_inv false g n x b C e k = fault_num n x b C e

pub not_inv : (t : Bool) (g : Got) (n x b : ℕ) (C : Type 0)
    → ◌≡◌ {A = Got} (elim t [ true ↦ Fault n | false ↦ g ]) (Num x b) → (t ≡ false → g ≡ Num x b → C) → C
not_inv true g n x b C e k = fault_num n x b C e
not_inv false g n x b C e k = k refl e

-- the number x of n bytes that was read at a place, and the place b after it
pub record Took (s : List ℕ) (n at x b : ℕ) : Type 0 where
  pub is : x ≡ be_at s n at
  pub end : b ≡ at + n
  pub inside : b ≤ length s
  pub small : x < 256 ^ n
  pub bytes : drop at s ≡ put n x (drop b s)

-- a count that was read, and the fixed fields before it
pub record Counted (s : List ℕ) (fs : List Field) (lo hi at n b : ℕ) : Type 0 where
  pub low : lo ≤ n
  pub high : n ≤ hi
  pub inside : b ≤ length s
  pub bytes : drop at s ≡ put_fields fs (put 4 n (drop b s))

module _ (s : List ℕ) (bs : Bytes s) where
  pub number_inv : (n y at x b : ℕ) → number s n y at ≡ Num x b → Took s n at x b
  unfolding number
  number_inv n y at x b e = test_inv (leb (at + n) (length s)) (Num (be_at s n at) (at + n)) 1 x b _ e λ t f.
      let i : x ≡ be_at s n at = cc in
      let p : b ≡ at + n = cc in
      record {
        is = i;
        end = p;
        inside = rw p (leb-true _ _ t);
        small = rw i (be_below s n at bs);
        bytes = rw (i, p) (put_back s n at bs (leb-true _ _ t));
      }

  pub fields_inv : (fs : List Field) (y at x b : ℕ) → fields s fs y at ≡ Num x b → drop at s ≡ put_fields fs (drop b s)
  unfolding fields same put_fields
  fields_inv [] y at x b e = let p : at ≡ b = cc in rw p
  fields_inv (f ∷ fs) y at x b e =
      then_inv (number s f.size y at ▷ same f.value) (fields s fs) x b _ e λ z c u v.
      then_inv (number s f.size y at) (same f.value) z c _ u λ z' c' u' v'.
      test_inv (eqb z' f.value) (Num z' c') 2 z c _ v' λ t w.
      let took = number_inv f.size y at z' c' u' in
      let p : c' ≡ c = cc in
      let q : z' ≡ f.value = eqb-true _ _ t in
      took.bytes ∙ ap (λ n. put f.size n (drop c' s)) q
      ∙ ap (λ n. put f.size f.value (drop n s)) p
      ∙ ap (put f.size f.value) (fields_inv fs z c x b v)

  pub count_inv : (fs : List Field) (lo hi y at n b : ℕ) → (fields s fs y at ▷ number s 4 ▷ limit lo hi) ≡ Num n b
      → Counted s fs lo hi at n b
  unfolding limit
  count_inv fs lo hi y at n b e =
      then_inv (fields s fs y at ▷ number s 4) (limit lo hi) n b _ e λ z c u v.
      then_inv (fields s fs y at) (number s 4) z c _ u λ z' c' u' v'.
      test_inv (leb lo z) (elim (leb z hi) [ true ↦ Num z c | false ↦ Fault 3 ]) 3 n b _ v λ t w.
      test_inv (leb z hi) (Num z c) 3 n b _ w λ t' w'.
      let p : z ≡ n = cc in
      let q : c ≡ b = cc in
      record {
        low = rw (← p) (leb-true lo z t);
        high = rw (← p) (leb-true z hi t');
        inside = rw (← q) (number_inv 4 z' c' z c v').inside;
        bytes = rw (← p, ← q) (fields_inv fs y at z' c' u' ∙ ap (put_fields fs) (number_inv 4 z' c' z c v').bytes);
      }

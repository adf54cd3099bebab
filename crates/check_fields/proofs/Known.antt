-- Runs of fixed fields whose bytes are known: where the words that a run lies in have the values of document 01's
-- list, each field has its value. A word is the sum of its fields, each times its power of 256, so the word alone
-- decides them. The count after a run is its last byte where the three before it are 0.
use mathlib.Core.Path.{◌≡◌, refl, sym, ap, ap₂, ◌∙◌}
use mathlib.Core.List.{List, [], ◌∷◌}
use Prim.Native.Nat.{ℕ, ◌+◌, ◌-◌, ◌*◌, ◌^◌, ◌<◌, ◌≤◌}
use native.Mathlib.Omega.{arith}
use borrow.Author.Tests.{eq-eqb}
use lib.ListN.{length, get_or, take, drop, length-take, length-drop}
use native.Mathlib.Nat.{add-zero}
use Rattle.codec.specs.Number.{Bytes, be_at}
use Rattle.codec.specs.Total.{read_at}
use Rattle.codec.proofs.Numbers.{be_add, be_below, be_take, be_drop}
use Rattle.codec.proofs.Reading.{be_one}
use Rattle.codec.proofs.Total.{read_there}
use Rattle.layout.specs.Got.{Got}
use Rattle.layout.specs.Got.{Num}
use Rattle.layout.specs.Knowledge.{Field, field, opening, before_vectors, before_ranges, closing}
use Rattle.layout.specs.Read.{◌▷◌, number, same, fields}
use Rattle.check_fields.proofs.Steps.{number_there}

-- one field that has its value
field_known :
    (s : List ℕ) (n w : ℕ) (fs : List Field) (x at next : ℕ)
    → next ≡ at + n
    → next ≤ length s
    → be_at s n at ≡ w
    → fields s (field n w ∷ fs) x at ≡ fields s fs w next
unfolding fields same
field_known s n w fs x at next e h f =
    let l : at + n ≤ length s = omega arith in
    rw (number_there s n x at l, eq-eqb (be_at s n at) w f, ◌▷◌, same) (ap₂ (λ (y b : ℕ). fields s fs y b) f (sym e))

be_split : (s : List ℕ) (n m at next : ℕ) → next ≡ at + n → be_at s (n + m) at ≡ be_at s n at * 256 ^ m + be_at s m next
be_split s n m at next e = be_add s n m at ∙ ap (λ (x : ℕ). be_at s n at * 256 ^ m + be_at s m x) (sym e)

module _ (s : List ℕ) (b : Bytes s) where
  -- four and four
  four_four : (at x y : ℕ) → be_at s 8 at ≡ x * 4294967296 + y → y < 4294967296 → (be_at s 4 at ≡ x) × (be_at s 4 (at + 4) ≡ y)
  four_four at x y e h = (
    omega (arith, be_split s 4 4 at (at + 4) refl, be_below s 4 (at + 4) b),
    omega (arith, be_split s 4 4 at (at + 4) refl, be_below s 4 (at + 4) b),
  )

-- a word that was read
known : (s : List ℕ) (n at k r : ℕ) → at + n ≤ length s → r ≡ read_at s n at → r ≡ k → be_at s n at ≡ k
known s n at k r h e f = sym (read_there s n at h) ∙ sym e ∙ f

-- the count after a run, whose last byte is the only one that is not 0
count_after :
    (s : List ℕ) (f : Got) (x at n next : ℕ)
    → f ≡ Num x at
    → at + 4 ≤ length s
    → n ≡ be_at s 4 at
    → next ≡ at + 4
    → Num n next ≡ (f ▷ number s 4)
count_after s f x at n next e h i p =
    ap₂ Num i p ∙ sym (ap (λ (g : Got). g ▷ number s 4) e ∙ number_there s 4 x at h)

-- a read in the n bytes from a place on
module _ (s : List ℕ) (at n : ℕ) (h : at + n ≤ length s) where
  inside_length : length (take (at + n - at) (drop at s)) ≡ n
  inside_length = simp (length-take, length-drop) (omega arith)

  pub inside_read : (m k : ℕ) → k + m ≤ n → read_at (take (at + n - at) (drop at s)) m k ≡ read_at s m (at + k)
  inside_read m k l =
      read_there (take (at + n - at) (drop at s)) m k (omega (arith, inside_length))
      ∙ be_take (drop at s) m k (at + n - at) (omega arith)
      ∙ be_drop s m at k
      ∙ sym (read_there s m (at + k) (omega arith))

  pub inside_first : (m : ℕ) → m ≤ n → read_at (take (at + n - at) (drop at s)) m 0 ≡ read_at s m at
  inside_first m l = inside_read m 0 (omega arith) ∙ ap (λ (p : ℕ). read_at s m p) (add-zero at)

  -- a byte in them
  pub inside_byte : (k : ℕ) → k < n → get_or (take (at + n - at) (drop at s)) k 0 ≡ read_at s 1 (at + k)
  inside_byte k l =
      sym (be_one (take (at + n - at) (drop at s)) k)
      ∙ sym (read_there (take (at + n - at) (drop at s)) 1 k (omega (arith, inside_length)))
      ∙ inside_read 1 k (omega arith)

pub byte_there : (s : List ℕ) (at : ℕ) → at < length s → get_or s at 0 ≡ read_at s 1 at
byte_there s at h = sym (be_one s at) ∙ sym (read_there s 1 at (omega arith))

-- ---- the opening, and the count r

pub opened :
    (s : List ℕ) (a b c d e n : ℕ)
    → Bytes s
    → 27 ≤ length s
    → a ≡ read_at s 8 0
    → a ≡ 21474836480
    → b ≡ read_at s 8 8
    → b ≡ 4294967296
    → c ≡ read_at s 4 16
    → c ≡ 5
    → d ≡ read_at s 4 20
    → d ≡ 4096
    → e ≡ read_at s 2 24
    → e ≡ 0
    → n ≡ read_at s 1 26
    → Num n 27 ≡ (fields s opening 0 0 ▷ number s 4)
unfolding opening fields
opened s a b c d e n bs h a1 a2 b1 b2 c1 c2 d1 d2 e1 e2 n1 =
    let p : be_at s 8 0 ≡ 5 * 4294967296 + 0 = known s 8 0 21474836480 a (omega arith) a1 a2 in
    let q : be_at s 8 8 ≡ 1 * 4294967296 + 0 = known s 8 8 4294967296 b (omega arith) b1 b2 in
    let k : be_at s 4 16 ≡ 5 = known s 4 16 5 c (omega arith) c1 c2 in
    let l : be_at s 4 20 ≡ 4096 = known s 4 20 4096 d (omega arith) d1 d2 in
    let m : be_at s 2 24 ≡ 0 = known s 2 24 0 e (omega arith) e1 e2 in
    let last : be_at s 1 26 ≡ n = known s 1 26 n n (omega arith) n1 refl in
    let w = four_four s bs 0 5 0 p (omega arith) in
    let v = four_four s bs 8 1 0 q (omega arith) in
    let u = be_split s 1 3 20 21 refl in
    let t = be_split s 2 1 21 23 refl in
    let o1 = be_below s 1 23 bs in
    let o2 = be_below s 2 21 bs in
    let o3 = be_below s 3 21 bs in
    let one : be_at s 1 20 ≡ 0 = omega arith in
    let two : be_at s 2 21 ≡ 16 = omega arith in
    let top : be_at s 1 23 ≡ 0 = omega arith in
    let count : n ≡ be_at s 4 23 = omega (arith, be_split s 1 3 23 24 refl, be_split s 2 1 24 26 refl) in
    count_after s (fields s opening 0 0) 16 23 n 27
    (field_known s 4 5 (drop 1 opening) 0 0 4 refl (omega arith) w.0
    ∙ field_known s 4 0 (drop 2 opening) 5 4 8 refl (omega arith) w.1
    ∙ field_known s 4 1 (drop 3 opening) 0 8 12 refl (omega arith) v.0
    ∙ field_known s 4 0 (drop 4 opening) 1 12 16 refl (omega arith) v.1
    ∙ field_known s 4 5 (drop 5 opening) 0 16 20 refl (omega arith) k
    ∙ field_known s 1 0 (drop 6 opening) 5 20 21 refl (omega arith) one
    ∙ field_known s 2 16 [] 0 21 23 refl (omega arith) two)
    (omega arith) count refl

-- ---- the fields before the vectors, and the count v

pub counting :
    (s : List ℕ) (at a b c n : ℕ)
    → Bytes s
    → at + 21 ≤ length s
    → a ≡ read_at s 8 at
    → a ≡ 103079219200
    → b ≡ read_at s 8 (at + 8)
    → b ≡ 6755399457832960
    → c ≡ read_at s 4 (at + 16)
    → c ≡ 352321536
    → n ≡ read_at s 1 (at + 20)
    → Num n (at + 21) ≡ (fields s before_vectors 0 at ▷ number s 4)
unfolding before_vectors fields
counting s at a b c n bs h a1 a2 b1 b2 c1 c2 n1 =
    let p : be_at s 8 at ≡ 103079219200 = known s 8 at 103079219200 a (omega arith) a1 a2 in
    let q : be_at s 8 (at + 8) ≡ 6755399457832960 = known s 8 (at + 8) 6755399457832960 b (omega arith) b1 b2 in
    let k : be_at s 4 (at + 16) ≡ 352321536 = known s 4 (at + 16) 352321536 c (omega arith) c1 c2 in
    let last : be_at s 1 (at + 20) ≡ n = known s 1 (at + 20) n n (omega arith) n1 refl in
    let e1 = be_split s 4 4 at (at + 4) (omega arith) in
    let e2 = be_split s 1 3 (at + 4) (at + 5) (omega arith) in
    let e3 = be_split s 2 1 (at + 5) (at + 7) (omega arith) in
    let l1 = be_below s 4 (at + 4) bs in
    let l2 = be_below s 3 (at + 5) bs in
    let l3 = be_below s 1 (at + 7) bs in
    let x1 : be_at s 4 at ≡ 24 = omega arith in
    let x2 : be_at s 1 (at + 4) ≡ 0 = omega arith in
    let x3 : be_at s 2 (at + 5) ≡ 16 = omega arith in
    let x4 : be_at s 1 (at + 7) ≡ 0 = omega arith in
    let f1 = be_split s 2 6 (at + 8) (at + 10) (omega arith) in
    let f2 = be_split s 1 5 (at + 10) (at + 11) (omega arith) in
    let f3 = be_split s 2 3 (at + 11) (at + 13) (omega arith) in
    let m1 = be_below s 6 (at + 10) bs in
    let m2 = be_below s 5 (at + 11) bs in
    let m3 = be_below s 3 (at + 13) bs in
    let y1 : be_at s 2 (at + 8) ≡ 24 = omega arith in
    let y2 : be_at s 1 (at + 10) ≡ 0 = omega arith in
    let y3 : be_at s 2 (at + 11) ≡ 1 = omega arith in
    let y4 : be_at s 3 (at + 13) ≡ 0 = omega arith in
    let g1 = be_split s 1 3 (at + 16) (at + 17) (omega arith) in
    let n2 = be_below s 3 (at + 17) bs in
    let z1 : be_at s 1 (at + 16) ≡ 21 = omega arith in
    let z2 : be_at s 3 (at + 17) ≡ 0 = omega arith in
    let z3 : be_at s 4 (at + 13) ≡ 21 = omega (arith, be_split s 3 1 (at + 13) (at + 16) (omega arith)) in
    let count : n ≡ be_at s 4 (at + 17) = omega (arith, be_split s 3 1 (at + 17) (at + 20) (omega arith)) in
    count_after s (fields s before_vectors 0 at) 21 (at + 17) n (at + 21)
    (field_known s 4 24 (drop 1 before_vectors) 0 at (at + 4) refl (omega arith) x1
    ∙ field_known s 1 0 (drop 2 before_vectors) 24 (at + 4) (at + 5) (omega arith) (omega arith) x2
    ∙ field_known s 2 16 (drop 3 before_vectors) 0 (at + 5) (at + 7) (omega arith) (omega arith) x3
    ∙ field_known s 1 0 (drop 4 before_vectors) 16 (at + 7) (at + 8) (omega arith) (omega arith) x4
    ∙ field_known s 2 24 (drop 5 before_vectors) 0 (at + 8) (at + 10) (omega arith) (omega arith) y1
    ∙ field_known s 1 0 (drop 6 before_vectors) 24 (at + 10) (at + 11) (omega arith) (omega arith) y2
    ∙ field_known s 2 1 (drop 7 before_vectors) 0 (at + 11) (at + 13) (omega arith) (omega arith) y3
    ∙ field_known s 4 21 [] 1 (at + 13) (at + 17) (omega arith) (omega arith) z3)
    (omega arith) count (omega arith)

-- ---- the fields before the ranges, and the count g

pub ranging :
    (s : List ℕ) (at a b c n : ℕ)
    → Bytes s
    → at + 16 ≤ length s
    → a ≡ read_at s 8 at
    → a ≡ 98784247809
    → b ≡ read_at s 4 (at + 8)
    → b ≡ 22
    → c ≡ read_at s 3 (at + 12)
    → c ≡ 0
    → n ≡ read_at s 1 (at + 15)
    → Num n (at + 16) ≡ (fields s before_ranges 0 at ▷ number s 4)
unfolding before_ranges fields
ranging s at a b c n bs h a1 a2 b1 b2 c1 c2 n1 =
    let p : be_at s 8 at ≡ 23 * 4294967296 + 1 = known s 8 at 98784247809 a (omega arith) a1 a2 in
    let q : be_at s 4 (at + 8) ≡ 22 = known s 4 (at + 8) 22 b (omega arith) b1 b2 in
    let k : be_at s 3 (at + 12) ≡ 0 = known s 3 (at + 12) 0 c (omega arith) c1 c2 in
    let last : be_at s 1 (at + 15) ≡ n = known s 1 (at + 15) n n (omega arith) n1 refl in
    let w = four_four s bs at 23 1 p (omega arith) in
    let count : n ≡ be_at s 4 (at + 12) =
    omega (arith, be_split s 3 1 (at + 12) (at + 15) (omega arith)) in
    count_after s (fields s before_ranges 0 at) 22 (at + 12) n (at + 16)
    (field_known s 4 23 (drop 1 before_ranges) 0 at (at + 4) refl (omega arith) w.0
    ∙ field_known s 4 1 (drop 2 before_ranges) 23 (at + 4) (at + 8) (omega arith) (omega arith) w.1
    ∙ field_known s 4 22 [] 1 (at + 8) (at + 12) (omega arith) (omega arith) q)
    (omega arith) count (omega arith)

-- ---- the fields after the ranges

pub closed :
    (s : List ℕ) (at a b c : ℕ)
    → Bytes s
    → at + 13 ≤ length s
    → a ≡ read_at s 8 at
    → a ≡ 25
    → b ≡ read_at s 1 (at + 8)
    → b ≡ 1
    → c ≡ read_at s 4 (at + 9)
    → c ≡ 0
    → Num 0 (at + 13) ≡ fields s closing 0 at
unfolding closing fields
closed s at a b c bs h a1 a2 b1 b2 c1 c2 =
    let p : be_at s 8 at ≡ 0 * 4294967296 + 25 = known s 8 at 25 a (omega arith) a1 a2 in
    let q : be_at s 1 (at + 8) ≡ 1 = known s 1 (at + 8) 1 b (omega arith) b1 b2 in
    let k : be_at s 4 (at + 9) ≡ 0 = known s 4 (at + 9) 0 c (omega arith) c1 c2 in
    let w = four_four s bs at 0 25 p (omega arith) in
    sym
    (field_known s 4 0 (drop 1 closing) 0 at (at + 4) refl (omega arith) w.0
    ∙ field_known s 4 25 (drop 2 closing) 0 (at + 4) (at + 8) (omega arith) (omega arith) w.1
    ∙ field_known s 1 1 (drop 3 closing) 25 (at + 8) (at + 9) (omega arith) (omega arith) q
    ∙ field_known s 4 0 [] 1 (at + 9) (at + 13) (omega arith) (omega arith) k)

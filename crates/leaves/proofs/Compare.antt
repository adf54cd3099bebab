-- An id compared with the one at a place, word by word; and with one of which bytes are missing, which is 0.
use mathlib.Core.Path.{◌≡◌, refl, sym, ap, ◌∙◌}
use mathlib.Core.Bool.{Bool, false}
use mathlib.Core.List.{List}
use Prim.Native.Nat.{ℕ, ◌+◌, ◌-◌, ◌^◌, ◌<◌, ◌≤◌}
use native.Mathlib.Omega.{arith}
use borrow.Author.Tests.{le-ltb}
use lib.Dec.{eqb, ltb}
use lib.ListN.{length, take, drop}
use Rattle.codec.specs.Number.{Bytes, be_at}
use Rattle.codec.specs.Total.{read_at}
use Rattle.codec.specs.Words.{words2, words3}
use Rattle.codec.proofs.Numbers.{be_below}
use Rattle.codec.proofs.Order.{words2_be, words3_be}
use Rattle.codec.proofs.Words.{same2_rest, same2_first, less2_rest, less2_first, less3_rest, less3_first}
use Rattle.codec.proofs.Total.{read_there, read_missing}
use Rattle.leaves.proofs.Part.{part_at}

-- an item compared with the bound at a place, word by word
module _ (s : List ℕ) (at i0 i1 i2 w : ℕ) (is : w ≡ be_at s 8 at) where
  bound_words_lem : (r : Bool) → r ≡ ltb (words3 i0 i1 i2) (words3 (be_at s 8 at) (be_at s 8 (at + 8)) (be_at s 8 (at + 16)))
      → r ≡ ltb (words3 i0 i1 i2) (be_at s 24 at)
  bound_words_lem r e = e ∙ ap (ltb (words3 i0 i1 i2)) (sym (words3_be s at))

  pub bound_first : Bytes s → i1 < 2 ^ 64 → i2 < 2 ^ 64 → (i0 ≡ w → ⊥) → ltb i0 w ≡ ltb (words3 i0 i1 i2) (be_at s 24 at)
  bound_first b h k n =
      bound_words_lem (ltb i0 w)
      (ap (ltb i0) is
      ∙ less3_first i0 i1 i2 (be_at s 8 at) (be_at s 8 (at + 8)) (be_at s 8 (at + 16)) h k (be_below s 8 (at + 8) b)
      (be_below s 8 (at + 16) b) (λ e. n (e ∙ sym is)))

  pub bound_second : (x : ℕ) → x ≡ be_at s 8 (at + 8) → Bytes s → i2 < 2 ^ 64 → i0 ≡ w → (i1 ≡ x → ⊥)
      → ltb i1 x ≡ ltb (words3 i0 i1 i2) (be_at s 24 at)
  bound_second x f b h e n =
      bound_words_lem (ltb i1 x)
      (less3_rest i0 i1 i2 (be_at s 8 at) (be_at s 8 (at + 8)) (be_at s 8 (at + 16)) (ltb i1 x) (e ∙ is)
      (ap (ltb i1) f ∙ less2_first i1 i2 (be_at s 8 (at + 8)) (be_at s 8 (at + 16)) h (be_below s 8 (at + 16) b)
      (λ d. n (d ∙ sym f))))

  pub bound_third : (x y : ℕ) → x ≡ be_at s 8 (at + 8) → y ≡ be_at s 8 (at + 16) → i0 ≡ w → i1 ≡ x
      → ltb i2 y ≡ ltb (words3 i0 i1 i2) (be_at s 24 at)
  bound_third x y f g e d =
      bound_words_lem (ltb i2 y)
      (less3_rest i0 i1 i2 (be_at s 8 at) (be_at s 8 (at + 8)) (be_at s 8 (at + 16)) (ltb i2 y) (e ∙ is)
      (ap (ltb i2) g ∙ less2_rest i1 i2 (be_at s 8 (at + 8)) (be_at s 8 (at + 16)) (d ∙ f)))

module _ (s : List ℕ) (x : ℕ) where
  pub below_missing : length s < 24 → false ≡ ltb x (read_at s 24 0)
  below_missing h =
      let e : read_at s 24 0 ≡ 0 = read_missing s 24 0 (omega arith) in
      sym (le-ltb x (read_at s 24 0) (omega arith))

  pub below_there : 24 ≤ length s → (r : Bool) → r ≡ ltb x (be_at s 24 0) → r ≡ ltb x (read_at s 24 0)
  below_there h r e = e ∙ ap (ltb x) (sym (read_there s 24 0 (omega arith)))

-- a replica compared with the one at a place, word by word
module _ (s : List ℕ) (at p0 p1 w : ℕ) (is : w ≡ be_at s 8 at) where
  id_words_lem : (x : ℕ) → x ≡ words2 (be_at s 8 at) (be_at s 8 (at + 8))
      → eqb x (words2 p0 p1) ≡ eqb (be_at s 16 at) (words2 p0 p1)
  id_words_lem x e = ap (λ y. eqb y (words2 p0 p1)) (e ∙ sym (words2_be s at))

  pub id_differs : Bytes s → p1 < 2 ^ 64 → (w ≡ p0 → ⊥) → false ≡ eqb (be_at s 16 at) (words2 p0 p1)
  id_differs b k n =
      same2_first (be_at s 8 at) (be_at s 8 (at + 8)) p0 p1 (be_below s 8 (at + 8) b) k (λ e. n (is ∙ e)) ∙ id_words_lem _ refl

  pub id_rest : (x : ℕ) → x ≡ be_at s 8 (at + 8) → w ≡ p0 → eqb x p1 ≡ eqb (be_at s 16 at) (words2 p0 p1)
  id_rest x f e = ap (λ y. eqb y p1) f ∙ same2_rest (be_at s 8 at) (be_at s 8 (at + 8)) p0 p1 (sym is ∙ e) ∙ id_words_lem _ refl

module _ (s : List ℕ) (x : ℕ) where
  pub same_missing : length s < 16 → (r : Bool) → r ≡ eqb (words2 0 0) x → r ≡ eqb (read_at s 16 0) x
  unfolding words2
  same_missing h r e = e ∙ ap (λ y. eqb y x) (sym (read_missing s 16 0 (omega arith)))

  pub same_there : 16 ≤ length s → (r : Bool) → r ≡ eqb (be_at s 16 0) x → r ≡ eqb (read_at s 16 0) x
  same_there h r e = e ∙ ap (λ y. eqb y x) (sym (read_there s 16 0 (omega arith)))

-- what a comparison with a part gives
pub same_part : (s : List ℕ) (at x : ℕ) (r : Bool) → r ≡ eqb (read_at (take (at + 16 - at) (drop at s)) 16 0) x → at + 16 ≤ length s
    → r ≡ eqb (be_at s 16 at) x
same_part s at x r e k = e ∙ ap (λ y. eqb y x) (part_at s at 16 k)

pub below_part : (s : List ℕ) (at x : ℕ) (r : Bool) → r ≡ ltb x (read_at (take (at + 24 - at) (drop at s)) 24 0) → at + 24 ≤ length s
    → r ≡ ltb x (be_at s 24 at)
below_part s at x r e k = e ∙ ap (ltb x) (part_at s at 24 k)
